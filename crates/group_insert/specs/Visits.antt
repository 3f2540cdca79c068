-- What holds of a node before its visit for a group, between two of its labels, and afterwards.
use Rattle.std.specs.Prelude.{◌≡◌, ℕ, ◌<◌, ◌⊎◌, List, [], ◌∷◌, ◌++◌, Option, Some, None, All, Contains}
use Rattle.cube_view.specs.Walks.{Step, down, across, Walk, SpotPath, Under, HasSpot}
use Rattle.node_arena.specs.Amounts.{Weighted, spots_in}
use Rattle.node_arena.specs.Shape.{home_of, IsLinked}
use Rattle.node_arena.specs.Slots.{proper, Slot, link_of}
use Rattle.node_arena.specs.declared.link.Link.{Link}
use Rattle.proper_path.specs.Making.{IsSpotOf, Keeps, AllOfShape}
use Rattle.proper_path.specs.Order.{IsAbove}
use Rattle.proper_path.specs.Rooted.{state}
use Rattle.group_insert.specs.Halfway.{IsHalfwayBefore, IsHalfwayAfter}
use Rattle.group_insert.specs.Later.{PutOff, IsPut}
use Rattle.group_insert.specs.LeastSoFar.{BegunBefore, BegunAt, BegunAfter, IsLeastSoFar, NeedsOwn}

-- the points of the group fit the cube and those that it counts
pub record ArePoints (dims : ℕ) (h g : List Weighted) : Type 0 where
  pub alike : (p : SpotPath) → Contains (spots_in g) p → AllOfShape (spots_in (g ++ h)) p
  pub spots : (p : SpotPath) → Contains (spots_in g) p → IsSpotOf dims p

-- the list has entries more, of nodes at or below the address
pub record PutsBelow (homes : List Walk) (a : Walk) (before after : List PutOff) : Type 0 where
  pub more : List PutOff
  pub is : after ≡ before ++ more
  pub below : All (λ k. IsAbove a (home_of homes k.node)) more

-- the visit of slot i has ended; what stands outside keeps its links, and links were put off below alone
pub record HasVisitedAll (dims : ℕ) (h g : List Weighted) (old : List Slot) (homes : List Walk) (i : ℕ) (new : List Slot) (before after : List PutOff) : Type 0 where
  pub homes' : List Walk
  pub halfway : IsHalfwayAfter dims new homes' h g after (home_of homes i)
  pub keeps : Keeps (state old homes []) (state new homes' []) (home_of homes i)
  pub puts : PutsBelow homes' (home_of homes i) before after
  -- and a cube that was the least one so far stays so
  pub least : IsLeastSoFar old homes h g (BegunAt (home_of homes i)) → IsLeastSoFar new homes' h g (BegunAfter (home_of homes i))

-- a label of the node is that of a child, or a point of the group goes down it
abbrev pub IsLabelOf : List Slot → List Walk → List Weighted → ℕ → ℕ → Type 0
IsLabelOf slots homes g i l = IsLinked slots i (down l) ⊎ HasSpot (spots_in g) (down l ∷ home_of homes i)

-- the node has two labels, old and new together
pub record HasTwoLabels (slots : List Slot) (homes : List Walk) (g : List Weighted) (i : ℕ) : Type 0 where
  pub one : ℕ
  pub other : ℕ
  pub differ : one ≡ other → ⊥
  pub at_one : IsLabelOf slots homes g i one
  pub at_other : IsLabelOf slots homes g i other

-- the node has the label l alone: all points of the group go down it, and no other child is there
pub record HasOneLabel (slots : List Slot) (homes : List Walk) (g : List Weighted) (i l : ℕ) : Type 0 where
  pub all : (q : SpotPath) → Contains (spots_in g) q → Under q (home_of homes i) → Under q (down l ∷ home_of homes i)
  pub alone : (m : ℕ) (k : Link) → link_of slots i (down m) ≡ Some k → m ≡ l

-- no point of the group goes down from the node
abbrev pub HasNoLabel : List Walk → List Weighted → ℕ → Type 0
HasNoLabel homes g i = (n : ℕ) (q : SpotPath) → Contains (spots_in g) q → Under q (down n ∷ home_of homes i) → ⊥

-- whether the node has one label, old and new together, and then which
abbrev pub TellsLabels : List Slot → List Walk → List Weighted → ℕ → Option ℕ → Type 0
TellsLabels slots homes g i None = HasTwoLabels slots homes g i ⊎ HasNoLabel homes g i
TellsLabels slots homes g i (Some l) = HasOneLabel slots homes g i l

-- the link at the step is a proper one, so what stands there is the node's own
abbrev pub HasOwn : List Slot → ℕ → Step → Type 0
HasOwn slots i e = (j : ℕ) × (link_of slots i e ≡ Some (proper j))

-- by then a node of one label has no content of its own, and each other one has
abbrev pub HasContentFor : List Slot → ℕ → Option ℕ → Type 0
HasContentFor slots i None = HasOwn slots i across
HasContentFor slots i (Some l) = (j : ℕ) → link_of slots i across ≡ Some (proper j) → ⊥

-- the child at a label is the node's own, or its link is put off, which is so at no node of one label
abbrev pub IsGone : List Slot → List PutOff → ℕ → Option ℕ → ℕ → Type 0
IsGone slots put i only n = HasOwn slots i (down n) ⊎ ((only ≡ None) × IsPut put i (down n))

-- the content and the labels below `from` of node i have been visited
pub record IsAmong (dims : ℕ) (h g : List Weighted) (old : List Slot) (homes : List Walk) (i : ℕ) (only : Option ℕ) (from : ℕ) (new : List Slot) (before put : List PutOff) : Type 0 where
  pub homes' : List Walk
  pub halfway : IsHalfwayBefore dims new homes' h g put (down from ∷ home_of homes i)
  pub keeps : Keeps (state old homes []) (state new homes' []) (home_of homes i)
  pub puts : PutsBelow homes' (home_of homes i) before put
  -- the children of labels that were visited are the node's own or put off, and no child was lost
  pub gone : (n : ℕ) → n < from → HasSpot (spots_in g) (down n ∷ home_of homes i) → IsGone new put i only n
  pub kids : (n : ℕ) → IsLinked old i (down n) → IsLinked new i (down n)
  -- each child was there or a point goes down to it
  pub labels : (n : ℕ) → IsLinked new i (down n) → IsLabelOf old homes g i n
  pub content : HasContentFor new i only
  -- and a cube that was the least one so far stays so, where what the node needs of its own is needed
  pub least : IsLeastSoFar old homes h g (BegunAt (home_of homes i)) → NeedsOwn homes h g i only → IsLeastSoFar new homes' h g (BegunBefore (down from ∷ home_of homes i))
