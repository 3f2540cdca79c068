-- Links whose turn has come and which get their targets later, when a finer address has been visited.
use Rattle.std.specs.Prelude.{◌≡◌, ℕ, ◌<◌, List, ◌∷◌, ◌++◌, length, Some, Contains, Any, AllPairs}
use Rattle.cube_view.specs.Walks.{Step, down, across, Walk, SpotPath, Under, HasSpot}
use Rattle.node_arena.specs.Amounts.{Weighted, spots_in}
use Rattle.node_arena.specs.Shape.{home_of}
use Rattle.node_arena.specs.Slots.{proper, Slot, link_of}
use Rattle.proper_path.specs.Order.{IsBefore}

-- The link of a label at a node is put off: from the base one turns off, and then goes the node's own way.
pub record PutOff : Type 0 where
  -- the slot whose link it is, and the label
  pub node : ℕ
  pub label : ℕ
  -- the slot on the way to the node where the finer walk turns off, and by which label, where the node's way goes
  -- across
  pub base : ℕ
  pub turn : ℕ
  -- the steps from the base's content to the node, the last one first
  pub way : Walk

-- the address of the link, by the node's home
abbrev pub link_address : List Walk → PutOff → Walk
link_address homes k = down k.label ∷ home_of homes k.node

-- what holds of a link while it is put off
pub record IsPutOff (slots : List Slot) (homes : List Walk) (h g : List Weighted) (k : PutOff) : Type 0 where
  -- both slots are of the arena, and the way leads from one to the other
  pub in_range : (k.node < length slots) × (k.base < length slots)
  pub leads : home_of homes k.node ≡ k.way ++ across ∷ home_of homes k.base
  -- there is no proper link, so nothing has its home at or below it
  pub free : (j : ℕ) → link_of slots k.node (down k.label) ≡ Some (proper j) → ⊥
  -- a point of the group lies under it
  pub wanted : HasSpot (spots_in g) (link_address homes k)
  -- and whatever lies under it, old and new, lies under the turn
  pub turns : (q : SpotPath) → Contains (spots_in (g ++ h)) q → Under q (link_address homes k) → Under q (down k.turn ∷ home_of homes k.base)

-- the link of a step is among them
abbrev pub IsPut : List PutOff → ℕ → Step → Type 0
IsPut put i e = Any (λ k. (k.node ≡ i) × (down k.label ≡ e)) put

-- in the order in which they were put off, by the addresses of the links
abbrev pub AreInOrder : List Walk → List PutOff → Type 0
AreInOrder homes put = AllPairs (λ j k. IsBefore (link_address homes j) (link_address homes k) → ⊥) put
