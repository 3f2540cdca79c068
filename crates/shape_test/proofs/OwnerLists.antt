-- The owners of slots, slot by slot.
use Rattle.std.proofs.Common.{◌≡◌, ◌⊎◌, inl, inr, ℕ, ◌+◌, ◌<◌, ◌≤◌, Bool, true, false, MatchBool, List, length, replicate, Option, Some, None, refl, sym, ap, ◌∙◌, arith}
use Rattle.std.proofs.Math.ListN.{get_or-eq_default}
use Rattle.std.proofs.lemmas.Bool.{cases_lt}
use Rattle.std.proofs.lemmas.List.{length-replicate, get_or-replicate}
use Rattle.cube_view.specs.Walks.{Step, down, across}
use Rattle.node_arena.specs.declared.link.Link.{Link}
use Rattle.node_arena.specs.Slots.{proper, Slot, IsTable, slot_of, link_of}
use Rattle.node_arena.proofs.Links.{linked-lt}
use Rattle.shape_test.specs.Links.{HasSmallLabels, NoneFrom, IsFirstLink}
use Rattle.shape_test.specs.declared.home.Move.TheVariants.{Down, Across}
use Rattle.shape_test.specs.Owners.{Owners, owner_of, owner_at, IsNoted, IsSecond, AreOwners, HasOwners, Before, HasNoHomes}
use Rattle.shape_test.specs.declared.owner.Owner.{Owner}
use Rattle.shape_test.proofs.LinkOwners.{still_owners, one_owner, second_owner}
use Rattle.shape_test.proofs.OnlyChild.{table_link}

before_more : (n from to : ℕ) → from ≤ to → (k : ℕ) (e : Step) → Before n from k e → Before n to k e
before_more n from to le k e (inl x) = inl x
before_more n from to le k (down l) (inr x) = let y = x.1 in inr (x.0, omega (arith, y, le))
before_more n from to le k across (inr x) = absurd x.1

before_next : (n from : ℕ) (k : ℕ) (e : Step) → Before n from k e → Before (n + 1) 0 k e
before_next n from k e (inl x) = inl (omega (arith, x))
before_next n from k e (inr x) = let y = x.0 in inl (omega (arith, y))

module _ (slots : List Slot) (i from : ℕ) where
  -- with the next child's owner those of the children up to it are noted
  pub child_noted : (old new : Owners) (label : ℕ) (l : Link) → AreOwners slots (Before i from) old → IsFirstLink slots i from (label, l) → IsNoted old new l (owner_of i (Down label)) → AreOwners slots (Before i (label + 1)) new
  child_noted old new label l A F N = one_owner slots (Before i from) old A i (Down label) l F.there (Before i (label + 1)) new N (before_more i from (label + 1) (let x = F.low in omega (arith, x))) (inr (refl, omega arith)) only
    where
      only : (k j : ℕ) (e : Step) → Before i (label + 1) k e → link_of slots k e ≡ Some (proper j) → Before i from k e ⊎ ((k ≡ i) × (e ≡ down label))
      only k j e (inl x) t = inl (inl x)
      only k j across (inr x) t = absurd x.1
      only k j (down n) (inr x) t = pick (cases_lt n from) (cases_lt n label)
        where
          pick : (n < from) ⊎ (from ≤ n) → (n < label) ⊎ (label ≤ n) → Before i from k (down n) ⊎ ((k ≡ i) × (down n ≡ down label))
          pick (inl y) z = inl (inr (x.0, y))
          pick (inr y) (inl z) = let w : None ≡ Some (proper j) = sym (F.least n y z) ∙ (ap (λ (h : ℕ). link_of slots h (down n)) (sym x.0) ∙ t) in absurd cc
          pick (inr y) (inr z) = let lt = x.1 in inr (x.0, ap down (let e : n ≡ label = omega (arith, lt, z) in e))

  -- where the next child's can't be noted, slots have no homes
  pub child_second : (old : Owners) (label : ℕ) (l : Link) → AreOwners slots (Before i from) old → IsFirstLink slots i from (label, l) → IsSecond old l → HasNoHomes slots
  child_second old label l A F S homes H = second_owner slots (Before i from) old A i (Down label) l F.there unseen S homes H
    where
      unseen : Before i from i (down label) → ⊥
      unseen (inl x) = omega (arith, x)
      unseen (inr x) = let y = x.1 in let z = F.low in omega (arith, y, z)

  -- with no further child all children's are noted
  pub children_noted : (owners : Owners) → from ≤ 256 → NoneFrom slots i from → AreOwners slots (Before i from) owners → AreOwners slots (Before i 256) owners
  children_noted owners le N A = still_owners slots (Before i from) (Before i 256) owners (before_more i from 256 le) only A
    where
      only : (k j : ℕ) (e : Step) → Before i 256 k e → link_of slots k e ≡ Some (proper j) → Before i from k e
      only k j e (inl x) t = inl x
      only k j across (inr x) t = absurd x.1
      only k j (down n) (inr x) t = pick (cases_lt n from)
        where
          pick : (n < from) ⊎ (from ≤ n) → Before i from k (down n)
          pick (inl y) = inr (x.0, y)
          pick (inr y) = let w : None ≡ Some (proper j) = sym (N n y) ∙ (ap (λ (h : ℕ). link_of slots h (down n)) (sym x.0) ∙ t) in absurd cc

module _ (slots : List Slot) (small : HasSmallLabels slots) (i : ℕ) where
  -- the links of the next slot are its children's and its content's
  own_links : (k j : ℕ) (e : Step) → Before (i + 1) 0 k e → link_of slots k e ≡ Some (proper j) → Before i 256 k e ⊎ ((k ≡ i) × (e ≡ across))
  own_links k j e (inl x) t = pick (cases_lt k i) e t
    where
      pick : (k < i) ⊎ (i ≤ k) → (e : Step) → link_of slots k e ≡ Some (proper j) → Before i 256 k e ⊎ ((k ≡ i) × (e ≡ across))
      pick (inl y) e t = inl (inl y)
      pick (inr y) (down n) t = inl (inr (omega (arith, x, y), small k n (proper j) t))
      pick (inr y) across t = inr (omega (arith, x, y), refl)
  own_links k j (down n) (inr x) t = let y = x.1 in absurd (omega (arith, y))
  own_links k j across (inr x) t = absurd x.1

  -- with the content's owner those of all links of a slot are noted
  pub content_noted : (old new : Owners) (l : Link) → AreOwners slots (Before i 256) old → link_of slots i across ≡ Some l → IsNoted old new l (owner_of i Across) → AreOwners slots (Before (i + 1) 0) new
  content_noted old new l A there N = one_owner slots (Before i 256) old A i Across l there (Before (i + 1) 0) new N (before_next i 256) (inl (omega arith)) own_links

  pub content_second : (old : Owners) (l : Link) → AreOwners slots (Before i 256) old → link_of slots i across ≡ Some l → IsSecond old l → HasNoHomes slots
  content_second old l A there S homes H = second_owner slots (Before i 256) old A i Across l there unseen S homes H
    where
      unseen : Before i 256 i across → ⊥
      unseen (inl x) = omega (arith, x)
      unseen (inr x) = x.1

  -- a node without a content has no more links
  pub no_content : (owners : Owners) → link_of slots i across ≡ None → AreOwners slots (Before i 256) owners → AreOwners slots (Before (i + 1) 0) owners
  no_content owners none A = still_owners slots (Before i 256) (Before (i + 1) 0) owners (before_next i 256) only A
    where
      only : (k j : ℕ) (e : Step) → Before (i + 1) 0 k e → link_of slots k e ≡ Some (proper j) → Before i 256 k e
      only k j e b t = pick (own_links k j e b t)
        where
          pick : Before i 256 k e ⊎ ((k ≡ i) × (e ≡ across)) → Before i 256 k e
          pick (inl x) = x
          pick (inr x) =
              let w : None ≡ Some (proper j) = sym none ∙ (ap (link_of slots i) (sym x.1) ∙ (ap (λ (h : ℕ). link_of slots h e) (sym x.0) ∙ t)) in
              absurd cc

pub table_noted : (slots : List Slot) (i : ℕ) (owners : Owners) → IsTable (slot_of slots i) → AreOwners slots (Before i 0) owners → AreOwners slots (Before (i + 1) 0) owners
table_noted slots i owners is A = still_owners slots (Before i 0) (Before (i + 1) 0) owners (before_next i 0) only A
  where
    only : (k j : ℕ) (e : Step) → Before (i + 1) 0 k e → link_of slots k e ≡ Some (proper j) → Before i 0 k e
    only k j e (inl x) t = pick (cases_lt k i)
      where
        pick : (k < i) ⊎ (i ≤ k) → Before i 0 k e
        pick (inl y) = inl y
        pick (inr y) =
            let same : k ≡ i = omega (arith, x, y) in
            let w : None ≡ Some (proper j) = sym (table_link (slot_of slots i) e is) ∙ (ap (λ (h : ℕ). link_of slots h e) (sym same) ∙ t) in
            absurd cc
    only k j (down n) (inr x) t = let y = x.1 in absurd (omega (arith, y))
    only k j across (inr x) t = absurd x.1

nobody : (n j : ℕ) → owner_at (replicate n None) j ≡ None
nobody n j = go (cases_lt j n)
  where
    go : (j < n) ⊎ (n ≤ j) → owner_at (replicate n None) j ≡ None
    go (inl x) = get_or-replicate {A = Option Owner} n j None None x
    go (inr x) = get_or-eq_default {A = Option Owner} (replicate n None) None (let l = length-replicate {A = Option Owner} n None in omega (arith, l, x))

-- at first no owner is known
pub none_noted : (slots : List Slot) (owners : Owners) → owners ≡ replicate (length slots) None → AreOwners slots (Before 0 0) owners
none_noted slots owners is = record {
  size = ap length is ∙ length-replicate {A = Option Owner} (length slots) None;
  told = λ j o x. let z : None ≡ Some o = sym (nobody (length slots) j) ∙ (ap (λ (w : Owners). owner_at w j) (sym is) ∙ x) in absurd cc;
  all = λ i j e s x. absurd (none i e s);
}
  where
    none : (i : ℕ) (e : Step) → Before 0 0 i e → ⊥
    none i e (inl x) = omega (arith, x)
    none i (down l) (inr x) = let y = x.1 in omega (arith, y)
    none i across (inr x) = x.1

-- at the end all are
pub all_noted : (slots : List Slot) (n : ℕ) (owners : Owners) → n ≡ length slots → AreOwners slots (Before n 0) owners → HasOwners slots owners
all_noted slots n owners is A = still_owners slots (Before n 0) (λ i e. Unit {0}) owners (λ k e s. tt) (λ k j e s x. let l = linked-lt slots k e (proper j) x in inl (omega (arith, l, is))) A

-- what a test's answer tells
pub when_true : (b : Bool) (P Q : Type 0) → MatchBool b P Q → b ≡ true → P
when_true true P Q m e = m
when_true false P Q m e = absurd cc

pub when_false : (b : Bool) (P Q : Type 0) → MatchBool b P Q → b ≡ false → Q
when_false true P Q m e = absurd cc
when_false false P Q m e = m

pub with_both : (b : Bool) (P Q R S : Type 0) → MatchBool b P Q → (P → R) → (Q → S) → MatchBool b R S
with_both true P Q R S m f h = f m
with_both false P Q R S m f h = h m
