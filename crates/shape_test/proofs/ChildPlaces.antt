-- The places of a node's children.
use Rattle.std.proofs.Common.{◌≡◌, ℕ, ◌+◌, ◌<◌, ◌≤◌, List, length, take, drop, get_or, zero, suc, [], ◌∷◌, None, Some, slice_get, inl, inr, refl, sym, ap, subst, ◌∙◌, arith}
use Rattle.std.proofs.lemmas.Bool.{cases_lt}
use Rattle.std.proofs.lemmas.List.{length-take-le, length-drop, get_or-take, get_or-drop, get_or_default}
use Rattle.probe_core.specs.Places.{IsPlace}
use Rattle.node_arena.specs.declared.link.Link.{Link}
use Rattle.node_arena.specs.Slots.{Children, IsRising, Slot, child_label, children_of, slot_of}
use Rattle.shape_test.specs.Links.{IsFirstLink}

-- A loop over the children of slot i has come to a label, and to the place of the first child from there on.
pub record HasComeToLabel (slots : List Slot) (i from at : ℕ) : Type 0 where
  -- labels are bytes
  pub last : from ≤ 256
  -- each child before the place has a label of its own
  pub few : at ≤ from
  pub place : IsPlace child_label from (children_of (slot_of slots i)) at

-- before the first label there is no child
pub at_start : (slots : List Slot) (i : ℕ) → HasComeToLabel slots i 0 0
at_start slots i = record {
  last = omega arith;
  few = omega arith;
  place = record { within = omega arith; lesser = λ k d less. absurd (omega (arith, less)); others = λ k d less. omega arith };
}

-- behind a child it goes on at the next place
pub behind_child : {slots : List Slot} {i from at label : ℕ} {c : ℕ × Link} → HasComeToLabel slots i from at → IsFirstLink slots i from c → IsPlace child_label (c.0 + 1) (children_of (slot_of slots i)) (at + 1) → label ≡ c.0 → HasComeToLabel slots i (label + 1) (at + 1)
behind_child {slots = slots} {i = i} {at = at} so_far child place is = record {
  last = let s = child.small in omega (arith, s, is);
  few = let n = so_far.few in let low = child.low in omega (arith, n, low, is);
  place = subst (λ n. IsPlace child_label (n + 1) (children_of (slot_of slots i)) (at + 1)) (sym is) place;
}

-- behind a child all labels are past its own
pub place_more : (cs : Children) (i : ℕ) (c : ℕ × Link) → IsRising cs → i < length cs → c ≡ get_or cs i c → IsPlace child_label (c.0 + 1) cs (i + 1)
place_more cs i c rises within read = record {
  within = omega arith;
  lesser = λ k d less.
      let long = length-take-le (i + 1) cs (omega arith) in
      let first : (get_or (take (i + 1) cs) k d).0 ≡ (get_or cs k d).0 = ap child_label (get_or-take (i + 1) cs k d (omega (arith, less, long))) in
      let here : (get_or cs i d).0 ≡ c.0 = ap child_label (get_or_default cs i d c within ∙ sym read) in
      elim (cases_lt k i) [
        | inl low ↦ let up : (get_or cs k d).0 < (get_or cs i d).0 = rises k i d low within in omega arith
        | inr high ↦ let same : (get_or cs k d).0 ≡ (get_or cs i d).0 = ap (λ n. (get_or cs n d).0) (omega (arith, high, less, long)) in omega arith
      ];
  others = λ k d less.
      let long = length-drop (i + 1) cs in
      let first : (get_or (drop (i + 1) cs) k d).0 ≡ (get_or cs (i + 1 + k) d).0 = ap child_label (get_or-drop (i + 1) cs k d) in
      let here : (get_or cs i d).0 ≡ c.0 = ap child_label (get_or_default cs i d c within ∙ sym read) in
      let up : (get_or cs i d).0 < (get_or cs (i + 1 + k) d).0 = rises i (i + 1 + k) d (omega arith) (omega (arith, less, long)) in
      omega arith;
}

-- the child at a place, and none past the last one
pub get_some : (cs : Children) (i : ℕ) (c : ℕ × Link) → i < length cs → c ≡ get_or cs i c → Some c ≡ slice_get cs i
get_some [] i c within read = absurd (omega (arith, within))
get_some (x ∷ cs) zero c within read = ap (λ (y : ℕ × Link). Some y) read
get_some (x ∷ cs) (suc i) c within read = get_some cs i c (omega (arith, within)) read

pub get_none : (cs : Children) (i : ℕ) → length cs ≤ i → None ≡ slice_get cs i
get_none [] i past = refl
get_none (x ∷ cs) zero past = absurd (omega (arith, past))
get_none (x ∷ cs) (suc i) past = get_none cs i (omega (arith, past))
