-- Parts that agree along all ways, value by value.
use Rattle.std.proofs.Common.{◌≡◌, ◌⊎◌, inl, inr, ℕ, suc, ◌+◌, ◌-◌, ◌<◌, ◌≤◌, List, [], ◌∷◌, length, map, take, drop, sum_by, refl, sym, ap, ◌∙◌, subst, arith}
use Rattle.std.specs.List.{slice_range}
use Rattle.std.proofs.lemmas.Bool.{cases_lt}
use Rattle.std.proofs.lemmas.List.{length-drop}
use Rattle.std.proofs.lemmas.List.Elements.{All-drop, All-take}
use Rattle.std.proofs.lemmas.List.Sums.{sum_by-cons}
use Rattle.cube_view.specs.Walks.{down, across}
use Rattle.node_arena.specs.Slots.{Slot}
use Rattle.probe_core.specs.Places.{IsPlace}
use Rattle.shape_test.specs.Agreeing.{IsOver, value_levels}
use Rattle.shape_test.specs.Ends.{ends_count}
use Rattle.shape_test.specs.Ways.{Way, count_below}
use Rattle.shape_test.specs.Parts.{ArePartsIn, AreUnder, HaveCome, IsLeastLabel, PartsAgree, count_along, part_label, part_slot}
use Rattle.shape_test.specs.declared.parts.Part.{Part}
use Rattle.shape_test.proofs.CategoryWays.{over_none, over_one, over_more}
use Rattle.shape_test.proofs.PartSums.{slot_sum, place_between, run_sum, under_counts}

-- parts agree behind one value and n categories more
abbrev pub SumsAt : List Slot → List Part → List Part → ℕ → ℕ → Type 0
SumsAt slots whole parts n l = (way : Way) → IsOver (value_levels n) way → (bin : ℕ) → count_along slots whole (down l ∷ across ∷ way) bin ≡ count_along slots parts (down l ∷ across ∷ way) bin

-- the same slots count the same
slots_sum : (f : ℕ → ℕ) (parts : List Part) → slot_sum f parts ≡ sum_by f (map part_slot parts)
slots_sum f [] = refl
slots_sum f (p ∷ parts) =
    let a = sum_by-cons (λ (q : Part). f (part_slot q)) p parts in
    let b = sum_by-cons f (part_slot p) (map part_slot parts) in
    let r = slots_sum f parts in
    omega (arith, a, b, r)

pub same_sums : (slots : List Slot) (whole parts : List Part) (n : ℕ) → map part_slot whole ≡ map part_slot parts → PartsAgree slots whole parts n
same_sums slots whole parts n e way o bin =
    slots_sum (λ i. count_below slots i way bin) whole ∙ (ap (sum_by (λ i. count_below slots i way bin)) e ∙ sym (slots_sum (λ i. count_below slots i way bin) parts))

-- without a category the slots themselves are looked at
pub sums_end : (slots : List Slot) (whole parts : List Part) (n : ℕ) → n ≡ 0 → ((bin : ℕ) → ends_count slots whole bin ≡ ends_count slots parts bin) → PartsAgree slots whole parts n
sums_end slots whole parts n zero H way o bin =
    let e = over_none way (subst (λ (m : ℕ). IsOver (value_levels m) way) zero o) in
    subst (λ (w : Way). count_along slots whole w bin ≡ count_along slots parts w bin) (sym e) (H bin)

pub end_sums : (slots : List Slot) (whole parts : List Part) (n : ℕ) → n ≡ 0 → PartsAgree slots whole parts n → (bin : ℕ) → ends_count slots whole bin ≡ ends_count slots parts bin
end_sums slots whole parts n zero S bin = S [] (subst (λ (m : ℕ). IsOver (value_levels m) []) (sym zero) (refl, refl)) bin

-- with one, all its values
pub all_values : (slots : List Slot) (whole parts : List Part) (n : ℕ) → ((l : ℕ) → SumsAt slots whole parts n l) → PartsAgree slots whole parts (suc n)
all_values slots whole parts n A way o bin =
    let b = over_one n way o in
    subst (λ (w : Way). count_along slots whole w bin ≡ count_along slots parts w bin) (sym b.is) (A b.label b.rest b.over bin)

pub each_value : (slots : List Slot) (whole parts : List Part) (n l : ℕ) → PartsAgree slots whole parts (suc n) → SumsAt slots whole parts n l
each_value slots whole parts n l S way o bin = S (down l ∷ across ∷ way) (over_more n l way o) bin

module _ (slots : List Slot) (whole parts own below : List Part) (U : AreUnder slots whole own) (V : AreUnder slots parts below) (n : ℕ) where
  -- at a value the parts below are looked at that have its label
  module _ (l i i' at at' : ℕ) (le : i ≤ i') (less : at ≤ at') (P : HaveCome l own i below at) (Q : HaveCome (l + 1) own i' below at') where
    own_run : (way : Way) (bin : ℕ) → count_along slots whole (down l ∷ across ∷ way) bin ≡ count_along slots (slice_range own i i') way bin
    own_run way bin = sym (under_counts slots whole own l way bin U) ∙ run_sum own (λ e. count_below slots e way bin) l i i' le P.own_place Q.own_place

    below_run : (way : Way) (bin : ℕ) → count_along slots parts (down l ∷ across ∷ way) bin ≡ count_along slots (slice_range below at at') way bin
    below_run way bin = sym (under_counts slots parts below l way bin V) ∙ run_sum below (λ e. count_below slots e way bin) l at at' less P.below_place Q.below_place

    pub value_sums : PartsAgree slots (slice_range own i i') (slice_range below at at') n → SumsAt slots whole parts n l
    value_sums S way o bin = own_run way bin ∙ (S way o bin ∙ sym (below_run way bin))

    pub sums_value : SumsAt slots whole parts n l → PartsAgree slots (slice_range own i i') (slice_range below at at') n
    sums_value S way o bin = sym (own_run way bin) ∙ (S way o bin ∙ below_run way bin)

  -- at a value that no part has there is nothing
  empty_value : (l i at : ℕ) → HaveCome l own i below at → HaveCome (l + 1) own i below at → SumsAt slots whole parts n l
  empty_value l i at P Q way o bin =
      let a = under_counts slots whole own l way bin U in
      let b = under_counts slots parts below l way bin V in
      let c = run_sum own (λ e. count_below slots e way bin) l i i (omega arith) P.own_place Q.own_place in
      let d = run_sum below (λ e. count_below slots e way bin) l at at (omega arith) P.below_place Q.below_place in
      let e = none own i in
      let f = none below at in
      omega (arith, a, b, c, d, e, f)
    where
      none : (ps : List Part) (k : ℕ) → slot_sum (λ e. count_below slots e way bin) (slice_range ps k k) ≡ 0
      none ps k =
          let z : k - k ≡ 0 = omega arith in
          ap (λ (m : ℕ). slot_sum (λ e. count_below slots e way bin) (take m (drop k ps))) z

  between : (from m l i at : ℕ) → from ≤ m → m ≤ l → HaveCome from own i below at → HaveCome l own i below at → HaveCome m own i below at
  between from m l i at low high P Q = record {
    own_place = place_between own from m l i low high P.own_place Q.own_place;
    below_place = place_between below from m l at low high P.below_place Q.below_place;
  }

  -- those before a label that was looked at, and itself
  pub one_value_more : (from l i i' at at' : ℕ) → i ≤ i' → at ≤ at' → ((m : ℕ) → m < from → SumsAt slots whole parts n m) → HaveCome from own i below at → IsLeastLabel from own i below at l → HaveCome (l + 1) own i' below at' → PartsAgree slots (slice_range own i i') (slice_range below at at') n → (m : ℕ) → m < l + 1 → SumsAt slots whole parts n m
  one_value_more from l i i' at at' le less A C N Q S m lt = go (cases_lt m from) (cases_lt m l)
    where
      go : (m < from) ⊎ (from ≤ m) → (m < l) ⊎ (l ≤ m) → SumsAt slots whole parts n m
      go (inl x) y = A m x
      go (inr x) (inl y) = empty_value m i at (between from m l i at x (omega (arith, y)) C N.come) (between from (m + 1) l i at (omega (arith, x)) (omega (arith, y)) C N.come)
      go (inr x) (inr y) = subst (SumsAt slots whole parts n) (omega (arith, lt, y)) (value_sums l i i' at at' le less N.come Q S)

  -- and past the last one
  pub no_value_more : (from i at : ℕ) → ((m : ℕ) → m < from → SumsAt slots whole parts n m) → HaveCome from own i below at → i ≡ length own → at ≡ length below → PartsAgree slots whole parts (suc n)
  no_value_more from i at A C e f = all_values slots whole parts n (λ m. go m (cases_lt m from))
    where
      past : (ps : List Part) (k m : ℕ) → k ≡ length ps → from ≤ m → IsPlace part_label from ps k → IsPlace part_label m ps k
      past ps k m is low P = record {
        within = P.within;
        lesser = λ j d less. let x = P.lesser j d less in omega (arith, x, low);
        others = λ j d less. absurd (none ps k j is less);
      }
        where
          none : (ps : List Part) (k j : ℕ) → k ≡ length ps → j < length (drop k ps) → ⊥
          none ps k j is less = let n = length-drop k ps in omega (arith, n, is, less)

      come : (m : ℕ) → from ≤ m → HaveCome m own i below at
      come m low = record { own_place = past own i m e low C.own_place; below_place = past below at m f low C.below_place }

      go : (m : ℕ) → (m < from) ⊎ (from ≤ m) → SumsAt slots whole parts n m
      go m (inl x) = A m x
      go m (inr x) = empty_value m i at (come m x) (come (m + 1) (omega (arith, x)))

-- a loop that begins
pub come_none : (own below : List Part) → HaveCome 0 own 0 below 0
come_none own below = record { own_place = start own; below_place = start below }
  where
    start : (ps : List Part) → IsPlace part_label 0 ps 0
    start ps = record { within = omega arith; lesser = λ k d less. absurd (omega (arith, less)); others = λ k d less. omega arith }

-- what is known of slices that are the lists
pub come_same : (from i at : ℕ) (own own' below below' : List Part) → own ≡ own' → below ≡ below' → HaveCome from own i below at → HaveCome from own' i below' at
come_same from i at own own' below below' e f C = record {
  own_place = subst (λ (ps : List Part). IsPlace part_label from ps i) e C.own_place;
  below_place = subst (λ (ps : List Part). IsPlace part_label from ps at) f C.below_place;
}

pub next_same : (from i at l : ℕ) (own own' below below' : List Part) → own ≡ own' → below ≡ below' → IsLeastLabel from own i below at l → IsLeastLabel from own' i below' at l
next_same from i at l own own' below below' e f N = record {
  low = N.low;
  come = come_same l i at own own' below below' e f N.come;
}

pub place_same : (l k : ℕ) (ps ps' : List Part) → ps ≡ ps' → IsPlace part_label l ps k → IsPlace part_label l ps' k
place_same l k ps ps' e P = subst (λ (qs : List Part). IsPlace part_label l qs k) e P

-- the parts between places are slots of the arena, as all are
pub run_within : (slots : List Slot) (ps : List Part) (at end : ℕ) → ArePartsIn slots ps → ArePartsIn slots (slice_range ps at end)
run_within slots ps at end A = All-take (λ (p : Part). part_slot p < length slots) (end - at) (drop at ps) (All-drop (λ (p : Part). part_slot p < length slots) at ps A)
