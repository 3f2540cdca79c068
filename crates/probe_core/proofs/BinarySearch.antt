-- A binary search, between its bounds.
use Rattle.std.proofs.Common.{◌≡◌, ℕ, zero, suc, ◌+◌, ◌-◌, ◌/◌, ◌<◌, ◌≤◌, List, [], ◌∷◌, Option, Some, None, All, length, take, drop, get_or, refl, sym, subst, arith, add-one, slice_get, ◌⊎◌, inl, inr}
use Rattle.std.proofs.lemmas.Option.{slice_get-get_or, slice_get_past}
use Rattle.std.proofs.lemmas.List.{get_or_read}
use Rattle.std.proofs.lemmas.List.Elements.{All-nil, All-cons}
use Rattle.std.proofs.lemmas.Bool.{cases_lt, cases_eq}
use Rattle.probe_core.specs.Bits.{bits}
use Rattle.probe_core.proofs.BitLaws.{bits-mono, bits-half}
use Rattle.probe_core.specs.Places.{RisesBy, IsPlace, item_before}

-- the place is from `low` to `high`, the items just before `low` and on `high` were read, and the
-- steps for what is between are left
pub record IsSearching {T : Type 0} (key : T → ℕ) (from : ℕ) (items : List T) (low high : ℕ) (before first : Option T) (taken allowed : ℕ) : Type 0 where
  pub ordered : low ≤ high
  pub within : high ≤ length items
  pub lesser : (k : ℕ) (d : T) → k < low → key (get_or items k d) < from
  pub others : (k : ℕ) (d : T) → high ≤ k → k < length items → from ≤ key (get_or items k d)
  pub before_is : before ≡ item_before items low
  pub first_is : first ≡ slice_get items high
  pub cost : taken + bits (high - low) ≤ allowed

-- a read at the middle leaves half of what was between, or less
half_left : (low high taken next allowed rest : ℕ) → low < high → taken + bits (high - low) ≤ allowed → next ≡ taken + 1 → rest ≤ (high - low) / 2 → next + bits rest ≤ allowed
half_left low high taken next allowed rest some cost step le =
    let some' : 0 < high - low = omega arith in
    let half = bits-half (high - low) some' in
    let less = bits-mono rest ((high - low) / 2) le in
    omega arith

sub_zero : (n : ℕ) → n - 0 ≡ n
sub_zero n = omega arith

module _ {T : Type 0} where
  all_before : (P : T → Type 0) (items : List T) (i : ℕ) → i ≤ length items → ((k : ℕ) (d : T) → k < i → P (get_or items k d)) → All P (take i items)
  all_before P items zero within each = All-nil P
  all_before P [] (suc i) within each = absurd (omega arith)
  all_before P (x ∷ xs) (suc i) within each = All-cons P x (take i xs) (each 0 x (omega arith)) (all_before P xs i (omega arith) (λ k d less. each (suc k) d (omega arith)))

  all_from : (P : T → Type 0) (items : List T) (i : ℕ) → ((k : ℕ) (d : T) → i ≤ k → k < length items → P (get_or items k d)) → All P (drop i items)
  all_from P [] zero each = All-nil P
  all_from P [] (suc i) each = All-nil P
  all_from P (x ∷ xs) zero each = All-cons P x xs (each 0 x (omega arith) (omega arith)) (all_from P xs zero (λ k d le less. each (suc k) d (omega arith) (omega arith)))
  all_from P (x ∷ xs) (suc i) each = all_from P xs i (λ k d le less. each (suc k) d (omega arith) (omega arith))

  -- a search begins with all items between its bounds
  pub search_starts : (key : T → ℕ) (from : ℕ) (items : List T) (taken : ℕ) → IsSearching key from items 0 (length items) None None taken (taken + bits (length items))
  search_starts key from items taken = record {
    ordered = omega arith;
    within = omega arith;
    lesser = λ k d less. absurd (omega arith);
    others = λ k d more less. absurd (omega arith);
    before_is = refl;
    first_is = sym (slice_get_past items (length items) (omega arith));
    cost = subst (λ n. taken + bits n ≤ taken + bits (length items)) (sym (sub_zero (length items))) (omega arith);
  }

  -- where nothing is between the bounds, the place is found
  pub search_ends : (key : T → ℕ) (from : ℕ) (items : List T) (low high : ℕ) (before first : Option T) (taken allowed : ℕ) → IsSearching key from items low high before first taken allowed → high ≤ low → IsPlace key from items low × (first ≡ slice_get items low) × (taken ≤ allowed)
  search_ends key from items low high before first taken allowed S done =
      let same : high ≡ low = omega (arith, S.ordered) in (
        record {
          within = omega (arith, S.within);
          lesser = all_before (λ (x : T). key x < from) items low (omega (arith, S.within)) S.lesser;
          others = all_from (λ (x : T). from ≤ key x) items low (λ k d le less. S.others k d (omega arith) less);
        },
        subst (λ i. first ≡ slice_get items i) same S.first_is,
        omega (arith, S.cost),
      )

  -- an item of a lesser key is before the place
  pub search_up : (key : T → ℕ) (from : ℕ) (items : List T) (low high : ℕ) (before first : Option T) (taken next allowed middle : ℕ) (item : T) → IsSearching key from items low high before first taken allowed → RisesBy key items → low < high → middle ≡ low + (high - low) / 2 → item ≡ get_or items middle item → next ≡ taken + 1 → key item < from → IsSearching key from items (middle + 1) high (Some item) first next allowed
  search_up key from items low high before first taken next allowed middle item S R some mid is step less =
      let inside : middle < high = omega arith in
      let place : middle < length items = omega (arith, S.within) in
      record {
        ordered = omega arith;
        within = S.within;
        lesser = λ k d below. lesser k d below (cases_lt k middle);
        others = S.others;
        before_is = before_is place;
        first_is = S.first_is;
        cost = half_left low high taken next allowed (high - (middle + 1)) some S.cost step (omega arith);
      }
    where
      at_middle : (d : T) → key (get_or items middle d) < from
      at_middle d = subst (λ (z : T). key z < from) (get_or_read items middle item (let w = S.within in omega arith) is d) less

      lesser : (k : ℕ) (d : T) → k < middle + 1 → (k < middle) ⊎ (middle ≤ k) → key (get_or items k d) < from
      lesser k d below (inl under) = let r = R k middle d under (let w = S.within in omega arith) in let m = at_middle d in omega arith
      lesser k d below (inr after) = let e : middle ≡ k = omega arith in subst (λ z. key (get_or items z d) < from) e (at_middle d)

      before_is : middle < length items → Some item ≡ item_before items (middle + 1)
      before_is place = rw add-one (subst (λ (z : T). Some z ≡ slice_get items middle) (sym is) (sym (slice_get-get_or items middle item place)))

  -- an item of another key is at the place or behind it
  pub search_down : (key : T → ℕ) (from : ℕ) (items : List T) (low high : ℕ) (before first : Option T) (taken next allowed middle : ℕ) (item : T) → IsSearching key from items low high before first taken allowed → RisesBy key items → low < high → middle ≡ low + (high - low) / 2 → item ≡ get_or items middle item → next ≡ taken + 1 → from ≤ key item → IsSearching key from items low middle before (Some item) next allowed
  search_down key from items low high before first taken next allowed middle item S R some mid is step more =
      let inside : middle < high = omega arith in
      let place : middle < length items = omega (arith, S.within) in
      record {
        ordered = omega arith;
        within = omega (arith, S.within);
        lesser = S.lesser;
        others = λ k d over less. others k d over less (cases_eq k middle);
        before_is = S.before_is;
        first_is = subst (λ (z : T). Some z ≡ slice_get items middle) (sym is) (sym (slice_get-get_or items middle item place));
        cost = half_left low high taken next allowed (middle - low) some S.cost step (omega arith);
      }
    where
      at_middle : (d : T) → from ≤ key (get_or items middle d)
      at_middle d = subst (λ (z : T). from ≤ key z) (get_or_read items middle item (let w = S.within in omega arith) is d) more

      others : (k : ℕ) (d : T) → middle ≤ k → k < length items → (k ≡ middle) ⊎ (k ≡ middle → ⊥) → from ≤ key (get_or items k d)
      others k d over less (inl e) = subst (λ z. from ≤ key (get_or items z d)) (sym e) (at_middle d)
      others k d over less (inr n) = let r = R middle k d (omega arith) less in let m = at_middle d in omega arith
