-- Lists of pairs whose numbers rise: the test of it, and how many different numbers they have.
use Rattle.std.proofs.Common.{◌≡◌, ℕ, suc, ◌<◌, Bool, true, eqb, List, [], ◌∷◌, All, length, get_or, map, refl, ◌∙◌, arith}
use Rattle.std.specs.FinMap.Entries.{is_sorted, below_all}
use Rattle.std.specs.List.{AllPairs, list_all}
use Rattle.std.specs.Ordering.{nat_cmp, is_lt}
use Rattle.std.specs.Set.{distinct_count}
use Rattle.std.proofs.lemmas.Bool.{and_parts, and_from, lt-ltb}
use Rattle.std.proofs.lemmas.Bool.Decides.{Decides-eqb}
use Rattle.std.proofs.lemmas.Cmp.{nat_eq_equiv}
use Rattle.std.proofs.lemmas.List.{length-map, get_or-map}
use Rattle.std.proofs.lemmas.List.Elements.{All-nil, All-cons, All-head, All-tail}
use Rattle.std.proofs.lemmas.List.Kept.{AllPairs-cons}
use Rattle.std.proofs.lemmas.Map.Made.{distinct_count-from_IsDistinct, IsDistinct-from_AllPairs}
use Rattle.time_table.proofs.KeyTests.{less_from}

-- the numbers of the pairs rise
abbrev pub Rises : {X : Type 0} → List (ℕ × X) → Type 0
Rises {X} es = AllPairs (λ (a b : ℕ × X). a.0 < b.0) es

-- the test of an order
pub less_to : (a b : ℕ) → a < b → is_lt (nat_cmp a b) ≡ true
less_to a b lt = rw (lt-ltb a b lt) refl

module _ {X : Type 0} where
  -- the others rise too
  pub rises-tail : (e : ℕ × X) (es : List (ℕ × X)) → Rises (e ∷ es) → Rises es
  rises-tail e es R i j d lt lj = R (suc i) (suc j) d (omega (arith, lt)) (omega (arith, lj))

  all_above : (n : ℕ) (es : List (ℕ × X)) → below_all nat_cmp n es ≡ true → All (λ (e : ℕ × X). n < e.0) es
  all_above n [] is = All-nil (λ (e : ℕ × X). n < e.0)
  all_above n (e ∷ es) is =
      let parts = and_parts (is_lt (nat_cmp n e.0)) (below_all nat_cmp n es) is in
      All-cons (λ (e : ℕ × X). n < e.0) e es (less_from n e.0 parts.0) (all_above n es parts.1)

  below_those : (n : ℕ) (es : List (ℕ × X)) → ((i : ℕ) (d : ℕ × X) → i < length es → n < (get_or es i d).0) → below_all nat_cmp n es ≡ true
  below_those n [] all = refl
  below_those n (e ∷ es) all = and_from _ _ (less_to n e.0 (all 0 e (omega arith))) (below_those n es (λ i d lt. all (suc i) d (omega (arith, lt))))

  -- what the test says
  pub rises_from_test : (es : List (ℕ × X)) → is_sorted nat_cmp es ≡ true → Rises es
  rises_from_test [] is = λ i j d lt lj. absurd (omega (arith, lj))
  rises_from_test (e ∷ es) is =
      let parts = and_parts (below_all nat_cmp e.0 es) (is_sorted nat_cmp es) is in
      AllPairs-cons (λ (a b : ℕ × X). a.0 < b.0) e es (all_above e.0 es parts.0) (rises_from_test es parts.1)

  pub test_from_rises : (es : List (ℕ × X)) → Rises es → is_sorted nat_cmp es ≡ true
  test_from_rises [] R = refl
  test_from_rises (e ∷ es) R = and_from _ _ (below_those e.0 es (λ i d lt. R 0 (suc i) d (omega arith) (omega (arith, lt)))) (test_from_rises es (rises-tail e es R))

  -- numbers that rise are all different
  pub distinct-rising : (d : X) (es : List (ℕ × X)) → Rises es → distinct_count eqb (map (λ (e : ℕ × X). e.0) es) ≡ length es
  distinct-rising d es R =
      distinct_count-from_IsDistinct nat_eq_equiv (map (λ (e : ℕ × X). e.0) es) (IsDistinct-from_AllPairs Decides-eqb (map (λ (e : ℕ × X). e.0) es) apart) ∙ length-map es (λ (e : ℕ × X). e.0)
    where
      apart : (i j n : ℕ) → i < j → j < length (map (λ (e : ℕ × X). e.0) es) → get_or (map (λ (e : ℕ × X). e.0) es) i n ≡ get_or (map (λ (e : ℕ × X). e.0) es) j n → ⊥
      apart i j n lt lj same =
          let size = length-map es (λ (e : ℕ × X). e.0) in
          let x : get_or (map (λ (e : ℕ × X). e.0) es) i n ≡ (get_or es i (0, d)).0 = get_or-map (λ (e : ℕ × X). e.0) es i (0, d) n (omega (arith, lt, lj, size)) in
          let y : get_or (map (λ (e : ℕ × X). e.0) es) j n ≡ (get_or es j (0, d)).0 = get_or-map (λ (e : ℕ × X). e.0) es j (0, d) n (omega (arith, lj, size)) in
          let r = R i j (0, d) lt (omega (arith, lj, size)) in
          omega (arith, x, y, r, same)

-- a test of all items
pub list_all-from : {Y : Type 0} (p : Y → Bool) (ys : List Y) → All (λ y. p y ≡ true) ys → list_all p ys ≡ true
list_all-from p [] all = refl
list_all-from p (y ∷ ys) all = and_from _ _ (All-head (λ y. p y ≡ true) y ys all) (list_all-from p ys (All-tail (λ y. p y ≡ true) y ys all))

pub list_all-to : {Y : Type 0} (p : Y → Bool) (ys : List Y) → list_all p ys ≡ true → All (λ y. p y ≡ true) ys
list_all-to p [] is = All-nil (λ y. p y ≡ true)
list_all-to p (y ∷ ys) is = let parts = and_parts (p y) (list_all p ys) is in All-cons (λ y. p y ≡ true) y ys parts.0 (list_all-to p ys parts.1)
