-- Sums that gain what a list has at the spots that pass each one's test.
use Rattle.std.proofs.Common.{◌≡◌, ℕ, ◌+◌, ◌<◌, ◌≤◌, Bool, List, length, get_or, set, refl, ◌∙◌, ap, arith, ⊎_elim}
use Rattle.std.proofs.lemmas.Bool.{cases_eq}
use Rattle.std.proofs.lemmas.List.{get_or-set_same, get_or-set_other, length-set}
use Rattle.cube_view.specs.Bag.{amount}
use Rattle.cube_view.specs.Points.{Point}
use Rattle.cube_view.specs.declared.spot.Spot.{Spot}
use Rattle.tile_drill.specs.Series.{FitsEach, GainsEach}

-- By the tests of the one family and of the other, the list has the same amounts.
pub record HasSame (h : List Point) (p r : ℕ → Spot → Bool) : Type 0 where
  pub each : (i : ℕ) → amount (p i) h ≡ amount (r i) h

module _ {h : List Point} {p r : ℕ → Spot → Bool} (same : HasSame h p r) where
  pub gains_same : {old new : List ℕ} → GainsEach p old new h → GainsEach r old new h
  gains_same gains = record {
    long = gains.long;
    sums = λ i lt. let g = gains.sums i lt in let e = same.each i in omega (arith, g, e);
  }

  pub fits_same : (sums : List ℕ) → FitsEach r sums h → FitsEach p sums h
  fits_same sums fits i lt = let f = fits i lt in let e = same.each i in omega (arith, f, e)

-- tests that no spot of the list passes
pub gains_nothing : (h : List Point) (p : ℕ → Spot → Bool) → ((i : ℕ) → 0 ≡ amount (p i) h) → (sums : List ℕ) → GainsEach p sums sums h
gains_nothing h p none sums = record { long = refl; sums = λ i lt. let e = none i in omega (arith, e) }

module _ (h : List Point) (p r t : ℕ → Spot → Bool) (old mid : List ℕ) (first : GainsEach p old mid h) where
  -- what two tests share is gained one after the other
  pub gains_more : ((i : ℕ) → amount (t i) h ≡ amount (p i) h + amount (r i) h) → (new : List ℕ) → GainsEach r mid new h → GainsEach t old new h
  gains_more both new second = record {
    long = let a = first.long in let b = second.long in omega (arith, a, b);
    sums = λ i lt.
        let long = first.long in
        let a = first.sums i lt in
        let b = second.sums i (omega (arith, long, lt)) in
        let e = both i in
        omega (arith, a, b, e);
  }

  -- and there is still room for the second, where there was room for both
  pub fits_after : ((i : ℕ) → amount (p i) h + amount (r i) h ≤ amount (t i) h) → FitsEach t old h → FitsEach r mid h
  fits_after both fits i lt =
      let long = first.long in
      let here : i < length old = omega (arith, long, lt) in
      let a = first.sums i here in
      let f = fits i here in
      let e = both i in
      omega (arith, a, f, e)

-- the sums under n have gained what the list has at the spots that pass their tests, and the others are as they were
pub record GainsUnder (p : ℕ → Spot → Bool) (old now : List ℕ) (n : ℕ) (h : List Point) : Type 0 where
  pub long : length now ≡ length old
  pub gained : (i : ℕ) → i < n → i < length old → get_or now i 0 ≡ get_or old i 0 + amount (p i) h
  pub same : (i : ℕ) → n ≤ i → get_or now i 0 ≡ get_or old i 0

module _ (h : List Point) (p : ℕ → Spot → Bool) (old : List ℕ) where
  pub under_none : GainsUnder p old old 0 h
  under_none = record { long = refl; gained = λ i lt within. absurd (omega (arith, lt)); same = λ i le. refl }

  -- one sum more
  pub under_more : (now new : List ℕ) (n x : ℕ) → n < length now → new ≡ set now n x → x ≡ get_or now n 0 + amount (p n) h → GainsUnder p old now n h → GainsUnder p old new (n + 1) h
  under_more now new n x lt is sum so_far =
      let here : get_or new n 0 ≡ x = ap (λ (xs : List ℕ). get_or xs n 0) is ∙ get_or-set_same now n x 0 lt in
      let there : (i : ℕ) → (i ≡ n → ⊥) → get_or new i 0 ≡ get_or now i 0 = λ i ne. ap (λ (xs : List ℕ). get_or xs i 0) is ∙ get_or-set_other now n i x 0 ne in
      record {
        long = ap length is ∙ (length-set now n x ∙ so_far.long);
        gained = λ i low within. ⊎_elim
            (λ (e : i ≡ n). let kept = so_far.same n (omega arith) in let now_at = ap (λ (j : ℕ). get_or new j 0) e in let old_at = ap (λ (j : ℕ). get_or old j 0) e in let amount_at = ap (λ (j : ℕ). amount (p j) h) e in omega (arith, here, sum, kept, now_at, old_at, amount_at))
            (λ (ne : i ≡ n → ⊥). there i ne ∙ so_far.gained i (omega (arith, low, ne)) within)
            (cases_eq i n);
        same = λ i le. there i (λ (e : i ≡ n). omega (arith, e, le)) ∙ so_far.same i (omega (arith, le));
      }

  -- all of them
  pub under_all : (now : List ℕ) (n : ℕ) → length old ≤ n → GainsUnder p old now n h → GainsEach p old now h
  under_all now n all so_far = record { long = so_far.long; sums = λ i lt. so_far.gained i (omega (arith, lt, all)) lt }
