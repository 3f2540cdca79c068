-- Sums over entries, by the sums over each feeder's.
use Rattle.std.proofs.Common.{◌≡◌, ◌≢◌, ℕ, zero, suc, ◌+◌, ◌<◌, ◌≤◌, eqb, eq-eqb, ne_eqb, true, false, cond, List, [], ◌∷◌, All, refl, sym, ap, ◌∙◌, zero-add, arith, ⊎_elim}
use Rattle.std.specs.List.{sum_by, range_with_len}
use Rattle.std.proofs.lemmas.Bool.{cases_eq}
use Rattle.std.proofs.lemmas.List.Elements.{All-tail}
use Rattle.std.proofs.lemmas.List.Sums.{sum_by-cons}
use Rattle.world_core.specs.Interleaving.{entries_of}
use Rattle.world_core.specs.declared.entry.Entry.{Entry}

pub range_same : (f g : ℕ → ℕ) (a n : ℕ) → ((k : ℕ) → a ≤ k → k < a + n → f k ≡ g k) → sum_by f (range_with_len a n) ≡ sum_by g (range_with_len a n)
range_same f g a zero same = refl
range_same f g a (suc n) same =
    let here = same a (omega arith) (omega arith) in
    let rest = range_same f g (a + 1) n (λ k low high. same k (omega (arith, low)) (omega (arith, high))) in
    let x = sum_by-cons f a (range_with_len (a + 1) n) in
    let y = sum_by-cons g a (range_with_len (a + 1) n) in
    omega (arith, here, rest, x, y)

pub range_add : (f g : ℕ → ℕ) (a n : ℕ) → sum_by (λ k. f k + g k) (range_with_len a n) ≡ sum_by f (range_with_len a n) + sum_by g (range_with_len a n)
range_add f g a zero = refl
range_add f g a (suc n) =
    let rest = range_add f g (a + 1) n in
    let x = sum_by-cons f a (range_with_len (a + 1) n) in
    let y = sum_by-cons g a (range_with_len (a + 1) n) in
    let z = sum_by-cons (λ k. f k + g k) a (range_with_len (a + 1) n) in
    omega (arith, rest, x, y, z)

-- a number that only one place counts
abbrev pub at_place : ℕ → ℕ → ℕ → ℕ
at_place m w k = cond (eqb m k) w 0

at_own : (m w : ℕ) → at_place m w m ≡ w
at_own m w = ap (λ b. cond b w 0) (eq-eqb m m refl)

at_other : (m w k : ℕ) → m ≢ k → at_place m w k ≡ 0
at_other m w k other = ap (λ b. cond b w 0) (ne_eqb m k other)

range_none : (m w a n : ℕ) → m < a → sum_by (at_place m w) (range_with_len a n) ≡ 0
range_none m w a zero before = refl
range_none m w a (suc n) before =
    let here = at_other m w a (λ (e : m ≡ a). omega (arith, e, before)) in
    let rest = range_none m w (a + 1) n (omega (arith, before)) in
    let x = sum_by-cons (at_place m w) a (range_with_len (a + 1) n) in
    omega (arith, here, rest, x)

range_one : (m w a n : ℕ) → a ≤ m → m < a + n → sum_by (at_place m w) (range_with_len a n) ≡ w
range_one m w a zero low high = absurd (omega (arith, low, high))
range_one m w a (suc n) low high =
    let x = sum_by-cons (at_place m w) a (range_with_len (a + 1) n) in
    ⊎_elim
    (λ (e : m ≡ a). let here : at_place m w a ≡ w = ap (at_place m w) (sym e) ∙ at_own m w in let rest = range_none m w (a + 1) n (omega (arith, e)) in omega (arith, here, rest, x))
    (λ (ne : m ≢ a). let here = at_other m w a ne in let rest = range_one m w (a + 1) n (omega (arith, low, ne)) (omega (arith, high)) in omega (arith, here, rest, x))
    (cases_eq m a)

module _ (g : Entry → ℕ) where
  sum_of-cons : (f : ℕ) (e : Entry) (es : List Entry) → sum_by g (entries_of f (e ∷ es)) ≡ at_place e.feeder (g e) f + sum_by g (entries_of f es)
  sum_of-cons f e es =
      let rest = entries_of f es in
      elim (eqb e.feeder f) as (λ b. sum_by g (cond b (e ∷ rest) rest) ≡ cond b (g e) 0 + sum_by g rest) [ true ↦ sum_by-cons g e rest | false ↦ sym (zero-add (sum_by g rest)) ]

  none_at : (a n : ℕ) → sum_by (λ f. sum_by g (entries_of f [])) (range_with_len a n) ≡ 0
  none_at a zero = refl
  none_at a (suc n) = sum_by-cons (λ f. sum_by g (entries_of f [])) a (range_with_len (a + 1) n) ∙ (zero-add _ ∙ none_at (a + 1) n)

  -- a sum over entries is the sum of its feeders' sums
  pub sum_by_feeders : (feeders : ℕ) (es : List Entry) → All (λ (e : Entry). (1 ≤ e.feeder) × (e.feeder ≤ feeders)) es → sum_by g es ≡ sum_by (λ f. sum_by g (entries_of f es)) (range_with_len 1 feeders)
  sum_by_feeders feeders [] known = sym (none_at 1 feeders)
  sum_by_feeders feeders (e ∷ es) known =
      let own = known 0 e (omega arith) in
      let rest = sum_by_feeders feeders es (All-tail (λ (x : Entry). (1 ≤ x.feeder) × (x.feeder ≤ feeders)) e es known) in
      let same = range_same (λ f. sum_by g (entries_of f (e ∷ es))) (λ f. at_place e.feeder (g e) f + sum_by g (entries_of f es)) 1 feeders (λ f low high. sum_of-cons f e es) in
      let parts = range_add (at_place e.feeder (g e)) (λ f. sum_by g (entries_of f es)) 1 feeders in
      let one = range_one e.feeder (g e) 1 feeders own.0 (omega (arith, own.1)) in
      let first = sum_by-cons g e es in
      omega (arith, rest, same, parts, one, first)
