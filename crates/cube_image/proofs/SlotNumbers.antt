-- Where the slots stand in the order, found from its end on.
use Rattle.std.proofs.Common.{◌≡◌, ℕ, suc, ◌+◌, ◌<◌, Bool, cond, not, ◌⊎◌, inl, inr, eqb, List, ◌∷◌, length, get_or, drop, sym, ap, ◌∙◌, arith, eq-eqb, ne_eqb}
use Rattle.std.proofs.Math.ListN.{set, length-set}
use Rattle.std.proofs.Math.Seq.{drop-cons}
use Rattle.std.proofs.lemmas.Bool.{cases_eq}
use Rattle.std.proofs.lemmas.List.{get_or-set_same, get_or-set_other}
use Rattle.cube_image.specs.Order.{order_number}

-- the numbers count from a place of the order on
abbrev pub NumbersFrom : List ℕ → List ℕ → ℕ → Type 0
NumbersFrom places numbers at = (i : ℕ) → i < length numbers → get_or numbers i 0 ≡ at + order_number (drop at places) i

pub numbers_more : (places numbers : List ℕ) (at : ℕ) → at < length places → NumbersFrom places numbers (at + 1) → NumbersFrom places (set numbers (get_or places at 0) at) at
numbers_more places numbers at lt before i within = go (cases_eq (get_or places at 0) i)
  where
    size : length (set numbers (get_or places at 0) at) ≡ length numbers
    size = length-set numbers (get_or places at 0) at

    rest : drop at places ≡ get_or places at 0 ∷ drop (at + 1) places
    rest = let more : suc at ≡ at + 1 = omega arith in drop-cons places at 0 lt ∙ ap (λ (n : ℕ). get_or places at 0 ∷ drop n places) more

    number : order_number (drop at places) i ≡ cond (not (eqb (get_or places at 0) i)) (1 + order_number (drop (at + 1) places) i) 0
    number = ap (λ (ps : List ℕ). order_number ps i) rest

    go : (get_or places at 0 ≡ i) ⊎ (get_or places at 0 ≡ i → ⊥) → get_or (set numbers (get_or places at 0) at) i 0 ≡ at + order_number (drop at places) i
    go (inl e) =
        let same : order_number (drop at places) i ≡ 0 = number ∙ ap (λ (b : Bool). cond {A = ℕ} (not b) (1 + order_number (drop (at + 1) places) i) 0) (eq-eqb (get_or places at 0) i e) in
        let put : get_or (set numbers i at) i 0 ≡ at = get_or-set_same numbers i at 0 (omega (arith, within, size)) in
        let here : get_or (set numbers (get_or places at 0) at) i 0 ≡ get_or (set numbers i at) i 0 = ap (λ (n : ℕ). get_or (set numbers n at) i 0) e in
        omega (arith, same, put, here)
    go (inr n) =
        let other : order_number (drop at places) i ≡ 1 + order_number (drop (at + 1) places) i = number ∙ ap (λ (b : Bool). cond {A = ℕ} (not b) (1 + order_number (drop (at + 1) places) i) 0) (ne_eqb (get_or places at 0) i n) in
        let kept : get_or (set numbers (get_or places at 0) at) i 0 ≡ get_or numbers i 0 = get_or-set_other numbers (get_or places at 0) i at 0 (λ e. n (sym e)) in
        let was = before i (omega (arith, within, size)) in
        omega (arith, other, kept, was)
