-- Laws of lists that one bag counts: they have the same amounts, whatever points weigh.
use Rattle.std.proofs.Common.{◌≡◌, ℕ, ◌+◌, Bool, List, [], ◌∷◌, ◌++◌, length, sym, ◌∙◌, arith, length-append}
use Rattle.cube_view.specs.declared.spot.Spot.{Spot}
use Rattle.cube_view.specs.Points.{Point}
use Rattle.cube_view.specs.Bag.{is_spot, gives, amount, bag_weight, Counts}
use Rattle.cube_view.proofs.Amounts.{amount-append, amount-push}
use Rattle.cube_view.proofs.Apart.{alike_within}

-- lists that give each spot the same have the same amounts
pub amount-alike : (h k : List Point) → ((s : Spot) → bag_weight s h ≡ bag_weight s k) → (q : Spot → Bool) → amount q h ≡ amount q k
amount-alike h k same q = alike_within q (length h) h k (omega arith) same

-- lists that one bag counts have the same amounts
pub Counts-same : (at : Spot → ℕ) (n : ℕ) (h k : List Point) → Counts at n h → Counts at n k → (q : Spot → Bool) → amount q h ≡ amount q k
Counts-same at n h k a b q = amount-alike h k (λ s. sym (a.weights s) ∙ b.weights s) q

-- a bag with one point more counts the list with it
pub Counts-push : (at more : Spot → ℕ) (n : ℕ) (h : List Point) (p : Point) → Counts at n h → ((s : Spot) → more s ≡ at s + gives (is_spot s) p) → Counts more (n + 1) (h ++ p ∷ [])
Counts-push at more n h p counts grown = record {
  weights = λ s. let g = grown s in let a = amount-push (is_spot s) h p in let b = counts.weights s in omega (arith, g, a, b);
  number = let l = length-append h (p ∷ []) in let m = counts.number in omega (arith, l, m);
}

-- a bag with some points more counts the list with them
pub Counts-append : (at more : Spot → ℕ) (n : ℕ) (h points : List Point) → Counts at n h → ((s : Spot) → more s ≡ at s + bag_weight s points) → Counts more (n + length points) (h ++ points)
Counts-append at more n h points counts grown = record {
  weights = λ s. let g = grown s in let a = amount-append (is_spot s) h points in let b = counts.weights s in omega (arith, g, a, b);
  number = let l = length-append h points in let m = counts.number in omega (arith, l, m);
}
