-- Laws of what sound points weigh, and of the bags that count them.
use Rattle.std.proofs.Common.{◌≡◌, ℕ, suc, ◌+◌, ◌*◌, ◌<◌, ◌≤◌, ◌^◌, Bool, true, nat_le, IsTrue, All, List, [], ◌∷◌, length, get_or, arith}
use Rattle.std.proofs.lemmas.Bool.{and_parts, leb-true}
use Rattle.std.proofs.lemmas.List.Sums.{sum_by-le}
use Rattle.cube_view.specs.declared.spot.Spot.{Spot}
use Rattle.cube_view.specs.declared.schema.Schema.{Schema}
use Rattle.cube_view.specs.Points.{Point, spot_of, weight_of_point, heaviest}
use Rattle.cube_view.specs.Validity.{fits, is_weight, sound}
use Rattle.cube_view.specs.Bag.{anywhere, gives, amount, most_points, Counts, IsBag}
use Rattle.cube_view.proofs.Amounts.{amount-cons, amount-more, amount-take, gives-yes}
use Rattle.cube_view.proofs.Alike.{Counts-same}

-- a sound point's spot is one of the schema
pub sound-fits : (z : Schema) (p : Point) → IsTrue (sound z p) → IsTrue (fits z (spot_of p))
sound-fits z p is = (and_parts (fits z (spot_of p)) (is_weight (weight_of_point p)) is).0

-- a sound point weighs something
pub sound-weighs : (z : Schema) (p : Point) → IsTrue (sound z p) → 0 < weight_of_point p
sound-weighs z p is =
    let weight = (and_parts (fits z (spot_of p)) (is_weight (weight_of_point p)) is).1 in
    let low = leb-true 1 (weight_of_point p) (and_parts (nat_le 1 (weight_of_point p)) (nat_le (weight_of_point p) heaviest) weight).0 in
    omega (arith, low)

-- a sound point weighs no more than the heaviest
pub sound-light : (z : Schema) (p : Point) → IsTrue (sound z p) → weight_of_point p ≤ heaviest
sound-light z p is =
    let weight = (and_parts (fits z (spot_of p)) (is_weight (weight_of_point p)) is).1 in
    leb-true (weight_of_point p) heaviest (and_parts (nat_le 1 (weight_of_point p)) (nat_le (weight_of_point p) heaviest) weight).1

-- a list has an amount where one of its points weighs something and stands at a spot that passes
pub amount-some : (q : Spot → Bool) (h : List Point) (i : ℕ) (d : Point) → i < length h → 0 < weight_of_point (get_or h i d) → q (spot_of (get_or h i d)) ≡ true → 0 < amount q h
amount-some q h i d lt w e =
    let a = amount-more q h i d lt in
    let le = amount-take q h (i + 1) in
    let g = gives-yes q (get_or h i d) e in
    omega (arith, a, le, g, w)

module _ (z : Schema) where
  -- each point of a list of sound points weighs something
  pub all-weigh : (h : List Point) → All (λ p. IsTrue (sound z p)) h → All (λ p. 0 < weight_of_point p) h
  all-weigh h all i d lt = sound-weighs z (get_or h i d) (all i d lt)

  -- one point more of a list that is gone through adds no more than the heaviest
  pub weight-step : (h : List Point) → All (λ p. IsTrue (sound z p)) h → (i : ℕ) (d : Point) → i < length h → (t u : ℕ) → u ≡ t + weight_of_point (get_or h i d) → t ≤ i * heaviest → u ≤ (i + 1) * heaviest
  weight-step h all i d lt t u is low = let l = sound-light z (get_or h i d) (all i d lt) in omega (arith, is, low, l)

  -- a list of sound points weighs no more than so many of the heaviest
  pub amount-most : (h : List Point) → All (λ p. IsTrue (sound z p)) h → amount anywhere h ≤ length h * heaviest
  unfolding amount
  amount-most h all = sum_by-le (gives anywhere) heaviest h (λ i d lt. sound-light z (get_or h i d) (all i d lt))

  -- a list of sound points weighs at least 1 for each point
  pub amount-least : (h : List Point) → All (λ p. IsTrue (sound z p)) h → length h ≤ amount anywhere h
  amount-least [] all = omega arith
  amount-least (p ∷ h) all =
      let a = amount-cons anywhere p h in
      let w = sound-weighs z p (all 0 p (omega arith)) in
      let rest = amount-least h (λ i d lt. all (suc i) d (omega (arith, lt))) in
      omega (arith, a, w, rest)

  -- what counts a list of sound points, not too many, is a bag
  pub IsBag-counting : (at : Spot → ℕ) (n : ℕ) (h : List Point) → Counts at n h → All (λ p. IsTrue (sound z p)) h → n ≤ most_points → IsBag at n
  IsBag-counting at n h counts all few = record {
    counted = ∣ (h, counts) ∣₁;
    few = few;
    least = λ k c. let e = Counts-same at n k h c counts anywhere in let m = amount-least h all in let l = counts.number in omega (arith, e, m, l);
    most = λ k c. let e = Counts-same at n k h c counts anywhere in let m = amount-most h all in let l = counts.number in omega (arith, e, m, l);
  }

-- the sum of a bag is under 2^63
pub IsBag-small : (at : Spot → ℕ) (n : ℕ) → IsBag at n → (h : List Point) → Counts at n h → amount anywhere h < 2 ^ 63
IsBag-small at n bag h counts = let most = bag.most h counts in let few = bag.few in omega (arith, most, few)

-- a bag of some points weighs something
pub IsBag-some : (at : Spot → ℕ) (n : ℕ) → IsBag at n → (h : List Point) → Counts at n h → 0 < n → 0 < amount anywhere h
IsBag-some at n bag h counts more = let least = bag.least h counts in omega (arith, least, more)

-- a bag of no points weighs nothing
pub IsBag-none : (at : Spot → ℕ) (n : ℕ) → IsBag at n → (h : List Point) → Counts at n h → n ≡ 0 → amount anywhere h ≡ 0
IsBag-none at n bag h counts none = let most = bag.most h counts in omega (arith, most, none)
