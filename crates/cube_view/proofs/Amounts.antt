-- Laws of amounts: what a list of points weighs at the spots that pass a test. They hold whatever points weigh.
use Rattle.std.proofs.Common.{◌≡◌, ℕ, ◌+◌, ◌<◌, ◌≤◌, Bool, true, false, List, [], ◌∷◌, ◌++◌, length, take, get_or, refl, sym, ◌∙◌, ap, arith}
use Rattle.std.proofs.lemmas.List.Sums.{sum_by-append, sum_by-cons, sum_by_push, sum_by-take-le}
use Rattle.std.proofs.lemmas.Grind.{take_at_read}
use Rattle.cube_view.specs.declared.spot.Spot.{Spot}
use Rattle.cube_view.specs.Points.{Point, spot_of, weight_of_point}
use Rattle.cube_view.specs.Bag.{anywhere, gives, amount}
use Rattle.cube_view.proofs.OneWeight.{one_if, weigh, split_one, less_one}

-- no point, no amount
pub amount-nil : (q : Spot → Bool) → amount q [] ≡ 0
unfolding amount
amount-nil q = refl

-- one point before a list
pub amount-cons : (q : Spot → Bool) (p : Point) (h : List Point) → amount q (p ∷ h) ≡ gives q p + amount q h
unfolding amount
amount-cons q p h = sum_by-cons (gives q) p h

-- one point behind a list
pub amount-push : (q : Spot → Bool) (h : List Point) (p : Point) → amount q (h ++ p ∷ []) ≡ amount q h + gives q p
unfolding amount
amount-push q h p = sum_by_push (gives q) h p

-- a list behind a list
pub amount-append : (q : Spot → Bool) (h k : List Point) → amount q (h ++ k) ≡ amount q h + amount q k
unfolding amount
amount-append q h k = sum_by-append (gives q) h k

-- one point more of a list that is gone through
pub amount-more : (q : Spot → Bool) (h : List Point) (i : ℕ) (d : Point) → i < length h → amount q (take (i + 1) h) ≡ amount q (take i h) + gives q (get_or h i d)
amount-more q h i d lt = ap (λ (l : List Point). amount q l) (take_at_read h i d lt).1 ∙ amount-push q (take i h) (get_or h i d)

-- a part has no more than the list
pub amount-take : (q : Spot → Bool) (h : List Point) (i : ℕ) → amount q (take i h) ≤ amount q h
unfolding amount
amount-take q h i = sum_by-take-le (gives q) h i

-- a point that passes adds its weight
pub gives-yes : (q : Spot → Bool) (p : Point) → q (spot_of p) ≡ true → gives q p ≡ weight_of_point p
gives-yes q p e = ap (λ (b : Bool). weigh b (weight_of_point p)) e

-- another point adds nothing
pub gives-no : (q : Spot → Bool) (p : Point) → q (spot_of p) ≡ false → gives q p ≡ 0
gives-no q p e = ap (λ (b : Bool). weigh b (weight_of_point p)) e

-- one point more that passes
pub amount-gain : (q : Spot → Bool) (h : List Point) (i : ℕ) (d : Point) → i < length h → q (spot_of (get_or h i d)) ≡ true → amount q (take (i + 1) h) ≡ amount q (take i h) + weight_of_point (get_or h i d)
amount-gain q h i d lt e = let a = amount-more q h i d lt in let g = gives-yes q (get_or h i d) e in omega (arith, a, g)

-- one point more that doesn't
pub amount-skip : (q : Spot → Bool) (h : List Point) (i : ℕ) (d : Point) → i < length h → q (spot_of (get_or h i d)) ≡ false → amount q (take (i + 1) h) ≡ amount q (take i h)
amount-skip q h i d lt e = let a = amount-more q h i d lt in let g = gives-no q (get_or h i d) e in omega (arith, a, g)

-- the spots that pass a test are shared by two others
pub amount-split : (p q r : Spot → Bool) → ((s : Spot) → one_if (p s) ≡ one_if (q s) + one_if (r s)) → (h : List Point) → amount p h ≡ amount q h + amount r h
amount-split p q r each [] = let a = amount-nil p in let b = amount-nil q in let c = amount-nil r in omega (arith, a, b, c)
amount-split p q r each (x ∷ h) =
    let rest = amount-split p q r each h in
    let a = amount-cons p x h in
    let b = amount-cons q x h in
    let c = amount-cons r x h in
    let one = split_one (p (spot_of x)) (q (spot_of x)) (r (spot_of x)) (weight_of_point x) (each (spot_of x)) in
    omega (arith, rest, a, b, c, one)

-- two tests that tell the same of each spot have the same amount
pub amount-same : (p q : Spot → Bool) → ((s : Spot) → p s ≡ q s) → (h : List Point) → amount p h ≡ amount q h
amount-same p q each [] = amount-nil p ∙ sym (amount-nil q)
amount-same p q each (x ∷ h) =
    let rest = amount-same p q each h in
    let a = amount-cons p x h in
    let b = amount-cons q x h in
    let one = ap (λ (c : Bool). weigh c (weight_of_point x)) (each (spot_of x)) in
    omega (arith, rest, a, b, one)

-- a test that passes fewer spots has no more
pub amount-less : (p q : Spot → Bool) → ((s : Spot) → p s ≡ true → q s ≡ true) → (h : List Point) → amount p h ≤ amount q h
amount-less p q each [] = let a = amount-nil p in let b = amount-nil q in omega (arith, a, b)
amount-less p q each (x ∷ h) =
    let rest = amount-less p q each h in
    let a = amount-cons p x h in
    let b = amount-cons q x h in
    let one = less_one (p (spot_of x)) (q (spot_of x)) (weight_of_point x) (each (spot_of x)) in
    omega (arith, rest, a, b, one)

-- and nothing where the other has nothing
pub none-less : (p q : Spot → Bool) → ((s : Spot) → p s ≡ true → q s ≡ true) → (h : List Point) → amount q h ≡ 0 → amount p h ≡ 0
none-less p q each h none = let le = amount-less p q each h in omega (arith, le, none)

-- no test passes more than all spots
pub amount-within : (p : Spot → Bool) (h : List Point) → amount p h ≤ amount anywhere h
amount-within p h = amount-less p anywhere (λ s e. refl) h

-- a list without weight has no amount
pub none-anywhere : (p : Spot → Bool) (h : List Point) → amount anywhere h ≡ 0 → 0 ≡ amount p h
none-anywhere p h none = let le = amount-within p h in omega (arith, le, none)

-- a test that no spot passes has no amount
pub amount-none : (p : Spot → Bool) → ((s : Spot) → p s ≡ false) → (h : List Point) → amount p h ≡ 0
amount-none p each [] = amount-nil p
amount-none p each (x ∷ h) =
    let rest = amount-none p each h in
    let a = amount-cons p x h in
    let one = gives-no p x (each (spot_of x)) in
    omega (arith, rest, a, one)
