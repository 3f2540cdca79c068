-- Totals over a part of a list of points.
use Rattle.std.proofs.Common.{◌≡◌, ℕ, ◌+◌, ◌^◌, ◌<◌, ◌≤◌, Bool, true, false, ◌&&◌, cond, List, [], ◌∷◌, ◌++◌, length, refl, sym, ◌∙◌, ap, arith}
use Rattle.std.specs.List.{All, filter}
use Rattle.std.specs.Prelude.{IsTrue}
use Rattle.cube_view.specs.Bag.{amount, anywhere, gives, most_points}
use Rattle.cube_view.specs.Points.{Point}
use Rattle.cube_view.specs.Validity.{sound}
use Rattle.cube_view.specs.declared.schema.Schema.{Schema}
use Rattle.cube_view.specs.declared.spot.Spot.{Spot}
use Rattle.cube_view.proofs.Amounts.{amount-append, amount-nil, amount-cons, amount-within}
use Rattle.cube_view.proofs.PointWeights.{amount-most}
use Rattle.query_syntax.specs.Boxes.{Box, inside, total}

-- a point before a list, of which the same holds already
filter_step : (t q : Spot → Bool) (p : Point) (h rest : List Point) → amount q rest ≡ amount (λ s. t s && q s) h → (b : Bool) → t p.spot ≡ b → amount q (cond b (p ∷ rest) rest) ≡ amount (λ s. t s && q s) (p ∷ h)
filter_step t q p h rest same true e =
    let a = amount-cons q p rest in
    let b = amount-cons (λ s. t s && q s) p h in
    let g : gives (λ s. t s && q s) p ≡ gives q p = ap (λ c. cond (c && q p.spot) p.weight 0) e in
    omega (arith, a, b, g, same)
filter_step t q p h rest same false e =
    let b = amount-cons (λ s. t s && q s) p h in
    let g : gives (λ s. t s && q s) p ≡ 0 = ap (λ c. cond (c && q p.spot) p.weight 0) e in
    omega (arith, b, g, same)

-- a total over the points that pass a test is that of the spots that pass both
pub amount-filter : (t q : Spot → Bool) (h : List Point) → amount q (filter (λ p. t p.spot) h) ≡ amount (λ s. t s && q s) h
amount-filter t q [] = amount-nil q ∙ sym (amount-nil (λ s. t s && q s))
amount-filter t q (p ∷ h) = filter_step t q p h (filter (λ p. t p.spot) h) (amount-filter t q h) (t p.spot) refl

-- sound points, not too many, weigh little
pub weigh_little : (z : Schema) (h : List Point) → All (λ p. IsTrue (sound z p)) h → length h ≤ most_points → amount anywhere h < 2 ^ 63
weigh_little z h all few = omega (arith, amount-most z h all, few)

-- and so do those of them that pass a test
pub part_weighs_little : (z : Schema) (t : Spot → Bool) (h : List Point) → All (λ p. IsTrue (sound z p)) h → length h ≤ most_points → amount anywhere (filter (λ p. t p.spot) h) < 2 ^ 63
part_weighs_little z t h all few =
    let w = weigh_little z h all few in
    let f = amount-filter t anywhere h in
    let le = amount-within (λ s. t s && anywhere s) h in
    omega (arith, w, f, le)

module _ (points front back : List Point) (is : points ≡ front ++ back) where
  -- two parts of a list have together what it has
  pub parts_have : (q : Spot → Bool) (a b : ℕ) → a ≡ amount q front → b ≡ amount q back → a + b ≡ amount q points
  parts_have q a b ea eb =
      let e = amount-append q front back in
      let all : amount q points ≡ amount q (front ++ back) = ap (amount q) is in
      omega (arith, e, all, ea, eb)

  -- also in a box
  pub parts_total : (z : Schema) (b : Box) (m n : ℕ) → m ≡ total z b front → n ≡ total z b back → m + n ≡ total z b points
  unfolding total
  parts_total z b m n em en = parts_have (inside z b) m n em en

  -- and each weighs no more
  pub parts_light : amount anywhere points < 2 ^ 64 → (amount anywhere front < 2 ^ 64) × (amount anywhere back < 2 ^ 64)
  parts_light light =
      let e = parts_have anywhere (amount anywhere front) (amount anywhere back) refl refl in
      (omega (arith, e, light), omega (arith, e, light))

  -- so that the sum has room
  pub parts_room : amount anywhere points < 2 ^ 64 → (q : Spot → Bool) (a b : ℕ) → a ≡ amount q front → b ≡ amount q back → a + b < 2 ^ 64
  parts_room light q a b ea eb =
      let e = parts_have q a b ea eb in
      let le = amount-within q points in
      omega (arith, e, le, light)

  pub parts_room_box : amount anywhere points < 2 ^ 64 → (z : Schema) (b : Box) (m n : ℕ) → m ≡ total z b front → n ≡ total z b back → m + n < 2 ^ 64
  unfolding total
  parts_room_box light z b m n em en = parts_room light (inside z b) m n em en
