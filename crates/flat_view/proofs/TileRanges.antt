-- The numbers of a tile's points stand side by side.
use Rattle.std.proofs.Common.{◌≡◌, ℕ, zero, suc, ◌+◌, ◌-◌, ◌*◌, ◌^◌, ◌<◌, ◌≤◌, Bool, true, false, List, [], ◌∷◌, length, take, drop, get_or, refl, sym, ◌∙◌, ap, ⊎_elim, arith, eq-eqb}
use Rattle.std.specs.Prelude.{◌&&◌, ◌==◌, IsTrue}
use Rattle.std.proofs.Math.Dec.{ltb, leb}
use Rattle.std.specs.List.{AllWithin, filter}
use Rattle.std.specs.List.Sorted.{IsPartitionPoint}
use Rattle.query_syntax.specs.Tiles.{is_tile}
use Rattle.flat_view.specs.Ranges.{AreOfDepth}
use Rattle.std.proofs.Math.Nat.{mul-le-mul_right, div-mul-le_self}
use Rattle.std.proofs.lemmas.Nat.{pow-add}
use Rattle.std.proofs.lemmas.Bool.{and_parts, cases_lt, eqb-true, ltb-true, leb-true}
use Rattle.std.specs.Cmp.Derive.{both_true}
use Rattle.cube_view.specs.Places.{in_tile, shifted}
use Rattle.cube_view.specs.Points.{Point}
use Rattle.cube_view.specs.declared.address.Tile.{Tile}
use Rattle.flat_view.specs.Paths.{path_number, point_number}
use Rattle.flat_view.proofs.PathNumbers.{path_number-split, path_number-small, path_number-deeper, path_number-column, numbers-small}

-- the quotients are the same where one number is among those of the other's quotient
same_quotient : (q p n r : ℕ) → r < n → p * n ≤ q * n + r → q * n + r < p * n + n → q ≡ p
same_quotient q p n r lt from to = ⊎_elim
    (λ (less : q < p). absurd (
    let m : suc q * n ≤ p * n = mul-le-mul_right n (omega arith) in
    let s : suc q * n ≡ q * n + n = omega arith in
    omega (arith, m, s)))
    (λ (more : p ≤ q). ⊎_elim
    (λ (less : p < q). absurd (
    let m : suc p * n ≤ q * n = mul-le-mul_right n (omega arith) in
    let s : suc p * n ≡ p * n + n = omega arith in
    omega (arith, m, s)))
    (λ (same : q ≤ p). omega arith)
    (cases_lt p q))
    (cases_lt q p)

-- a column of so many levels, shifted to one of them
shifted_small : (depth z n : ℕ) → z ≤ depth → n < 2 ^ depth → shifted depth z n < 2 ^ z
shifted_small depth z n level lt = ⊎_elim (λ (less : shifted depth z n < 2 ^ z). less)
    (λ (more : 2 ^ z ≤ shifted depth z n). absurd (
    let m : 2 ^ z * 2 ^ (depth - z) ≤ shifted depth z n * 2 ^ (depth - z) = mul-le-mul_right (2 ^ (depth - z)) more in
    let d : shifted depth z n * 2 ^ (depth - z) ≤ n = div-mul-le_self n (2 ^ (depth - z)) in
    let e : z + (depth - z) ≡ depth = omega arith in
    let p : 2 ^ depth ≡ 2 ^ z * 2 ^ (depth - z) = ap (λ k. 2 ^ k) (sym e) ∙ pow-add 2 z (depth - z) in
    omega (arith, m, d, p)))
    (cases_lt (shifted depth z n) (2 ^ z))

module _ (depth z x y tx ty : ℕ) (deep : depth ≤ 20) (level : z ≤ depth) (lx : x < 2 ^ depth) (ly : y < 2 ^ depth) (ltx : tx < 2 ^ z) (lty : ty < 2 ^ z) where
  -- the number of a column and a row is that of its tile at the level, and of its place there
  number_parts : path_number 20 x y ≡ path_number z (shifted depth z x) (shifted depth z y) * 4 ^ (depth - z) + path_number (depth - z) x y
  number_parts =
      let e : depth - z + z ≡ depth = omega arith in
      let d : path_number 20 x y ≡ path_number depth x y = path_number-deeper depth 20 x y deep lx ly in
      let s = path_number-split (depth - z) z x y in
      let u : path_number (depth - z + z) x y ≡ path_number depth x y = ap (λ k. path_number k x y) e in
      omega (arith, d, s, u)

  -- in the tile its number is one of the tile's
  pub number_inside : shifted depth z x ≡ tx → shifted depth z y ≡ ty → (path_number z tx ty * 4 ^ (depth - z) ≤ path_number 20 x y) × (path_number 20 x y < path_number z tx ty * 4 ^ (depth - z) + 4 ^ (depth - z))
  number_inside ex ey =
      let n = number_parts in
      let small = path_number-small (depth - z) x y in
      let s : path_number z (shifted depth z x) (shifted depth z y) ≡ path_number z tx ty = cc in
      let m : path_number z (shifted depth z x) (shifted depth z y) * 4 ^ (depth - z) ≡ path_number z tx ty * 4 ^ (depth - z) = ap (λ k. k * 4 ^ (depth - z)) s in
      (omega (arith, n, small, m), omega (arith, n, small, m))

  -- and with such a number it is in the tile
  pub inside_number : path_number z tx ty * 4 ^ (depth - z) ≤ path_number 20 x y → path_number 20 x y < path_number z tx ty * 4 ^ (depth - z) + 4 ^ (depth - z) → (shifted depth z x ≡ tx) × (shifted depth z y ≡ ty)
  inside_number from to =
      let n = number_parts in
      let small = path_number-small (depth - z) x y in
      let same : path_number z (shifted depth z x) (shifted depth z y) ≡ path_number z tx ty =
      same_quotient _ _ (4 ^ (depth - z)) (path_number (depth - z) x y) small (omega (arith, n, from)) (omega (arith, n, to)) in
      path_number-column z _ _ tx ty (shifted_small depth z x level lx) (shifted_small depth z y level ly) ltx lty same

-- what stands from one place on, under another, is what passes a test where the test holds just there
pub range_filter : {X : Type 0} (test : X → Bool) (xs : List X) (i k : ℕ) → i + k ≤ length xs → AllWithin (λ x. test x ≡ false) xs 0 i → AllWithin (λ x. test x ≡ true) xs i (i + k) → AllWithin (λ x. test x ≡ false) xs (i + k) (length xs) → take k (drop i xs) ≡ filter test xs
range_filter test [] zero zero le below inside above = refl
range_filter test [] zero (suc k) le below inside above = refl
range_filter test [] (suc i) k le below inside above = absurd (omega arith)
range_filter test (x ∷ xs) (suc i) k le below inside above =
    let no : test x ≡ false = below 0 x (omega arith) (omega arith) in
    rw no (range_filter test xs i k (omega arith)
    (λ j d low high. below (suc j) d (omega arith) (omega arith))
    (λ j d low high. inside (suc j) d (omega arith) (omega arith))
    (λ j d low high. above (suc j) d (omega arith) (omega arith)))
range_filter test (x ∷ xs) zero (suc k) le below inside above =
    let yes : test x ≡ true = inside 0 x (omega arith) (omega arith) in
    rw yes (ap (λ l. x ∷ l) (range_filter test xs zero k (omega arith)
    (λ j d low high. absurd (omega arith))
    (λ j d low high. inside (suc j) d (omega arith) (omega arith))
    (λ j d low high. above (suc j) d (omega arith) (omega arith))))
range_filter test (x ∷ xs) zero zero le below inside above =
    let no : test x ≡ false = above 0 x (omega arith) (omega arith) in
    rw no (range_filter test xs zero zero (omega arith)
    (λ j d low high. absurd (omega arith))
    (λ j d low high. absurd (omega arith))
    (λ j d low high. above (suc j) d (omega arith) (omega arith)))

-- what two tests of numbers say together
both_equal : (a b c d : ℕ) → ((a == b) && (c == d)) ≡ true → (a ≡ b) × (c ≡ d)
both_equal a b c d e = let p = and_parts (a == b) (c == d) e in (eqb-true a b p.0, eqb-true c d p.1)

-- a test that cannot hold
refuted : (b : Bool) → (b ≡ true → ⊥) → b ≡ false
refuted true h = absurd (h refl)
refuted false h = refl

-- the parts of a tile of a depth
pub record TileParts (depth : ℕ) (t : Tile) : Type 0 where
  pub level : t.z ≤ depth
  pub column : t.x < 2 ^ t.z
  pub row : t.y < 2 ^ t.z

pub tile_parts : (depth : ℕ) (t : Tile) → IsTrue (is_tile depth t) → TileParts depth t
tile_parts depth t is =
    let two = and_parts (leb t.z depth && ltb t.x (2 ^ t.z)) (ltb t.y (2 ^ t.z)) is in
    let one = and_parts (leb t.z depth) (ltb t.x (2 ^ t.z)) two.0 in
    record { level = leb-true _ _ one.0; column = ltb-true _ _ one.1; row = ltb-true _ _ two.1 }

module _ (depth : ℕ) (t : Tile) (deep : depth ≤ 20) (is : IsTrue (is_tile depth t)) where
  -- the first number of a tile, by its number among those of its level
  pub number_of_tile : (number size : ℕ) → number ≡ path_number 20 t.x t.y → size ≡ 4 ^ (depth - t.z) → number * size ≡ path_number t.z t.x t.y * 4 ^ (depth - t.z)
  number_of_tile number size number_is size_is =
      let parts = tile_parts depth t is in
      let few : t.z ≤ 20 = omega (arith, parts.level) in
      let n : number ≡ path_number t.z t.x t.y = number_is ∙ path_number-deeper t.z 20 t.x t.y few parts.column parts.row in
      cc

  -- which is small
  pub numbers_of_tile : path_number t.z t.x t.y * 4 ^ (depth - t.z) < 1099511627776
  numbers_of_tile =
      let parts = tile_parts depth t is in
      let few : t.z + (depth - t.z) ≤ 20 = omega (arith, parts.level) in
      numbers-small t.z (depth - t.z) t.x t.y few

-- a point, for what is said of a place of any list
some_point : Point
some_point = record { spot = record { x = 0; y = 0; values = 0 ∷ 0 ∷ 0 ∷ 0 ∷ []; bin = 0 }; weight = 0 }

module _ (depth : ℕ) (t : Tile) (points : List Point) (deep : depth ≤ 20) (is : IsTrue (is_tile depth t)) (fit : AreOfDepth depth points) where
  module _ (first size : ℕ) (first_is : first ≡ path_number t.z t.x t.y * 4 ^ (depth - t.z)) (size_is : size ≡ 4 ^ (depth - t.z)) where
    module _ (from to : ℕ) (below : IsPartitionPoint (λ p. point_number p < first) (λ p. first ≤ point_number p) points from) (under : IsPartitionPoint (λ p. point_number p < first + size) (λ p. first + size ≤ point_number p) points to) (within : from ≤ length points) (inside : to ≤ length points) where
      -- the places of the tile's points are in order
      pub range_rises : from ≤ to
      range_rises = ⊎_elim
          (λ (less : to < from). absurd (
          let low = below.0 to some_point (omega arith) less in
          let high = under.1 to some_point (omega arith) (omega arith) in
          omega (arith, low, high)))
          (λ (le : from ≤ to). le)
          (cases_lt to from)

      level : t.z ≤ depth
      level = (tile_parts depth t is).level

      column : t.x < 2 ^ t.z
      column = (tile_parts depth t is).column

      row : t.y < 2 ^ t.z
      row = (tile_parts depth t is).row

      -- a point in the tile has a number of the tile
      number_in : (p : Point) → p.spot.x < 2 ^ depth → p.spot.y < 2 ^ depth → in_tile depth t p.spot ≡ true → (first ≤ point_number p) × (point_number p < first + size)
      number_in p lx ly e =
          let b = both_equal (shifted depth t.z p.spot.x) t.x (shifted depth t.z p.spot.y) t.y e in
          let n = number_inside depth t.z p.spot.x p.spot.y t.x t.y deep level lx ly column row b.0 b.1 in
          (omega (arith, first_is, n.0), omega (arith, first_is, size_is, n.1))

      -- and with such a number it is in the tile
      in_number : (p : Point) → p.spot.x < 2 ^ depth → p.spot.y < 2 ^ depth → first ≤ point_number p → point_number p < first + size → in_tile depth t p.spot ≡ true
      in_number p lx ly low high =
          let b = inside_number depth t.z p.spot.x p.spot.y t.x t.y deep level lx ly column row (omega (arith, first_is, low)) (omega (arith, first_is, size_is, high)) in
          both_true (eq-eqb _ _ b.0) (eq-eqb _ _ b.1)

      -- the range's points stand there
      pub range_points : take (to - from) (drop from points) ≡ filter (λ p. in_tile depth t p.spot) points
      range_points =
          let up = range_rises in
          let e : from + (to - from) ≡ to = omega arith in
          range_filter (λ p. in_tile depth t p.spot) points from (to - from) (omega arith)
          (λ j d low high. refuted (in_tile depth t (get_or points j d).spot) (λ is_in.
          let lt : j < length points = omega arith in
          let b = number_in (get_or points j d) (fit j d lt).0 (fit j d lt).1 is_in in
          let u = below.0 j d (omega arith) (omega arith) in
          omega (arith, b.0, u)))
          (λ j d low high.
          let lt : j < length points = omega arith in
          in_number (get_or points j d) (fit j d lt).0 (fit j d lt).1 (below.1 j d (omega arith) lt) (under.0 j d (omega arith) (omega arith)))
          (λ j d low high. refuted (in_tile depth t (get_or points j d).spot) (λ is_in.
          let b = number_in (get_or points j d) (fit j d high).0 (fit j d high).1 is_in in
          let u = under.1 j d (omega arith) high in
          omega (arith, b.1, u)))
