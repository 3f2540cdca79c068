-- The tiles below a tile come in a rising order, so none of them comes twice.
use Rattle.std.proofs.Common.{◌≡◌, ℕ, zero, suc, ◌+◌, ◌*◌, ◌/◌, ◌%◌, ◌<◌, ◌≤◌, Bool, true, false, List, [], ◌∷◌, ◌∙◌, ap, arith}
use Rattle.std.specs.Prelude.{◌==◌, filter, if◌then◌else◌}
use Rattle.std.specs.List.{flat_map}
use Rattle.std.proofs.lemmas.Bool.{and_parts, eqb-true, false_from_ne_true}
use Rattle.cube_view.specs.Places.{longer_tile, tile_within}
use Rattle.cube_view.specs.declared.address.Tile.{Tile}
use Rattle.query_syntax.specs.TileOrder.{quadrants, tiles_of_level, tiles_below}
use Rattle.reply_sums.specs.Areas.{same_tile}

-- the number that a column and a row make, a digit of base 4 for each level
pub number_of : ℕ → ℕ → ℕ → ℕ
number_of zero x y = 0
number_of (suc z) x y = 4 * number_of z (x / 2) (y / 2) + (2 * (y % 2) + x % 2)

-- a tile's number among those of its level in path order
pub number : Tile → ℕ
number t = number_of t.z t.x t.y

number-quadrant : (t : Tile) (l : ℕ) → l < 4 → number (longer_tile 1 t l) ≡ 4 * number t + l
unfolding number number_of
number-quadrant t l lt =
    let z : t.z + 1 ≡ suc t.z = omega arith in
    let x : (2 * t.x + l % 2) / 2 ≡ t.x = omega arith in
    let y : (2 * t.y + l / 2) / 2 ≡ t.y = omega (arith, lt) in
    let bit : 2 * ((2 * t.y + l / 2) % 2) + (2 * t.x + l % 2) % 2 ≡ l = omega (arith, lt) in
    ap (λ n. number_of n (2 * t.x + l % 2) (2 * t.y + l / 2)) z ∙ (λ i. 4 * number_of t.z (x i) (y i) + bit i)

-- one tile has one number
number-same : (t u : Tile) → same_tile t u ≡ true → number t ≡ number u
unfolding number
number-same t u same =
    let parts = and_parts _ (t.y == u.y) same in
    let first = and_parts (t.z == u.z) _ parts.0 in
    let z = eqb-true t.z u.z first.0 in
    let x = eqb-true t.x u.x first.1 in
    let y = eqb-true t.y u.y parts.1 in
    λ i. number_of (z i) (x i) (y i)

-- the tiles have numbers from this one on
abbrev pub from_on : ℕ → List Tile → Type 0
from_on n [] = Unit {0}
from_on n (t ∷ ts) = (n ≤ number t) × from_on n ts

-- each tile has a lesser number than those after it
abbrev pub rising : List Tile → Type 0
rising [] = Unit {0}
rising (t ∷ ts) = from_on (number t + 1) ts × rising ts

from_on-quadrants : (n m : ℕ) (ts : List Tile) → m ≤ 4 * n → from_on n ts → from_on m (flat_map quadrants ts)
from_on-quadrants n m [] le all = tt
from_on-quadrants n m (t ∷ ts) le (here, rest) =
    let q0 = number-quadrant t 0 (omega arith) in
    let q1 = number-quadrant t 1 (omega arith) in
    let q2 = number-quadrant t 2 (omega arith) in
    let q3 = number-quadrant t 3 (omega arith) in
    (omega (arith, le, here, q0), (omega (arith, le, here, q1), (omega (arith, le, here, q2), (omega (arith, le, here, q3), from_on-quadrants n m ts le rest))))

rising-quadrants : (ts : List Tile) → rising ts → rising (flat_map quadrants ts)
rising-quadrants [] all = tt
rising-quadrants (t ∷ ts) (above, rest) =
    let q0 = number-quadrant t 0 (omega arith) in
    let q1 = number-quadrant t 1 (omega arith) in
    let q2 = number-quadrant t 2 (omega arith) in
    let q3 = number-quadrant t 3 (omega arith) in
    let later : (m : ℕ) → m ≤ 4 * (number t + 1) → from_on m (flat_map quadrants ts) = λ m le. from_on-quadrants (number t + 1) m ts le above in (
      (omega (arith, q0, q1), (omega (arith, q0, q2), (omega (arith, q0, q3), later (number (longer_tile 1 t 0) + 1) (omega (arith, q0))))),
      (
        (omega (arith, q1, q2), (omega (arith, q1, q3), later (number (longer_tile 1 t 1) + 1) (omega (arith, q1)))),
        (
          (omega (arith, q2, q3), later (number (longer_tile 1 t 2) + 1) (omega (arith, q2))),
          (
            later (number (longer_tile 1 t 3) + 1) (omega (arith, q3)),
            rising-quadrants ts rest,
          ),
        ),
      ),
    )

rising-level : (z : ℕ) → rising (tiles_of_level z)
rising-level zero = (tt, tt)
rising-level (suc z) = rising-quadrants (tiles_of_level z) (rising-level z)

module _ (p : Tile → Bool) where
  from_on-kept : (b : Bool) (n : ℕ) (t : Tile) (ts : List Tile) → n ≤ number t → from_on n ts → from_on n (if b then t ∷ ts else ts)
  from_on-kept true n t ts here rest = (here, rest)
  from_on-kept false n t ts here rest = rest

  from_on-filter : (n : ℕ) (ts : List Tile) → from_on n ts → from_on n (filter p ts)
  from_on-filter n [] all = tt
  from_on-filter n (t ∷ ts) (here, rest) = from_on-kept (p t) n t (filter p ts) here (from_on-filter n ts rest)

  rising-kept : (b : Bool) (t : Tile) (ts : List Tile) → from_on (number t + 1) ts → rising ts → rising (if b then t ∷ ts else ts)
  rising-kept true t ts above rest = (above, rest)
  rising-kept false t ts above rest = rest

  rising-filter : (ts : List Tile) → rising ts → rising (filter p ts)
  rising-filter [] all = tt
  rising-filter (t ∷ ts) (above, rest) = rising-kept (p t) t (filter p ts) (from_on-filter (number t + 1) ts above) (rising-filter ts rest)

-- the tiles below a tile rise
pub rising-below : (levels : ℕ) (t : Tile) → rising (tiles_below levels t)
rising-below levels t = rising-filter (tile_within t) (tiles_of_level (t.z + levels)) (rising-level (t.z + levels))

-- a tile of a lesser number than these is none of them
abbrev pub apart : Tile → List Tile → Type 0
apart t [] = Unit {0}
apart t (u ∷ us) = (same_tile t u ≡ false) × apart t us

apart-above : (t : Tile) (us : List Tile) → from_on (number t + 1) us → apart t us
apart-above t [] all = tt
apart-above t (u ∷ us) (here, rest) = (false_from_ne_true (same_tile t u) (λ e. let n = number-same t u e in omega (arith, n, here)), apart-above t us rest)

-- no tile of the list comes twice
abbrev pub once_each : List Tile → Type 0
once_each [] = Unit {0}
once_each (t ∷ ts) = apart t ts × once_each ts

once-rising : (ts : List Tile) → rising ts → once_each ts
once-rising [] all = tt
once-rising (t ∷ ts) (above, rest) = (apart-above t ts above, once-rising ts rest)

pub once-below : (levels : ℕ) (t : Tile) → once_each (tiles_below levels t)
once-below levels t = once-rising (tiles_below levels t) (rising-below levels t)
