-- The rows of a map, read off the totals of a square of tiles, are those of its definition.
use Rattle.std.proofs.Common.{◌≡◌, ℕ, zero, suc, ◌+◌, ◌*◌, ◌/◌, ◌%◌, ◌^◌, ◌<◌, ◌≤◌, cond, eqb, List, [], ◌∷◌, ◌++◌, refl, sym, ◌∙◌, ap, arith}
use Rattle.std.specs.Prelude.{Option, Some, None}
use Rattle.std.specs.List.{filter_map}
use Rattle.std.proofs.lemmas.List.Elements.{filter_map-append}
use Rattle.std.proofs.lemmas.Nat.{div-add-mod', div-mul-add, mod-mul-add, mod_below, mul-add-lt, one_shl, pow-add, pow_pos, shr-shr}
use Rattle.cube_view.proofs.LevelShifts.{by_one}
use Rattle.cube_view.specs.Places.{longer_tile}
use Rattle.cube_view.specs.Points.{Point}
use Rattle.cube_view.specs.declared.address.Tile.{Tile}
use Rattle.cube_view.specs.declared.schema.Schema.{Schema}
use Rattle.list_tables.specs.Areas.{area_in, square_total}
use Rattle.list_tables.specs.Cells.{place_in_square, tile_at_place}
use Rattle.list_tables.specs.Totals.{AreRowSums}
use Rattle.list_tables.specs.declared.areas.Square.{Square}
use Rattle.list_tables.specs.declared.cells.Cells.TheVariants.{Tiles}
use Rattle.query_syntax.specs.Boxes.{box, total}
use Rattle.query_syntax.specs.Narrowing.{with_tile}
use Rattle.query_syntax.specs.Tables.{area_row}
use Rattle.query_syntax.specs.TileOrder.{tiles_inside}
use Rattle.query_syntax.specs.declared.query.Query.{Query}
use Rattle.query_syntax.specs.declared.table.RowOut.{RowOut}

-- a number of a quadrant, halved, is its tile's
half_up : (n k x b : ℕ) → b < 2 → n / 2 ^ k ≡ 2 * x + b → n / 2 ^ (k + 1) ≡ x
half_up n k x b lt e =
    let h : (2 * x + b) / 2 ^ 1 ≡ x = omega (arith, lt) in
    sym (shr-shr n k 1) ∙ (ap (λ m. m / 2 ^ 1) e ∙ h)

-- two rows that are the same for each tile inside a tile
module _ (f g : Tile → Option RowOut) where
  abbrev Same : ℕ → Tile → Type 0
  Same n t = (u : Tile) → u.z ≡ t.z + n → u.x / 2 ^ n ≡ t.x → u.y / 2 ^ n ≡ t.y → f u ≡ g u

  below : (n : ℕ) (t : Tile) (l : ℕ) → l < 4 → Same (suc n) t → Same n (longer_tile 1 t l)
  below n t l lt same u level x y =
      let e : n + 1 ≡ suc n = omega arith in
      same u (omega (arith, level))
      (ap (λ k. u.x / 2 ^ k) (sym e) ∙ half_up u.x n t.x (l % 2) (omega arith) x)
      (ap (λ k. u.y / 2 ^ k) (sym e) ∙ half_up u.y n t.y (l / 2) (omega (arith, lt)) y)

  two : (xs ys : List Tile) → filter_map f xs ≡ filter_map g xs → filter_map f ys ≡ filter_map g ys → filter_map f (xs ++ ys) ≡ filter_map g (xs ++ ys)
  two xs ys ex ey = filter_map-append f xs ys ∙ ((λ i. ex i ++ ey i) ∙ sym (filter_map-append g xs ys))

  pub same_inside : (n : ℕ) (t : Tile) → Same n t → filter_map f (tiles_inside n t) ≡ filter_map g (tiles_inside n t)
  same_inside zero t same =
      let here : f t ≡ g t = same t (omega arith) (by_one t.x) (by_one t.y) in
      ap (λ (row : Option RowOut). filter_map (λ (u : Tile). row) (t ∷ [])) here
  same_inside (suc n) t same =
      two (tiles_inside n (longer_tile 1 t 0)) _ (same_inside n (longer_tile 1 t 0) (below n t 0 (omega arith) same))
      (two (tiles_inside n (longer_tile 1 t 1)) _ (same_inside n (longer_tile 1 t 1) (below n t 1 (omega arith) same))
      (two (tiles_inside n (longer_tile 1 t 2)) _ (same_inside n (longer_tile 1 t 2) (below n t 2 (omega arith) same))
      (two (tiles_inside n (longer_tile 1 t 3)) [] (same_inside n (longer_tile 1 t 3) (below n t 3 (omega arith) same)) refl)))

-- the place of a tile of the square is that of no other
place_of : (t u : Tile) (levels : ℕ) → u.z ≡ t.z + levels → u.x / 2 ^ levels ≡ t.x → u.y / 2 ^ levels ≡ t.y → tile_at_place t levels (place_in_square levels u.x u.y) ≡ u
place_of t u levels level x y =
    let w = 2 ^ levels in
    let low = mod_below u.x w (pow_pos levels) in
    let ex : t.x * w + place_in_square levels u.x u.y % w ≡ u.x = (λ j. sym x j * w + mod-mul-add (u.y % w) w (u.x % w) low j) ∙ div-add-mod' u.x w in
    let ey : t.y * w + place_in_square levels u.x u.y / w ≡ u.y = (λ j. sym y j * w + div-mul-add (u.y % w) w (u.x % w) low j) ∙ div-add-mod' u.y w in
    λ i. record { z = sym level i; x = ex i; y = ey i }

pub place_small : (levels x y : ℕ) → place_in_square levels x y < 2 ^ levels * 2 ^ levels
place_small levels x y = let w = 2 ^ levels in mul-add-lt (y % w) w (x % w) w (mod_below y w (pow_pos levels)) (mod_below x w (pow_pos levels))

-- so many tiles a square has
pub square_count : (levels : ℕ) → levels ≤ 10 → 1 * 2 ^ (2 * levels) % 2 ^ 64 ≡ 2 ^ levels * 2 ^ levels
square_count levels few =
    let two : 2 * levels ≡ levels + levels = omega arith in
    one_shl (2 * levels) 64 (omega (arith, few)) ∙ (ap (λ n. 2 ^ n) two ∙ pow-add 2 levels levels)

module _ (z : Schema) (q : Query) (h : List Point) (square : Square) (totals : AreRowSums z q (Tiles square.levels) (2 ^ square.levels * 2 ^ square.levels) h square.totals) where
  total_is : (u : Tile) → u.z ≡ q.region.z + square.levels → u.x / 2 ^ square.levels ≡ q.region.x → u.y / 2 ^ square.levels ≡ q.region.y → square_total square u ≡ total z (with_tile (box q) u) h
  total_is u level x y =
      totals.each (place_in_square square.levels u.x u.y) (place_small square.levels u.x u.y)
      ∙ ap (λ (t : Tile). total z (with_tile (box q) t) h) (place_of q.region u square.levels level x y)

  pub rows_are : filter_map (area_in square) (tiles_inside square.levels q.region) ≡ filter_map (area_row z q h) (tiles_inside square.levels q.region)
  rows_are = same_inside (area_in square) (area_row z q h) square.levels q.region
      (λ u level x y. ap (λ n. cond (eqb n 0) None (Some (RowOut.Area u n))) (total_is u level x y))
