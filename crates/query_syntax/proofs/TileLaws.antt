-- Laws of the tiles inside a tile.
use Rattle.std.proofs.Common.{◌≡◌, ℕ, zero, suc, ◌+◌, ◌<◌, ◌^◌, refl, sym, ◌∙◌, ap, arith, add-suc, add-zero}
use Rattle.std.specs.Prelude.{filter}
use Rattle.std.specs.List.{flat_map}
use Rattle.cube_view.specs.Places.{tile_within}
use Rattle.cube_view.specs.declared.address.Tile.{Tile}
use Rattle.query_syntax.specs.TileOrder.{quadrants, tiles_of_level, tiles_below, tiles_inside}
use Rattle.query_syntax.proofs.TilesInside.{filter_deeper, inside_deeper, levels, own_level}

-- the tiles so many levels below a tile are those that the way down from it comes to, in the same order
pub all_inside : (r : Tile) → r.x < 2 ^ r.z → r.y < 2 ^ r.z → (n : ℕ) → tiles_below n r ≡ tiles_inside n r
all_inside r x_lt y_lt zero = ap (λ (k : ℕ). filter (tile_within r) (tiles_of_level k)) (add-zero r.z) ∙ own_level r.z r refl x_lt y_lt
all_inside r x_lt y_lt (suc n) =
    ap (λ (k : ℕ). filter (tile_within r) (tiles_of_level k)) (add-suc r.z n)
    ∙ (filter_deeper r (r.z + n) (tiles_of_level (r.z + n)) (omega arith) (levels (r.z + n))
    ∙ (ap (flat_map quadrants) (all_inside r x_lt y_lt n) ∙ sym (inside_deeper n r)))
