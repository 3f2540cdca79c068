use Rattle.std.proofs.Common.{arith}
use Rattle.window_cover.proofs.Quadrants.{tile_numbers}
use Rattle.window_cover.proofs.Sides.{begins_fit, ends_fit}
use Rattle.window_cover.proofs.rect.rect_of_tile.Goals as goal

pub overflow_mul-result : goal.overflow_mul-result
overflow_mul-result c =
    let n = tile_numbers c.args.depth c.args.tile.now c.requires.tile in
    let f = begins_fit c.args.depth c.args.tile.now.z c.args.tile.now.x c.requires.depth n.0 n.1 in
    omega (arith, f)

pub overflow_mul-result-2 : goal.overflow_mul-result-2
overflow_mul-result-2 c =
    let n = tile_numbers c.args.depth c.args.tile.now c.requires.tile in
    let f = begins_fit c.args.depth c.args.tile.now.z c.args.tile.now.y c.requires.depth n.0 n.2 in
    omega (arith, f)

pub overflow_mul-result-3 : goal.overflow_mul-result-3
overflow_mul-result-3 c =
    let n = tile_numbers c.args.depth c.args.tile.now c.requires.tile in
    let f = ends_fit c.args.depth c.args.tile.now.z c.args.tile.now.x c.requires.depth n.0 n.1 in
    omega (arith, f)

pub overflow_mul-result-4 : goal.overflow_mul-result-4
overflow_mul-result-4 c =
    let n = tile_numbers c.args.depth c.args.tile.now c.requires.tile in
    let f = ends_fit c.args.depth c.args.tile.now.z c.args.tile.now.y c.requires.depth n.0 n.2 in
    omega (arith, f)
