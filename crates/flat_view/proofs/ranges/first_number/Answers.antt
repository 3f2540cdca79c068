use Rattle.std.proofs.Common.{arith}
use Rattle.flat_view.proofs.TileRanges.{number_of_tile, numbers_of_tile}
use Rattle.flat_view.proofs.ranges.first_number.Goals as goal

pub returns-clause-first : goal.returns-clause-first
returns-clause-first c = number_of_tile c.args.depth c.args.tile.now c.requires.depth c.requires.tile c.number.result c.tile_size.result c.number.ensures c.tile_size.ensures.size

pub overflow_mul-result : goal.overflow_mul-result
overflow_mul-result c = omega (arith, returns-clause-first c, numbers_of_tile c.args.depth c.args.tile.now c.requires.depth c.requires.tile)

pub returns-clause-small : goal.returns-clause-small
returns-clause-small c = omega (arith, returns-clause-first c, numbers_of_tile c.args.depth c.args.tile.now c.requires.depth c.requires.tile)
