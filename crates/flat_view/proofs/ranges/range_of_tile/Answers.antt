-- The two searches find where the numbers of the tile begin and end.
use Rattle.flat_view.proofs.TileRanges.{range_rises, range_points}
use Rattle.flat_view.proofs.ranges.range_of_tile.Goals as goal

pub returns-clause-within : goal.returns-clause-within
returns-clause-within c =
    let low = c.count_under-from.ensures in
    let high = c.count_under-to.ensures in
    (range_rises c.args.depth c.args.tile.now c.args.points.now c.requires.depth c.requires.tile c.requires.fits c.first_number-first.result c.tile_size.result c.first_number-first.ensures.first c.tile_size.ensures.size c.count_under-from.result c.count_under-to.result low.point high.point low.bound high.bound, high.bound)

pub returns-clause-points : goal.returns-clause-points
returns-clause-points c =
    let low = c.count_under-from.ensures in
    let high = c.count_under-to.ensures in
    range_points c.args.depth c.args.tile.now c.args.points.now c.requires.depth c.requires.tile c.requires.fits c.first_number-first.result c.tile_size.result c.first_number-first.ensures.first c.tile_size.ensures.size c.count_under-from.result c.count_under-to.result low.point high.point low.bound high.bound
