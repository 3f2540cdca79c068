use Rattle.std.proofs.Common.{◌≡◌, ◌-◌, ◌++◌, map}
use Rattle.std.specs.List.{flat_map, range_with_len}
use Rattle.cube_view.specs.Places.{longer_tile}
use Rattle.window_cover.specs.Ways.{cover_below}
use Rattle.window_cover.proofs.largest.+add_inside.Given as goal

abbrev pub decreases-add_inside : goal.decreases-add_inside
decreases-add_inside l = l.depth - l.tile.now.z

-- the largest tiles of the quadrants so far
abbrev pub invariant-loop-label : goal.invariant-loop-label
invariant-loop-label l = l.tiles ≡ l.initial.tiles ++ flat_map (cover_below l.depth l.rect (l.depth - l.tile.z - 1)) (map (longer_tile 1 l.tile) (range_with_len 0 l.label))
