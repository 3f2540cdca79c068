use Rattle.std.proofs.Common.{◌≡◌, ◌-◌}
use Rattle.cube_view.specs.Bag.{amount}
use Rattle.flat_view.specs.Kept.{flat_points, flat_schema}
use Rattle.window_cover.proofs.QuadrantShares.{is_window_under}
use Rattle.flat_tables.proofs.window.+total_inside.Given as goal

abbrev pub decreases-total_inside : goal.decreases-total_inside
decreases-total_inside g l = (flat_schema l.view.now).depth - l.tile.now.z

-- what the quadrants so far have
abbrev pub invariant-loop-label : goal.invariant-loop-label
invariant-loop-label g l = l.sum ≡ amount (is_window_under (flat_schema l.view).depth l.query l.rect l.tile l.label) (flat_points l.view)
