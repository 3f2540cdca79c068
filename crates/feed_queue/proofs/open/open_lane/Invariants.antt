use Rattle.std.proofs.Common.{◌≡◌, []}
use Rattle.std.specs.Arc.{arc_value}
use Rattle.crossbeam_queue.specs.Passes.{view, IsPassOf}
use Rattle.feed_queue.specs.Ends.{new_feeds}
use Rattle.feed_queue.specs.Steps.{drawing}
use Rattle.feed_queue.specs.declared.line.View.TheVariants.{Draws}
use Rattle.feed_queue.proofs.open.open_lane.Given as goal

abbrev pub invariant-loop-made : goal.invariant-loop-made
invariant-loop-made l = IsPassOf (arc_value l.lane).line l.pass × (view l.pass ≡ Draws (drawing l.schema [] l.made [])) × (l.ends ≡ new_feeds l.pass.table_id l.schema l.made)
