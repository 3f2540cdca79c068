use Rattle.std.proofs.Common.{◌-◌}
use Rattle.outer_io.specs.Lines.{input_limit}
use Rattle.flat_run.proofs.FeedReads.{GoesOn}
use Rattle.flat_run.proofs.reading.push_feed.Given as goal

abbrev pub invariant-loop-row : goal.invariant-loop-row
invariant-loop-row g l = GoesOn g.S.Source.left g.S.Source.faults l.schema l.initial.feed l.initial.points.items l.feed l.points.items

abbrev pub decreases-loop-row : goal.decreases-loop-row
decreases-loop-row g l = input_limit - l.feed.cutter.given
