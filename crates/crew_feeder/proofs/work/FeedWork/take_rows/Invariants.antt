use Rattle.std.proofs.Common.{◌-◌}
use Rattle.outer_io.specs.Lines.{input_limit}
use Rattle.crew_feeder.specs.Leaving.{IsFeeding}
use Rattle.crew_feeder.proofs.work.FeedWork.take_rows.Given as goal

abbrev pub invariant-rows : goal.invariant-rows
invariant-rows g l = IsFeeding g.I.Source.left g.I.Source.faults l.start.value l.self

abbrev pub decreases-rows : goal.decreases-rows
decreases-rows g l = input_limit - l.self.cutter.given
