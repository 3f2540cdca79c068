use Rattle.std.proofs.Common.{◌-◌}
use Rattle.outer_io.specs.Lines.{input_limit}
use Rattle.save_run.proofs.FeedReads.{GoesOn}
use Rattle.save_run.proofs.taking.take_feed.Given as goal

abbrev pub invariant-loop-tally : goal.invariant-loop-tally
invariant-loop-tally g l = GoesOn g.S.Source.left g.S.Source.faults l.initial.feed l.initial.grouped l.feed l.grouped l.tally

abbrev pub decreases-loop-tally : goal.decreases-loop-tally
decreases-loop-tally g l = input_limit - l.feed.cutter.given
