use Rattle.crew_feeder.specs.Leaving.{IsFeeding}
use Rattle.crew_feeder.proofs.work.FeedWork.take_some.Given as goal

abbrev pub invariant-loop : goal.invariant-loop
invariant-loop g l = IsFeeding g.I.Source.left g.I.Source.faults l.start.value l.self
