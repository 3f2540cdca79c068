use Rattle.std.proofs.Common.{sym, subst}
use Rattle.crew_feeder.specs.Leaving.{IsFeeding}
use Rattle.crew_feeder.proofs.WorkProgress.{begins}
use Rattle.crew_feeder.proofs.work.FeedWork.begun.Goals as goal

pub returns-clause-feeding : goal.returns-clause-feeding
returns-clause-feeding g c = subst (λ w. IsFeeding g.I.Source.left g.I.Source.faults w c.args.self.now) (sym c.of.ensures) (begins g.I.Source.left g.I.Source.faults c.args.self.now c.args.schema.now c.requires)
