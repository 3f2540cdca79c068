use Rattle.std.proofs.Common.{sym, subst}
use Rattle.crew_feeder.specs.Taking.{IsReady}
use Rattle.crew_feeder.proofs.work.FeedWork.take_rows.Goals as goal

pub take_next-requires-clause-ready : goal.take_next-requires-clause-ready
take_next-requires-clause-ready g c = subst (IsReady c.args.schema.now) (sym c.begun-start.ensures.value) c.requires
