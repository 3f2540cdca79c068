use Rattle.std.proofs.Common.{true, sym, subst}
use Rattle.std.proofs.lemmas.Bool.{MatchBool-at_true, MatchBool-at_false}
use Rattle.crew_feeder.specs.Leaving.{HasFed}
use Rattle.crew_feeder.specs.Taking.{IsReady}
use Rattle.cube_crew.proofs.turns.run_feeder.Goals as goal

pub run_some-ended-requires-clause-ready : goal.run_some-ended-requires-clause-ready
run_some-ended-requires-clause-ready g c = subst (IsReady c.args.schema.now) (sym c.begun-begun.ensures.value) c.requires.ready

pub loop-preserved : goal.loop-preserved
loop-preserved g c = record { feeding = MatchBool-at_false _ _ c.if-ended.false c.run_some-ended.ensures; built = c.run_some.ensures }

pub returns-then-ended-clause-fed : goal.returns-then-ended-clause-fed
returns-then-ended-clause-fed g c = subst (λ w. HasFed g.I.Source.left g.I.Source.faults true w c.run_some-ended.new.self) c.begun-begun.ensures.value (MatchBool-at_true _ _ c.if-ended.true c.run_some-ended.ensures)
