use Rattle.std.proofs.Common.{sym, ◌∙◌}
use Rattle.builder_core.proofs.WorkRuns.{has_run-step, is_built}
use Rattle.builder_core.proofs.work.BuilderWorkOf+Of+V.run_on.Goals as goal

pub loop-preserved : goal.loop-preserved
loop-preserved g c = has_run-step c.args.start.now.value c.loop.self c.step.new.self c.loop.invariant c.step.ensures (sym c.has_ended.ensures.test ∙ c.if-has_ended.false)

pub returns-then-has_ended : goal.returns-then-has_ended
returns-then-has_ended g c = is_built c.args.start.now.value c.loop.self c.step.new.self c.loop.invariant c.step.ensures (sym c.has_ended.ensures.test ∙ c.if-has_ended.true) (c.has_ended.ensures.each.0 c.if-has_ended.true)
