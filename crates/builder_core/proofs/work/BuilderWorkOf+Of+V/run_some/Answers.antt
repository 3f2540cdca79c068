use Rattle.std.proofs.Common.{sym, ◌∙◌}
use Rattle.builder_core.proofs.RunParts.{part_more}
use Rattle.builder_core.proofs.work.BuilderWorkOf+Of+V.run_some.Goals as goal

pub loop-preserved : goal.loop-preserved
loop-preserved g c = part_more c.args.start.now.value c.loop.self c.step_if_queued.new.self c.loop.invariant (sym c.has_ended.ensures.test ∙ c.if-has_ended.false) (rw c.if-not-step_if_queued.false at c.step_if_queued.ensures)
