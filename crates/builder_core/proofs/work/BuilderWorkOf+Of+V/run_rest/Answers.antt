use Rattle.std.proofs.Common.{sym, ◌∙◌}
use Rattle.builder_core.proofs.RunParts.{missing, whole}
use Rattle.builder_core.proofs.work.BuilderWorkOf+Of+V.run_rest.Goals as goal

pub run_on-requires-after_bounds : goal.run_on-requires-after_bounds
run_on-requires-after_bounds g c κs within = missing c.args.start.now.value c.args.self.now c.requires (sym c.has_ended.ensures.test ∙ c.if-has_ended.false)

pub returns-then-has_ended : goal.returns-then-has_ended
returns-then-has_ended g c = whole c.args.start.now.value c.args.self.now c.requires (sym c.has_ended.ensures.test ∙ c.if-has_ended.true)
