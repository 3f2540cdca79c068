use Rattle.std.proofs.Common.{subst}
use Rattle.builder_core.specs.Built.{IsBuilt}
use Rattle.builder_core.proofs.work.BuilderWorkOf+Of+V.run.Goals as goal

pub returns : goal.returns
returns g c = subst (λ w. IsBuilt w c.run_on.new.self) c.begun-start.ensures.value c.run_on.ensures
