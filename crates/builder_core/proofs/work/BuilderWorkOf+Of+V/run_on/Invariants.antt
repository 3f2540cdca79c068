use Rattle.builder_core.specs.Built.{IsBuilding}
use Rattle.builder_core.proofs.work.BuilderWorkOf+Of+V.run_on.Given as goal

abbrev pub invariant-loop : goal.invariant-loop
invariant-loop g l = IsBuilding l.start.value l.self
