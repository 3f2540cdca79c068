use Rattle.builder_core.specs.Built.{HasBuilt}
use Rattle.builder_core.proofs.work.BuilderWorkOf+Of+V.run_some.Given as goal

abbrev pub invariant-loop : goal.invariant-loop
invariant-loop g l = HasBuilt l.start.value l.self
