use Rattle.builder_core.specs.Built.{HasBuilt}
use Rattle.crew_feeder.specs.Leaving.{IsFeeding}
use Rattle.cube_crew.proofs.turns.run_feeder.Given as goal

abbrev pub invariant-loop : goal.invariant-loop
invariant-loop g l = record {
  feeding : IsFeeding g.I.Source.left g.I.Source.faults l.begun.value l.work;
  built : HasBuilt l.start.value l.building;
}
