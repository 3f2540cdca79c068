use Rattle.std.proofs.Common.{◌≡◌, true, length, take, drop}
use Rattle.std.specs.List.{AllZip}
use Rattle.builder_core.specs.Built.{HasBuilt}
use Rattle.crew_feeder.specs.Leaving.{HasFed}
use Rattle.cube_crew.proofs.turns.run_in_turn.Given as goal

abbrev pub invariant-loop-work : goal.invariant-loop-work
invariant-loop-work g l = record {
  fed : AllZip (HasFed g.I.Source.left g.I.Source.faults true) (take l.work-index l.initial.works) (take l.work-index l.works);
  rest : drop l.work-index l.works ≡ drop l.work-index l.initial.works;
  whole : length l.works ≡ length l.initial.works;
  built : HasBuilt l.start.value l.building;
}
