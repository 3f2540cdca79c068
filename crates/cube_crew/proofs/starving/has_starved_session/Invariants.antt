use Rattle.std.proofs.Common.{All, take}
use Rattle.cube_crew.specs.Starving.{FoundMemory}
use Rattle.cube_crew.proofs.starving.has_starved_session.Given as goal

abbrev pub invariant-loop-work : goal.invariant-loop-work
invariant-loop-work g l = All FoundMemory (take l.work-index l.works)
