use Rattle.std.proofs.Common.{All, take}
use Rattle.cube_crew.specs.Starving.{FoundRoom}
use Rattle.cube_crew.proofs.starving.has_starved_feed.Given as goal

abbrev pub invariant-loop-work : goal.invariant-loop-work
invariant-loop-work g l = All FoundRoom (take l.work-index l.works)
