use Rattle.std.proofs.Common.{◌≡◌, take}
use Rattle.world_core.specs.Machine.{world_of}
use Rattle.world_core.specs.Parts.{world_now}
use Rattle.world_core.proofs.runs.run.Given as goal

abbrev pub invariant-loop-number : goal.invariant-loop-number
invariant-loop-number l = world_now l.machine ≡ world_of l.schema l.feeds l.room l.sessions (take l.number l.events)
