use Rattle.std.proofs.Common.{◌≡◌, ◌++◌, take}
use Rattle.cube_schema.specs.Repeats.{outputs}
use Rattle.cube_schema.proofs.repeats.add_outputs.Given as goal

abbrev pub invariant-loop-name : goal.invariant-loop-name
invariant-loop-name l = l.texts ≡ l.fn.texts ++ outputs (take l.name-index l.names)
