use Rattle.std.proofs.Common.{◌≡◌, take, drop}
use Rattle.cube_schema.specs.Repeats.{repeated_after, repeated_in}
use Rattle.cube_schema.proofs.repeats.repeated_in.Given as goal

-- nothing before the place is repeated
abbrev pub invariant-loop-i : goal.invariant-loop-i
invariant-loop-i l = repeated_after (take l.i l.texts) (drop l.i l.texts) ≡ repeated_in l.texts
