use Rattle.std.proofs.Common.{◌+◌, ◌≤◌}
use Rattle.cube_image.proofs.ahead.look_ahead.Given as goal

abbrev pub invariant-loop-i : goal.invariant-loop-i
invariant-loop-i l = (l.tables + l.at ≤ l.i) × (l.contents + l.at ≤ l.i)
