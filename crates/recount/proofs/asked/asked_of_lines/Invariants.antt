use Rattle.std.proofs.Common.{◌-◌}
use Rattle.outer_io.specs.Lines.{input_limit}
use Rattle.recount.proofs.ScriptLines.{AskedSoFar}
use Rattle.recount.proofs.asked.asked_of_lines.Given as goal

abbrev pub invariant-lines : goal.invariant-lines
invariant-lines g l = AskedSoFar g.S.Source.left g.S.Source.faults l.schema l.initial.cutter l.cutter l.asked

abbrev pub decreases-lines : goal.decreases-lines
decreases-lines g l = input_limit - l.cutter.given
