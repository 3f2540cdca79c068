use Rattle.std.proofs.Common.{◌≡◌, ◌-◌, ◌≤◌}
use Rattle.outer_io.specs.Lines.{input_limit}
use Rattle.outer_io.specs.Progress.{IsGoing}
use Rattle.session_core.specs.Answered.{basis}
use Rattle.session_core.proofs.SoFar.{Answered}
use Rattle.session_core.proofs.answering.answer_lines.Given as goal

abbrev pub invariant-turns : goal.invariant-turns
invariant-turns g l = record {
  answered : Answered (basis g.V.CubeView l.view l.told) l.lacked g.S.Source.left g.S.Source.faults l.initial.cutter l.cutter (g.O.Sink.held l.initial.out) (g.O.Sink.held l.out);
  going : IsGoing l.cutter;
  source : g.S.Source.faults l.cutter.source ≡ g.S.Source.faults l.initial.cutter.source;
  sink : g.O.Sink.faults l.out ≡ g.O.Sink.faults l.initial.out;
  name : g.O.Sink.name l.out ≡ g.O.Sink.name l.initial.out;
  few : l.told ≤ g.V.CubeView.seen l.view;
}

abbrev pub decreases-turns : goal.decreases-turns
decreases-turns g l = input_limit - l.cutter.given
