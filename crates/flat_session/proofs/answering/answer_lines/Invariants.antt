use Rattle.std.proofs.Common.{◌≡◌, ◌-◌}
use Rattle.outer_io.specs.Lines.{input_limit}
use Rattle.outer_io.specs.Progress.{IsGoing}
use Rattle.flat_session.specs.Answers.{basis_of}
use Rattle.flat_session.proofs.SoFar.{HasAnswered}
use Rattle.flat_session.proofs.answering.answer_lines.Given as goal

abbrev pub invariant-turns : goal.invariant-turns
invariant-turns g l = record {
  so_far : HasAnswered g.S.Source (basis_of l.view) l.lacked l.initial.cutter l.cutter (g.O.Sink.held l.initial.out) (g.O.Sink.held l.out);
  name : g.O.Sink.name l.out ≡ g.O.Sink.name l.initial.out;
  sink : g.O.Sink.faults l.out ≡ g.O.Sink.faults l.initial.out;
  source : g.S.Source.faults l.cutter.source ≡ g.S.Source.faults l.initial.cutter.source;
  going : IsGoing l.cutter;
}

abbrev pub decreases-turns : goal.decreases-turns
decreases-turns g l = input_limit - l.cutter.given
