use Rattle.std.proofs.Common.{◌≡◌, ◌≤◌, length}
use Rattle.live_sums.proofs.SessionTurns.{Answered}
use Rattle.live_sums.specs.Turns.{stage, live_seen}
use Rattle.live_sums.proofs.serving.serve.Given as goal

abbrev pub invariant-turns : goal.invariant-turns
invariant-turns g l = record {
  answered : Answered (live_seen g.A.Sink g.S.Source g.O.Sink) l.schema (stage l.initial.asks l.initial.runs l.initial.out) (stage l.asks l.runs l.out) l.sums;
  few : l.sums ≤ l.turn;
  asks : length l.asks ≡ length l.initial.asks;
  runs : length l.runs ≡ length l.initial.runs;
}
