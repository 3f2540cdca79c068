use Rattle.std.proofs.Common.{◌≡◌, length, take, drop}
use Rattle.std.specs.List.{AllZip}
use Rattle.run_files.specs.Outside.{Puts, of_sink}
use Rattle.live_sums.proofs.asking.ask_all.Given as goal

abbrev pub invariant-loop-i : goal.invariant-loop-i
invariant-loop-i g l = record {
  asked : AllZip (λ ask now. Puts (of_sink g.O.Sink) ask now l.line) (take l.i l.initial.asks) (take l.i l.asks);
  rest : drop l.i l.asks ≡ drop l.i l.initial.asks;
  whole : length l.asks ≡ length l.initial.asks;
}
