use Rattle.std.proofs.Common.{◌≡◌, ◌≤◌, [], length, take, vec_len, vec_capacity, None}
use Rattle.std.specs.List.{AllZip}
use Rattle.run_files.specs.Outside.{of_place, of_sink}
use Rattle.run_files.specs.Scripted.{IsOutput, OpensScripts}
use Rattle.live_sums.specs.Opening.{ask_names}
use Rattle.live_sums.proofs.opening.create_asks.Given as goal

abbrev pub invariant-loop-i : goal.invariant-loop-i
invariant-loop-i g l = record {
  creates : OpensScripts (of_place g.P.Place) l.initial.place l.place [] (take l.i (ask_names l.runs)) None;
  outputs : AllZip (IsOutput (of_sink g.P.Out.Sink) (g.P.Place.files l.initial.place)) (take l.i (ask_names l.runs)) l.asks.items;
  len : vec_len l.asks ≡ l.i;
  room : length l.runs ≤ vec_capacity l.asks;
}
