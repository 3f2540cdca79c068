use Rattle.std.proofs.Common.{◌≡◌, ◌≤◌, [], ◌++◌, map, All, length, take, vec_len, vec_capacity, None}
use Rattle.std.specs.List.{AllZip}
use Rattle.cube_schema.specs.Repeats.{outputs}
use Rattle.run_files.specs.Outside.{of_place, of_sink}
use Rattle.run_files.specs.Scripted.{IsOutput, OpensScripts}
use Rattle.run_files.proofs.scripts.create_each.Given as goal

abbrev pub invariant-loop-script : goal.invariant-loop-script
invariant-loop-script g l =
    OpensScripts (of_place g.P.Place) l.initial.place l.place [] (outputs (take l.script-index l.scripts)) None
    × AllZip (IsOutput (of_sink g.P.Out.Sink) (g.P.Place.files l.initial.place)) (outputs (take l.script-index l.scripts)) l.sinks.items
    × All (λ (sink : g.row.P-Out.Denot). g.P.Out.Sink.faults sink ≡ 0) l.sinks.items
    × (g.P.Place.created l.place ≡ g.P.Place.created l.initial.place ++ map g.P.Out.Sink.name l.sinks.items)
    × (vec_len l.sinks ≡ l.script-index)
    × (length l.scripts ≤ vec_capacity l.sinks)
