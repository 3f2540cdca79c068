use Rattle.std.proofs.Common.{◌≡◌, ◌≤◌, [], length, take, All, vec_len, vec_capacity, None}
use Rattle.std.specs.List.{AllZip}
use Rattle.outer_io.specs.declared.cutter.LineCutter.{LineCutter}
use Rattle.run_files.specs.Outside.{file_of, of_place}
use Rattle.run_files.specs.Scripted.{IsScript, OpensScripts}
use Rattle.run_files.proofs.scripts.open_each.Given as goal

abbrev pub invariant-loop-name : goal.invariant-loop-name
invariant-loop-name g l =
    OpensScripts (of_place g.P.Place) l.initial.place l.place (take l.name-index l.names) [] None
    × AllZip (λ name. IsScript g.P.In.Source.left g.P.In.Source.faults (file_of (g.P.Place.files l.initial.place) name)) (take l.name-index l.names) l.scripts.items
    × All (λ (script : LineCutter g.row.P-In.Denot). g.P.In.Source.faults script.source ≡ 0) l.scripts.items
    × (vec_len l.scripts ≡ l.name-index)
    × (length l.names ≤ vec_capacity l.scripts)
