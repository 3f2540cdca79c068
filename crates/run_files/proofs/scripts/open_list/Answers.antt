use Rattle.std.proofs.Common.{◌≡◌, [], Some, map}
use Rattle.std.proofs.lemmas.List.Elements.{All-map}
use Rattle.outer_io.specs.declared.cutter.LineCutter.{LineCutter}
use Rattle.run_files.proofs.ScriptReads.{scripts_given_back, scripts_nothing}
use Rattle.run_files.specs.Outside.{of_place}
use Rattle.run_files.proofs.scripts.open_list.Goals as goal

pub returns-in_default-clause-opens : goal.returns-in_default-clause-opens
returns-in_default-clause-opens g c = scripts_nothing (of_place g.P.Place) c.args.place.now c.args.names.now []

pub returns-in-Err-clause-opens : goal.returns-in-Err-clause-opens
returns-in-Err-clause-opens g c =
    let F = λ (script : LineCutter g.row.P-In.Denot). g.P.In.Source.faults script.source in
    scripts_given_back (of_place g.P.Place) c.args.place.now c.open_each.new.place c.give_back_cutters.new.place c.args.names.now [] (Some c.in-Err.stop) (map F c.open_each.new.scripts.items)
    c.in-Err.ensures.opens c.give_back_cutters.ensures (All-map (λ n. n ≡ 0) F c.open_each.new.scripts.items c.open_each.ensures.quiet)
