use Rattle.std.proofs.Common.{[], ◌∷◌, Option, sym, ap, subst}
use Rattle.std.specs.Result.{result_err}
use Rattle.run_files.specs.Outside.{of_place}
use Rattle.run_files.specs.Scripted.{OpensScripts}
use Rattle.run_files.specs.declared.stop.Stop.{Stop}
use Rattle.live_sums.proofs.Opened.{ok_read, opens_asked, told_file}
use Rattle.live_sums.proofs.opening.open_source.Goals as goal

pub returns-clause-opens : goal.returns-clause-opens
returns-clause-opens g c =
    let p = of_place g.P.Place in
    subst (λ (k : Option Stop). OpensScripts p c.args.place.now c.open.new.self (c.args.name.now ∷ []) [] k) (sym (ap result_err c.read_end.ensures))
    (opens_asked p c.args.place.now c.open.new.self c.args.name.now c.open.result c.open.ensures.opened c.open.ensures.cause c.open.ensures.files c.open.ensures.writing)

pub returns-clause-left : goal.returns-clause-left
returns-clause-left g c = ok_read c.open.result c.read_end.result _ _ c.read_end.ensures (λ source told. told_file (g.P.Place.files c.args.place.now) c.args.name.now (g.P.In.Source.left source) told) c.open.ensures.left

pub returns-clause-fresh : goal.returns-clause-fresh
returns-clause-fresh g c = ok_read c.open.result c.read_end.result _ _ c.read_end.ensures (λ source fresh. fresh) c.open.ensures.fresh
