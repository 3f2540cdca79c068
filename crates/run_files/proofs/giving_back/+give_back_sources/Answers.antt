use Rattle.std.proofs.Common.{◌≡◌, ◌++◌, ◌∷◌, [], ◌∙◌, map, ap, sym, subst}
use Rattle.std.proofs.lemmas.List.{map-append}
use Rattle.run_files.proofs.SourceReturns.{takes_more}
use Rattle.run_files.specs.GivingBack.{TakesSources}
use Rattle.run_files.specs.Outside.{of_place}
use Rattle.run_files.proofs.giving_back.+give_back_sources.Goals as goal

pub returns : goal.returns
returns g t c =
    let p = of_place g.P.Place in
    let e : map g.P.In.Source.faults c.args.sources.items ≡ map g.P.In.Source.faults c.pop.new.self.items ++ g.P.In.Source.faults c.in-Some.last ∷ [] = ap (map g.P.In.Source.faults) c.in-Some.ensures.items ∙ map-append g.P.In.Source.faults c.pop.new.self.items (c.in-Some.last ∷ []) in
    subst (λ counts. TakesSources p c.args.place.now c.give_back_in.new.self counts) (sym e)
    (takes_more p c.args.place.now c.give_back_sources.new.place c.give_back_in.new.self (map g.P.In.Source.faults c.pop.new.self.items) (g.P.In.Source.faults c.in-Some.last) c.give_back_sources.ensures c.give_back_in.ensures.rose c.give_back_in.ensures.quiet c.give_back_in.ensures.files c.give_back_in.ensures.opened c.give_back_in.ensures.writing)
