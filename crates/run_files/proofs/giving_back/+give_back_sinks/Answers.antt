use Rattle.std.proofs.Common.{◌≡◌, ◌-◌, ◌++◌, ◌∷◌, ◌∙◌, [], List, Result, Ok, ap, sym, subst, take}
use Rattle.std.proofs.lemmas.List.{append-nil}
use Rattle.run_files.proofs.SinkReturns.{gives_more, gives_none, lands_one}
use Rattle.run_files.specs.GivingBack.{TakesSinks}
use Rattle.run_files.specs.Outside.{of_place, of_sink}
use Rattle.run_files.specs.Stops.{joined_ends}
use Rattle.run_files.specs.declared.stop.Stop.{Stop}
use Rattle.run_files.proofs.giving_back.+give_back_sinks.Goals as goal

pub returns : goal.returns
returns g t c =
    let p = (of_place g.P.Place) in
    let s = (of_sink g.P.Out.Sink) in
    let r = c.give_back_out-end.result in
    subst (λ (sinks : List g.row.P-Out.Denot). TakesSinks p s c.args.place.now c.give_back_out-end.new.self sinks c.joined_ends.result) (sym c.in-Some.ensures.items)
    (subst (λ (e : Result (Unit {0}) Stop). TakesSinks p s c.args.place.now c.give_back_out-end.new.self (c.pop.new.self.items ++ c.in-Some.last ∷ []) e)
    (sym (c.joined_ends.ensures ∙ ap (λ (e : Result (Unit {0}) Stop). joined_ends c.give_back_sinks-earlier.result e) c.write_end.ensures))
    (gives_more p s c.args.place.now c.give_back_sinks-earlier.new.place c.give_back_out-end.new.self c.pop.new.self.items c.in-Some.last c.give_back_sinks-earlier.result r c.give_back_sinks-earlier.ensures
    (lands_one (g.P.Place.files c.give_back_sinks-earlier.new.place) (g.P.Place.files c.give_back_out-end.new.self) (g.P.Out.Sink.name c.in-Some.last) (g.P.Out.Sink.held c.in-Some.last) r c.give_back_out-end.ensures.holds c.give_back_out-end.ensures.part c.give_back_out-end.ensures.no_memory)
    c.give_back_out-end.ensures.others c.give_back_out-end.ensures.counts c.give_back_out-end.ensures.created c.give_back_out-end.ensures.reading))

pub returns-in_default : goal.returns-in_default
returns-in_default g t c =
    let none : c.args.sinks.items ≡ [] = c.in_default.ensures.items ∙ (append-nil _ ∙ (c.in_default.ensures.rest ∙ ap (λ n. take (n - 1) c.args.sinks.items) c.in_default.ensures.cases.0)) in
    subst (λ (sinks : List g.row.P-Out.Denot). TakesSinks (of_place g.P.Place) (of_sink g.P.Out.Sink) c.args.place.now c.args.place.now sinks (Ok tt)) (sym none) (gives_none (of_place g.P.Place) (of_sink g.P.Out.Sink) c.args.place.now)
