use Rattle.std.proofs.Common.{◌≡◌, ◌++◌, ◌∷◌, [], ◌∙◌, map, ap, sym, subst}
use Rattle.std.proofs.lemmas.List.{map-append}
use Rattle.live_sums.specs.declared.replies.Replies.{Replies}
use Rattle.run_files.proofs.SourceReturns.{takes_more}
use Rattle.run_files.specs.GivingBack.{TakesSources}
use Rattle.run_files.specs.Outside.{of_place}
use Rattle.live_sums.proofs.opening.+give_back_replies.Goals as goal

pub returns : goal.returns
returns g t c =
    let p = of_place g.P.Place in
    let F = λ (run : Replies g.row.P-In.Denot). g.P.In.Source.faults run.source in
    let e : map F c.args.replies.items ≡ map F c.pop.new.self.items ++ g.P.In.Source.faults c.into_source.result ∷ [] =
    ap (map F) c.in-Some.ensures.items ∙ (map-append F c.pop.new.self.items (c.in-Some.last ∷ []) ∙ ap (λ n. map F c.pop.new.self.items ++ n ∷ []) (ap g.P.In.Source.faults (sym c.into_source.ensures))) in
    subst (λ counts. TakesSources p c.args.place.now c.give_back_in.new.self counts) (sym e)
    (takes_more p c.args.place.now c.give_back_replies.new.place c.give_back_in.new.self (map F c.pop.new.self.items) (g.P.In.Source.faults c.into_source.result) c.give_back_replies.ensures c.give_back_in.ensures.rose c.give_back_in.ensures.quiet c.give_back_in.ensures.files c.give_back_in.ensures.opened c.give_back_in.ensures.writing)
