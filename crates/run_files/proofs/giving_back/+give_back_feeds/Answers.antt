use Rattle.std.proofs.Common.{◌≡◌, ◌++◌, ◌∷◌, [], ◌∙◌, map, ap, sym, subst}
use Rattle.std.proofs.lemmas.List.{map-append}
use Rattle.feed_reader.specs.declared.job.FeedJob.{FeedJob}
use Rattle.run_files.proofs.SourceReturns.{takes_more}
use Rattle.run_files.specs.GivingBack.{TakesSources}
use Rattle.run_files.specs.Outside.{of_place}
use Rattle.run_files.proofs.giving_back.+give_back_feeds.Goals as goal

pub returns : goal.returns
returns g t c =
    let p = of_place g.P.Place in
    let e : map (λ (k : FeedJob g.row.P-In.Denot). g.P.In.Source.faults k.cutter.source) c.args.feeds.items ≡ map (λ (k : FeedJob g.row.P-In.Denot). g.P.In.Source.faults k.cutter.source) c.pop.new.self.items ++ g.P.In.Source.faults c.into_source.result ∷ [] =
    ap (map (λ (k : FeedJob g.row.P-In.Denot). g.P.In.Source.faults k.cutter.source)) c.in-Some.ensures.items ∙ (map-append (λ (k : FeedJob g.row.P-In.Denot). g.P.In.Source.faults k.cutter.source) c.pop.new.self.items (c.in-Some.last ∷ []) ∙ ap (λ n. map (λ (k : FeedJob g.row.P-In.Denot). g.P.In.Source.faults k.cutter.source) c.pop.new.self.items ++ n ∷ []) (ap g.P.In.Source.faults (sym c.into_source.ensures))) in
    subst (λ counts. TakesSources p c.args.place.now c.give_back_in.new.self counts) (sym e)
    (takes_more p c.args.place.now c.give_back_feeds.new.place c.give_back_in.new.self (map (λ (k : FeedJob g.row.P-In.Denot). g.P.In.Source.faults k.cutter.source) c.pop.new.self.items) (g.P.In.Source.faults c.into_source.result) c.give_back_feeds.ensures c.give_back_in.ensures.rose c.give_back_in.ensures.quiet c.give_back_in.ensures.files c.give_back_in.ensures.opened c.give_back_in.ensures.writing)
