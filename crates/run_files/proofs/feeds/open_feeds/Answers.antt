use Rattle.std.proofs.Common.{◌≡◌, List, Some, map, sym, subst}
use Rattle.std.specs.List.{AllZip}
use Rattle.std.proofs.lemmas.List.Elements.{All-map}
use Rattle.feed_reader.specs.declared.job.FeedJob.{FeedJob}
use Rattle.run_files.proofs.HeadReads.{opens_given_back, opens_nothing}
use Rattle.run_files.specs.Headed.{IsHeaded}
use Rattle.run_files.specs.Outside.{file_of, of_place, of_sink}
use Rattle.run_files.proofs.feeds.open_feeds.Goals as goal

pub returns-in_default-clause-opens : goal.returns-in_default-clause-opens
returns-in_default-clause-opens g c = opens_nothing (of_place g.P.Place) (of_sink g.O.Sink) c.args.schema.now c.args.place.now c.args.out.now c.args.names.now

pub returns-in-Ok-open_each-clause-feeds : goal.returns-in-Ok-open_each-clause-feeds
returns-in-Ok-open_each-clause-feeds g c =
    subst (λ (items : List (FeedJob g.row.P-In.Denot)). AllZip (λ name. IsHeaded g.P.In.Source.left g.P.In.Source.faults c.args.schema.now (file_of (g.P.Place.files c.args.place.now) name)) c.args.names.now items) (sym c.from_vec.ensures) c.in-Ok-open_each.ensures.feeds

pub returns-in-Err-clause-opens : goal.returns-in-Err-clause-opens
returns-in-Err-clause-opens g c =
    let F = λ (f : FeedJob g.row.P-In.Denot). g.P.In.Source.faults f.cutter.source in
    opens_given_back (of_place g.P.Place) (of_sink g.O.Sink)
    c.args.schema.now c.args.place.now c.open_each.new.place c.give_back_feeds.new.place c.args.out.now c.open_each.new.out c.args.names.now (Some c.in-Err.stop) (map F c.open_each.new.feeds.items)
    c.in-Err.ensures.opens c.give_back_feeds.ensures (All-map (λ n. n ≡ 0) F c.open_each.new.feeds.items c.open_each.ensures.quiet)
