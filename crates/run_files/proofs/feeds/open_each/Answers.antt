use Rattle.std.proofs.Common.{◌≡◌, ◌≤◌, ◌+◌, ◌∙◌, ℕ, List, [], ◌∷◌, ◌++◌, length, take, drop, All, Some, None, sym, ap, subst}
use Rattle.std.specs.List.{AllZip}
use Rattle.std.proofs.lemmas.List.{take_all}
use Rattle.std.proofs.lemmas.List.Elements.{All-nil, All-push}
use Rattle.feed_reader.specs.declared.job.FeedJob.{FeedJob}
use Rattle.run_files.proofs.Lists.{name_more, name_split}
use Rattle.run_files.proofs.HeadReads.{opens_none, opens_on, opens_residual, headed_more, all_headed, same_files}
use Rattle.run_files.specs.Headed.{IsHeaded, OpensFeeds}
use Rattle.run_files.specs.Outside.{at, file_of, of_place, of_sink}
use Rattle.run_files.proofs.feeds.open_each.Goals as goal

pub loop-name-init : goal.loop-name-init
loop-name-init g c =
    let R = λ (name : List ℕ). IsHeaded g.P.In.Source.left g.P.In.Source.faults c.args.schema.now (file_of (g.P.Place.files c.args.place.now) name) in (
      opens_none (of_place g.P.Place) (of_sink g.O.Sink) c.args.schema.now c.args.place.now c.args.out.now,
      subst (λ (items : List (FeedJob g.row.P-In.Denot)). AllZip R [] items) (sym c.requires.empty.0) tt,
      subst (λ (items : List (FeedJob g.row.P-In.Denot)). All (λ f. g.P.In.Source.faults f.cutter.source ≡ 0) items) (sym c.requires.empty.0) (All-nil _),
      c.requires.empty.1,
      c.requires.room,
    )

pub loop-name-preserved : goal.loop-name-preserved
loop-name-preserved g c =
    let p = of_place g.P.Place in
    let s = of_sink g.O.Sink in
    let R = λ (name : List ℕ). IsHeaded g.P.In.Source.left g.P.In.Source.faults c.args.schema.now (file_of (g.P.Place.files c.args.place.now) name) in
    let Q = λ (feed : FeedJob g.row.P-In.Denot). g.P.In.Source.faults feed.cutter.source ≡ 0 in
    let first = take c.loop-name.name-index c.args.names.now in
    let name = c.as_str.result.now in
    let more : take (c.loop-name.name-index + 1) c.args.names.now ≡ first ++ name ∷ [] = name_more c.args.names.now c.loop-name.name-index c.name-item.result name c.loop-name-test.true c.name-item.is c.as_str.ensures in
    let so_far = c.loop-name.invariant in
    let all = all_headed g.P.In.Source.left g.P.In.Source.faults c.args.schema.now (g.P.Place.files c.args.place.now) first c.loop-name.feeds.items so_far.1 in (
      subst (λ (names : List (List ℕ)). OpensFeeds p s c.args.schema.now (at c.args.place.now c.args.out.now) (at c.open_feed.new.place c.open_feed.new.out) names None) (sym more)
          (opens_on p s c.args.schema.now c.args.place.now c.loop-name.place c.open_feed.new.place c.args.out.now c.loop-name.out c.open_feed.new.out first name None all so_far.0 c.in_ok-feed.ensures.opens),
      subst (λ (names : List (List ℕ)). AllZip R names c.push_reserved.new.self.items) (sym more)
          (subst (λ (items : List (FeedJob g.row.P-In.Denot)). AllZip R (first ++ name ∷ []) items) (sym c.push_reserved.ensures.items)
          (headed_more g.P.In.Source.left g.P.In.Source.faults c.args.schema.now (g.P.Place.files c.args.place.now) (g.P.Place.files c.loop-name.place) first c.loop-name.feeds.items name c.in_ok-feed.feed
          (same_files p s c.args.schema.now c.args.place.now c.loop-name.place c.args.out.now c.loop-name.out first None so_far.0) so_far.1 c.in_ok-feed.ensures.feed)),
      subst (λ (items : List (FeedJob g.row.P-In.Denot)). All Q items) (sym c.push_reserved.ensures.items) (All-push Q c.loop-name.feeds.items c.in_ok-feed.feed so_far.2 c.in_ok-feed.ensures.quiet),
      c.push_reserved.ensures.len ∙ ap (λ n. n + 1) so_far.3,
      subst (λ n. length c.args.names.now ≤ n) (sym c.push_reserved.ensures.capacity) so_far.4,
    )

pub returns-in_err-feed-clause-opens : goal.returns-in_err-feed-clause-opens
returns-in_err-feed-clause-opens g c =
    let p = of_place g.P.Place in
    let s = of_sink g.O.Sink in
    let first = take c.loop-name.name-index c.args.names.now in
    let name = c.as_str.result.now in
    let so_far = c.loop-name.invariant in
    let all = all_headed g.P.In.Source.left g.P.In.Source.faults c.args.schema.now (g.P.Place.files c.args.place.now) first c.loop-name.feeds.items so_far.1 in
    opens_residual p s c.args.schema.now c.args.place.now c.open_feed.new.place c.args.out.now c.open_feed.new.out c.args.names.now (first ++ name ∷ []) (drop (c.loop-name.name-index + 1) c.args.names.now) c.from_residual.result c.in_err-feed.field-0.0
    (name_split c.args.names.now c.loop-name.name-index c.name-item.result name c.loop-name-test.true c.name-item.is c.as_str.ensures) c.from_residual.ensures.1
    (opens_on p s c.args.schema.now c.args.place.now c.loop-name.place c.open_feed.new.place c.args.out.now c.loop-name.out c.open_feed.new.out first name (Some c.in_err-feed.field-0.0) all so_far.0 c.in_err-feed.ensures.opens)

pub returns-clause-opens : goal.returns-clause-opens
returns-clause-opens g c =
    let p = of_place g.P.Place in
    let s = of_sink g.O.Sink in
    subst (λ (names : List (List ℕ)). OpensFeeds p s c.args.schema.now (at c.args.place.now c.args.out.now) (at c.loop-name.place c.loop-name.out) names None) (take_all c.loop-name.name-index c.args.names.now c.loop-name-test.false) c.loop-name.invariant.0
