use Rattle.std.proofs.Common.{◌≡◌, ℕ, List, Option, Some, None, map, sym, subst, All}
use Rattle.std.specs.List.{AllZip}
use Rattle.std.proofs.lemmas.List.Elements.{All-map}
use Rattle.feed_reader.specs.declared.job.FeedJob.{FeedJob}
use Rattle.outer_io.specs.Files.{Files}
use Rattle.run_files.proofs.HeadReads.{all_headed}
use Rattle.run_files.proofs.Stages.{nothing_made}
use Rattle.run_files.specs.Headed.{IsHeaded, OpensFeeds}
use Rattle.run_files.specs.Outside.{at, file_of, of_place, of_sink}
use Rattle.run_files.specs.Scripted.{AreScriptParts}
use Rattle.plan_run.proofs.Stages.{feeds_end, files_given_back, files_residual, scripts_follow}
use Rattle.plan_run.proofs.opening.open_files.Goals as goal

pub returns-in_err-feeds-clause-opens : goal.returns-in_err-feeds-clause-opens
returns-in_err-feeds-clause-opens g c =
    let p = of_place g.P.Place in
    let s = of_sink g.O.Sink in
    let plan = c.args.plan.now in
    files_residual p s plan c.args.place.now c.open_feeds.new.place c.args.out.now c.open_feeds.new.out c.from_residual.result c.in_err-feeds.field-0.0 c.from_residual.ensures.1
    (feeds_end p s plan c.args.place.now c.open_feeds.new.place c.args.out.now c.open_feeds.new.out c.in_err-feeds.field-0.0
    (subst (λ (names : List (List ℕ)). OpensFeeds p s plan.schema (at c.args.place.now c.args.out.now) (at c.open_feeds.new.place c.open_feeds.new.out) names (Some c.in_err-feeds.field-0.0)) c.as_slice.ensures c.in_err-feeds.ensures.opens))

pub returns-in-Ok-clause-opens : goal.returns-in-Ok-clause-opens
returns-in-Ok-clause-opens g c =
    let p = of_place g.P.Place in
    let s = of_sink g.O.Sink in
    let plan = c.args.plan.now in
    let files = g.P.Place.files c.args.place.now in
    let feeds = subst (λ (names : List (List ℕ)). AllZip (λ name. IsHeaded g.P.In.Source.left g.P.In.Source.faults plan.schema (file_of files name)) names c.in_ok-feeds.feeds) c.as_slice.ensures c.in_ok-feeds.ensures.feeds in
    scripts_follow p s plan c.args.place.now c.open_feeds.new.place c.open_scripts.new.place c.args.out.now c.open_feeds.new.out None
    (subst (λ (names : List (List ℕ)). OpensFeeds p s plan.schema (at c.args.place.now c.args.out.now) (at c.open_feeds.new.place c.open_feeds.new.out) names None) c.as_slice.ensures c.in_ok-feeds.ensures.opens)
    (all_headed g.P.In.Source.left g.P.In.Source.faults plan.schema files plan.feeds c.in_ok-feeds.feeds feeds) c.in-Ok.ensures.opens

pub returns-in-Ok-clause-feeds : goal.returns-in-Ok-clause-feeds
returns-in-Ok-clause-feeds g c =
    subst (λ (names : List (List ℕ)). AllZip (λ name. IsHeaded g.P.In.Source.left g.P.In.Source.faults c.args.plan.now.schema (file_of (g.P.Place.files c.args.place.now) name)) names c.in_ok-feeds.feeds) c.as_slice.ensures c.in_ok-feeds.ensures.feeds

pub returns-in-Ok-clause-scripts : goal.returns-in-Ok-clause-scripts
returns-in-Ok-clause-scripts g c =
    let p = of_place g.P.Place in
    let leaves = c.in_ok-feeds.ensures.opens.leaves in
    let same : g.P.Place.files c.open_feeds.new.place ≡ g.P.Place.files c.args.place.now = leaves.untouched (nothing_made p c.args.place.now c.open_feeds.new.place c.as_slice.result.now None leaves) in
    subst (λ (files : Option Files). AreScriptParts g.P.In.Source.left g.P.In.Source.faults (of_sink g.P.Out.Sink) files c.args.plan.now c.in-Ok.scripts) same c.in-Ok.ensures.parts

pub returns-in-Err-clause-opens : goal.returns-in-Err-clause-opens
returns-in-Err-clause-opens g c =
    let p = of_place g.P.Place in
    let s = of_sink g.O.Sink in
    let plan = c.args.plan.now in
    let files = g.P.Place.files c.args.place.now in
    let F = λ (feed : FeedJob g.row.P-In.Denot). g.P.In.Source.faults feed.cutter.source in
    let feeds = subst (λ (names : List (List ℕ)). AllZip (λ name. IsHeaded g.P.In.Source.left g.P.In.Source.faults plan.schema (file_of files name)) names c.in_ok-feeds.feeds) c.as_slice.ensures c.in_ok-feeds.ensures.feeds in
    files_given_back p s plan c.args.place.now c.open_scripts.new.place c.give_back_feeds.new.place c.args.out.now c.open_feeds.new.out (Some c.in-Err.stop) (map F c.into_vec.result.items)
    (scripts_follow p s plan c.args.place.now c.open_feeds.new.place c.open_scripts.new.place c.args.out.now c.open_feeds.new.out (Some c.in-Err.stop)
    (subst (λ (names : List (List ℕ)). OpensFeeds p s plan.schema (at c.args.place.now c.args.out.now) (at c.open_feeds.new.place c.open_feeds.new.out) names None) c.as_slice.ensures c.in_ok-feeds.ensures.opens)
    (all_headed g.P.In.Source.left g.P.In.Source.faults plan.schema files plan.feeds c.in_ok-feeds.feeds feeds) c.in-Err.ensures.opens)
    c.give_back_feeds.ensures
    (All-map (λ n. n ≡ 0) F c.into_vec.result.items (subst (λ (items : List (FeedJob g.row.P-In.Denot)). All (λ feed. F feed ≡ 0) items) (sym c.into_vec.ensures) c.in_ok-feeds.ensures.quiet))
