use Rattle.std.proofs.Common.{◌≡◌, ◌∙◌, Err, Result, List, ap, arith, length, set, subst, sym}
use Rattle.std.proofs.lemmas.Result.{err_from_is_err_and}
use Rattle.cube_view.specs.Points.{Point}
use Rattle.outer_io.specs.declared.cutter.CutFault.{CutFault}
use Rattle.flat_run.specs.Reading.{GivesAll, GivesPoints}
use Rattle.flat_run.proofs.FeedLists.{all_taken, begins, ends_reading, one_more, stays_quiet, unread_there}
use Rattle.flat_run.proofs.reading.points_of_feeds.Goals as goal

pub loop-feed-init : goal.loop-feed-init
loop-feed-init g c = begins g.S.Source.left g.S.Source.faults c.args.schema.now c.args.feeds.now c.new-points.result.items c.new-points.ensures.items c.requires.unread

pub push_feed-requires-clause-unread : goal.push_feed-requires-clause-unread
push_feed-requires-clause-unread g c =
    unread_there g.S.Source.left g.S.Source.faults c.args.schema.now c.args.feeds.now c.loop-feed.feed-index c.loop-feed.feeds c.loop-feed.points.items c.loop-feed.invariant c.feed-item.result c.loop-feed-test.true c.requires.unread

pub returns-in_err-push_feed : goal.returns-in_err-push_feed
returns-in_err-push_feed g c =
    let p = err_from_is_err_and c.from_residual.result c.from_residual.ensures.1 in
    subst (λ (r : Result (List Point) CutFault). GivesPoints g.S.Source.left g.S.Source.faults c.args.schema.now c.args.feeds.now (set c.loop-feed.feeds c.loop-feed.feed-index c.push_feed.new.feed) r) (sym (p.1 ∙ ap (λ f. Err f) p.2))
    (ends_reading g.S.Source.left g.S.Source.faults c.args.schema.now c.args.feeds.now c.loop-feed.feed-index c.loop-feed.feeds c.loop-feed.points.items c.loop-feed.invariant c.feed-item.result c.loop-feed-test.true
    c.push_feed.new.feed c.push_feed.result c.requires.unread c.push_feed.ensures.cause c.push_feed.ensures.too_much c.in_err-push_feed.field-0.0 c.in_err-push_feed.was)

pub loop-feed-preserved : goal.loop-feed-preserved
loop-feed-preserved g c =
    let read = c.in_ok-push_feed.was in
    let quiet = stays_quiet g.S.Source.left g.S.Source.faults c.args.schema.now c.args.feeds.now c.loop-feed.feed-index c.loop-feed.feeds c.loop-feed.points.items c.loop-feed.invariant c.feed-item.result c.loop-feed-test.true
    c.push_feed.new.feed c.push_feed.result c.requires.unread c.push_feed.ensures.cause (λ failed. cc (read)) in
    one_more g.S.Source.left g.S.Source.faults c.args.schema.now c.args.feeds.now c.loop-feed.feed-index c.loop-feed.feeds c.loop-feed.points.items c.loop-feed.invariant c.feed-item.result c.loop-feed-test.true
    c.push_feed.new.feed c.push_feed.new.points.items c.in_ok-push_feed.ensures.pushed quiet

pub returns : goal.returns
returns g c =
    let all : c.loop-feed.feed-index ≡ length c.args.feeds.now = omega (arith, c.loop-feed-test.false, c.loop-feed.invariant.whole, c.loop-feed.auto.feed-index-end) in
    subst (GivesAll g.S.Source.left g.S.Source.faults c.args.schema.now c.args.feeds.now c.loop-feed.feeds) (sym c.from_vec.ensures)
    (all_taken g.S.Source.left g.S.Source.faults c.args.schema.now c.args.feeds.now c.loop-feed.feeds c.loop-feed.feed-index c.loop-feed.points.items all c.requires.few c.loop-feed.invariant)
