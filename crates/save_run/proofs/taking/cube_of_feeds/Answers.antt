use Rattle.std.proofs.Common.{◌≡◌, ◌∙◌, Err, Result, List, ap, arith, length, set, subst, sym}
use Rattle.std.proofs.lemmas.Result.{err_from_is_err_and}
use Rattle.cube_store.specs.declared.cube.Cube.{Cube}
use Rattle.feed_reader.specs.declared.counts.FeedCounts.{FeedCounts}
use Rattle.outer_io.specs.declared.cutter.CutFault.{CutFault}
use Rattle.save_run.specs.Taking.{TakesFeeds}
use Rattle.save_run.proofs.FeedLists.{all_taken, begins, ends_by, next_unread, one_more, quiet_on, stays_quiet}
use Rattle.save_run.proofs.taking.cube_of_feeds.Goals as goal

pub loop-feed-init : goal.loop-feed-init
loop-feed-init g c = begins g.S.Source.left g.S.Source.faults c.args.schema.now c.args.feeds.now c.in-Ok.grouped c.new-counts.result c.in-Ok.ensures.schema c.in-Ok.ensures.empty c.in-Ok.ensures.least c.new-counts.ensures c.requires.unread

pub take_feed-requires-clause-unread : goal.take_feed-requires-clause-unread
take_feed-requires-clause-unread g c =
    next_unread g.S.Source.left g.S.Source.faults c.args.schema.now c.args.feeds.now c.loop-feed.feed-index c.loop-feed.feeds c.loop-feed.grouped c.loop-feed.counts c.loop-feed.invariant c.feed-item.result c.loop-feed-test.true c.requires.unread

pub returns-in_err-of_feed : goal.returns-in_err-of_feed
returns-in_err-of_feed g c =
    let p = err_from_is_err_and c.from_residual.result c.from_residual.ensures.1 in
    subst (λ (r : Result (Cube × List FeedCounts) CutFault). TakesFeeds g.S.Source.left g.S.Source.faults c.args.schema.now c.args.feeds.now (set c.loop-feed.feeds c.loop-feed.feed-index c.take_feed.new.feed) r) (sym (p.1 ∙ ap (λ f. Err f) p.2))
    (ends_by g.S.Source.left g.S.Source.faults c.args.schema.now c.args.feeds.now c.loop-feed.feed-index c.loop-feed.feeds c.loop-feed.grouped c.loop-feed.counts c.loop-feed.invariant c.feed-item.result c.loop-feed-test.true
    c.take_feed.new.feed c.take_feed.result c.requires.unread c.take_feed.ensures.too_much c.take_feed.ensures.cause c.in_err-of_feed.field-0.0 c.in_err-of_feed.was)

pub returns-in_default-add : goal.returns-in_default-add
returns-in_default-add g c =
    let read = c.in_ok-of_feed.was in
    let quiet = stays_quiet g.S.Source.left g.S.Source.faults c.args.schema.now c.args.feeds.now c.loop-feed.feed-index c.loop-feed.feeds c.loop-feed.grouped c.loop-feed.counts c.loop-feed.invariant c.feed-item.result c.loop-feed-test.true
    c.take_feed.new.feed c.take_feed.result c.requires.unread c.take_feed.ensures.too_much c.take_feed.ensures.cause (λ failed. cc (read)) in
    quiet_on g.S.Source.left g.S.Source.faults c.args.schema.now c.args.feeds.now c.loop-feed.feed-index c.loop-feed.feeds c.loop-feed.grouped c.loop-feed.counts c.loop-feed.invariant c.feed-item.result c.loop-feed-test.true c.take_feed.new.feed quiet

pub loop-feed-preserved : goal.loop-feed-preserved
loop-feed-preserved g c =
    let read = c.in_ok-of_feed.was in
    let quiet = stays_quiet g.S.Source.left g.S.Source.faults c.args.schema.now c.args.feeds.now c.loop-feed.feed-index c.loop-feed.feeds c.loop-feed.grouped c.loop-feed.counts c.loop-feed.invariant c.feed-item.result c.loop-feed-test.true
    c.take_feed.new.feed c.take_feed.result c.requires.unread c.take_feed.ensures.too_much c.take_feed.ensures.cause (λ failed. cc (read)) in
    one_more g.S.Source.left g.S.Source.faults c.args.schema.now c.args.feeds.now c.loop-feed.feed-index c.loop-feed.feeds c.loop-feed.grouped c.loop-feed.counts c.loop-feed.invariant c.feed-item.result c.loop-feed-test.true
    c.take_feed.new.feed c.take_feed.new.grouped c.in_ok-of_feed.of_feed c.add.new.self c.in_ok-of_feed.ensures.taken c.in_ok-of_feed.ensures.schema c.in_ok-of_feed.ensures.size quiet c.in-Ok-add.ensures.added

pub returns : goal.returns
returns g c =
    let all : c.loop-feed.feed-index ≡ length c.args.feeds.now = omega (arith, c.loop-feed-test.false, c.loop-feed.invariant.whole, c.loop-feed.auto.feed-index-end) in
    all_taken g.S.Source.left g.S.Source.faults c.args.schema.now c.args.feeds.now c.loop-feed.feeds c.loop-feed.feed-index c.loop-feed.grouped c.loop-feed.counts c.in-Ok-into_cube.cube
    all c.loop-feed.invariant c.in-Ok-into_cube.ensures.schema c.in-Ok-into_cube.ensures.counted c.in-Ok-into_cube.ensures.least
