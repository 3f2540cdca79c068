use Rattle.std.proofs.Common.{◌≡◌, ◌-◌, arith, length, take, drop, refl, sym, ◌∙◌, subst}
use Rattle.texts.specs.LineFeeds.{NoFeed}
use Rattle.texts.proofs.LineFeeds.{NoFeed-take}
use Rattle.live_sums.specs.Rests.{held_and_left}
use Rattle.live_sums.proofs.BytesRead.{adds_kept, kept_then, no_feed_after, no_feed_joined}
use Rattle.live_sums.proofs.reading.read_line.Goals as goal

pub returns-then-has_feed-2-clause-line : goal.returns-then-has_feed-2-clause-line
returns-then-has_feed-2-clause-line g c e none =
    c.if-has_feed-2.ensures.there refl (NoFeed-take (length c.as_slice-in-reads.result.now - c.len-from.result) (drop c.len-from.result c.as_slice-in-reads.result.now) (no_feed_after c.len-from.result c.as_slice-in-reads.result.now (subst NoFeed (sym c.as_slice-in-reads.ensures.value) none)))

pub reads-preserved : goal.reads-preserved
reads-preserved g c =
    let left = g.S.Source.left in
    let adds = c.in_ok-n.ensures.more in
    let ok = c.reads.held.ok.0 in
    let len = c.len-from.ensures in
    let size : c.len-from.result ≡ length c.reads.held.items = omega (arith, len, ok) in
    record {
      keeps = kept_then (held_and_left left c.args.source.now c.args.held.now.items) (held_and_left left c.reads.source c.reads.held.items) (held_and_left left c.read_more.new.source c.read_more.new.held.items) c.reads.invariant.keeps
          (adds_kept (left c.reads.source) (left c.read_more.new.source) c.reads.held.items c.read_more.new.held.items c.in_ok-n.n adds);
      none = no_feed_joined c.reads.held.items adds.more c.read_more.new.held.items c.len-from.result adds.joined size c.reads.invariant.none
          (subst (λ xs. NoFeed (take (length xs - c.len-from.result) (drop c.len-from.result xs))) c.as_slice-in-reads.ensures.value (c.if-has_feed-2.ensures.none refl));
      quiet = c.in_ok-n.ensures.cause.quiet (λ e. cc) ∙ c.reads.invariant.quiet;
    }
