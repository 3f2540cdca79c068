use Rattle.std.proofs.Common.{ℕ, List, ◌++◌, ap, ◌∙◌, string_bytes, arith}
use Rattle.feed_reader.specs.declared.counts.FeedCounts.{FeedCounts}
use Rattle.run_files.proofs.Pairs.{all_pairs, more_pairs}
use Rattle.run_files.specs.Lines.{feed_lines}
use Rattle.run_files.proofs.lines.push_feeds.Goals as goal

pub loop-place-preserved : goal.loop-place-preserved
loop-place-preserved c =
    c.in_ok-push_feed.ensures ∙ ap (λ n. string_bytes c.loop-place.text ++ feed_lines c.args.schema.now n c.index-feeds-place.result) c.as_str.ensures
    ∙ more_pairs (λ (f : List ℕ × FeedCounts). feed_lines c.args.schema.now f.0 f.1) c.args.names.now c.args.feeds.now (string_bytes c.args.text.now) (string_bytes c.loop-place.text) c.loop-place.place c.index-names-place.result c.index-feeds-place.result (omega (arith, c.loop-place-test.true, c.min-place-end.ensures)) (omega (arith, c.loop-place-test.true, c.min-place-end.ensures)) c.index-names-place.is c.index-feeds-place.is c.loop-place.invariant

pub returns : goal.returns
returns c = all_pairs (λ (f : List ℕ × FeedCounts). feed_lines c.args.schema.now f.0 f.1) c.args.names.now c.args.feeds.now (string_bytes c.args.text.now) (string_bytes c.loop-place.text) c.loop-place.place (omega (arith, c.loop-place-test.false, c.min-place-end.ensures)) c.loop-place.invariant
