use Rattle.std.proofs.Common.{◌≡◌, ◌++◌, string_bytes, take, List, ℕ}
use Rattle.std.specs.List.{flat_map, zip}
use Rattle.feed_reader.specs.declared.counts.FeedCounts.{FeedCounts}
use Rattle.run_files.specs.Lines.{feed_lines}
use Rattle.run_files.proofs.lines.push_feeds.Given as goal

abbrev pub invariant-loop-place : goal.invariant-loop-place
invariant-loop-place l = string_bytes l.text ≡ string_bytes l.initial.text ++ flat_map (λ (f : List ℕ × FeedCounts). feed_lines l.schema f.0 f.1) (take l.place (zip l.names l.feeds))
