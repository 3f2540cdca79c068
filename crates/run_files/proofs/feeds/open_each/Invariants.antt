use Rattle.std.proofs.Common.{◌≡◌, ◌≤◌, length, take, All, vec_len, vec_capacity, None}
use Rattle.std.specs.List.{AllZip}
use Rattle.feed_reader.specs.declared.job.FeedJob.{FeedJob}
use Rattle.run_files.specs.Headed.{IsHeaded, OpensFeeds}
use Rattle.run_files.specs.Outside.{at, file_of, of_place, of_sink}
use Rattle.run_files.proofs.feeds.open_each.Given as goal

abbrev pub invariant-loop-name : goal.invariant-loop-name
invariant-loop-name g l =
    OpensFeeds (of_place g.P.Place) (of_sink g.O.Sink) l.schema (at l.initial.place l.initial.out) (at l.place l.out) (take l.name-index l.names) None
    × AllZip (λ name. IsHeaded g.P.In.Source.left g.P.In.Source.faults l.schema (file_of (g.P.Place.files l.initial.place) name)) (take l.name-index l.names) l.feeds.items
    × All (λ (feed : FeedJob g.row.P-In.Denot). g.P.In.Source.faults feed.cutter.source ≡ 0) l.feeds.items
    × (vec_len l.feeds ≡ l.name-index)
    × (length l.names ≤ vec_capacity l.feeds)
