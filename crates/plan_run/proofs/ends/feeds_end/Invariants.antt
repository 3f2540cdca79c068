use Rattle.std.proofs.Common.{◌≡◌, take}
use Rattle.plan_run.specs.ThreadEnds.{feeds_end}
use Rattle.plan_run.proofs.ends.feeds_end.Given as goal

abbrev pub invariant-loop-feed : goal.invariant-loop-feed
invariant-loop-feed g l = l.end ≡ feeds_end (take l.feed-index l.feeds)
