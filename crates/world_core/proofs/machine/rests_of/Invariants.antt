use Rattle.std.proofs.Common.{◌≡◌, take}
use Rattle.world_core.specs.Parts.{deque_lists}
use Rattle.world_core.proofs.machine.rests_of.Given as goal

abbrev pub invariant-loop-feed : goal.invariant-loop-feed
invariant-loop-feed l = deque_lists l.rests.items ≡ take l.feed-index l.feeds
