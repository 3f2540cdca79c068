use Rattle.std.proofs.Common.{◌≡◌, ◌-◌, length}
use Rattle.texts.specs.LineFeeds.{NoFeed}
use Rattle.live_sums.specs.Rests.{KeepsRest, held_and_left}
use Rattle.live_sums.proofs.reading.read_line.Given as goal

abbrev pub invariant-reads : goal.invariant-reads
invariant-reads g l = record {
  keeps : KeepsRest (held_and_left g.S.Source.left l.initial.source l.initial.held.items) (held_and_left g.S.Source.left l.source l.held.items);
  none : NoFeed l.held.items;
  quiet : g.S.Source.faults l.source ≡ g.S.Source.faults l.initial.source;
}

abbrev pub decreases-reads : goal.decreases-reads
decreases-reads g l = 1073741825 - length l.held.items
