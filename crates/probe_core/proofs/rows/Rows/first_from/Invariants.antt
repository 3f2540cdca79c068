use Rattle.std.proofs.Common.{◌-◌, ◌+◌, ◌≤◌, length}
use Rattle.probe_core.specs.Bits.{bits}
use Rattle.probe_core.proofs.BinarySearch.{IsSearching}
use Rattle.probe_core.proofs.rows.Rows.first_from.Given as goal

abbrev pub invariant-loop-low : goal.invariant-loop-low
invariant-loop-low g l = record {
  search : IsSearching g.T.Keyed.key l.from l.self.items l.low l.high l.before l.first l.steps (l.initial.steps + bits (length l.self.items));
  not_less : l.initial.steps ≤ l.steps;
}

abbrev pub decreases-loop-low : goal.decreases-loop-low
decreases-loop-low g l = l.high - l.low
