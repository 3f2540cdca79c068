use Rattle.std.proofs.Common.{◌≡◌, ◌+◌, ◌-◌, ◌≤◌, length}
use Rattle.outer_io.specs.Bytes.{Takes}
use Rattle.outer_io.proofs.whole.read_up_to.Given as goal

abbrev pub invariant-reads : goal.invariant-reads
invariant-reads g l = record {
  taken : Takes (g.S.Source.left l.initial.source) (g.S.Source.left l.source) l.bytes.items;
  quiet : g.S.Source.faults l.source ≡ g.S.Source.faults l.initial.source;
  size : length l.bytes.items ≤ l.most + 1;
}

abbrev pub decreases-reads : goal.decreases-reads
decreases-reads g l = l.most + 1 - length l.bytes.items
