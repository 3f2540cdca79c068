use Rattle.std.proofs.Common.{◌≡◌, ◌+◌, ◌<◌, ◌≤◌, All, length}
use Rattle.group_insert.specs.Settling.{entries, SettlesTo}
use Rattle.group_insert.proofs.put_off.settle_all.Given as goal

abbrev pub invariant-loop-put_off : goal.invariant-loop-put_off
invariant-loop-put_off g l = record {
  settles : SettlesTo l.kept l.fn.work.slots l.work.slots (entries l.fn.put_off.items) (entries l.put_off.items);
  long : l.kept ≤ length l.put_off.items;
  within : All (λ p. p.from + p.between < 6) l.put_off.items;
  start : l.work.start ≡ l.fn.work.start;
}

abbrev pub decreases-loop-put_off : goal.decreases-loop-put_off
decreases-loop-put_off g l = length l.put_off.items
