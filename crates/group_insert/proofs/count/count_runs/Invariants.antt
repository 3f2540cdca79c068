use Rattle.std.proofs.Common.{◌≡◌, ◌+◌, ◌-◌, take, length}
use Rattle.time_table.specs.Counts.{total_count}
use Rattle.node_arena.specs.Slots.{slot_of, counts_of}
use Rattle.proper_path.specs.Changes.{IsAdded}
use Rattle.group_insert.specs.Added.{amount_in, part_weight}
use Rattle.group_insert.proofs.count.count_runs.Given as goal

abbrev pub invariant-loop-from : goal.invariant-loop-from
invariant-loop-from l = record {
  added : IsAdded l.initial.work.slots l.work.slots l.table.0 (λ bin. amount_in (take l.from l.part) bin);
  total : total_count (counts_of (slot_of l.work.slots l.table.0)) ≡ total_count (counts_of (slot_of l.initial.work.slots l.table.0)) + part_weight (take l.from l.part);
  start : l.work.start ≡ l.initial.work.start;
}

abbrev pub decreases-loop-from : goal.decreases-loop-from
decreases-loop-from l = length l.part - l.from
