use Rattle.std.proofs.Common.{◌≡◌, ◌+◌, ◌-◌, ◌*◌, ◌≤◌, drop, length}
use Rattle.std.specs.Prelude.{slice_range}
use Rattle.group_insert.specs.Labels.{HoldsRest}
use Rattle.group_insert.specs.Settling.{entries}
use Rattle.group_insert.specs.Visiting.{PassesAt, AreEntries}
use Rattle.group_insert.proofs.VisitCalls.{rank}
use Rattle.group_insert.proofs.visits.+visiting.Given as goal

abbrev pub decreases-visit : goal.decreases-visit
decreases-visit g l = 5 * rank l.schema.now l.place.now.dim l.place.now.level + 5

abbrev pub decreases-visit_node : goal.decreases-visit_node
decreases-visit_node g l = 5 * rank l.schema.now l.place.now.dim l.place.now.level + 4

abbrev pub decreases-visit_content : goal.decreases-visit_content
decreases-visit_content g l = 5 * rank l.schema.now l.place.now.dim l.place.now.level + 3

abbrev pub decreases-visit_labels : goal.decreases-visit_labels
decreases-visit_labels g l = 5 * rank l.schema.now l.place.now.dim l.place.now.level + 3

abbrev pub decreases-visit_runs : goal.decreases-visit_runs
decreases-visit_runs g l = 5 * rank l.schema.now l.place.now.dim l.place.now.level + 2

abbrev pub decreases-visit_label : goal.decreases-visit_label
decreases-visit_label g l = 5 * rank l.schema.now l.place.now.dim l.place.now.level + 1

abbrev pub invariant-visit_runs-loop-from : goal.invariant-visit_runs-loop-from
invariant-visit_runs-loop-from g l = record {
  passed : PassesAt l.schema l.fn.work.slots l.work.slots l.place.way (entries l.fn.put_off.items) (entries l.put_off.items) l.place.dim l.place.level l.place.at.0 (slice_range l.fn.pile.items l.place.part.at l.place.part.end) l.wide 0 l.next;
  left : HoldsRest l.schema l.place.dim (l.place.level + 1) l.next (slice_range l.fn.pile.items l.place.part.at l.place.part.end) (drop l.from l.fn.pile.items);
  place : l.from ≤ length l.fn.pile.items;
  pile : l.pile.items ≡ l.fn.pile.items;
  within : AreEntries l.put_off.items;
  start : l.work.start ≡ l.fn.work.start;
}

abbrev pub decreases-visit_runs-loop-from : goal.decreases-visit_runs-loop-from
decreases-visit_runs-loop-from g l = length l.fn.pile.items - l.from
