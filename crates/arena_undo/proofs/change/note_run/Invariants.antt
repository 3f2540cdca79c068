use Rattle.std.proofs.Common.{◌≡◌, ◌≤◌, ◌++◌, take, vec_capacity}
use Rattle.arena_undo.specs.Undone.{counted_each}
use Rattle.arena_undo.proofs.change.note_run.Given as goal

abbrev pub invariant-loop-i : goal.invariant-loop-i
invariant-loop-i l = record {
  noted : l.changes.items ≡ l.fn.changes.items ++ counted_each l.id (take l.i l.run);
  room : vec_capacity l.fn.changes ≤ vec_capacity l.changes;
}
