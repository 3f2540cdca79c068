use Rattle.std.proofs.Common.{ℕ, ◌<◌, ◌≤◌}
use Rattle.group_insert.specs.Entry.{HasNoTurn}
use Rattle.group_insert.proofs.way.first_turn.Given as goal

abbrev pub invariant-loop-from : goal.invariant-loop-from
invariant-loop-from g l = (f : ℕ) → 1 ≤ f → f < l.from → HasNoTurn l.schema l.work.slots l.part l.way l.node.0 l.label l.dim f l.old
