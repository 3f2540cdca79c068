use Rattle.std.proofs.Common.{◌≡◌, ℕ, ◌<◌, false, length, get_or}
use Rattle.query_syntax.specs.Boxes.{chosen}
use Rattle.list_tables.proofs.marks.marks_of.Given as goal

abbrev pub invariant-loop-value : goal.invariant-loop-value
invariant-loop-value l = (length l.marks ≡ 256) × ((v : ℕ) → v < l.value → get_or l.marks v false ≡ chosen l.choice v)
