use Rattle.std.proofs.Common.{vec_len}
use Rattle.arena_undo.proofs.Trails.{IsUndoing}
use Rattle.arena_undo.proofs.work.Work.undo.Given as goal

abbrev pub invariant-loop-change : goal.invariant-loop-change
invariant-loop-change l = IsUndoing l.fn.self.start l.arena l.changes.items

abbrev pub decreases-loop-change : goal.decreases-loop-change
decreases-loop-change l = vec_len l.changes
