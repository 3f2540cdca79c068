use Rattle.std.proofs.Common.{refl}
use Rattle.arena_undo.specs.Undone.{take_back}
use Rattle.arena_undo.proofs.Trails.{undo_step}
use Rattle.arena_undo.proofs.work.Work.undo.Goals as goal

pub take_change_back-requires : goal.take_change_back-requires
take_change_back-requires c = (undo_step c.args.self.start c.loop-change.arena (take_back c.in-Some.change c.loop-change.arena) _ _ c.in-Some.change c.loop-change.invariant c.in-Some.ensures.items refl).0

pub loop-change-preserved : goal.loop-change-preserved
loop-change-preserved c = (undo_step c.args.self.start c.loop-change.arena c.take_change_back.new.arena _ _ c.in-Some.change c.loop-change.invariant c.in-Some.ensures.items c.take_change_back.ensures).1
