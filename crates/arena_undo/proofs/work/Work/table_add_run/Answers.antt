use Rattle.std.proofs.Common.{refl, subst}
use Rattle.time_table.specs.Counts.{AllCounted}
use Rattle.node_arena.specs.Slots.{slot_of, counts_of}
use Rattle.arena_undo.specs.Worked.{Worked}
use Rattle.arena_undo.proofs.RunTrail.{run_made}
use Rattle.arena_undo.proofs.work.Work.table_add_run.Goals as goal

pub invariant_of-self-2 : goal.invariant_of-self-2
invariant_of-self-2 c = (run_made c.self.inside.arena c.table_add_run.new.self c.self.inside.changes.items c.note_run.new.changes.items c.args.id c.args.run.now _ _ _ _ _ _ _ c.args.self.now c.self.invariant c.self.view_is c.requires.room refl c.is_old-wanted.ensures c.note_run.ensures.noted c.note_run.ensures.room c.in_ok-table_add_run.ensures.added c.requires.run.some (record { within = c.requires.in_range; kind = c.requires.is_table; counted = subst (λ (w : Worked). AllCounted (counts_of (slot_of w.slots c.args.id.0))) c.self.view_is c.in_ok-table_add_run.ensures.was_counted })).0

pub returns-clause-added : goal.returns-clause-added
returns-clause-added c = (run_made c.self.inside.arena c.table_add_run.new.self c.self.inside.changes.items c.note_run.new.changes.items c.args.id c.args.run.now _ _ _ _ _ _ _ c.args.self.now c.self.invariant c.self.view_is c.requires.room refl c.is_old-wanted.ensures c.note_run.ensures.noted c.note_run.ensures.room c.in_ok-table_add_run.ensures.added c.requires.run.some (record { within = c.requires.in_range; kind = c.requires.is_table; counted = subst (λ (w : Worked). AllCounted (counts_of (slot_of w.slots c.args.id.0))) c.self.view_is c.in_ok-table_add_run.ensures.was_counted })).1
