use Rattle.std.proofs.Common.{List, refl, sym, subst}
use Rattle.time_table.specs.Counts.{AllCounted}
use Rattle.arena_undo.specs.Worked.{Worked}
use Rattle.node_arena.specs.Slots.{Slot, IsTable, slot_of, counts_of}
use Rattle.node_arena.specs.Calls.{with_many}
use Rattle.arena_undo.proofs.Backward.{counted_back, counted_there}
use Rattle.arena_undo.proofs.Trails.{old_made}
use Rattle.arena_undo.proofs.work.Work.table_add_many.Goals as goal

pub invariant_of-self-2 : goal.invariant_of-self-2
invariant_of-self-2 c = (old_made (λ (s : Slot). with_many s c.args.bin c.args.amount) c.args.id.0 c.self.inside.arena _ _ _ _ _ _ _ _ _ _ _ c.args.self.now c.self.invariant c.self.view_is c.requires.room refl c.is_old-wanted.ensures c.note.ensures.noted c.note.ensures.room c.in_ok-table_add_many.ensures.added c.requires.in_range (λ (base : List Slot) less same. (counted_there base c.args.id c.args.bin c.args.amount less (subst IsTable (sym same) c.requires.is_table) c.requires.some, counted_back base c.args.id c.args.bin c.args.amount less (subst (λ (s : Slot). AllCounted (counts_of s)) (sym same) (subst (λ (w : Worked). AllCounted (counts_of (slot_of w.slots c.args.id.0))) c.self.view_is c.in_ok-table_add_many.ensures.was_counted))))).0

pub returns-clause-added : goal.returns-clause-added
returns-clause-added c = (old_made (λ (s : Slot). with_many s c.args.bin c.args.amount) c.args.id.0 c.self.inside.arena _ _ _ _ _ _ _ _ _ _ _ c.args.self.now c.self.invariant c.self.view_is c.requires.room refl c.is_old-wanted.ensures c.note.ensures.noted c.note.ensures.room c.in_ok-table_add_many.ensures.added c.requires.in_range (λ (base : List Slot) less same. (counted_there base c.args.id c.args.bin c.args.amount less (subst IsTable (sym same) c.requires.is_table) c.requires.some, counted_back base c.args.id c.args.bin c.args.amount less (subst (λ (s : Slot). AllCounted (counts_of s)) (sym same) (subst (λ (w : Worked). AllCounted (counts_of (slot_of w.slots c.args.id.0))) c.self.view_is c.in_ok-table_add_many.ensures.was_counted))))).1
