use Rattle.std.proofs.Common.{List, refl, sym, ap, ◌∙◌, subst}
use Rattle.cube_view.specs.Walks.{down}
use Rattle.arena_undo.specs.Worked.{Worked}
use Rattle.node_arena.specs.Slots.{Slot, IsNode, link, link_of}
use Rattle.node_arena.specs.Calls.{relink}
use Rattle.arena_undo.proofs.Backward.{relinked_back, relinked_there}
use Rattle.arena_undo.proofs.Trails.{old_made}
use Rattle.arena_undo.proofs.work.Work.set_child.Goals as goal

pub invariant_of-self : goal.invariant_of-self
invariant_of-self c = (old_made (λ (s : Slot). relink s c.args.label c.args.link) c.args.id.0 c.self.inside.arena _ _ _ _ _ _ _ _ _ _ _ c.args.self.now c.self.invariant c.self.view_is c.requires.room refl c.is_old-wanted.ensures c.note.ensures.noted c.note.ensures.room c.set_child-old.ensures.set c.requires.in_range (λ (base : List Slot) less same. (relinked_there base c.args.id c.args.label c.args.link c.set_child-old.result less (subst IsNode (sym same) c.requires.is_node) (ap (λ (s : Slot). link s (down c.args.label)) same ∙ (ap (λ (w : Worked). link_of w.slots c.args.id.0 (down c.args.label)) (sym c.self.view_is) ∙ c.set_child-old.ensures.given)), relinked_back base c.args.id c.args.label c.args.link c.set_child-old.result less (ap (λ (s : Slot). link s (down c.args.label)) same ∙ (ap (λ (w : Worked). link_of w.slots c.args.id.0 (down c.args.label)) (sym c.self.view_is) ∙ c.set_child-old.ensures.given))))).0

pub returns-clause-set : goal.returns-clause-set
returns-clause-set c = (old_made (λ (s : Slot). relink s c.args.label c.args.link) c.args.id.0 c.self.inside.arena _ _ _ _ _ _ _ _ _ _ _ c.args.self.now c.self.invariant c.self.view_is c.requires.room refl c.is_old-wanted.ensures c.note.ensures.noted c.note.ensures.room c.set_child-old.ensures.set c.requires.in_range (λ (base : List Slot) less same. (relinked_there base c.args.id c.args.label c.args.link c.set_child-old.result less (subst IsNode (sym same) c.requires.is_node) (ap (λ (s : Slot). link s (down c.args.label)) same ∙ (ap (λ (w : Worked). link_of w.slots c.args.id.0 (down c.args.label)) (sym c.self.view_is) ∙ c.set_child-old.ensures.given)), relinked_back base c.args.id c.args.label c.args.link c.set_child-old.result less (ap (λ (s : Slot). link s (down c.args.label)) same ∙ (ap (λ (w : Worked). link_of w.slots c.args.id.0 (down c.args.label)) (sym c.self.view_is) ∙ c.set_child-old.ensures.given))))).1
