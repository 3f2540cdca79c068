use Rattle.std.proofs.Common.{List, refl, sym, ap, ◌∙◌, subst}
use Rattle.cube_view.specs.Walks.{down}
use Rattle.node_arena.specs.Slots.{Slot, IsNode, link}
use Rattle.node_arena.specs.Calls.{put}
use Rattle.arena_undo.proofs.Backward.{put_back, put_there}
use Rattle.arena_undo.proofs.Trails.{old_made}
use Rattle.arena_undo.proofs.work.Work.put_child.Goals as goal

pub invariant_of-self-2 : goal.invariant_of-self-2
invariant_of-self-2 c = (old_made (λ (s : Slot). put s c.args.label c.args.link) c.args.id.0 c.self.inside.arena _ _ _ _ _ _ _ _ _ _ _ c.args.self.now c.self.invariant c.self.view_is c.requires.room refl c.is_old-wanted.ensures c.note.ensures.noted c.note.ensures.room c.in_ok-put_child.ensures.put c.requires.in_range (λ (base : List Slot) less same. (put_there base c.args.id c.args.label c.args.link less (subst IsNode (sym same) c.requires.is_node) (ap (λ (s : Slot). link s (down c.args.label)) same ∙ c.requires.is_new), put_back base c.args.id c.args.label c.args.link less (ap (λ (s : Slot). link s (down c.args.label)) same ∙ c.requires.is_new)))).0

pub returns-clause-put : goal.returns-clause-put
returns-clause-put c = (old_made (λ (s : Slot). put s c.args.label c.args.link) c.args.id.0 c.self.inside.arena _ _ _ _ _ _ _ _ _ _ _ c.args.self.now c.self.invariant c.self.view_is c.requires.room refl c.is_old-wanted.ensures c.note.ensures.noted c.note.ensures.room c.in_ok-put_child.ensures.put c.requires.in_range (λ (base : List Slot) less same. (put_there base c.args.id c.args.label c.args.link less (subst IsNode (sym same) c.requires.is_node) (ap (λ (s : Slot). link s (down c.args.label)) same ∙ c.requires.is_new), put_back base c.args.id c.args.label c.args.link less (ap (λ (s : Slot). link s (down c.args.label)) same ∙ c.requires.is_new)))).1
