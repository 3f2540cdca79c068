use Rattle.std.proofs.Common.{refl, ap, ◌∙◌}
use Rattle.cube_view.specs.Walks.{across}
use Rattle.arena_undo.specs.Worked.{Worked}
use Rattle.node_arena.specs.Slots.{link_of}
use Rattle.arena_undo.proofs.Trails.{content_made}
use Rattle.arena_undo.proofs.work.Work.set_content.Goals as goal

pub invariant_of-self : goal.invariant_of-self
invariant_of-self c = (content_made c.args.link c.set_content-old.result c.args.id c.self.inside.arena _ _ _ _ _ _ _ _ _ _ c.args.self.now c.self.invariant c.self.view_is c.requires.room refl c.is_new_content-wanted.ensures c.note.ensures.noted c.note.ensures.room c.set_content-old.ensures.set c.requires.in_range c.requires.is_node (c.set_content-old.ensures.given ∙ ap (λ (w : Worked). link_of w.slots c.args.id.0 across) c.self.view_is)).0

pub returns-clause-set : goal.returns-clause-set
returns-clause-set c = (content_made c.args.link c.set_content-old.result c.args.id c.self.inside.arena _ _ _ _ _ _ _ _ _ _ c.args.self.now c.self.invariant c.self.view_is c.requires.room refl c.is_new_content-wanted.ensures c.note.ensures.noted c.note.ensures.room c.set_content-old.ensures.set c.requires.in_range c.requires.is_node (c.set_content-old.ensures.given ∙ ap (λ (w : Worked). link_of w.slots c.args.id.0 across) c.self.view_is)).1
