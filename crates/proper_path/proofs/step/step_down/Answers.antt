use Rattle.std.proofs.Common.{sym, ap, ◌∙◌}
use Rattle.cube_view.specs.Walks.{down}
use Rattle.node_arena.specs.declared.link.SlotId.{SlotId}
use Rattle.node_arena.specs.declared.link.Link.{Link}
use Rattle.node_arena.specs.Calls.{set_child, put_child}
use Rattle.arena_undo.specs.Worked.{Worked}
use Rattle.proper_path.proofs.Links.{shared_there}
use Rattle.proper_path.proofs.StepCalls.{step_copied, step_added}
use Rattle.proper_path.proofs.step.step_down.Goals as goal

pub copy_slot-requires-clause-in_range : goal.copy_slot-requires-clause-in_range
copy_slot-requires-clause-in_range g c =
    c.requires.inside c.in-Some.link.to.0 (sym (shared_there c.args.work.now.slots c.args.at.0 (down c.args.label) c.in-Some.link c.child.result c.in-Some.is c.child.ensures.link (sym c.is_proper.ensures ∙ c.if-is_proper.false)))

pub returns-in_ok-copy-in-Some-clause-stepped : goal.returns-in_ok-copy-in-Some-clause-stepped
returns-in_ok-copy-in-Some-clause-stepped g c =
    step_copied _ _ _ _ _ c.in-Some.link.to.0 _ c.requires.in_range
    (shared_there c.args.work.now.slots c.args.at.0 (down c.args.label) c.in-Some.link c.child.result c.in-Some.is c.child.ensures.link (sym c.is_proper.ensures ∙ c.if-is_proper.false))
    (ap (λ (z : SlotId). z.0) c.in_ok-copy-in-Some.ensures.id)
    (ap (λ (w : Worked). w.slots) c.in_ok-copy-in-Some.ensures.copied)
    (ap (λ (w : Worked). w.slots) c.set_child.ensures.set ∙ ap (λ (z : Link). set_child c.copy_slot.new.self.slots c.args.at.0 c.args.label z) c.proper.ensures)

pub returns-in_ok-put_child-in-None-clause-stepped :
    goal.returns-in_ok-put_child-in-None-clause-stepped
returns-in_ok-put_child-in-None-clause-stepped g c =
    step_added _ _ _ _ _ _ c.requires.in_range c.requires.is_node (sym c.in-None.is ∙ c.child.ensures.link)
    (ap (λ (z : SlotId). z.0) c.in_ok-to-in-None.ensures.id)
    (ap (λ (w : Worked). w.slots) c.in_ok-to-in-None.ensures.added)
    (ap (λ (w : Worked). w.slots) c.in_ok-put_child-in-None.ensures.put ∙ ap (λ (z : Link). put_child c.add_node.new.self.slots c.args.at.0 c.args.label z) c.proper-in-None.ensures)
