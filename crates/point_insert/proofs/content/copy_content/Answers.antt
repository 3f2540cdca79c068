use Rattle.std.proofs.Common.{sym, ap, ◌∙◌, Some}
use Rattle.node_arena.specs.declared.link.SlotId.{SlotId}
use Rattle.node_arena.specs.declared.link.Link.{Link}
use Rattle.node_arena.specs.Calls.{set_content}
use Rattle.arena_undo.specs.Worked.{Worked}
use Rattle.point_insert.proofs.NodeContents.{filled_copied}
use Rattle.point_insert.proofs.content.copy_content.Goals as goal

pub returns-clause-filled : goal.returns-clause-filled
returns-clause-filled c dims next updated n =
    filled_copied dims next updated _ _ _ c.args.at.0 c.args.from.0 _ c.requires.in_range c.requires.is_node (sym c.requires.from) n
    (ap (λ (z : SlotId). z.0) c.in_ok-copy.ensures.id)
    (ap (λ (w : Worked). w.slots) c.in_ok-copy.ensures.copied)
    (ap (λ (w : Worked). w.slots) c.set_content.ensures.set ∙ ap (λ (z : Link). set_content c.copy_slot.new.self.slots c.args.at.0 (Some z)) c.proper.ensures)
