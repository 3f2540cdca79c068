use Rattle.std.proofs.Common.{sym, ap, ◌∙◌, Some, true≢false}
use Rattle.node_arena.specs.declared.link.SlotId.{SlotId}
use Rattle.node_arena.specs.declared.link.Link.{Link}
use Rattle.node_arena.specs.Calls.{set_content}
use Rattle.arena_undo.specs.Worked.{Worked}
use Rattle.point_insert.proofs.NodeContents.{filled_table, filled_node}
use Rattle.point_insert.proofs.content.make_content.Goals as goal

pub returns-in_ok-table-clause-filled : goal.returns-in_ok-table-clause-filled
returns-in_ok-table-clause-filled c updated =
    filled_table _ _ updated _ _ _ c.args.at.0 _ c.requires.in_range c.requires.is_node (sym c.requires.none) (c.is_time.ensures.0 c.if-is_time.true)
    (ap (λ (z : SlotId). z.0) c.in_ok-table.ensures.id)
    (ap (λ (w : Worked). w.slots) c.in_ok-table.ensures.added)
    (ap (λ (w : Worked). w.slots) c.set_content.ensures.set ∙ ap (λ (z : Link). set_content c.add_table.new.self.slots c.args.at.0 (Some z)) c.proper.ensures)

pub returns-in_ok-node-clause-filled : goal.returns-in_ok-node-clause-filled
returns-in_ok-node-clause-filled c updated =
    filled_node _ _ updated _ _ _ c.args.at.0 _ c.requires.in_range c.requires.is_node (sym c.requires.none) (λ e. true≢false (sym (c.is_time.ensures.1 e) ∙ c.if-is_time.false))
    (ap (λ (z : SlotId). z.0) c.in_ok-node.ensures.id)
    (ap (λ (w : Worked). w.slots) c.in_ok-node.ensures.added)
    (ap (λ (w : Worked). w.slots) c.set_content-else-is_time.ensures.set ∙ ap (λ (z : Link). set_content c.add_node.new.self.slots c.args.at.0 (Some z)) c.proper-else-is_time.ensures)
