use Rattle.std.proofs.Common.{sym, ◌∙◌}
use Rattle.node_arena.specs.Slots.{slot_of}
use Rattle.image_cube.proofs.TableCounts.{node-counted}
use Rattle.image_cube.proofs.save.tell_table.Goals as goal

pub returns-else-is_table : goal.returns-else-is_table
returns-else-is_table g c = node-counted (slot_of c.args.arena.now c.args.id.0) (sym c.is_table.ensures ∙ c.if-is_table.false)
