use Rattle.std.proofs.Common.{refl, arith}
use Rattle.time_table.proofs.AddLaws.{total_count-empty}
use Rattle.arena_undo.proofs.tests.change_by_each_call.Goals as goal

pub add_node-requires : goal.add_node-requires
add_node-requires c = rw c.requires (omega arith)

pub add_table-requires : goal.add_table-requires
add_table-requires c = rw (c.in_ok-add_node.ensures.added, c.requires) (omega arith)

pub copy_slot-requires-clause-room : goal.copy_slot-requires-clause-room
copy_slot-requires-clause-room c = rw (c.in_ok-add_table.ensures.added, c.in_ok-add_node.ensures.added, c.requires) (omega arith)

pub copy_slot-requires-clause-in_range : goal.copy_slot-requires-clause-in_range
copy_slot-requires-clause-in_range c = rw (c.in_ok-add_table.ensures.added, c.in_ok-add_node.ensures.added, c.requires) (omega arith)

pub put_child-requires-clause-room : goal.put_child-requires-clause-room
put_child-requires-clause-room c = rw (c.in_ok-copy_slot.ensures.copied, c.in_ok-add_table.ensures.added, c.in_ok-add_node.ensures.added, c.requires) (omega arith)

pub put_child-requires-clause-in_range : goal.put_child-requires-clause-in_range
put_child-requires-clause-in_range c = rw (c.in_ok-copy_slot.ensures.copied, c.in_ok-add_table.ensures.added, c.in_ok-add_node.ensures.added, c.requires) (omega arith)

pub put_child-requires-clause-is_node : goal.put_child-requires-clause-is_node
put_child-requires-clause-is_node c = rw (c.in_ok-copy_slot.ensures.copied, c.in_ok-add_table.ensures.added, c.in_ok-add_node.ensures.added, c.requires) refl

pub put_child-requires-clause-is_new : goal.put_child-requires-clause-is_new
put_child-requires-clause-is_new c = rw (c.in_ok-copy_slot.ensures.copied, c.in_ok-add_table.ensures.added, c.in_ok-add_node.ensures.added, c.requires) refl

pub set_child-requires-clause-room : goal.set_child-requires-clause-room
set_child-requires-clause-room c = rw (c.in_ok-put_child.ensures.put, c.in_ok-copy_slot.ensures.copied, c.in_ok-add_table.ensures.added, c.in_ok-add_node.ensures.added, c.requires) (omega arith)

pub set_child-requires-clause-in_range : goal.set_child-requires-clause-in_range
set_child-requires-clause-in_range c = rw (c.in_ok-put_child.ensures.put, c.in_ok-copy_slot.ensures.copied, c.in_ok-add_table.ensures.added, c.in_ok-add_node.ensures.added, c.requires) (omega arith)

pub set_child-requires-clause-is_node : goal.set_child-requires-clause-is_node
set_child-requires-clause-is_node c = rw (c.in_ok-put_child.ensures.put, c.in_ok-copy_slot.ensures.copied, c.in_ok-add_table.ensures.added, c.in_ok-add_node.ensures.added, c.requires) refl

pub set_child-requires-clause-is_there : goal.set_child-requires-clause-is_there
set_child-requires-clause-is_there c = rw (c.in_ok-put_child.ensures.put, c.in_ok-copy_slot.ensures.copied, c.in_ok-add_table.ensures.added, c.in_ok-add_node.ensures.added, c.requires) refl

pub set_content-requires-clause-room : goal.set_content-requires-clause-room
set_content-requires-clause-room c = rw (c.set_child.ensures.set, c.in_ok-put_child.ensures.put, c.in_ok-copy_slot.ensures.copied, c.in_ok-add_table.ensures.added, c.in_ok-add_node.ensures.added, c.requires) (omega arith)

pub set_content-requires-clause-in_range : goal.set_content-requires-clause-in_range
set_content-requires-clause-in_range c = rw (c.set_child.ensures.set, c.in_ok-put_child.ensures.put, c.in_ok-copy_slot.ensures.copied, c.in_ok-add_table.ensures.added, c.in_ok-add_node.ensures.added, c.requires) (omega arith)

pub set_content-requires-clause-is_node : goal.set_content-requires-clause-is_node
set_content-requires-clause-is_node c = rw (c.set_child.ensures.set, c.in_ok-put_child.ensures.put, c.in_ok-copy_slot.ensures.copied, c.in_ok-add_table.ensures.added, c.in_ok-add_node.ensures.added, c.requires) refl

pub table_add_many-requires-clause-room : goal.table_add_many-requires-clause-room
table_add_many-requires-clause-room c = rw (c.set_content.ensures.set, c.set_child.ensures.set, c.in_ok-put_child.ensures.put, c.in_ok-copy_slot.ensures.copied, c.in_ok-add_table.ensures.added, c.in_ok-add_node.ensures.added, c.requires) (omega arith)

pub table_add_many-requires-clause-in_range : goal.table_add_many-requires-clause-in_range
table_add_many-requires-clause-in_range c = rw (c.set_content.ensures.set, c.set_child.ensures.set, c.in_ok-put_child.ensures.put, c.in_ok-copy_slot.ensures.copied, c.in_ok-add_table.ensures.added, c.in_ok-add_node.ensures.added, c.requires) (omega arith)

pub table_add_many-requires-clause-is_table : goal.table_add_many-requires-clause-is_table
table_add_many-requires-clause-is_table c = rw (c.set_content.ensures.set, c.set_child.ensures.set, c.in_ok-put_child.ensures.put, c.in_ok-copy_slot.ensures.copied, c.in_ok-add_table.ensures.added, c.in_ok-add_node.ensures.added, c.requires) refl

pub table_add_many-requires-clause-fits : goal.table_add_many-requires-clause-fits
table_add_many-requires-clause-fits c = rw (c.set_content.ensures.set, c.set_child.ensures.set, c.in_ok-put_child.ensures.put, c.in_ok-copy_slot.ensures.copied, c.in_ok-add_table.ensures.added, c.in_ok-add_node.ensures.added, c.requires) (omega (arith, total_count-empty))

pub table_add_many-requires-clause-some : goal.table_add_many-requires-clause-some
table_add_many-requires-clause-some c = omega arith
