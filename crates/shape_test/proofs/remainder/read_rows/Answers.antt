use Rattle.std.proofs.Common.{sym, ◌∙◌}
use Rattle.node_arena.specs.Slots.{slot_of}
use Rattle.shape_test.proofs.RowRemainders.{table_orderly, node_orderly, node_rows}
use Rattle.shape_test.proofs.remainder.read_rows.Goals as goal

pub returns-in_ok-put_rows-clause-orderly : goal.returns-in_ok-put_rows-clause-orderly
returns-in_ok-put_rows-clause-orderly g c = table_orderly c.args.arena.now c.args.id.0 c.table.result.now c.table.ensures.counts c.put_rows.ensures.counted

pub returns-in_err-put_rows-clause-orderly : goal.returns-in_err-put_rows-clause-orderly
returns-in_err-put_rows-clause-orderly g c = table_orderly c.args.arena.now c.args.id.0 c.table.result.now c.table.ensures.counts c.put_rows.ensures.counted

pub returns-else-is_table-clause-rows : goal.returns-else-is_table-clause-rows
returns-else-is_table-clause-rows g c = c.clear.ensures.items ∙ sym (node_rows (slot_of c.args.arena.now c.args.id.0) (sym c.is_table.ensures ∙ c.if-is_table.false))

pub returns-else-is_table-clause-orderly : goal.returns-else-is_table-clause-orderly
returns-else-is_table-clause-orderly g c = node_orderly c.args.arena.now c.args.id.0 (sym c.is_table.ensures ∙ c.if-is_table.false)
