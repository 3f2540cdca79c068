use Rattle.std.proofs.Common.{sym, ◌∙◌}
use Rattle.node_arena.specs.Slots.{slot_of}
use Rattle.shape_test.specs.Homes.{walk_of}
use Rattle.shape_test.specs.Labels.{schema_levels}
use Rattle.shape_test.proofs.RowSums.{whole_size, part_size, node_size}
use Rattle.shape_test.proofs.size.slot_size.Goals as goal
use Rattle.shape_test.proofs.size.slot_size.Goals.{then-not-is_table-via-then-not-is_table, then-not-is_table-via-else-not-is_table+then-not-is_whole_at}

pub returns-then-not-is_table : goal.returns-then-not-is_table
returns-then-not-is_table g c = elim c.then-not-is_table.branch [ then-not-is_table-via-then-not-is_table w ↦ node_size (schema_levels c.args.schema.now) (walk_of c.args.home.now) (slot_of c.args.arena.now c.args.id.0) (sym c.is_table.ensures ∙ w.if-not-is_table.true) | then-not-is_table-via-else-not-is_table+then-not-is_whole_at w ↦ part_size (schema_levels c.args.schema.now) (walk_of c.args.home.now) (slot_of c.args.arena.now c.args.id.0) (sym w.is_whole_at.ensures ∙ w.if-not-is_whole_at.true) ]

pub returns : goal.returns
returns g c = c.rows_size.ensures ∙ whole_size (schema_levels c.args.schema.now) (walk_of c.args.home.now) (slot_of c.args.arena.now c.args.id.0) c.table.result.now (sym c.is_whole_at.ensures ∙ c.if-not-is_whole_at.false) c.table.ensures.counts
