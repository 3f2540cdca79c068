use Rattle.std.proofs.Common.{arith}
use Rattle.std.specs.FinMap.{empty}
use Rattle.time_table.proofs.AddLaws.{total_count-add_many, total_count-empty}
use Rattle.time_table_tests.proofs.arena_tests.added_and_undone.Goals as goal

pub table_add-requires-clause-fits : goal.table_add-requires-clause-fits
table_add-requires-clause-fits g c = rw c.in_ok-work.ensures (omega (arith, total_count-empty))

pub table_add-requires-2-clause-fits : goal.table_add-requires-2-clause-fits
table_add-requires-2-clause-fits g c = rw (c.in_ok-table_add.ensures.added, c.in_ok-work.ensures) (omega (arith, total_count-add_many empty 5 1, total_count-empty))
