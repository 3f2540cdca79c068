use Rattle.std.proofs.Common.{arith}
use Rattle.std.specs.FinMap.{empty}
use Rattle.time_table.specs.Counts.{add_many}
use Rattle.time_table.proofs.AddLaws.{contains_key-add_many, total_count-add_many, total_count-empty}
use Rattle.time_table_tests.proofs.arena_tests.added_and_taken.Goals as goal

pub table_add-requires-clause-fits : goal.table_add-requires-clause-fits
table_add-requires-clause-fits g c = rw c.in_ok-arena.ensures (omega (arith, total_count-empty))

pub table_add-requires-2-clause-fits : goal.table_add-requires-2-clause-fits
table_add-requires-2-clause-fits g c = rw (c.in_ok-table_add.ensures.added, c.in_ok-arena.ensures) (omega (arith, total_count-add_many empty 5 1, total_count-empty))

pub table_take-requires-clause-is_there : goal.table_take-requires-clause-is_there
table_take-requires-clause-is_there g c = rw (c.in_ok-table_add-2.ensures.added, c.in_ok-table_add.ensures.added, c.in_ok-arena.ensures) (contains_key-add_many (add_many empty 5 1) 5 1)
