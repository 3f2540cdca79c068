use Rattle.std.proofs.Common.{ap, ◌∙◌}
use Rattle.time_table.specs.Counts.{total_count}
use Rattle.time_table.proofs.AddLaws.{total_count-add_many}
use Rattle.time_table_tests.proofs.table_tests.add_again.Goals as goal

pub returns-in-Ok : goal.returns-in-Ok
returns-in-Ok g c = ap total_count c.in-Ok.ensures.added ∙ total_count-add_many c.args.table.now c.args.bin c.args.amount
