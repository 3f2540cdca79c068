use Rattle.std.proofs.Common.{ap, ◌∙◌}
use Rattle.time_table.specs.Counts.{total_count}
use Rattle.time_table.proofs.AddLaws.{total_count-empty}
use Rattle.time_table_tests.proofs.table_tests.empty.Goals as goal

pub returns : goal.returns
returns c = ap total_count c.new.ensures ∙ total_count-empty
