use Rattle.cross_table.proofs.RowSums.{rows_add_up}
use Rattle.cross_table.proofs.laws.cross_sum.Goals as goal

pub returns : goal.returns
returns c = rows_add_up
