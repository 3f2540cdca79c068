use Rattle.query_syntax.proofs.ChoicesAt.{values_past}
use Rattle.std.proofs.Common.{arith}
use Rattle.query_syntax.proofs.valid_query.value_count.Goals as goal

pub returns-else-k-len-clause-count : goal.returns-else-k-len-clause-count
returns-else-k-len-clause-count c = values_past c.args.schema.now.categories c.args.k (omega (arith, c.if-k-len.false, c.len.ensures))
