use Rattle.std.proofs.Common.{arith}
use Rattle.time_table.proofs.rows.wide_of.Goals as goal

pub single_of-requires-clause-light : goal.single_of-requires-clause-light
single_of-requires-clause-light c = record { half = omega arith; small = omega arith }

pub split_of-requires-clause-light : goal.split_of-requires-clause-light
split_of-requires-clause-light c = record { half = omega arith; small = omega arith }
