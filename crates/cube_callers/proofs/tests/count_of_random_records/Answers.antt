use Rattle.std.proofs.Common.{arith}
use Rattle.cube_callers.proofs.FewSteps.{bits_1024}
use Rattle.cube_callers.proofs.tests.count_of_random_records.Goals as goal

pub returns : goal.returns
returns g c = let one = bits_1024 in let cost = c.count_over.ensures in omega (arith, one, cost)
