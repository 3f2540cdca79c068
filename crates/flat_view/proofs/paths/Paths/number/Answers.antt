use Rattle.std.proofs.Common.{arith}
use Rattle.flat_view.proofs.PathNumbers.{path_number-parts}
use Rattle.flat_view.proofs.paths.Paths.number.Goals as goal

pub returns : goal.returns
returns c = omega (arith, path_number-parts 20 c.args.x c.args.y)
