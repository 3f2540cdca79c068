-- Each half of the bits has its digits in the table.
use Rattle.std.proofs.Common.{arith, ◌∙◌, ◌/◌, ◌%◌}
use Rattle.flat_view.proofs.PathNumbers.{digits_of-halves, path_number-small}
use Rattle.flat_view.proofs.paths.Paths.digits_of.Goals as goal

pub returns-clause-digits : goal.returns-clause-digits
returns-clause-digits c =
    let n = c.args.n in
    let filled = c.args.self.now.filled in
    digits_of-halves n _ _ (c.from.ensures ∙ filled (n / 1024 % 1024) (omega arith)) (c.from-2.ensures ∙ filled (n % 1024) (omega arith))

pub returns-clause-small : goal.returns-clause-small
returns-clause-small c = omega (arith, returns-clause-digits c, path_number-small 20 c.args.n 0)
