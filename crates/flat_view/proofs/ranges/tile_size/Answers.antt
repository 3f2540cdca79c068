use Rattle.std.proofs.Common.{◌-◌, ◌≤◌, arith}
use Rattle.flat_view.proofs.PathNumbers.{pow_bits, size-small}
use Rattle.flat_view.proofs.ranges.tile_size.Goals as goal

pub returns-clause-size : goal.returns-clause-size
returns-clause-size c =
    let k = c.args.depth - c.args.z in
    let le : k ≤ 20 = omega arith in
    omega (arith, pow_bits k, size-small k le)

pub returns-clause-small : goal.returns-clause-small
returns-clause-small c =
    let k = c.args.depth - c.args.z in
    let le : k ≤ 20 = omega arith in
    omega (arith, pow_bits k, size-small k le)
