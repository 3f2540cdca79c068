use Rattle.std.proofs.Common.{◌+◌, ◌*◌, ◌≤◌, length, arith}
use Rattle.std.proofs.Math.Nat.{mul-le-mul_right}
use Rattle.std.proofs.lemmas.List.FromFn.{fill_by_all}
use Rattle.cube_view.specs.Bag.{amount}
use Rattle.cube_view.specs.Places.{is_before}
use Rattle.plain_cube.proofs.scans.count_before_each.Goals as goal

pub overflow_add-end : goal.overflow_add-end
overflow_add-end g c =
    let up : (c.loop-total.total-index + 1) * c.args.wide ≤ length c.args.totals.now * c.args.wide = mul-le-mul_right c.args.wide (omega arith) in
    omega arith

pub returns-clause-totals : goal.returns-clause-totals
returns-clause-totals g c =
    fill_by_all (λ k. amount (is_before c.args.schema.now c.args.address.now (c.args.from + k * c.args.wide)) c.args.points.now) c.loop-total.totals (length c.args.totals.now) 0 (omega arith) (λ k less. c.loop-total.invariant.told k (omega arith))
