use Rattle.std.proofs.Common.{◌+◌, ◌*◌, ◌≤◌, length, arith}
use Rattle.std.proofs.Math.Nat.{mul-le-mul_right}
use Rattle.std.proofs.lemmas.List.FromFn.{fill_by_all}
use Rattle.time_table.specs.Counts.{count_before}
use Rattle.time_table.specs.Totals.{counts}
use Rattle.time_table.specs.Fews.{few_rows}
use Rattle.time_table.proofs.few.Few.pass.Goals as goal

pub returns-clause-sums : goal.returns-clause-sums
returns-clause-sums g c =
    fill_by_all (λ k. count_before (counts (few_rows c.args.self.now)) (c.args.from + k * c.args.wide)) c.loop-total.totals (length c.args.totals.now) 0 (omega arith) (λ k less. c.loop-total.invariant.told k (omega arith))

pub overflow_add-end : goal.overflow_add-end
overflow_add-end g c =
    let up : (c.loop-total.total-index + 1) * c.args.wide ≤ length c.args.totals.now * c.args.wide = mul-le-mul_right c.args.wide (omega arith) in
    omega arith
