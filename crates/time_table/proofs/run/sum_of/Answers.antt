use Rattle.std.proofs.Common.{ℕ, ◌+◌, ap, ◌∙◌, arith}
use Rattle.std.proofs.lemmas.List.{take_all}
use Rattle.std.proofs.lemmas.List.Sums.{sum_by_more, sum_by-take-le}
use Rattle.time_table.specs.Counts.{run_total}
use Rattle.time_table.proofs.run.sum_of.Goals as goal

pub overflow_add-sum : goal.overflow_add-sum
overflow_add-sum c =
    let one = sum_by_more (λ (a : ℕ × ℕ). a.1) c.args.run.now c.loop-amount.amount-index (0, 0) (omega arith) in
    let all = sum_by-take-le (λ (a : ℕ × ℕ). a.1) c.args.run.now (c.loop-amount.amount-index + 1) in
    omega (arith, one, all)

pub loop-amount-preserved : goal.loop-amount-preserved
loop-amount-preserved c =
    let one = sum_by_more (λ (a : ℕ × ℕ). a.1) c.args.run.now c.loop-amount.amount-index (0, 0) (omega arith) in
    omega (arith, one)

pub returns : goal.returns
returns c = c.loop-amount.invariant ∙ ap run_total (take_all c.loop-amount.amount-index c.args.run.now (omega arith))
