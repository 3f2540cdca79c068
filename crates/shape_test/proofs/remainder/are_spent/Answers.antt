use Rattle.shape_test.proofs.RowRemainders.{not_spent}
use Rattle.shape_test.proofs.remainder.are_spent.Goals as goal

pub returns-then-row-gt0 : goal.returns-then-row-gt0
returns-then-row-gt0 c = (λ no. absurd cc, λ none. absurd (not_spent c.args.rows.now c.loop-row.row-index (0, 0) c.loop-row-test.true c.if-row-gt0.true none))
