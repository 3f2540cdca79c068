use Rattle.shape_test.proofs.Coarser.{begun_with, after_step, other_step}
use Rattle.shape_test.proofs.home.is_coarser_after.Goals as goal

pub returns-then-is_same : goal.returns-then-is_same
returns-then-is_same c = after_step c.args.step _ c.args.a.now c.args.b.now _ c.is_same.result c.leads_across.result c.is_coarser.result (begun_with c.args.b.now _ c.in-len1-up.len_at_least) c.is_same.ensures c.if-is_same.true c.leads_across.ensures c.is_coarser.ensures

pub returns-else-is_same : goal.returns-else-is_same
returns-else-is_same c = other_step c.args.step _ c.args.a.now c.args.b.now _ c.is_same.result (begun_with c.args.b.now _ c.in-len1-up.len_at_least) c.is_same.ensures c.if-is_same.false
