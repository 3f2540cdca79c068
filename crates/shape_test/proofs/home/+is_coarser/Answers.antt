use Rattle.shape_test.proofs.Coarser.{too_long, as_long, at_top, begun_with, first_is, by_longer, not_begun, begun_on}
use Rattle.shape_test.proofs.home.+is_coarser.Goals as goal
use Rattle.shape_test.proofs.home.+is_coarser.Goals.{else-may_go_down-via-then-may_go_down+else-is_coarser, else-may_go_down-via-else-may_go_down}

pub returns-then-a-b : goal.returns-then-a-b
returns-then-a-b t c = too_long c.args.loose c.args.a.now c.args.b.now c.if-a-b.true

pub returns-then-a-b-2 : goal.returns-then-a-b-2
returns-then-a-b-2 t c = as_long c.args.loose c.args.a.now c.args.b.now c.are_same.result c.if-a-b-2.true c.are_same.ensures

pub returns-in_default : goal.returns-in_default
returns-in_default t c = at_top c.args.loose c.is_empty.result c.args.a.now c.args.b.now c.in_default.len_below c.is_empty.ensures

pub returns-then-is_coarser : goal.returns-then-is_coarser
returns-then-is_coarser t c = by_longer c.args.loose c.may_go_down.result c.args.a.now c.args.b.now _ _ (begun_with c.args.b.now _ c.in-len1-up.len_at_least) c.may_go_down.ensures c.is_coarser.result c.if-may_go_down.true c.is_coarser.ensures c.if-is_coarser.true

pub returns-then-not-begins_with : goal.returns-then-not-begins_with
returns-then-not-begins_with t c = not_begun c.args.loose c.may_go_down.result c.args.a.now c.args.b.now _ _ (begun_with c.args.b.now _ c.in-len1-up.len_at_least) c.may_go_down.ensures (λ m f. elim c.else-may_go_down.branch [ else-may_go_down-via-then-may_go_down+else-is_coarser w ↦ (let e = w.is_coarser.ensures.1 f in let g = w.if-is_coarser.false in absurd cc) | else-may_go_down-via-else-may_go_down w ↦ (let g = w.if-may_go_down.false in absurd cc) ]) c.begins_with.result c.begins_with.ensures c.if-not-begins_with.true

pub returns : goal.returns
returns t c = begun_on c.args.loose c.may_go_down.result c.args.a.now c.args.b.now _ _ (begun_with c.args.b.now _ c.in-len1-up.len_at_least) c.may_go_down.ensures (λ m f. elim c.else-may_go_down.branch [ else-may_go_down-via-then-may_go_down+else-is_coarser w ↦ (let e = w.is_coarser.ensures.1 f in let g = w.if-is_coarser.false in absurd cc) | else-may_go_down-via-else-may_go_down w ↦ (let g = w.if-may_go_down.false in absurd cc) ]) c.begins_with.result c.leads_across.result c.is_coarser-2.result _ c.begins_with.ensures c.if-not-begins_with.false (first_is c.args.a.now _) c.leads_across.ensures c.is_coarser-2.ensures
