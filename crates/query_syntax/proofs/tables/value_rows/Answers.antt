use Rattle.std.proofs.Common.{[], arith}
use Rattle.std.proofs.lemmas.List.{get_or_default}
use Rattle.std.proofs.lemmas.List.FromFn.{map-range_with_len_more}
use Rattle.query_syntax.specs.Tables.{value_row}
use Rattle.query_syntax.proofs.tables.value_rows.Goals as goal

pub loop-v-preserved : goal.loop-v-preserved
loop-v-preserved c =
    let text = get_or_default c.values_of-text-items.result.now c.loop-v.v [] c.text-item.result c.loop-v-test.true in
    let more = map-range_with_len_more (value_row c.args.schema.now c.args.query.now c.args.points.now c.args.k) 0 c.loop-v.v c.loop-v.v (omega arith) in
    cc (c.in_ok-add.ensures.added, c.in_ok-text.ensures, c.loop-v.invariant)
