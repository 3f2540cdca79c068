use Rattle.std.proofs.Common.{◌≡◌, ℕ, ◌*◌, ◌++◌, List, [], length, get_or, sym, ◌∙◌, ap, subst, arith}
use Rattle.std.specs.List.{flat_map, range_with_len}
use Rattle.std.proofs.lemmas.List.{get_or_default}
use Rattle.list_tables.proofs.OneMore.{and_rows}
use Rattle.list_tables.specs.Totals.{AreRowSums}
use Rattle.list_tables.specs.declared.cells.Cells.TheVariants.{Pairs}
use Rattle.list_tables.proofs.PairRows.{within_is}
use Rattle.query_syntax.specs.CrossTables.{cross_rows, rows_within, text_of_value}
use Rattle.query_syntax.specs.Items.{values_at}
use Rattle.query_syntax.specs.declared.table.RowOut.{RowOut}
use Rattle.list_tables.proofs.pairs.pair_rows.Goals as goal

pub loop-value-preserved : goal.loop-value-preserved
loop-value-preserved c =
    let z = c.args.schema.now in
    let q = c.args.query.now in
    let h = c.args.points.now in
    let v = c.loop-value.value in
    let firsts = c.value_texts-firsts.result.now in
    let text : c.index-firsts-value.result ≡ text_of_value z c.args.first v = c.index-firsts-value.is ∙ get_or_default firsts v c.index-firsts-value.result [] c.loop-value-test.true ∙ ap (λ (l : List (List ℕ)). get_or l v []) c.value_texts-firsts.ensures.texts in
    let seconds = c.value_texts-seconds.result.now in
    let sums = subst (AreRowSums z q (Pairs c.args.first c.args.second (length seconds)) (length seconds * length firsts) h) (sym c.as_slice-totals.ensures) c.in_ok-found.ensures in
    let within = within_is z q h c.args.first c.args.second (length firsts) v c.index-firsts-value.result seconds c.as_slice-totals.result.now c.loop-value-test.true text c.value_texts-seconds.ensures.texts sums in
    c.in_ok-push_rows_within.ensures ∙ ap (λ (rows : List RowOut). c.loop-value.rows ++ rows) within ∙ and_rows (rows_within z q h c.args.first c.args.second) c.loop-value.rows v c.loop-value.invariant

pub returns : goal.returns
unfolding cross_rows
returns c =
    let z = c.args.schema.now in
    let count = ap length c.value_texts-firsts.ensures.texts in
    let all : c.loop-value.value ≡ length (values_at z.categories c.args.first) = omega (arith, count, c.loop-value-test.false, c.loop-value.auto.value-end) in
    c.loop-value.invariant ∙ ap (λ (n : ℕ). flat_map (rows_within z c.args.query.now c.args.points.now c.args.first c.args.second) (range_with_len 0 n)) all
