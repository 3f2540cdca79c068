use Rattle.std.proofs.Common.{ℕ, ◌+◌, ◌*◌, List, get_or, sym, ◌∙◌, ap, arith}
use Rattle.std.proofs.Math.Nat.{mul-le-mul_right}
use Rattle.query_syntax.specs.Boxes.{box, total}
use Rattle.query_syntax.specs.Narrowing.{with_bins}
use Rattle.query_syntax.specs.Tables.{bins_row}
use Rattle.tile_drill.proofs.RowSteps.{one_row_more, bins_row_is}
use Rattle.tile_drill.proofs.bins.bins_rows.Goals as goal

pub row_totals-requires-clause-small : goal.row_totals-requires-clause-small
row_totals-requires-clause-small g c κs within =
    let m = mul-le-mul_right (c.args.count + 1) c.requires.wide in
    omega (arith, m, c.requires.first, c.requires.count)

pub loop-i-preserved : goal.loop-i-preserved
loop-i-preserved g c =
    let z = g.V.CubeView.schema c.args.view.now in
    let q = c.args.query.now in
    record {
      rows = λ h counts.
          let all = c.in_ok-found.ensures.totals h counts in
          let here = ap (λ (xs : List ℕ). get_or xs c.loop-i.i 0) c.as_slice-totals.ensures ∙ all.each c.loop-i.i c.loop-i-test.true in
          let at_place = ap (λ (j : ℕ). total z (with_bins (box q) (c.args.first + j * c.args.wide) (c.args.first + (j + 1) * c.args.wide)) h) c.from-place.ensures in
          one_row_more (bins_row z q h c.args.first c.args.wide) c.loop-i.i c.loop-i.rows c.add.new.self _ c.in_ok-add.ensures.added (c.loop-i.invariant.rows h counts)
          (bins_row_is z q h c.args.first c.args.wide c.loop-i.i c.from-place.result _ c.from-place.ensures (here ∙ sym at_place));
    }
