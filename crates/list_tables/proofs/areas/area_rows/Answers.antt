use Rattle.std.proofs.Common.{ℕ, ◌<◌, ◌++◌, List, sym, ◌∙◌, ap, subst}
use Rattle.std.specs.List.{filter_map}
use Rattle.list_tables.specs.Areas.{area_in}
use Rattle.list_tables.specs.Totals.{AreRowSums}
use Rattle.list_tables.specs.declared.areas.Square.{Square}
use Rattle.list_tables.specs.declared.cells.Cells.TheVariants.{Tiles}
use Rattle.list_tables.proofs.MapRows.{rows_are, square_count}
use Rattle.query_syntax.proofs.TileLaws.{all_inside}
use Rattle.query_syntax.specs.Tables.{area_row}
use Rattle.query_syntax.specs.TileOrder.{tiles_inside}
use Rattle.query_syntax.specs.declared.table.RowOut.{RowOut}
use Rattle.list_tables.proofs.areas.area_rows.Goals as goal

pub totals_of-requires-clause-rows : goal.totals_of-requires-clause-rows
totals_of-requires-clause-rows c = λ i lt. subst (λ (n : ℕ). i < n) (square_count c.args.levels c.requires.deep.0) lt

pub push_areas-requires-clause-square : goal.push_areas-requires-clause-square
push_areas-requires-clause-square c = (c.requires.deep.0, c.in_ok-totals.ensures.many ∙ square_count c.args.levels c.requires.deep.0)

pub returns : goal.returns
returns c =
    let z = c.args.schema.now in
    let q = c.args.query.now in
    let h = c.args.points.now in
    let square : Square = record { levels = c.args.levels; totals = c.in_ok-totals.totals } in
    let sums = subst (λ (n : ℕ). AreRowSums z q (Tiles c.args.levels) n h c.in_ok-totals.totals) (square_count c.args.levels c.requires.deep.0) c.in_ok-totals.ensures in
    c.in_ok-push_areas.ensures
    ∙ (ap (λ (before : List RowOut). before ++ filter_map (area_in square) (tiles_inside c.args.levels q.region)) c.new-rows.ensures
    ∙ (rows_are z q h square sums ∙ ap (filter_map (area_row z q h)) (sym (all_inside q.region c.requires.region.0 c.requires.region.1 c.args.levels))))
