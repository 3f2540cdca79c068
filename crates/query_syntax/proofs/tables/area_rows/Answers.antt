use Rattle.std.proofs.Common.{◌++◌, List, sym, ◌∙◌, ap}
use Rattle.std.specs.List.{filter_map}
use Rattle.query_syntax.specs.Tables.{area_row}
use Rattle.query_syntax.proofs.TileLaws.{all_inside}
use Rattle.query_syntax.specs.TileOrder.{tiles_inside}
use Rattle.query_syntax.specs.declared.table.RowOut.{RowOut}
use Rattle.query_syntax.proofs.tables.area_rows.Goals as goal

pub returns : goal.returns
returns c =
    let rows = filter_map (area_row c.args.schema.now c.args.query.now c.args.points.now) in
    let region = c.args.query.now.region in
    c.in_ok-push_areas.ensures
    ∙ (ap (λ (before : List RowOut). before ++ rows (tiles_inside c.args.down region)) c.new-rows.ensures
    ∙ ap rows (sym (all_inside region c.requires.region.0 c.requires.region.1 c.args.down)))
