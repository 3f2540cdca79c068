use Rattle.std.proofs.Common.{◌∙◌, ap, arith, length}
use Rattle.cube_view.specs.Bag.{amount, anywhere}
use Rattle.cube_view.specs.Places.{in_tile}
use Rattle.cube_view.specs.declared.schema.Schema.{Schema}
use Rattle.flat_view.specs.Kept.{flat_points, flat_schema}
use Rattle.query_syntax.proofs.ValidParts.{valid_parts}
use Rattle.query_syntax.specs.Tables.{table_rows}
use Rattle.flat_tables.proofs.Parts.{part_weighs_little}
use Rattle.flat_tables.proofs.RegionTables.{region_table}
use Rattle.flat_tables.proofs.answer.region_answer.Goals as goal

pub in_tile-points-requires : goal.in_tile-points-requires
in_tile-points-requires c = (valid_parts (flat_schema c.args.view.now) c.args.query.now c.requires.valid).region

pub list_rows-requires-clause-light : goal.list_rows-requires-clause-light
list_rows-requires-clause-light c =
    let view = c.args.view.now in
    let w = part_weighs_little (flat_schema view) (in_tile (flat_schema view).depth c.args.query.now.region) (flat_points view) view.sound view.few in
    let e = ap (amount anywhere) c.in_tile-points.ensures in
    omega (arith, w, e)

pub returns : goal.returns
returns c =
    let view = c.args.view.now in
    let q = c.args.query.now in
    region_table (flat_schema view) q (flat_points view) c.in_tile-points.result.now c.in_ok-rows.rows _ c.requires.valid c.requires.verb c.in_tile-points.ensures
    (c.in_ok-rows.ensures ∙ ap (λ (z : Schema). table_rows z q c.in_tile-points.result.now) c.schema.ensures) (ap length c.points.ensures)
