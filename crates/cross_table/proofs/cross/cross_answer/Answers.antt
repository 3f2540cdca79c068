use Rattle.std.proofs.Common.{◌∙◌, arith}
use Rattle.cross_table.proofs.RowSums.{cross_valid}
use Rattle.cross_table.proofs.Tables.{table_is}
use Rattle.query_syntax.specs.CrossTables.{cross_rows}
use Rattle.query_walk.proofs.QueryBoxes.{valid_has_box}
use Rattle.cross_table.proofs.cross.cross_answer.Goals as goal

pub cross_rows-requires-clause-has_box : goal.cross_rows-requires-clause-has_box
cross_rows-requires-clause-has_box g c κs within = valid_has_box (g.V.CubeView.schema c.args.view.now) c.args.query.now c.requires.valid

pub cross_rows-requires-clause-first : goal.cross_rows-requires-clause-first
cross_rows-requires-clause-first g c κs within =
    let known = (cross_valid (g.V.CubeView.schema c.args.view.now) c.args.query.now c.in-Cross.first c.in-Cross.second c.requires.valid c.in-Cross.is).0 in
    omega (arith, known, c.from-first.ensures)

pub cross_rows-requires-clause-second : goal.cross_rows-requires-clause-second
cross_rows-requires-clause-second g c κs within =
    let known = (cross_valid (g.V.CubeView.schema c.args.view.now) c.args.query.now c.in-Cross.first c.in-Cross.second c.requires.valid c.in-Cross.is).1 in
    omega (arith, known, c.from-second.ensures)

pub returns-clause-table : goal.returns-clause-table
returns-clause-table g c h counts =
    let z = g.V.CubeView.schema c.args.view.now in
    let rows = c.in_ok-rows.ensures.rows h counts ∙ (λ i. cross_rows z c.args.query.now h (c.from-first.ensures i) (c.from-second.ensures i)) in
    table_is z c.args.query.now h _ _ _ c.in-Cross.is rows (c.seen.ensures ∙ counts.number)
