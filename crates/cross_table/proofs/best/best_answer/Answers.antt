use Rattle.std.proofs.Common.{◌∙◌}
use Rattle.cross_table.proofs.Tables.{table_is}
use Rattle.cross_table.proofs.Tops.{best_above, first_are_top}
use Rattle.cross_table.specs.Ranking.{IsFirstByTotal}
use Rattle.std.proofs.Common.{List, subst}
use Rattle.query_syntax.specs.declared.table.RowOut.{RowOut}
use Rattle.query_walk.proofs.QueryBoxes.{valid_has_box}
use Rattle.cross_table.proofs.best.best_answer.Goals as goal

pub area_rows-requires-clause-has_box : goal.area_rows-requires-clause-has_box
area_rows-requires-clause-has_box g c κs within = valid_has_box (g.V.CubeView.schema c.args.view.now) c.args.query.now c.requires.valid

pub area_rows-requires-clause-deep : goal.area_rows-requires-clause-deep
area_rows-requires-clause-deep g c κs within = best_above (g.V.CubeView.schema c.args.view.now) c.args.query.now c.in-Best.depth c.in-Best.rows c.requires.valid c.in-Best.is

pub returns-clause-table : goal.returns-clause-table
returns-clause-table g c h counts =
    let z = g.V.CubeView.schema c.args.view.now in
    let q = c.args.query.now in
    let first = c.in_ok-first.first in
    let found = c.in_ok-found.ensures.rows h counts in
    let rows = first_are_top z q h c.in-Best.depth c.in-Best.rows first (subst (λ (rows : List RowOut). IsFirstByTotal rows c.in-Best.rows first) found c.in_ok-first.ensures) in
    table_is z q h _ _ _ c.in-Best.is rows (c.seen.ensures ∙ counts.number)
