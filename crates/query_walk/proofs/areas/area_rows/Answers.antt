use Rattle.std.proofs.Common.{◌++◌, List, sym, ◌∙◌, ap, arith}
use Rattle.cube_view.specs.Places.{is_under, region_address}
use Rattle.query_syntax.specs.declared.table.RowOut.{RowOut}
use Rattle.query_walk.specs.Areas.{areas_inside}
use Rattle.query_walk.proofs.TileRows.{no_rows_under, no_points, rows_of_way}
use Rattle.query_walk.proofs.MapCosts.{map_way, map_found}
use Rattle.query_walk.proofs.areas.area_rows.Goals as goal
use Rattle.query_walk.proofs.areas.area_rows.Goals.{in-Some+in_ok-drill, in_default}

pub returns-then-seen-eq0-clause-rows : goal.returns-then-seen-eq0-clause-rows
returns-then-seen-eq0-clause-rows g c h counts =
    let z = g.V.CubeView.schema c.args.view.now in
    let none = no_points (is_under z (region_address c.args.query.now.region)) h c.seen.result (c.seen.ensures ∙ counts.number) c.if-seen-eq0.true in
    c.new-rows.ensures ∙ (sym (no_rows_under z c.args.query.now h c.args.levels c.requires.deep none) ∙ rows_of_way z c.args.query.now h c.requires.has_box c.args.levels)

pub returns-clause-rows : goal.returns-clause-rows
returns-clause-rows g c h counts =
    let z = g.V.CubeView.schema c.args.view.now in
    let all = areas_inside z c.args.query.now h c.args.levels c.args.query.now.region in
    let way = rows_of_way z c.args.query.now h c.requires.has_box c.args.levels in
    elim c.match-region_cursor.branch [
      | in-Some+in_ok-drill w ↦ (let inner = w.in_ok-drill.ensures {u = tt} in w.rows-is ∙ (inner.rows h counts ∙ (ap (λ (rows : List RowOut). rows ++ all) c.new-rows.ensures ∙ way)))
      | in_default w ↦ (w.rows-is ∙ (c.new-rows.ensures ∙ (sym (no_rows_under z c.args.query.now h c.args.levels c.requires.deep (w.in_default.ensures.none h counts)) ∙ way)))
    ]

pub returns-clause-cost : goal.returns-clause-cost
returns-clause-cost g c h counts =
    let z = g.V.CubeView.schema c.args.view.now in
    let costs = g.V.CubeView.costs c.args.view.now in
    let count = c.seen.ensures ∙ counts.number in
    let space = c.region_cursor.ensures.cost h counts in
    elim c.match-region_cursor.branch [
      | in-Some+in_ok-drill w ↦ (let whole = map_found costs z h c.args.query.now c.args.levels c.seen.result count c.if-seen-eq0.false (w.in-Some.ensures.found h counts) in let inner = w.drill.ensures.cost h counts in omega (arith, whole, inner, space, w.steps-is))
      | in_default w ↦ (let way = map_way costs z h c.args.query.now c.args.levels c.seen.result count c.if-seen-eq0.false in omega (arith, way, space, w.steps-is))
    ]
