use Rattle.std.proofs.Common.{List, subst}
use Rattle.cross_table.proofs.Tops.{first_are_top}
use Rattle.cross_table.specs.Ranking.{IsFirstByTotal}
use Rattle.query_syntax.specs.declared.table.RowOut.{RowOut}
use Rattle.list_tables.proofs.rows.best_rows.Goals as goal

pub returns : goal.returns
returns c =
    let first = c.in_ok-first.first in
    first_are_top c.args.schema.now c.args.query.now c.args.points.now c.args.levels c.args.count first (subst (λ (rows : List RowOut). IsFirstByTotal rows c.args.count first) c.in_ok-areas.ensures c.in_ok-first.ensures)
