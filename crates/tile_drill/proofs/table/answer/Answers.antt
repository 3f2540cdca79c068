use Rattle.std.proofs.Common.{◌∙◌}
use Rattle.query_syntax.specs.Tables.{table_rows, table}
use Rattle.tile_drill.proofs.table.answer.Goals as goal

pub returns-clause-table : goal.returns-clause-table
unfolding table_rows table
returns-clause-table g c h counts =
    let rows = c.in_ok-rows.ensures.rows h counts in
    let seen = c.seen.ensures ∙ counts.number in
    λ i. record { rows = rows i; seen = seen i }
