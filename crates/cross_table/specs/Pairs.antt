-- What a cross table has of two values, each given by its category and its number in it.
use Rattle.std.specs.Prelude.{ℕ, List}
use Rattle.cube_view.specs.Costs.{ViewCosts}
use Rattle.cube_view.specs.Points.{Point}
use Rattle.cube_view.specs.declared.schema.Schema.{Schema}
use Rattle.query_syntax.specs.CrossTables.{pair_total, pair_row, rows_within}
use Rattle.query_syntax.specs.declared.query.Query.{Query}
use Rattle.query_syntax.specs.declared.table.RowOut.{RowOut}
use Rattle.cross_table.specs.Costs.{pair_cost}
use Rattle.cross_table.specs.declared.cross.CategoryValue.{CategoryValue}

-- how much the list has in the query's box that has both values
abbrev pub total_of_both : Schema → Query → List Point → CategoryValue → CategoryValue → ℕ
total_of_both schema q h a b = pair_total schema q h a.category b.category a.value b.value

-- the row of both
abbrev pub row_of_both : Schema → Query → List Point → CategoryValue → CategoryValue → RowOut
row_of_both schema q h a b = pair_row schema q h a.category b.category a.value b.value

-- how many steps that row takes at most
abbrev pub cost_of_both : ViewCosts → Schema → List Point → Query → CategoryValue → CategoryValue → ℕ
cost_of_both costs schema h q a b = pair_cost costs schema h q a.category b.category a.value b.value

-- the rows within a value: one for each value of category l
abbrev pub rows_within_value : Schema → Query → List Point → CategoryValue → ℕ → List RowOut
rows_within_value schema q h a l = rows_within schema q h a.category l a.value
