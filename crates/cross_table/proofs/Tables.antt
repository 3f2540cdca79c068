-- When rows and a number of points are the table of a query.
use Rattle.std.proofs.Common.{◌≡◌, ℕ, List, length, sym, ◌∙◌, ap}
use Rattle.cube_view.specs.Points.{Point}
use Rattle.cube_view.specs.declared.schema.Schema.{Schema}
use Rattle.query_syntax.specs.Tables.{rows_of_verb, table, table_rows}
use Rattle.query_syntax.specs.declared.query.Query.{Query}
use Rattle.query_syntax.specs.declared.query.Verb.{Verb}
use Rattle.query_syntax.specs.declared.table.RowOut.{RowOut}
use Rattle.query_syntax.specs.declared.table.Table.{Table}

-- the table of these rows
abbrev pub table_of : List RowOut → ℕ → Table
table_of rows seen = record { rows = rows; seen = seen }

-- the rows of the query's verb, and how many points the list has
pub table_is : (z : Schema) (q : Query) (h : List Point) (v : Verb) (rows : List RowOut) (seen : ℕ) → q.verb ≡ v → rows ≡ rows_of_verb z q h v → seen ≡ length h → table_of rows seen ≡ table z q h
unfolding table table_rows
table_is z q h v rows seen is same count =
    let all : rows ≡ rows_of_verb z q h q.verb = same ∙ sym (ap (rows_of_verb z q h) is) in
    λ i. record { rows = all i; seen = count i }
