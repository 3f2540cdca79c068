-- What the rows of a cross table add up to.
use Rattle.std.specs.Prelude.{◌≡◌, IsTrue, All, List}
use Rattle.std.specs.List.{sum_by}
use Rattle.cube_view.specs.Points.{Point}
use Rattle.cube_view.specs.Validity.{sound}
use Rattle.cube_view.specs.declared.schema.Schema.{Schema}
use Rattle.cross_table.specs.Ranking.{total_of_row}
use Rattle.cross_table.specs.Verbs.{is_cross}
use Rattle.query_syntax.specs.Boxes.{box, total}
use Rattle.query_syntax.specs.Queries.{is_valid_query}
use Rattle.query_syntax.specs.Tables.{table_rows}
use Rattle.query_syntax.specs.declared.query.Query.{Query}

-- the totals of the rows of a cross table add up to the query's total, over any list of points that are sound for the
-- schema
abbrev pub CrossSum : Type 0
CrossSum = (schema : Schema) (q : Query) (h : List Point) → IsTrue (is_valid_query schema q) → IsTrue (is_cross q.verb) → All (λ p. IsTrue (sound schema p)) h
    → sum_by total_of_row (table_rows schema q h) ≡ total schema (box q) h
