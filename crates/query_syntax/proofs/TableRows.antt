-- The rows of a table, one more.
use Rattle.std.proofs.Common.{◌≡◌, ℕ, ◌+◌, List, [], ◌∷◌, ◌++◌, map, Option, ◌∙◌, ap, arith}
use Rattle.std.specs.List.{filter_map, flat_map, range_with_len}
use Rattle.std.proofs.lemmas.Grind.{flat_map-append}
use Rattle.std.proofs.lemmas.List.{append-nil}
use Rattle.std.proofs.lemmas.List.Elements.{filter_map-append}
use Rattle.std.proofs.lemmas.List.FromFn.{map-range_with_len_more}
use Rattle.cube_view.specs.declared.spot.Point.{Point}
use Rattle.cube_view.specs.declared.address.Tile.{Tile}
use Rattle.cube_view.specs.declared.schema.Schema.{Schema}
use Rattle.query_syntax.specs.Tables.{rows_of_verb, table_rows}
use Rattle.query_syntax.specs.declared.query.Query.{Query}
use Rattle.query_syntax.specs.declared.query.Verb.{Verb}
use Rattle.query_syntax.specs.declared.table.RowOut.{RowOut}

-- the rows of a query of that verb
pub rows_at : (schema : Schema) (q : Query) (h : List Point) (verb : Verb) → q.verb ≡ verb → table_rows schema q h ≡ rows_of_verb schema q h verb
unfolding table_rows
rows_at schema q h verb is = ap (rows_of_verb schema q h) is

-- the rows in one quadrant more
pub areas_more : (row : Tile → Option RowOut) (inside : Tile → List Tile) (at : ℕ → Tile) (n : ℕ) → filter_map row (flat_map inside (map at (range_with_len 0 (n + 1)))) ≡ filter_map row (flat_map inside (map at (range_with_len 0 n))) ++ filter_map row (inside (at n))
areas_more row inside at n =
    ap (λ tiles. filter_map row (flat_map inside tiles)) (map-range_with_len_more at 0 n n (omega arith))
    ∙ (ap (filter_map row) (flat_map-append inside (map at (range_with_len 0 n)) (at n ∷ []) ∙ ap (λ last. flat_map inside (map at (range_with_len 0 n)) ++ last) (append-nil (inside (at n))))
    ∙ filter_map-append row (flat_map inside (map at (range_with_len 0 n))) (inside (at n)))
