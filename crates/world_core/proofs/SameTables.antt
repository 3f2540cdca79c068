-- Lists of the same amounts and the same length have the same tables.
use Rattle.std.proofs.Common.{◌≡◌, ℕ, zero, suc, ◌+◌, ◌*◌, Bool, List, [], ◌∷◌, ◌++◌, length, map, take, get_or, refl, ap, ◌∙◌}
use Rattle.std.specs.Prelude.{if◌then◌else◌, ◌==◌, filter, Some, None}
use Rattle.std.specs.List.{filter_map, flat_map, range_with_len}
use Rattle.cube_view.specs.Bag.{amount, anywhere}
use Rattle.cube_view.specs.Points.{Point}
use Rattle.cube_view.specs.declared.schema.Schema.{Schema}
use Rattle.cube_view.specs.declared.spot.Spot.{Spot}
use Rattle.query_syntax.specs.Boxes.{Box, box, inside, total}
use Rattle.query_syntax.specs.CrossTables.{cross_rows, text_of_value, values_of_category, with_pair}
use Rattle.query_syntax.specs.Items.{values_at}
use Rattle.query_syntax.specs.Narrowing.{with_value, with_tile, with_bins}
use Rattle.query_syntax.specs.Tables.{rows_of_verb, table_rows, table}
use Rattle.query_syntax.specs.TileOrder.{tiles_below}
use Rattle.query_syntax.specs.TopTiles.{tiles_by_total, top_tiles, top_rows}
use Rattle.query_syntax.specs.Windows.{is_in_window, window_total}
use Rattle.query_syntax.specs.declared.query.Query.{Query}
use Rattle.query_syntax.specs.declared.query.Verb.{Verb}
use Rattle.query_syntax.specs.declared.query.Verb.TheVariants.{Count, Hist, Map, Series, Window, Cross, Best, Stat, Told, Quit}
use Rattle.query_syntax.specs.declared.rect.Rect.{Rect}
use Rattle.query_syntax.specs.declared.table.RowOut.{RowOut}

module _ (schema : Schema) (q : Query) (h k : List Point) (amounts : (test : Spot → Bool) → amount test h ≡ amount test k) where
  totals-same : (b : Box) → total schema b h ≡ total schema b k
  unfolding total
  totals-same b = amounts (inside schema b)

  windows-same : (rect : Rect) → window_total q rect h ≡ window_total q rect k
  unfolding window_total
  windows-same rect = amounts (is_in_window q rect)

  crosses-same : (c l : ℕ) → cross_rows schema q h c l ≡ cross_rows schema q k c l
  unfolding cross_rows
  crosses-same c l = λ i. flat_map (λ v. map (λ w. RowOut.Pair (text_of_value schema c v) (text_of_value schema l w) (totals-same (with_pair (box q) c l v w) i)) (values_of_category schema l)) (values_of_category schema c)

  tiles-same : (levels w : ℕ) → tiles_by_total schema q h levels w ≡ tiles_by_total schema q k levels w
  tiles-same levels zero = refl
  tiles-same levels (suc w) = λ i. filter (λ t. totals-same (with_tile (box q) t) i == suc w) (tiles_below levels q.region) ++ tiles-same levels w i

  tops-same : (levels rows : ℕ) → top_tiles schema q h levels rows ≡ top_tiles schema q k levels rows
  unfolding top_tiles
  tops-same levels rows = ap (take rows) (tiles-same levels (amount anywhere h) ∙ ap (tiles_by_total schema q k levels) (amounts anywhere))

  bests-same : (levels rows : ℕ) → top_rows schema q h levels rows ≡ top_rows schema q k levels rows
  unfolding top_rows
  bests-same levels rows = λ i. map (λ t. RowOut.Area t (totals-same (with_tile (box q) t) i)) (tops-same levels rows i)

  rows-same : (verb : Verb) → rows_of_verb schema q h verb ≡ rows_of_verb schema q k verb
  rows-same Count = ap (λ n. RowOut.One n ∷ []) (totals-same (box q))
  rows-same (Hist c) = λ i. map (λ v. RowOut.Value (get_or (values_at schema.categories c) v []) (totals-same (with_value (box q) c v) i)) (range_with_len 0 (length (values_at schema.categories c)))
  rows-same (Map down) = λ i. filter_map (λ t. if totals-same (with_tile (box q) t) i == 0 then None else Some (RowOut.Area t (totals-same (with_tile (box q) t) i))) (tiles_below down q.region)
  rows-same (Series from wide rows) = λ i. map (λ r. RowOut.Bin (from + r * wide) (totals-same (with_bins (box q) (from + r * wide) (from + (r + 1) * wide)) i)) (range_with_len 0 rows)
  rows-same (Window rect) = ap (λ n. RowOut.One n ∷ []) (windows-same rect)
  rows-same (Cross c l) = crosses-same c l
  rows-same (Best down rows) = bests-same down rows
  rows-same Stat = refl
  rows-same Told = refl
  rows-same Quit = refl

  pub table-same : length h ≡ length k → table schema q h ≡ table schema q k
  unfolding table table_rows
  table-same long = λ i. record { rows = rows-same q.verb i; seen = long i }
