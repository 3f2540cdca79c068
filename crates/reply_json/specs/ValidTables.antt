-- Law: the table of a query is a reply that can be printed.
use Rattle.std.specs.Prelude.{◌≡◌, ℕ, Bool, true, false, ◌&&◌, ◌||◌, ◌==◌, if◌then◌else◌, List, [], ◌∷◌, length, map, Some, None, refl}
use Rattle.std.specs.List.{list_all, flat_map, filter_map, range_with_len, cons_option}
use Rattle.std.proofs.Common.{ap, ap₂, ◌∙◌}
use Rattle.std.proofs.Math.Bool.{or-true}
use Rattle.std.proofs.lemmas.Bool.{false≢true}
use Rattle.std.proofs.lemmas.List.Folds.{list_all-append}
use Rattle.cube_view.specs.declared.spot.Point.{Point}
use Rattle.cube_view.specs.declared.address.Tile.{Tile}
use Rattle.cube_view.specs.declared.schema.Schema.{Schema}
use Rattle.query_syntax.specs.Boxes.{box, total}
use Rattle.query_syntax.specs.CrossTables.{cross_rows, pair_row, rows_within, values_of_category}
use Rattle.query_syntax.specs.Items.{values_at}
use Rattle.query_syntax.specs.Narrowing.{with_tile}
use Rattle.query_syntax.specs.Tables.{has_table, area_row, bins_row, rows_of_verb, table, table_rows, value_row}
use Rattle.query_syntax.specs.TileOrder.{tiles_below}
use Rattle.query_syntax.specs.TopTiles.{area_total, top_rows, top_tiles}
use Rattle.query_syntax.specs.declared.query.Query.{Query}
use Rattle.query_syntax.specs.declared.query.Verb.{Verb}
use Rattle.query_syntax.specs.declared.query.Verb.TheVariants as verb
use Rattle.query_syntax.specs.declared.table.RowOut.{RowOut}
use Rattle.reply_json.specs.declared.reply.Reply.{Reply}
use Rattle.reply_json.specs.Validity.{are_valid_rows, is_area_row, is_bin_row, is_one_total, is_pair_row, is_valid_reply, is_value_row}

-- rows of one kind are valid
values_valid : (rows : List RowOut) → list_all is_value_row rows ≡ true → are_valid_rows rows ≡ true
values_valid rows all =
    ap (λ b. is_one_total rows || b || list_all is_area_row rows || list_all is_bin_row rows || list_all is_pair_row rows) all
    ∙ ap (λ b. b || list_all is_area_row rows || list_all is_bin_row rows || list_all is_pair_row rows) (or-true (is_one_total rows))

areas_valid : (rows : List RowOut) → list_all is_area_row rows ≡ true → are_valid_rows rows ≡ true
areas_valid rows all =
    ap (λ b. is_one_total rows || list_all is_value_row rows || b || list_all is_bin_row rows || list_all is_pair_row rows) all
    ∙ ap (λ b. b || list_all is_bin_row rows || list_all is_pair_row rows) (or-true (is_one_total rows || list_all is_value_row rows))

bins_valid : (rows : List RowOut) → list_all is_bin_row rows ≡ true → are_valid_rows rows ≡ true
bins_valid rows all =
    ap (λ b. is_one_total rows || list_all is_value_row rows || list_all is_area_row rows || b || list_all is_pair_row rows) all
    ∙ ap (λ b. b || list_all is_pair_row rows) (or-true (is_one_total rows || list_all is_value_row rows || list_all is_area_row rows))

pairs_valid : (rows : List RowOut) → list_all is_pair_row rows ≡ true → are_valid_rows rows ≡ true
pairs_valid rows all =
    ap (λ b. is_one_total rows || list_all is_value_row rows || list_all is_area_row rows || list_all is_bin_row rows || b) all
    ∙ or-true (is_one_total rows || list_all is_value_row rows || list_all is_area_row rows || list_all is_bin_row rows)

-- a tile's row, if there is one, before rows of tiles
area_first : (b : Bool) (t : Tile) (n : ℕ) (rows : List RowOut) → list_all is_area_row rows ≡ true → list_all is_area_row (cons_option (if b then None else Some (RowOut.Area t n)) rows) ≡ true
area_first true t n rows all = all
area_first false t n rows all = all

module _ (schema : Schema) (q : Query) (h : List Point) where
  values_all : (k : ℕ) (vs : List ℕ) → list_all is_value_row (map (value_row schema q h k) vs) ≡ true
  values_all k [] = refl
  values_all k (v ∷ vs) = values_all k vs

  areas_all : (tiles : List Tile) → list_all is_area_row (filter_map (area_row schema q h) tiles) ≡ true
  areas_all [] = refl
  areas_all (t ∷ tiles) =
      area_first (total schema (with_tile (box q) t) h == 0) t (total schema (with_tile (box q) t) h) (filter_map (area_row schema q h) tiles) (areas_all tiles)

  bins_all : (from wide : ℕ) (is : List ℕ) → list_all is_bin_row (map (bins_row schema q h from wide) is) ≡ true
  bins_all from wide [] = refl
  bins_all from wide (i ∷ is) = bins_all from wide is

  pairs_within : (k l v : ℕ) (ws : List ℕ) → list_all is_pair_row (map (pair_row schema q h k l v) ws) ≡ true
  pairs_within k l v [] = refl
  pairs_within k l v (w ∷ ws) = pairs_within k l v ws

  pairs_all : (k l : ℕ) (vs : List ℕ) → list_all is_pair_row (flat_map (rows_within schema q h k l) vs) ≡ true
  pairs_all k l [] = refl
  pairs_all k l (v ∷ vs) =
      list_all-append is_pair_row (rows_within schema q h k l v) (flat_map (rows_within schema q h k l) vs)
      ∙ ap₂ (λ a b. a && b) (pairs_within k l v (values_of_category schema l)) (pairs_all k l vs)

  tops_all : (tiles : List Tile) → list_all is_area_row (map (λ t. RowOut.Area t (area_total schema q h t)) tiles) ≡ true
  tops_all [] = refl
  tops_all (t ∷ tiles) = tops_all tiles

  cross_all : (k l : ℕ) → list_all is_pair_row (cross_rows schema q h k l) ≡ true
  unfolding cross_rows
  cross_all k l = pairs_all k l (values_of_category schema k)

  best_all : (down rows : ℕ) → list_all is_area_row (top_rows schema q h down rows) ≡ true
  unfolding top_rows
  best_all down rows = tops_all (top_tiles schema q h down rows)

  -- the rows that a verb with a table asks for are one total alone, or all of another kind
  rows_valid : (v : Verb) → has_table v ≡ true → are_valid_rows (rows_of_verb schema q h v) ≡ true
  rows_valid verb.Count asked = refl
  rows_valid (verb.Hist k) asked = values_valid (rows_of_verb schema q h (verb.Hist k)) (values_all k (range_with_len 0 (length (values_at schema.categories k))))
  rows_valid (verb.Map down) asked = areas_valid (rows_of_verb schema q h (verb.Map down)) (areas_all (tiles_below down q.region))
  rows_valid (verb.Series from wide rows) asked = bins_valid (rows_of_verb schema q h (verb.Series from wide rows)) (bins_all from wide (range_with_len 0 rows))
  rows_valid (verb.Window rect) asked = refl
  rows_valid (verb.Cross k l) asked = pairs_valid (cross_rows schema q h k l) (cross_all k l)
  rows_valid (verb.Best down rows) asked = areas_valid (top_rows schema q h down rows) (best_all down rows)
  rows_valid verb.Stat asked = absurd (false≢true asked)
  rows_valid verb.Told asked = absurd (false≢true asked)
  rows_valid verb.Quit asked = absurd (false≢true asked)

  -- the reply to a query that asks for a table can be printed
  pub is_valid_reply-table : has_table q.verb ≡ true → is_valid_reply (Reply.Table (table schema q h)) ≡ true
  unfolding is_valid_reply table table_rows
  is_valid_reply-table asked = rows_valid q.verb asked
