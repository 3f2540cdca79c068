-- The tables of a query over two lists of points add up to the one over both together.
use Rattle.std.proofs.Common.{◌≡◌, ℕ, ◌+◌, ◌*◌, Bool, true, List, [], ◌∷◌, ◌++◌, length, map, Option, Some, None, refl, sym, ◌∙◌, ap, length-append}
use Rattle.std.specs.Prelude.{if◌then◌else◌, option_map, slice_index_or}
use Rattle.std.specs.List.{flat_map, range_with_len}
use Rattle.std.proofs.lemmas.Bool.{and_from, eq-eqb, false≢true}
use Rattle.std.proofs.lemmas.List.Sums.{sum_by-append}
use Rattle.cube_view.specs.Bag.{amount, gives}
use Rattle.cube_view.specs.Points.{Point}
use Rattle.cube_view.specs.declared.schema.Schema.{Schema}
use Rattle.cube_view.specs.declared.spot.Spot.{Spot}
use Rattle.query_syntax.proofs.Places.{same_bytes}
use Rattle.query_syntax.specs.Boxes.{Box, box, total}
use Rattle.query_syntax.specs.CrossTables.{cross_rows, pair_row, rows_within, text_of_value, values_of_category, with_pair}
use Rattle.query_syntax.specs.Items.{values_at}
use Rattle.query_syntax.specs.Narrowing.{with_bins, with_tile, with_value}
use Rattle.query_syntax.specs.Tables.{bins_row, has_table, rows_of_verb, table, table_rows, value_row}
use Rattle.query_syntax.specs.TileOrder.{tiles_below}
use Rattle.query_syntax.specs.Windows.{is_in_window, window_total}
use Rattle.query_syntax.specs.declared.query.Query.{Query}
use Rattle.query_syntax.specs.declared.query.Verb.{Verb}
use Rattle.query_syntax.specs.declared.query.Verb.TheVariants as verb
use Rattle.query_syntax.specs.declared.rect.Rect.{Rect}
use Rattle.query_syntax.specs.declared.table.RowOut.{RowOut}
use Rattle.reply_json.specs.declared.reply.Reply.{Reply}
use Rattle.reply_sums.specs.Additive.{verb_adds_up}
use Rattle.reply_sums.specs.Rows.{sum_row, sum_rows}
use Rattle.reply_sums.specs.Sums.{sum_of_rows, sum_tables}
use Rattle.reply_sums.proofs.MapSums.{sum_areas-of}
use Rattle.reply_sums.proofs.PathOrder.{once-below}
use Rattle.reply_sums.proofs.RowSums.{after_none, after_sums, before_sums}

amount-append : (q : Spot → Bool) (g h : List Point) → amount q g + amount q h ≡ amount q (g ++ h)
unfolding amount
amount-append q g h = sym (sum_by-append (gives q) g h)

total-append : (schema : Schema) (b : Box) (g h : List Point) → total schema b g + total schema b h ≡ total schema b (g ++ h)
unfolding total
total-append schema b g h = amount-append _ g h

window-append : (q : Query) (r : Rect) (g h : List Point) → window_total q r g + window_total q r h ≡ window_total q r (g ++ h)
unfolding window_total
window-append q r g h = amount-append (is_in_window q r) g h

-- rows of the same things, whose totals add up
module _ {A : Type 0} (f g h : A → RowOut) (each : (x : A) → sum_row (f x) (g x) ≡ Some (h x)) where
  after_one : (row : RowOut) (rows : List RowOut) (later : Option (List RowOut)) → before_sums (Some row) (after_sums rows later) ≡ after_sums (row ∷ rows) later
  after_one row rows None = refl
  after_one row rows (Some more) = refl

  pub sum_rows-map : (xs : List A) (rows others : List RowOut) → sum_rows (map f xs ++ rows) (map g xs ++ others) ≡ after_sums (map h xs) (sum_rows rows others)
  sum_rows-map [] rows others = sym (after_none (sum_rows rows others))
  sum_rows-map (x ∷ xs) rows others = (λ i. before_sums (each x i) (sum_rows-map xs rows others i)) ∙ after_one (h x) (map h xs) (sum_rows rows others)

  pub sum_rows-all : (xs : List A) → sum_rows (map f xs) (map g xs) ≡ Some (map h xs)
  sum_rows-all [] = refl
  sum_rows-all (x ∷ xs) = (λ i. before_sums (each x i) (sum_rows-all xs i))

module _ (schema : Schema) (q : Query) (g h : List Point) where
  value_sum : (k v : ℕ) → sum_row (value_row schema q g k v) (value_row schema q h k v) ≡ Some (value_row schema q (g ++ h) k v)
  value_sum k v =
      let text = slice_index_or (values_at schema.categories k) v [] in
      ap (λ b. if b then Some (RowOut.Value text (total schema (with_value (box q) k v) g + total schema (with_value (box q) k v) h)) else None) (same_bytes text)
      ∙ ap (λ n. Some (RowOut.Value text n)) (total-append schema (with_value (box q) k v) g h)

  bins_sum : (from wide i : ℕ) → sum_row (bins_row schema q g from wide i) (bins_row schema q h from wide i) ≡ Some (bins_row schema q (g ++ h) from wide i)
  bins_sum from wide i =
      let start = from + i * wide in
      let b = with_bins (box q) start (from + (i + 1) * wide) in
      ap (λ c. if c then Some (RowOut.Bin start (total schema b g + total schema b h)) else None) (eq-eqb start start refl)
      ∙ ap (λ n. Some (RowOut.Bin start n)) (total-append schema b g h)

  pair_sum : (k l v w : ℕ) → sum_row (pair_row schema q g k l v w) (pair_row schema q h k l v w) ≡ Some (pair_row schema q (g ++ h) k l v w)
  pair_sum k l v w =
      let first = text_of_value schema k v in
      let second = text_of_value schema l w in
      let b = with_pair (box q) k l v w in
      ap (λ c. if c then Some (RowOut.Pair first second (total schema b g + total schema b h)) else None) (and_from _ _ (same_bytes first) (same_bytes second))
      ∙ ap (λ n. Some (RowOut.Pair first second n)) (total-append schema b g h)

  pairs_sum : (k l : ℕ) (vs : List ℕ) → sum_rows (flat_map (rows_within schema q g k l) vs) (flat_map (rows_within schema q h k l) vs) ≡ Some (flat_map (rows_within schema q (g ++ h) k l) vs)
  pairs_sum k l [] = refl
  pairs_sum k l (v ∷ vs) =
      sum_rows-map (pair_row schema q g k l v) (pair_row schema q h k l v) (pair_row schema q (g ++ h) k l v) (pair_sum k l v) (values_of_category schema l) (flat_map (rows_within schema q g k l) vs) (flat_map (rows_within schema q h k l) vs)
      ∙ ap (after_sums (rows_within schema q (g ++ h) k l v)) (pairs_sum k l vs)

  cross_sum : (k l : ℕ) → sum_rows (cross_rows schema q g k l) (cross_rows schema q h k l) ≡ Some (cross_rows schema q (g ++ h) k l)
  unfolding cross_rows
  cross_sum k l = pairs_sum k l (values_of_category schema k)

  pub rows_sum : (v : Verb) → has_table v ≡ true → verb_adds_up v ≡ true → sum_of_rows q v (rows_of_verb schema q g v) (rows_of_verb schema q h v) ≡ Some (rows_of_verb schema q (g ++ h) v)
  rows_sum verb.Count asks adds = ap (λ n. Some (RowOut.One n ∷ [])) (total-append schema (box q) g h)
  rows_sum (verb.Hist k) asks adds = sum_rows-all (value_row schema q g k) (value_row schema q h k) (value_row schema q (g ++ h) k) (value_sum k) (range_with_len 0 (length (values_at schema.categories k)))
  rows_sum (verb.Map down) asks adds = sum_areas-of (λ t. total schema (with_tile (box q) t) g) (λ t. total schema (with_tile (box q) t) h) (λ t. total schema (with_tile (box q) t) (g ++ h)) (λ t. total-append schema (with_tile (box q) t) g h) (tiles_below down q.region) (once-below down q.region)
  rows_sum (verb.Series from wide rows) asks adds = sum_rows-all (bins_row schema q g from wide) (bins_row schema q h from wide) (bins_row schema q (g ++ h) from wide) (bins_sum from wide) (range_with_len 0 rows)
  rows_sum (verb.Window rect) asks adds = ap (λ n. Some (RowOut.One n ∷ [])) (window-append q rect g h)
  rows_sum (verb.Cross k l) asks adds = cross_sum k l
  rows_sum (verb.Best down rows) asks adds = absurd (false≢true adds)
  rows_sum verb.Stat asks adds = absurd (false≢true asks)
  rows_sum verb.Told asks adds = absurd (false≢true asks)
  rows_sum verb.Quit asks adds = absurd (false≢true asks)

  -- the tables of a query whose replies add up do
  pub tables_sum : has_table q.verb ≡ true → verb_adds_up q.verb ≡ true → sum_tables q (table schema q g) (table schema q h) ≡ Some (Reply.Table (table schema q (g ++ h)))
  unfolding sum_tables table table_rows
  tables_sum asks adds =
      ap (option_map (λ rows. Reply.Table (record { rows = rows; seen = length g + length h }))) (rows_sum q.verb asks adds)
      ∙ ap (λ n. Some (Reply.Table (record { rows = rows_of_verb schema q (g ++ h) q.verb; seen = n }))) (sym (length-append g h))
