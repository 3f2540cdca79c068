-- The rows of a query over the points of its region are those over all points.
use Rattle.std.proofs.Common.{◌≡◌, ℕ, zero, suc, ◌+◌, ◌-◌, ◌*◌, ◌<◌, ◌≤◌, Bool, true, false, not, ◌&&◌, cond, eqb, leb, List, [], ◌∷◌, ◌++◌, length, map, take, refl, sym, ◌∙◌, ap, subst, arith, add-zero, add-suc}
use Rattle.std.specs.List.{cons_option, filter, filter_map, flat_map, range_with_len}
use Rattle.std.specs.Prelude.{◌==◌, if◌then◌else◌, nat_lt, None, Some, slice_index_or}
use Rattle.std.proofs.lemmas.Bool.Decides.{nat_tests}
use Rattle.std.proofs.lemmas.Bool.{and_parts, and_from, eqb-true, eq-eqb, leb-true, ne_eqb, false≢true}
use Rattle.std.proofs.lemmas.List.{take-map}
use Rattle.cube_view.proofs.Amounts.{amount-same, amount-within}
use Rattle.cube_view.proofs.LevelShifts.{shifted_up}
use Rattle.cube_view.specs.Bag.{amount, anywhere}
use Rattle.cube_view.specs.Places.{in_tile, shifted, tile_within}
use Rattle.cube_view.specs.Points.{Point}
use Rattle.cube_view.specs.declared.address.Tile.{Tile}
use Rattle.cube_view.specs.declared.schema.Schema.{Schema}
use Rattle.cube_view.specs.declared.spot.Spot.{Spot}
use Rattle.query_syntax.proofs.TilesInside.{levels, of_level}
use Rattle.query_syntax.proofs.ValidParts.{map_above, valid_parts}
use Rattle.query_syntax.specs.Boxes.{Box, are_in_sets, box, inside, total}
use Rattle.query_syntax.specs.CrossTables.{cross_rows, text_of_value, values_of_category, with_pair}
use Rattle.query_syntax.specs.Items.{values_at}
use Rattle.query_syntax.specs.Narrowing.{with_bins, with_tile, with_value}
use Rattle.query_syntax.specs.Queries.{is_too_deep, is_valid_query}
use Rattle.query_syntax.specs.Tables.{area_row, has_table, rows_of_verb, table, table_rows}
use Rattle.query_syntax.specs.TileOrder.{tiles_below, tiles_of_level}
use Rattle.query_syntax.specs.TopTiles.{area_total, tiles_by_total, tiles_of_total, top_rows, top_tiles}
use Rattle.query_syntax.specs.Verbs.{is_window}
use Rattle.query_syntax.specs.declared.query.Query.{Query}
use Rattle.query_syntax.specs.declared.query.Verb.{Verb}
use Rattle.query_syntax.specs.declared.query.Verb.TheVariants as verb
use Rattle.query_syntax.specs.declared.table.RowOut.{RowOut}
use Rattle.flat_tables.proofs.Parts.{amount-filter}

-- a test is itself and another that holds wherever it does
itself_within : (a b : Bool) → (b ≡ true → a ≡ true) → b ≡ a && b
itself_within true b there = refl
itself_within false true there = sym (there refl)
itself_within false false there = refl

-- a spot of a tile is one of each tile that has the tile in it
coarser_has : (depth : ℕ) (r t : Tile) (s : Spot) → t.z ≤ depth → tile_within r t ≡ true → in_tile depth t s ≡ true → in_tile depth r s ≡ true
coarser_has depth r t s deep within is =
    let parts = and_parts (leb r.z t.z && eqb (shifted t.z r.z t.x) r.x) (eqb (shifted t.z r.z t.y) r.y) within in
    let first = and_parts (leb r.z t.z) (eqb (shifted t.z r.z t.x) r.x) parts.0 in
    let le = leb-true r.z t.z first.0 in
    let at = and_parts (eqb (shifted depth t.z s.x) t.x) (eqb (shifted depth t.z s.y) t.y) is in
    let x = shifted_up depth t.z r.z s.x t.x le deep (eqb-true _ _ at.0) ∙ eqb-true _ _ first.1 in
    let y = shifted_up depth t.z r.z s.y t.y le deep (eqb-true _ _ at.1) ∙ eqb-true _ _ parts.1 in
    and_from _ _ (eq-eqb _ _ x) (eq-eqb _ _ y)

-- the best tiles are not below the finest level
best_above : (z : Schema) (q : Query) (down rows : ℕ) → is_valid_query z q ≡ true → q.verb ≡ verb.Best down rows → q.region.z + down ≤ z.depth
best_above z q down rows valid is = let e : not (nat_lt z.depth (q.region.z + down)) ≡ true = subst (λ (v : Verb). not (is_too_deep z.depth q.region.z v) ≡ true) is (valid_parts z q valid).deep in grind (arith, nat_tests)

map_cond : {A B : Type 0} (f : A → B) (b : Bool) (x : A) (xs : List A) → map f (cond b (x ∷ xs) xs) ≡ cond b (f x ∷ map f xs) (map f xs)
map_cond f true x xs = refl
map_cond f false x xs = refl

module _ (z : Schema) (q : Query) (h : List Point) where
  -- the points of the region
  abbrev pub near : List Point
  near = filter (λ p. in_tile z.depth q.region p.spot) h

  -- a test that asks for the region has the same amount there
  near_same : (t : Spot → Bool) → ((s : Spot) → t s ≡ true → in_tile z.depth q.region s ≡ true) → amount t near ≡ amount t h
  near_same t within = amount-filter (in_tile z.depth q.region) t h ∙ sym (amount-same t (λ s. in_tile z.depth q.region s && t s) (λ s. itself_within (in_tile z.depth q.region s) (t s) (within s)) h)

  box_near : (b : Box) → ((s : Spot) → in_tile z.depth b.tile s ≡ true → in_tile z.depth q.region s ≡ true) → total z b near ≡ total z b h
  unfolding total inside
  box_near b within = near_same (inside z b) (λ s e. within s (and_parts _ _ (and_parts (in_tile z.depth b.tile s && are_in_sets b.sets s.values) (leb b.from s.bin) (and_parts _ _ e).0).0).0)

  -- so has a box of the region
  own : (b : Box) → b.tile ≡ q.region → total z b near ≡ total z b h
  own b is = box_near b (λ s e. subst (λ (t : Tile). in_tile z.depth t s ≡ true) is e)

  -- and the query's box with a tile in the region
  below : (t : Tile) → t.z ≤ z.depth → tile_within q.region t ≡ true → total z (with_tile (box q) t) near ≡ total z (with_tile (box q) t) h
  below t deep within = box_near (with_tile (box q) t) (λ s e. coarser_has z.depth q.region t s deep within e)

  -- each of the tiles is one of the schema in the region
  abbrev each_below : List Tile → Type 0
  each_below [] = Unit {0}
  each_below (t ∷ ts) = ((t.z ≤ z.depth) × (tile_within q.region t ≡ true)) × each_below ts

  kept_below : (n : ℕ) (ts : List Tile) → n ≤ z.depth → of_level n ts → each_below (filter (tile_within q.region) ts)
  kept_below n [] le all = tt
  kept_below n (t ∷ ts) le (here, rest) = at (tile_within q.region t) refl (kept_below n ts le rest)
    where
      at : (b : Bool) → tile_within q.region t ≡ b → each_below (filter (tile_within q.region) ts) → each_below (cond b (t ∷ filter (tile_within q.region) ts) (filter (tile_within q.region) ts))
      at true e later = ((omega (arith, le, here), e), later)
      at false e later = later

  tiles_are : (down : ℕ) → q.region.z + down ≤ z.depth → each_below (tiles_below down q.region)
  tiles_are down deep = kept_below (q.region.z + down) (tiles_of_level (q.region.z + down)) deep (levels (q.region.z + down))

  areas_near : (ts : List Tile) → each_below ts → filter_map (area_row z q near) ts ≡ filter_map (area_row z q h) ts
  areas_near [] all = refl
  areas_near (t ∷ ts) (here, rest) = λ i. cons_option (if below t here.0 here.1 i == 0 then None else Some (RowOut.Area t (below t here.0 here.1 i))) (areas_near ts rest i)

  -- ---- the best tiles

  abbrev near_row : Tile → RowOut
  near_row t = RowOut.Area t (area_total z q near t)

  abbrev all_row : Tile → RowOut
  all_row t = RowOut.Area t (area_total z q h t)

  of_total : (w : ℕ) (ts : List Tile) → each_below ts → map near_row (filter (λ t. area_total z q near t == w) ts) ≡ map all_row (filter (λ t. area_total z q h t == w) ts)
  of_total w [] all = refl
  of_total w (t ∷ ts) (here, rest) =
      map_cond near_row (area_total z q near t == w) t (filter (λ u. area_total z q near u == w) ts)
      ∙ ((λ i. cond (below t here.0 here.1 i == w) (RowOut.Area t (below t here.0 here.1 i) ∷ of_total w ts rest i) (of_total w ts rest i))
      ∙ sym (map_cond all_row (area_total z q h t == w) t (filter (λ u. area_total z q h u == w) ts)))

  map_append : {A B : Type 0} (f : A → B) (xs ys : List A) → map f (xs ++ ys) ≡ map f xs ++ map f ys
  map_append f [] ys = refl
  map_append f (x ∷ xs) ys = ap (λ zs. f x ∷ zs) (map_append f xs ys)

  by_total : (down : ℕ) → each_below (tiles_below down q.region) → (w : ℕ) → map near_row (tiles_by_total z q near down w) ≡ map all_row (tiles_by_total z q h down w)
  by_total down all zero = refl
  by_total down all (suc w) =
      map_append near_row (tiles_of_total z q near down (suc w)) (tiles_by_total z q near down w)
      ∙ ((λ i. of_total (suc w) (tiles_below down q.region) all i ++ by_total down all w i)
      ∙ sym (map_append all_row (tiles_of_total z q h down (suc w)) (tiles_by_total z q h down w)))

  little : (t : Tile) → area_total z q near t ≤ amount anywhere near
  unfolding total
  little t = amount-within (inside z (with_tile (box q) t)) near

  -- no tile has more than the points there weigh
  none_over : (w : ℕ) (ts : List Tile) → amount anywhere near < w → filter (λ t. area_total z q near t == w) ts ≡ []
  none_over w [] lt = refl
  none_over w (t ∷ ts) lt =
      let le = little t in
      ap (λ b. cond b (t ∷ filter (λ u. area_total z q near u == w) ts) (filter (λ u. area_total z q near u == w) ts)) (ne_eqb (area_total z q near t) w (λ (e : area_total z q near t ≡ w). omega (arith, e, le, lt)))
      ∙ none_over w ts lt

  none_more : (down n : ℕ) → tiles_by_total z q near down (amount anywhere near + n) ≡ tiles_by_total z q near down (amount anywhere near)
  none_more down zero = ap (tiles_by_total z q near down) (add-zero (amount anywhere near))
  none_more down (suc n) =
      ap (tiles_by_total z q near down) (add-suc (amount anywhere near) n)
      ∙ (ap (λ front. front ++ tiles_by_total z q near down (amount anywhere near + n)) (none_over (suc (amount anywhere near + n)) (tiles_below down q.region) (omega arith)) ∙ none_more down n)

  less_near : amount anywhere near ≤ amount anywhere h
  less_near = let f = amount-filter (in_tile z.depth q.region) anywhere h in let le = amount-within (λ s. in_tile z.depth q.region s && anywhere s) h in omega (arith, f, le)

  tops_near : (down rows : ℕ) → each_below (tiles_below down q.region) → top_rows z q near down rows ≡ top_rows z q h down rows
  unfolding top_rows top_tiles
  tops_near down rows all =
      let w = amount anywhere h in
      let m = amount anywhere near in
      let le = less_near in
      let is : w ≡ m + (w - m) = omega (arith, le) in
      let more : tiles_by_total z q near down m ≡ tiles_by_total z q near down w = sym (ap (tiles_by_total z q near down) is ∙ none_more down (w - m)) in
      sym (take-map near_row rows (tiles_by_total z q near down m))
      ∙ (ap (λ ts. take rows (map near_row ts)) more
      ∙ (ap (take rows) (by_total down all w)
      ∙ take-map all_row rows (tiles_by_total z q h down w)))

  -- ---- the rows of each verb

  cross_near : (k l : ℕ) → cross_rows z q near k l ≡ cross_rows z q h k l
  unfolding cross_rows
  cross_near k l = λ i. flat_map (λ v. map (λ w. RowOut.Pair (text_of_value z k v) (text_of_value z l w) (own (with_pair (box q) k l v w) refl i)) (values_of_category z l)) (values_of_category z k)

  rows_near : is_valid_query z q ≡ true → (v : Verb) → q.verb ≡ v → has_table v && not (is_window v) ≡ true → rows_of_verb z q near v ≡ rows_of_verb z q h v
  rows_near valid verb.Count is asks = λ i. RowOut.One (own (box q) refl i) ∷ []
  rows_near valid (verb.Hist k) is asks = λ i. map (λ v. RowOut.Value (slice_index_or (values_at z.categories k) v []) (own (with_value (box q) k v) refl i)) (range_with_len 0 (length (values_at z.categories k)))
  rows_near valid (verb.Map down) is asks = areas_near (tiles_below down q.region) (tiles_are down (map_above z q valid down is))
  rows_near valid (verb.Series from wide rows) is asks = λ i. map (λ n. RowOut.Bin (from + n * wide) (own (with_bins (box q) (from + n * wide) (from + (n + 1) * wide)) refl i)) (range_with_len 0 rows)
  rows_near valid (verb.Window rect) is asks = absurd (false≢true asks)
  rows_near valid (verb.Cross k l) is asks = cross_near k l
  rows_near valid (verb.Best down rows) is asks = tops_near down rows (tiles_are down (best_above z q down rows valid is))
  rows_near valid verb.Stat is asks = absurd (false≢true asks)
  rows_near valid verb.Told is asks = absurd (false≢true asks)
  rows_near valid verb.Quit is asks = absurd (false≢true asks)

  -- the table of all points has the rows of those of the region
  pub region_table : (points : List Point) (rows : List RowOut) (seen : ℕ) → is_valid_query z q ≡ true → has_table q.verb && not (is_window q.verb) ≡ true → points ≡ near → rows ≡ table_rows z q points → seen ≡ length h → record { rows = rows; seen = seen } ≡ table z q h
  unfolding table table_rows
  region_table points rows seen valid asks there is count =
      let all : rows ≡ rows_of_verb z q h q.verb = is ∙ (ap (λ ps. rows_of_verb z q ps q.verb) there ∙ rows_near valid q.verb refl asks) in
      λ i. record { rows = all i; seen = count i }
