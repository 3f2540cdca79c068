-- Printed verbs and tiles are read back.
use Rattle.std.proofs.Common.{◌≡◌, ℕ, zero, suc, ◌+◌, ◌-◌, ◌<◌, ◌≤◌, ◌^◌, true, false, List, [], ◌∷◌, ◌++◌, length, sym, ◌∙◌, ap, refl, arith, append_assoc, Some, Ok}
use Rattle.std.specs.Prelude.{nat_le, nat_lt, map, not, ◌==◌, ◌&&◌}
use Rattle.std.specs.Fmt.{decimal}
use Rattle.std.specs.List.{list_all}
use Rattle.std.proofs.Math.Pow.{pow_mono}
use Rattle.std.proofs.lemmas.Bool.{leb-true, ltb-true, false≢true, and_parts, and_from, not-true}
use Rattle.std.proofs.lemmas.List.{length-append}
use Rattle.std.proofs.lemmas.Bool.Decides.{nat_tests}
use Rattle.cube_view.specs.Limits.{all_distinct, category_in_range, is_between}
use Rattle.cube_view.specs.declared.address.Tile.{Tile}
use Rattle.cube_view.specs.declared.category.Category.{Category}
use Rattle.query_syntax.specs.Items.{category_number}
use Rattle.query_syntax.specs.Reading.{number_at}
use Rattle.query_syntax.specs.Queries.{rect_in_range, verb_in_range}
use Rattle.query_syntax.specs.Spelling.{name_at, verb_name, verb_texts, tile_text}
use Rattle.query_syntax.specs.Tiles.{is_tile, tile_value, tile_of_pieces}
use Rattle.query_syntax.specs.Verbs.{bins, deepest_map, most_rows, most_best_rows, category_at, verb_at, hist_at, map_at, series_at, window_at, cross_at, best_at}
use Rattle.query_syntax.specs.Words.{space, slash, cut_pieces, pieces_from, is_some_text}
use Rattle.query_syntax.specs.declared.query.Verb.{Verb}
use Rattle.query_syntax.specs.declared.rect.Rect.{Rect}
use Rattle.query_syntax.specs.declared.query.Verb.TheVariants.{Count, Hist, Map, Series, Window, Cross, Best, Stat, Told, Quit}
use Rattle.query_syntax.proofs.Places.{position_of}
use Rattle.query_syntax.proofs.PrintedItems.{name_is_word}
use Rattle.query_syntax.proofs.PrintedNumbers.{decimal_reads, number_reads, decimal_is_word, decimal_whole_in_line, decimal_whole_in_tile}
use Rattle.cube_view.proofs.SchemaBounds.{between_high}
use Rattle.query_syntax.proofs.WholeTexts.{stays_whole, whole-append, piece_alone, piece_cut, is_word}

-- categories

number_of_category : (front categories : List Category) (k : ℕ) → all_distinct (map (λ (c : Category). c.name) (front ++ categories)) ≡ true → k < length categories → category_number (front ++ categories) (name_at categories k) ≡ Some (length front + k)
unfolding category_number
number_of_category front [] k h l = absurd (omega arith)
number_of_category front (c ∷ categories) zero h l = position_of (λ (x : Category). x.name) front c categories h ∙ ap (λ (n : ℕ). Some n) (omega arith)
number_of_category front (c ∷ categories) (suc k) h l =
    let whole : (front ++ c ∷ []) ++ categories ≡ front ++ c ∷ categories = append_assoc front (c ∷ []) categories in
    let place : length (front ++ c ∷ []) + k ≡ length front + suc k = omega (arith, length-append front (c ∷ [])) in
    ap (λ (cs : List Category). category_number cs (name_at categories k)) (sym whole)
    ∙ number_of_category (front ++ c ∷ []) categories k (ap (λ (cs : List Category). all_distinct (map (λ (x : Category). x.name) cs)) whole ∙ h) (omega arith)
    ∙ ap (λ (n : ℕ). Some n) place

pub category_reads : (categories : List Category) (k : ℕ) → all_distinct (map (λ (c : Category). c.name) categories) ≡ true → k < length categories → category_number categories (name_at categories k) ≡ Some k
category_reads categories k h l = number_of_category [] categories k h l ∙ ap (λ (n : ℕ). Some n) (omega arith)

name_at_is_word : (categories : List Category) (k : ℕ) → list_all category_in_range categories ≡ true → k < length categories → is_word (name_at categories k) ≡ true
name_at_is_word [] k h l = absurd (omega arith)
name_at_is_word (c ∷ categories) zero h l = name_is_word c ((and_parts (category_in_range c) _ h).0)
name_at_is_word (c ∷ categories) (suc k) h l = name_at_is_word categories k ((and_parts (category_in_range c) _ h).1) (omega arith)

-- verbs

pub from_zero : (n high : ℕ) → n ≤ high → is_between 0 high n ≡ true
from_zero n high h = grind (arith, nat_tests)

-- the bounds of a rectangle in range
pub record RectBounds (depth : ℕ) (r : Rect) : Type 0 where
  pub columns : is_between r.x0 (2 ^ depth) r.x1 ≡ true
  pub rows : is_between r.y0 (2 ^ depth) r.y1 ≡ true
  pub x0 : r.x0 ≤ 2 ^ depth
  pub y0 : r.y0 ≤ 2 ^ depth
  pub x1 : r.x1 ≤ 2 ^ depth
  pub y1 : r.y1 ≤ 2 ^ depth

pub rect_bounds : (depth : ℕ) (r : Rect) → rect_in_range depth r ≡ true → RectBounds depth r
rect_bounds depth r h =
    let columns = (and_parts _ (nat_le r.y0 r.y1 && nat_le r.y1 (2 ^ depth)) h).0 in
    let rows = (and_parts (nat_le r.x0 r.x1 && nat_le r.x1 (2 ^ depth)) _ h).1 in
    let x : r.x0 ≤ r.x1 = leb-true r.x0 r.x1 ((and_parts _ (nat_le r.x1 (2 ^ depth)) columns).0) in
    let y : r.y0 ≤ r.y1 = leb-true r.y0 r.y1 ((and_parts _ (nat_le r.y1 (2 ^ depth)) rows).0) in
    let x1 : r.x1 ≤ 2 ^ depth = leb-true r.x1 (2 ^ depth) ((and_parts (nat_le r.x0 r.x1) _ columns).1) in
    let y1 : r.y1 ≤ 2 ^ depth = leb-true r.y1 (2 ^ depth) ((and_parts (nat_le r.y0 r.y1) _ rows).1) in
    record { columns = columns; rows = rows; x0 = omega (arith, x, x1); y0 = omega (arith, y, y1); x1 = x1; y1 = y1 }

pub small_side : (depth : ℕ) → depth ≤ 20 → 2 ^ depth ≤ 2 ^ 20
small_side depth few = pow_mono few

-- the numbers of two categories and that they differ
pub two_known : (count k l : ℕ) → nat_lt k count && nat_lt l count && not (k == l) ≡ true → (k < count) × (l < count) × ((k == l) ≡ false)
two_known count k l h =
    let two = (and_parts _ (not (k == l)) h).0 in
    (ltb-true k count ((and_parts _ (nat_lt l count) two).0), ltb-true l count ((and_parts (nat_lt k count) _ two).1), not-true _ ((and_parts (nat_lt k count && nat_lt l count) _ h).1))

pub verb_reads : (depth : ℕ) (categories : List Category) (verb : Verb) (rest : List (List ℕ)) → depth ≤ 20 → all_distinct (map (λ (c : Category). c.name) categories) ≡ true → verb_in_range depth (length categories) verb ≡ true
    → verb_at depth categories (verb_name verb ∷ (verb_texts categories verb ++ rest)) ≡ Ok (verb, rest)
unfolding verb_at category_at hist_at map_at series_at window_at cross_at best_at number_at
verb_reads depth categories Count rest small names h = refl
verb_reads depth categories (Hist k) rest small names h = rw (category_reads categories k names (ltb-true k (length categories) h)) refl
verb_reads depth categories (Map down) rest small names h =
    let few : down ≤ 10 = leb-true down 10 h in
    rw (number_reads 0 deepest_map down 2 (omega arith) (from_zero down 10 few)) refl
verb_reads depth categories (Series from wide many) rest small names h =
    let rows_between : is_between 1 most_rows many ≡ true = (and_parts _ (is_between 1 most_rows many) h).1 in
    let two = (and_parts _ (is_between 1 most_rows many) h).0 in
    let wide_between : is_between 1 bins wide ≡ true = (and_parts _ (is_between 1 bins wide) two).1 in
    let early : from < 2 ^ 32 = ltb-true from bins ((and_parts (nat_lt from bins) _ two).0) in
    let narrow : wide ≤ 2 ^ 32 = between_high 1 bins wide wide_between in
    let few : many ≤ 10000 = between_high 1 most_rows many rows_between in
    rw (number_reads 0 (bins - 1) from 2 (omega arith) (from_zero from (bins - 1) (omega arith)), number_reads 1 bins wide 3 (omega arith) wide_between, number_reads 1 most_rows many 4 (omega arith) rows_between) refl
verb_reads depth categories (Window r) rest small names h =
    let bounds = rect_bounds depth r h in
    let side = small_side depth small in
    rw (
      number_reads 0 (2 ^ depth) r.x0 2 (omega (arith, side, bounds.x0)) (from_zero r.x0 (2 ^ depth) bounds.x0),
      number_reads 0 (2 ^ depth) r.y0 3 (omega (arith, side, bounds.y0)) (from_zero r.y0 (2 ^ depth) bounds.y0),
      number_reads r.x0 (2 ^ depth) r.x1 4 (omega (arith, side, bounds.x1)) bounds.columns,
      number_reads r.y0 (2 ^ depth) r.y1 5 (omega (arith, side, bounds.y1)) bounds.rows,
    ) refl
verb_reads depth categories (Cross k l) rest small names h =
    let known = two_known (length categories) k l h in
    rw (category_reads categories k names known.0, category_reads categories l names known.1, known.2) refl
verb_reads depth categories (Best down many) rest small names h =
    let few : down ≤ 10 = leb-true down 10 ((and_parts _ (is_between 1 most_best_rows many) h).0) in
    let between : is_between 1 most_best_rows many ≡ true = (and_parts (nat_le down deepest_map) _ h).1 in
    let short : many ≤ 1000 = between_high 1 most_best_rows many between in
    rw (number_reads 0 deepest_map down 2 (omega arith) (from_zero down 10 few), number_reads 1 most_best_rows many 3 (omega arith) between) refl
verb_reads depth categories Stat rest small names h = refl
verb_reads depth categories Told rest small names h = refl
verb_reads depth categories Quit rest small names h = refl

pub verb_name_is_word : (verb : Verb) → is_word (verb_name verb) ≡ true
verb_name_is_word Count = refl
verb_name_is_word (Hist k) = refl
verb_name_is_word (Map down) = refl
verb_name_is_word (Series from wide rows) = refl
verb_name_is_word (Window rect) = refl
verb_name_is_word (Cross k l) = refl
verb_name_is_word (Best down rows) = refl
verb_name_is_word Stat = refl
verb_name_is_word Told = refl
verb_name_is_word Quit = refl

pub verb_texts_are_words : (depth : ℕ) (categories : List Category) (verb : Verb) → depth ≤ 20 → list_all category_in_range categories ≡ true → verb_in_range depth (length categories) verb ≡ true → list_all is_word (verb_texts categories verb) ≡ true
verb_texts_are_words depth categories Count shallow each h = refl
verb_texts_are_words depth categories (Hist k) shallow each h = and_from _ _ (name_at_is_word categories k each (ltb-true k (length categories) h)) refl
verb_texts_are_words depth categories (Map down) shallow each h =
    let small : down ≤ 10 = leb-true down 10 h in
    and_from _ _ (decimal_is_word down (omega arith)) refl
verb_texts_are_words depth categories (Series from wide rows) shallow each h =
    let few : rows ≤ 10000 = between_high 1 most_rows rows ((and_parts _ (is_between 1 most_rows rows) h).1) in
    let two = (and_parts _ (is_between 1 most_rows rows) h).0 in
    let narrow : wide ≤ 2 ^ 32 = between_high 1 bins wide ((and_parts _ (is_between 1 bins wide) two).1) in
    let early : from < 2 ^ 32 = ltb-true from bins ((and_parts (nat_lt from bins) _ two).0) in
    and_from _ _ (decimal_is_word from (omega arith)) (and_from _ _ (decimal_is_word wide (omega arith)) (and_from _ _ (decimal_is_word rows (omega arith)) refl))
verb_texts_are_words depth categories (Window r) shallow each h =
    let bounds = rect_bounds depth r h in
    let side = small_side depth shallow in
    and_from _ _ (decimal_is_word r.x0 (omega (arith, side, bounds.x0))) (and_from _ _ (decimal_is_word r.y0 (omega (arith, side, bounds.y0))) (and_from _ _ (decimal_is_word r.x1 (omega (arith, side, bounds.x1))) (and_from _ _ (decimal_is_word r.y1 (omega (arith, side, bounds.y1))) refl)))
verb_texts_are_words depth categories (Cross k l) shallow each h =
    let known = two_known (length categories) k l h in
    and_from _ _ (name_at_is_word categories k each known.0) (and_from _ _ (name_at_is_word categories l each known.1) refl)
verb_texts_are_words depth categories (Best down many) shallow each h =
    let few : down ≤ 10 = leb-true down 10 ((and_parts _ (is_between 1 most_best_rows many) h).0) in
    let short : many ≤ 1000 = between_high 1 most_best_rows many ((and_parts (nat_le down deepest_map) _ h).1) in
    and_from _ _ (decimal_is_word down (omega arith)) (and_from _ _ (decimal_is_word many (omega arith)) refl)
verb_texts_are_words depth categories Stat shallow each h = refl
verb_texts_are_words depth categories Told shallow each h = refl
verb_texts_are_words depth categories Quit shallow each h = refl

-- tiles

-- the numbers of a tile of at most 20 levels are small
pub record SmallTile (t : Tile) : Type 0 where
  pub z : t.z ≤ 20
  pub column : t.x < 2 ^ t.z
  pub row : t.y < 2 ^ t.z
  pub x : t.x < 2 ^ 20
  pub y : t.y < 2 ^ 20

pub small_tile : (depth : ℕ) (t : Tile) → depth ≤ 20 → is_tile depth t ≡ true → SmallTile t
small_tile depth t few h =
    let row : t.y < 2 ^ t.z = ltb-true t.y (2 ^ t.z) ((and_parts _ (nat_lt t.y (2 ^ t.z)) h).1) in
    let two = (and_parts _ (nat_lt t.y (2 ^ t.z)) h).0 in
    let column : t.x < 2 ^ t.z = ltb-true t.x (2 ^ t.z) ((and_parts _ (nat_lt t.x (2 ^ t.z)) two).1) in
    let level : t.z ≤ depth = leb-true t.z depth ((and_parts (nat_le t.z depth) _ two).0) in
    let shallow : t.z ≤ 20 = omega arith in
    let wide : 2 ^ t.z ≤ 2 ^ 20 = pow_mono shallow in
    record { z = shallow; column = column; row = row; x = omega (arith, wide, column); y = omega (arith, wide, row) }

pub tile_reads : (depth : ℕ) (t : Tile) → depth ≤ 20 → is_tile depth t ≡ true → tile_value depth (tile_text t) ≡ Some t
unfolding tile_value cut_pieces
tile_reads depth t few h =
    let small = small_tile depth t few h in
    let level : t.z < 2 ^ 64 = omega (arith, small.z) in
    let column : t.x < 2 ^ 64 = omega (arith, small.x) in
    let row : t.y < 2 ^ 64 = omega (arith, small.y) in
    let cut : pieces_from slash false (tile_text t) ≡ decimal t.z ∷ decimal t.x ∷ decimal t.y ∷ [] =
    piece_cut slash false (decimal t.z) (decimal t.x ++ slash ∷ decimal t.y) (decimal_whole_in_tile t.z level)
    ∙ ap (λ (ps : List (List ℕ)). decimal t.z ∷ ps) (piece_cut slash false (decimal t.x) (decimal t.y) (decimal_whole_in_tile t.x column) ∙ ap (λ (ps : List (List ℕ)). decimal t.x ∷ ps) (piece_alone slash false (decimal t.y) (decimal_whole_in_tile t.y row))) in
    ap (tile_of_pieces depth) cut ∙ rw (decimal_reads t.z level, decimal_reads t.x column, decimal_reads t.y row, h) refl

some-left : (u v : List ℕ) → is_some_text u ≡ true → is_some_text (u ++ v) ≡ true
some-left [] v h = absurd (false≢true h)
some-left (b ∷ u) v h = refl

pub tile_is_word : (depth : ℕ) (t : Tile) → depth ≤ 20 → is_tile depth t ≡ true → is_word (tile_text t) ≡ true
tile_is_word depth t few h =
    let small = small_tile depth t few h in
    let level : t.z < 2 ^ 64 = omega (arith, small.z) in
    let column : t.x < 2 ^ 64 = omega (arith, small.x) in
    let row : t.y < 2 ^ 64 = omega (arith, small.y) in
    let whole : stays_whole space false (tile_text t) ≡ true =
    whole-append space false (decimal t.z) (slash ∷ (decimal t.x ++ slash ∷ decimal t.y)) (decimal_whole_in_line t.z level)
    ∙ whole-append space false (decimal t.x) (slash ∷ decimal t.y) (decimal_whole_in_line t.x column) ∙ decimal_whole_in_line t.y row in
    and_from _ _ (some-left (decimal t.z) (slash ∷ (decimal t.x ++ slash ∷ decimal t.y)) ((and_parts (is_some_text (decimal t.z)) _ (decimal_is_word t.z level)).0)) whole
