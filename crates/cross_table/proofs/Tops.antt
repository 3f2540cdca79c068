-- The rows of a map in the order of their totals are those of the best tiles.
use Rattle.std.proofs.Common.{◌≡◌, ℕ, zero, suc, ◌+◌, ◌≤◌, Bool, true, false, not, ◌==◌, eqb, List, [], ◌∷◌, ◌++◌, cond, map, take, filter, refl, sym, ◌∙◌, ap, subst, arith}
use Rattle.std.specs.List.{AllByRecursion, cons_option, filter_map}
use Rattle.std.specs.Prelude.{if◌then◌else◌, nat_lt, None, Some}
use Rattle.std.proofs.lemmas.Bool.Decides.{nat_tests}
use Rattle.std.proofs.lemmas.Bool.{ne_eqb}
use Rattle.std.proofs.lemmas.List.{map-append, take-map}
use Rattle.std.proofs.lemmas.List.Elements.{All-from_recursion}
use Rattle.cube_view.proofs.Amounts.{amount-within}
use Rattle.cube_view.specs.Bag.{amount, anywhere}
use Rattle.cube_view.specs.Points.{Point}
use Rattle.cube_view.specs.declared.address.Tile.{Tile}
use Rattle.cube_view.specs.declared.schema.Schema.{Schema}
use Rattle.cross_table.specs.Ranking.{total_of_row, rows_by_total, IsFirstByTotal}
use Rattle.query_syntax.proofs.ValidParts.{valid_parts}
use Rattle.query_syntax.specs.Boxes.{box, inside, total}
use Rattle.query_syntax.specs.Queries.{is_too_deep, is_valid_query}
use Rattle.query_syntax.specs.Narrowing.{with_tile}
use Rattle.query_syntax.specs.Tables.{area_row}
use Rattle.query_syntax.specs.TileOrder.{tiles_below}
use Rattle.query_syntax.specs.TopTiles.{area_total, tiles_of_total, tiles_by_total, top_tiles, top_rows}
use Rattle.query_syntax.specs.declared.query.Query.{Query}
use Rattle.query_syntax.specs.declared.query.Verb.{Verb}
use Rattle.query_syntax.specs.declared.query.Verb.TheVariants.{Best}
use Rattle.query_syntax.specs.declared.table.RowOut.{RowOut}

-- the best tiles are not below the finest level
pub best_above : (z : Schema) (q : Query) (down rows : ℕ) → is_valid_query z q ≡ true → q.verb ≡ Best down rows → q.region.z + down ≤ z.depth
best_above z q down rows valid is = let e : not (nat_lt z.depth (q.region.z + down)) ≡ true = subst (λ (v : Verb). not (is_too_deep z.depth q.region.z v) ≡ true) is (valid_parts z q valid).deep in grind (arith, nat_tests)

module _ (z : Schema) (q : Query) (h : List Point) where
  -- the row of a tile, also of one that has nothing
  abbrev row_of : Tile → RowOut
  row_of t = RowOut.Area t (area_total z q h t)

  -- the rows of some tiles that have something
  abbrev rows_of : List Tile → List RowOut
  rows_of ts = filter_map (area_row z q h) ts

  -- the rows of a total are those of the tiles of that total
  with_total : (t : Tile) (n w : ℕ) (rows : List RowOut) (ts : List Tile) → n ≡ area_total z q h t → filter (λ row. eqb (total_of_row row) (suc w)) rows ≡ map row_of ts
      → filter (λ row. eqb (total_of_row row) (suc w)) (cons_option (if n == 0 then None else Some (RowOut.Area t n)) rows) ≡ map row_of (cond (eqb n (suc w)) (t ∷ ts) ts)
  with_total t zero w rows ts is same = same ∙ ap (λ b. map row_of (cond b (t ∷ ts) ts)) (sym (ne_eqb 0 (suc w) (λ (e : 0 ≡ suc w). omega (arith, e))))
  with_total t (suc n) w rows ts is same =
      ap (λ b. filter (λ row. eqb (total_of_row row) (suc w)) (cons_option (cond b None (Some (RowOut.Area t (suc n)))) rows)) (ne_eqb (suc n) 0 (λ (e : suc n ≡ 0). omega (arith, e)))
      ∙ by_test (eqb (suc n) (suc w))
    where
      by_test : (b : Bool) → cond b (RowOut.Area t (suc n) ∷ filter (λ row. eqb (total_of_row row) (suc w)) rows) (filter (λ row. eqb (total_of_row row) (suc w)) rows) ≡ map row_of (cond b (t ∷ ts) ts)
      by_test true = λ i. RowOut.Area t (is i) ∷ same i
      by_test false = same

  rows_of_total : (ts : List Tile) (w : ℕ) → filter (λ row. eqb (total_of_row row) (suc w)) (rows_of ts) ≡ map row_of (filter (λ t. eqb (area_total z q h t) (suc w)) ts)
  rows_of_total [] w = refl
  rows_of_total (t ∷ ts) w = with_total t (area_total z q h t) w (rows_of ts) (filter (λ u. eqb (area_total z q h u) (suc w)) ts) refl (rows_of_total ts w)

  rows_by : (levels w : ℕ) → rows_by_total (rows_of (tiles_below levels q.region)) w ≡ map row_of (tiles_by_total z q h levels w)
  rows_by levels zero = refl
  rows_by levels (suc w) =
      (λ i. rows_of_total (tiles_below levels q.region) w i ++ rows_by levels w i)
      ∙ sym (map-append row_of (tiles_of_total z q h levels (suc w)) (tiles_by_total z q h levels w))

  -- the row has something, and no more than all points weigh
  abbrev passes : RowOut → Type 0
  passes row = (1 ≤ total_of_row row) × (total_of_row row ≤ amount anywhere h)

  row_within : (t : Tile) (n : ℕ) (rows : List RowOut) → n ≤ amount anywhere h → AllByRecursion passes rows → AllByRecursion passes (cons_option (if n == 0 then None else Some (RowOut.Area t n)) rows)
  row_within t zero rows le all = all
  row_within t (suc n) rows le all =
      subst (λ b. AllByRecursion passes (cons_option (cond b None (Some (RowOut.Area t (suc n)))) rows)) (sym (ne_eqb (suc n) 0 (λ (e : suc n ≡ 0). omega (arith, e)))) ((omega arith, le), all)

  light : (t : Tile) → area_total z q h t ≤ amount anywhere h
  unfolding total
  light t = amount-within (inside z (with_tile (box q) t)) h

  each_within : (ts : List Tile) → AllByRecursion passes (rows_of ts)
  each_within [] = tt
  each_within (t ∷ ts) = row_within t (area_total z q h t) (rows_of ts) (light t) (each_within ts)

  -- the first rows by their totals of the map's are those of the best tiles
  pub first_are_top : (levels rows : ℕ) (first : List RowOut) → IsFirstByTotal (rows_of (tiles_below levels q.region)) rows first → first ≡ top_rows z q h levels rows
  unfolding top_rows top_tiles
  first_are_top levels rows first is =
      is (amount anywhere h) (All-from_recursion passes (rows_of (tiles_below levels q.region)) (each_within (tiles_below levels q.region)))
      ∙ (ap (take rows) (rows_by levels (amount anywhere h)) ∙ take-map row_of rows (tiles_by_total z q h levels (amount anywhere h)))
