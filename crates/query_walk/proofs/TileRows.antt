-- The rows of the tiles below a tile, quadrant by quadrant.
use Rattle.std.proofs.Common.{◌≡◌, ℕ, ◌+◌, ◌*◌, ◌/◌, ◌%◌, ◌<◌, ◌≤◌, suc, Bool, true, List, [], ◌∷◌, ◌++◌, length, map, refl, sym, ◌∙◌, ap, subst, arith}
use Rattle.std.specs.List.{filter_map, flat_map, range_with_len}
use Rattle.std.proofs.lemmas.Bool.{and_parts, and_from, eqb-true, eq-eqb}
use Rattle.std.proofs.lemmas.Grind.{flat_map-append}
use Rattle.std.proofs.lemmas.List.{append_assoc, append-nil}
use Rattle.std.proofs.lemmas.List.Elements.{filter_map-append}
use Rattle.std.proofs.lemmas.List.FromFn.{map-range_with_len_more}
use Rattle.cube_view.proofs.Amounts.{amount-nil, none-less}
use Rattle.cube_view.specs.Bag.{amount}
use Rattle.cube_view.specs.Places.{in_tile, shifted, bit_at, is_below, is_under, longer_tile, region_address}
use Rattle.cube_view.specs.Points.{Point}
use Rattle.cube_view.specs.declared.address.Address.{Address}
use Rattle.cube_view.specs.declared.address.Tile.{Tile}
use Rattle.cube_view.specs.declared.schema.Schema.{Schema}
use Rattle.cube_view.specs.declared.spot.Spot.{Spot}
use Rattle.query_syntax.proofs.TableLaws.{quadrant_in_tile, rows_inside}
use Rattle.query_syntax.specs.Tables.{area_row}
use Rattle.query_syntax.proofs.TileLaws.{all_inside}
use Rattle.query_syntax.specs.TileOrder.{tiles_below, tiles_inside}
use Rattle.query_syntax.specs.declared.query.Query.{Query}
use Rattle.query_syntax.specs.declared.table.RowOut.{RowOut}
use Rattle.query_walk.proofs.QueryBoxes.{region_within}
use Rattle.query_walk.specs.Areas.{areas_inside}
use Rattle.query_walk.specs.Walks.{HasBox}

-- The bits of a label, by which a spot in that quadrant goes on

label_again : (l bx b tx ty : ℕ) → l < 4 → bx ≡ (2 * tx + l % 2) % 2 → b ≡ (2 * ty + l / 2) % 2 → 2 * b + bx ≡ l
label_again l bx b tx ty lt x y = omega (arith, lt, x, y)

below_quadrant : (z : Schema) (t : Tile) (l : ℕ) (s : Spot) → t.z < z.depth → l < 4 → in_tile z.depth (longer_tile 1 t l) s ≡ true → is_below z (region_address t) l s ≡ true
below_quadrant z t l s deep lt in_it =
    let parts = and_parts _ _ in_it in
    let x : shifted z.depth (t.z + 1) s.x ≡ 2 * t.x + l % 2 = eqb-true _ _ parts.0 in
    let y : shifted z.depth (t.z + 1) s.y ≡ 2 * t.y + l / 2 = eqb-true _ _ parts.1 in
    let x_bit : bit_at z.depth (t.z + 1) s.x ≡ (2 * t.x + l % 2) % 2 = ap (λ n. n % 2) x in
    let y_bit : bit_at z.depth (t.z + 1) s.y ≡ (2 * t.y + l / 2) % 2 = ap (λ n. n % 2) y in
    and_from _ _ (and_from _ _ (quadrant_in_tile z.depth t l s deep lt in_it) refl) (eq-eqb _ _ (label_again l _ _ t.x t.y lt x_bit y_bit))

module _ (z : Schema) (q : Query) (h : List Point) (n : ℕ) (t : Tile) where
  -- the rows of the tiles inside the quadrants with labels under l
  abbrev so_far : ℕ → List RowOut
  so_far l = filter_map (area_row z q h) (flat_map (tiles_inside n) (map (longer_tile 1 t) (range_with_len 0 l)))

  one_more : (l : ℕ) → so_far (l + 1) ≡ so_far l ++ areas_inside z q h n (longer_tile 1 t l)
  one_more l =
      let quads = map (longer_tile 1 t) (range_with_len 0 l) in
      let last = longer_tile 1 t l in
      ap (λ (ts : List Tile). filter_map (area_row z q h) (flat_map (tiles_inside n) ts)) (map-range_with_len_more (longer_tile 1 t) 0 l l (omega arith))
      ∙ (ap (filter_map (area_row z q h)) (flat_map-append (tiles_inside n) quads (last ∷ []) ∙ ap (λ (ts : List Tile). flat_map (tiles_inside n) quads ++ ts) (append-nil (tiles_inside n last)))
      ∙ filter_map-append (area_row z q h) (flat_map (tiles_inside n) quads) (tiles_inside n last))

  -- a quadrant that was gone through
  pub quadrant_gone_through : (l : ℕ) (start old new : List RowOut) → old ≡ start ++ so_far l → new ≡ old ++ areas_inside z q h n (longer_tile 1 t l) → new ≡ start ++ so_far (l + 1)
  quadrant_gone_through l start old new before after =
      after
      ∙ (ap (λ (rows : List RowOut). rows ++ areas_inside z q h n (longer_tile 1 t l)) before
      ∙ (append_assoc start (so_far l) (areas_inside z q h n (longer_tile 1 t l)) ∙ ap (λ (rows : List RowOut). start ++ rows) (sym (one_more l))))

  -- a quadrant without spots, which has no rows
  pub quadrant_passed_over : (l : ℕ) (a : Address) (start old : List RowOut) → l < 4 → t.z + suc n ≤ z.depth → a ≡ region_address t → amount (is_below z a l) h ≡ 0 → old ≡ start ++ so_far l → old ≡ start ++ so_far (l + 1)
  quadrant_passed_over l a start old lt deep at none before =
      let here : amount (is_below z (region_address t) l) h ≡ 0 = subst (λ (b : Address). amount (is_below z b l) h ≡ 0) at none in
      let empty = none-less (λ s. in_tile z.depth (longer_tile 1 t l) s) (is_below z (region_address t) l) (λ s. below_quadrant z t l s (omega (arith, deep)) lt) h here in
      let no_rows = rows_inside z q h n (longer_tile 1 t l) (omega (arith, deep)) empty in
      quadrant_gone_through l start old old before (sym (append-nil old) ∙ ap (λ (rows : List RowOut). old ++ rows) (sym no_rows))

under_region : (z : Schema) (t : Tile) (s : Spot) → in_tile z.depth t s ≡ true → is_under z (region_address t) s ≡ true
under_region z t s e = and_from _ _ e refl

module _ (z : Schema) (q : Query) (h : List Point) where
  -- a region that no spot of the list lies under has no rows
  pub no_rows_under : (levels : ℕ) → q.region.z + levels ≤ z.depth → amount (is_under z (region_address q.region)) h ≡ 0 → areas_inside z q h levels q.region ≡ []
  no_rows_under levels deep none = rows_inside z q h levels q.region deep (none-less (λ s. in_tile z.depth q.region s) (is_under z (region_address q.region)) (under_region z q.region) h none)

  -- the rows of the tiles that the way down comes to are those of all tiles inside the region
  pub rows_of_way : HasBox z q → (levels : ℕ) → areas_inside z q h levels q.region ≡ filter_map (area_row z q h) (tiles_below levels q.region)
  rows_of_way has levels =
      let within = region_within z q has in
      ap (filter_map (area_row z q h)) (sym (all_inside q.region within.0 within.1 levels))

-- a list of no points has no spots anywhere
pub no_points : (p : Spot → Bool) (h : List Point) (seen : ℕ) → seen ≡ length h → seen ≡ 0 → amount p h ≡ 0
no_points p [] seen same none = amount-nil p
no_points p (x ∷ h) seen same none = absurd (omega (arith, same, none))
