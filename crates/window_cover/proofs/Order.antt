-- The order of the cover's tiles: one after the other they have the rectangle's finest tiles in path order.
use Rattle.std.proofs.Common.{◌≡◌, ℕ, zero, suc, ◌+◌, ◌-◌, ◌*◌, ◌/◌, ◌^◌, Bool, true, false, cond, List, [], ◌∷◌, ◌++◌, refl, sym, ◌∙◌, ap, arith}
use Rattle.std.specs.Prelude.{filter}
use Rattle.std.specs.List.{flat_map}
use Rattle.std.proofs.lemmas.Bool.{both_ways, false_from_ne_true}
use Rattle.std.proofs.lemmas.Grind.{flat_map-append}
use Rattle.std.proofs.lemmas.List.{append-nil}
use Rattle.cube_view.proofs.LevelShifts.{by_one}
use Rattle.cube_view.specs.Places.{longer_tile}
use Rattle.cube_view.specs.declared.address.Tile.{Tile}
use Rattle.query_syntax.proofs.TilesInside.{inside_deeper}
use Rattle.query_syntax.specs.Queries.{whole_space}
use Rattle.query_syntax.specs.TileOrder.{quadrants, tiles_inside, tiles_of_level}
use Rattle.query_syntax.specs.declared.rect.Rect.{Rect}
use Rattle.window_cover.specs.Covers.{cover, finest_tiles}
use Rattle.query_syntax.specs.Windows.{has_place}
use Rattle.window_cover.specs.Rects.{is_inside, tile_rect}
use Rattle.window_cover.specs.Ways.{cover_below}
use Rattle.window_cover.proofs.LargestTiles.{cover_is, filter-flat_map, four_same}
use Rattle.window_cover.proofs.Quadrants.{contains_numbers, finest_inside, holds_from, place_from, place_meets, quadrant_inside}

flat_map-flat_map : {A B C : Type 0} (f : B → List C) (g : A → List B) (xs : List A) → flat_map f (flat_map g xs) ≡ flat_map (λ x. flat_map f (g x)) xs
flat_map-flat_map f g [] = refl
flat_map-flat_map f g (x ∷ xs) = flat_map-append f (g x) (flat_map g xs) ∙ ap (λ ys. flat_map f (g x) ++ ys) (flat_map-flat_map f g xs)

times_one : (n : ℕ) → n * 2 ^ 0 ≡ n
times_one n = omega arith

module _ (depth : ℕ) (r : Rect) where
  abbrev in_rect : Tile → Bool
  in_rect t = has_place r t.x t.y

  abbrev kept : Bool → Tile → List Tile → List Tile
  kept b t ts = cond b (t ∷ ts) ts

  -- a finest tile is in the rectangle where it lies inside
  finest_place : (t : Tile) → t.z ≡ depth → is_inside depth r t ≡ true → in_rect t ≡ true
  finest_place t end is =
      let k : depth - t.z ≡ 0 = omega (arith, end) in
      let n = contains_numbers r (tile_rect depth t) is in
      let side : (m : ℕ) → m * 2 ^ (depth - t.z) ≡ m = λ m. ap (λ j. m * 2 ^ j) k ∙ times_one m in
      let xa = side t.x in
      let xb = side (t.x + 1) in
      let ya = side t.y in
      let yb = side (t.y + 1) in
      place_from r t.x t.y (omega (arith, n.0, xa)) (omega (arith, n.1, xb)) (omega (arith, n.2, ya)) (omega (arith, n.3, yb))

  finest_out : (t : Tile) → t.z ≡ depth → is_inside depth r t ≡ false → in_rect t ≡ false
  finest_out t end out =
      let k : depth - t.z ≡ 0 = omega (arith, end) in
      let own : (m : ℕ) → m / 2 ^ (depth - t.z) ≡ m = λ m. ap (λ j. m / 2 ^ j) k ∙ by_one m in
      false_from_ne_true _ (λ is. both_ways _ out (finest_inside depth r t end (place_meets depth r t t.x t.y (holds_from depth t t.x t.y (own t.x) (own t.y)) is)))

  -- a tile inside the rectangle has finest tiles of it alone
  all_kept : (n : ℕ) (t : Tile) → t.z + n ≡ depth → is_inside depth r t ≡ true → filter in_rect (tiles_inside n t) ≡ tiles_inside n t
  all_kept zero t end is = ap (λ b. kept b t []) (finest_place t (omega (arith, end)) is)
  all_kept (suc n) t end is =
      filter-flat_map in_rect (tiles_inside n) (quadrants t)
      ∙ four_same (λ u. filter in_rect (tiles_inside n u)) t (tiles_inside n) (λ l lt. all_kept n (longer_tile 1 t l) (omega (arith, end)) (quadrant_inside depth t l (omega (arith, end)) lt r is))

  own_tiles : (n : ℕ) (t : Tile) → t.z + n ≡ depth → is_inside depth r t ≡ true → flat_map (finest_tiles depth) (t ∷ []) ≡ filter in_rect (tiles_inside n t)
  own_tiles n t end is =
      let levels : depth - t.z ≡ n = omega (arith, end) in
      append-nil (finest_tiles depth t) ∙ (ap (λ k. tiles_inside k t) levels ∙ sym (all_kept n t end is))

  in_order : (n : ℕ) (t : Tile) → t.z + n ≡ depth → flat_map (finest_tiles depth) (cover_below depth r n t) ≡ filter in_rect (tiles_inside n t)
  in_order zero t end = elim (is_inside depth r t) as (λ b. is_inside depth r t ≡ b → flat_map (finest_tiles depth) (cond b (t ∷ []) []) ≡ filter in_rect (tiles_inside zero t)) [
    | true ↦ λ is. own_tiles zero t end is
    | false ↦ λ out. sym (ap (λ b. kept b t []) (finest_out t (omega (arith, end)) out))
  ] refl
  in_order (suc n) t end = elim (is_inside depth r t) as (λ b. is_inside depth r t ≡ b → flat_map (finest_tiles depth) (cond b (t ∷ []) (flat_map (cover_below depth r n) (quadrants t))) ≡ filter in_rect (tiles_inside (suc n) t)) [
    | true ↦ λ is. own_tiles (suc n) t end is
    | false ↦ λ out.
        flat_map-flat_map (finest_tiles depth) (cover_below depth r n) (quadrants t)
        ∙ (four_same (λ u. flat_map (finest_tiles depth) (cover_below depth r n u)) t (λ u. filter in_rect (tiles_inside n u)) (λ l lt. in_order n (longer_tile 1 t l) (omega (arith, end)))
        ∙ sym (filter-flat_map in_rect (tiles_inside n) (quadrants t)))
  ] refl

  level_inside : (n : ℕ) → tiles_inside n whole_space ≡ tiles_of_level n
  level_inside zero = refl
  level_inside (suc n) = inside_deeper n whole_space ∙ ap (flat_map quadrants) (level_inside n)

  pub ordered : flat_map (finest_tiles depth) (cover depth r) ≡ filter in_rect (tiles_of_level depth)
  ordered =
      ap (flat_map (finest_tiles depth)) (cover_is depth r)
      ∙ (in_order depth whole_space (omega arith) ∙ ap (filter in_rect) (level_inside depth))
