-- The largest tiles among all tiles are those that the way down comes to.
use Rattle.std.proofs.Common.{◌≡◌, ℕ, zero, suc, ◌+◌, ◌-◌, ◌<◌, ◌≤◌, Bool, true, false, cond, not, ◌&&◌, ◌||◌, eqb, List, [], ◌∷◌, ◌++◌, map, refl, sym, ◌∙◌, ap, arith}
use Rattle.std.specs.Prelude.{filter}
use Rattle.std.specs.List.{flat_map, range_with_len}
use Rattle.std.proofs.lemmas.Bool.{and_from, and_parts, and_right, both_ways, ne_eqb, not-true, not_from_true, not_from_false}
use Rattle.std.proofs.lemmas.Grind.{flat_map-append}
use Rattle.std.proofs.lemmas.List.{append-nil}
use Rattle.std.proofs.lemmas.List.Elements.{filter-append}
use Rattle.std.proofs.lemmas.List.FromFn.{map-range_with_len_more}
use Rattle.std.proofs.lemmas.Nat.{pow-add}
use Rattle.cube_view.specs.Places.{longer_tile}
use Rattle.cube_view.specs.declared.address.Tile.{Tile}
use Rattle.query_syntax.specs.Queries.{whole_space}
use Rattle.query_syntax.specs.TileOrder.{quadrants}
use Rattle.query_syntax.specs.Tiles.{is_tile}
use Rattle.query_syntax.specs.declared.rect.Rect.{Rect}
use Rattle.window_cover.specs.Covers.{tiles_from, all_tiles, parent, is_largest, cover}
use Rattle.window_cover.specs.Rects.{tile_rect, meets, is_crossed, is_inside}
use Rattle.window_cover.specs.Ways.{cover_below, cover_inside}
use Rattle.window_cover.proofs.Quadrants.{fails, finest_inside, inside_meets, parent_is, quadrant_inside, quadrant_meets, tile_from, tile_numbers}

-- Lists of the four quadrants

pub filter-flat_map : {A B : Type 0} (p : B → Bool) (f : A → List B) (xs : List A) → filter p (flat_map f xs) ≡ flat_map (λ x. filter p (f x)) xs
filter-flat_map p f [] = refl
filter-flat_map p f (x ∷ xs) = filter-append p (f x) (flat_map f xs) ∙ ap (λ ys. filter p (f x) ++ ys) (filter-flat_map p f xs)

module _ (f : Tile → List Tile) (t : Tile) where
  pub four_same : (g : Tile → List Tile) → ((l : ℕ) → l < 4 → f (longer_tile 1 t l) ≡ g (longer_tile 1 t l)) → flat_map f (quadrants t) ≡ flat_map g (quadrants t)
  four_same g each =
      let a = each 0 (omega arith) in
      let b = each 1 (omega arith) in
      let c = each 2 (omega arith) in
      let d = each 3 (omega arith) in
      λ i. a i ++ (b i ++ (c i ++ (d i ++ [])))

  pub four_none : ((l : ℕ) → l < 4 → f (longer_tile 1 t l) ≡ []) → flat_map f (quadrants t) ≡ []
  four_none each = four_same (λ u. []) each

  -- one quadrant more
  pub one_quadrant_more : (l : ℕ) → flat_map f (map (longer_tile 1 t) (range_with_len 0 (l + 1))) ≡ flat_map f (map (longer_tile 1 t) (range_with_len 0 l)) ++ f (longer_tile 1 t l)
  one_quadrant_more l =
      let quads = map (longer_tile 1 t) (range_with_len 0 l) in
      ap (flat_map f) (map-range_with_len_more (longer_tile 1 t) 0 l l (omega arith))
      ∙ (flat_map-append f quads (longer_tile 1 t l ∷ []) ∙ ap (λ (ts : List Tile). flat_map f quads ++ ts) (append-nil (f (longer_tile 1 t l))))

module _ (depth : ℕ) (r : Rect) where
  -- the tile is all of space, or the tile that it is a quadrant of isn't inside
  abbrev pub is_open : Tile → Bool
  is_open t = eqb t.z 0 || not (is_inside depth r (parent t))

  abbrev kept : Bool → Tile → List Tile → List Tile
  kept b t ts = cond b (t ∷ ts) ts

  pub open_quadrant : (t : Tile) (l : ℕ) → t.z < depth → l < 4 → is_open (longer_tile 1 t l) ≡ not (is_inside depth r t)
  open_quadrant t l deep lt =
      let ne : eqb (t.z + 1) 0 ≡ false = ne_eqb (t.z + 1) 0 (λ (e : t.z + 1 ≡ 0). omega (arith, e)) in
      ap (λ b. b || not (is_inside depth r (parent (longer_tile 1 t l)))) ne
      ∙ ap (λ (u : Tile). not (is_inside depth r u)) (parent_is depth t l deep lt)

  -- below a tile whose quadrants are inside nothing is largest
  none_left : (n : ℕ) (t : Tile) → t.z + n ≡ depth → is_inside depth r t ≡ true → is_open t ≡ false → filter (is_largest depth r) (tiles_from n t) ≡ []
  none_left zero t end is closed = ap (λ b. kept b t []) (and_right (is_inside depth r t) (is_open t) closed)
  none_left (suc n) t end is closed =
      let deep : t.z < depth = omega (arith, end) in
      ap (λ b. kept b t (filter (is_largest depth r) (flat_map (tiles_from n) (quadrants t)))) (and_right (is_inside depth r t) (is_open t) closed)
      ∙ (filter-flat_map (is_largest depth r) (tiles_from n) (quadrants t)
      ∙ four_none (λ u. filter (is_largest depth r) (tiles_from n u)) t (λ l lt.
      none_left n (longer_tile 1 t l) (omega (arith, end)) (quadrant_inside depth t l deep lt r is) (open_quadrant t l deep lt ∙ not_from_true _ is)))

  pub way_is : (n : ℕ) (t : Tile) → t.z + n ≡ depth → is_open t ≡ true → filter (is_largest depth r) (tiles_from n t) ≡ cover_below depth r n t
  way_is zero t end free = elim (is_inside depth r t) as (λ b. kept (b && is_open t) t [] ≡ cond b (t ∷ []) []) [
    | true ↦ ap (λ b. kept b t []) free
    | false ↦ refl
  ]
  way_is (suc n) t end free =
      let deep : t.z < depth = omega (arith, end) in
      let below = filter (is_largest depth r) (flat_map (tiles_from n) (quadrants t)) in
      let each = filter-flat_map (is_largest depth r) (tiles_from n) (quadrants t) in
      elim (is_inside depth r t) as (λ b. is_inside depth r t ≡ b → kept (b && is_open t) t below ≡ cond b (t ∷ []) (flat_map (cover_below depth r n) (quadrants t))) [
        | true ↦ λ is.
            ap (λ b. kept b t below) free
            ∙ ap (λ ts. t ∷ ts) (each ∙ four_none (λ u. filter (is_largest depth r) (tiles_from n u)) t (λ l lt.
            none_left n (longer_tile 1 t l) (omega (arith, end)) (quadrant_inside depth t l deep lt r is) (open_quadrant t l deep lt ∙ not_from_true _ is)))
        | false ↦ λ is.
            each ∙ four_same (λ u. filter (is_largest depth r) (tiles_from n u)) t (cover_below depth r n) (λ l lt.
            way_is n (longer_tile 1 t l) (omega (arith, end)) (open_quadrant t l deep lt ∙ not_from_false _ is))
      ] refl

  -- the cover is what the way down from all of space comes to
  pub cover_is : cover depth r ≡ cover_below depth r depth whole_space
  unfolding cover all_tiles
  cover_is = way_is depth whole_space (omega arith) refl

  pub cover_is_inside : cover depth r ≡ cover_inside depth r whole_space
  cover_is_inside = let e : depth ≡ depth - 0 = omega arith in cover_is ∙ ap (λ n. cover_below depth r n whole_space) e

  -- below a tile that doesn't meet the rectangle there is nothing
  pub unmet : (n : ℕ) (t : Tile) → t.z + n ≡ depth → meets r (tile_rect depth t) ≡ false → cover_below depth r n t ≡ []
  unmet zero t end apart = ap (λ b. cond b (t ∷ []) []) (fails (is_inside depth r t) _ (inside_meets depth r t) apart)
  unmet (suc n) t end apart =
      let deep : t.z < depth = omega (arith, end) in
      ap (λ b. cond b (t ∷ []) (flat_map (cover_below depth r n) (quadrants t))) (fails (is_inside depth r t) _ (inside_meets depth r t) apart)
      ∙ four_none (cover_below depth r n) t (λ l lt. unmet n (longer_tile 1 t l) (omega (arith, end)) (fails _ _ (quadrant_meets depth t l deep lt r) apart))

  -- what a tile inside the rectangle has is itself
  pub way_inside : (n : ℕ) (t : Tile) → is_inside depth r t ≡ true → cover_below depth r n t ≡ t ∷ []
  way_inside zero t is = ap (λ b. cond b (t ∷ []) []) is
  way_inside (suc n) t is = ap (λ b. cond b (t ∷ []) (flat_map (cover_below depth r n) (quadrants t))) is

  -- and another one what its quadrants have
  pub way_deeper : (n : ℕ) (t : Tile) → is_inside depth r t ≡ false → cover_below depth r (suc n) t ≡ flat_map (cover_below depth r n) (quadrants t)
  way_deeper n t is = ap (λ b. cond b (t ∷ []) (flat_map (cover_below depth r n) (quadrants t))) is

  -- The way down to the finest tiles

  -- a tile that the rectangle crosses meets it and isn't inside
  pub crossed_parts : (t : Tile) → is_crossed depth r t ≡ true → (meets r (tile_rect depth t) ≡ true) × (is_inside depth r t ≡ false)
  crossed_parts t is = let parts = and_parts (meets r (tile_rect depth t)) (not (is_inside depth r t)) is in (parts.0, not-true _ parts.1)

  -- one that it doesn't cross doesn't meet it, unless it is inside
  pub uncrossed_apart : (t : Tile) → is_inside depth r t ≡ false → is_crossed depth r t ≡ false → meets r (tile_rect depth t) ≡ false
  uncrossed_apart t out is = fails (meets r (tile_rect depth t)) (is_crossed depth r t) (λ met. and_from _ _ met (not_from_false _ out)) is

  -- a tile that it crosses has quadrants
  pub has_quadrants : (t : Tile) → is_tile depth t ≡ true → is_inside depth r t ≡ false → meets r (tile_rect depth t) ≡ true → t.z < depth
  has_quadrants t tile out met =
      let n = tile_numbers depth t tile in
      let ne : t.z ≡ depth → ⊥ = λ (end : t.z ≡ depth). both_ways _ out (finest_inside depth r t end met) in
      omega (arith, n.0, ne)

  pub quadrant_tile : (t : Tile) (l : ℕ) → is_tile depth t ≡ true → t.z < depth → l < 4 → is_tile depth (longer_tile 1 t l) ≡ true
  quadrant_tile t l tile deep lt =
      let n = tile_numbers depth t tile in
      let two = pow-add 2 t.z 1 in
      tile_from depth (longer_tile 1 t l) (omega (arith, deep)) (omega (arith, n.1, two)) (omega (arith, n.2, two, lt))

  pub inside_whole : (t : Tile) → is_inside depth r t ≡ true → cover_inside depth r t ≡ t ∷ []
  inside_whole t is = way_inside (depth - t.z) t is

  pub inside_unmet : (t : Tile) → is_tile depth t ≡ true → meets r (tile_rect depth t) ≡ false → cover_inside depth r t ≡ []
  inside_unmet t tile apart = let n = tile_numbers depth t tile in unmet (depth - t.z) t (omega (arith, n.0)) apart

  pub inside_deeper : (t : Tile) → t.z < depth → is_inside depth r t ≡ false → cover_inside depth r t ≡ flat_map (cover_below depth r (depth - t.z - 1)) (quadrants t)
  inside_deeper t deep out =
      let e : depth - t.z ≡ suc (depth - t.z - 1) = omega (arith, deep) in
      ap (λ n. cover_below depth r n t) e ∙ way_deeper (depth - t.z - 1) t out

  pub inside_quadrant : (t : Tile) (l : ℕ) → cover_inside depth r (longer_tile 1 t l) ≡ cover_below depth r (depth - t.z - 1) (longer_tile 1 t l)
  inside_quadrant t l = let e : depth - (t.z + 1) ≡ depth - t.z - 1 = omega arith in ap (λ n. cover_below depth r n (longer_tile 1 t l)) e

  -- after all four quadrants
  pub four_quadrants : (t : Tile) (l : ℕ) (old new : List Tile) → 4 ≤ l → l ≤ 4 → t.z < depth → is_inside depth r t ≡ false → new ≡ old ++ flat_map (cover_below depth r (depth - t.z - 1)) (map (longer_tile 1 t) (range_with_len 0 l)) → new ≡ old ++ cover_inside depth r t
  four_quadrants t l old new low high deep out so_far =
      let four : l ≡ 4 = omega (arith, low, high) in
      let part = cover_below depth r (depth - t.z - 1) in
      so_far
      ∙ (ap (λ (n : ℕ). old ++ flat_map part (map (longer_tile 1 t) (range_with_len 0 n))) four
      ∙ ap (λ (ts : List Tile). old ++ ts) (sym (inside_deeper t deep out)))
