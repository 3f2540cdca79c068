-- No list of tiles that fills the rectangle is shorter than the cover.
use Rattle.std.proofs.Common.{◌≡◌, ℕ, zero, suc, ◌+◌, ◌-◌, ◌*◌, ◌^◌, ◌<◌, ◌≤◌, Bool, true, false, cond, not, ◌&&◌, ◌||◌, ⊎_elim, eqb, leb, List, [], ◌∷◌, ◌++◌, length, refl, sym, ◌∙◌, ap, arith}
use Rattle.std.specs.Prelude.{count_by}
use Rattle.std.specs.List.{flat_map, list_all, list_any, sum_by}
use Rattle.std.proofs.Math.Nat.{mul_assoc, mul-div_cancel, mul-le-mul_right}
use Rattle.std.proofs.lemmas.Bool.{and_parts, and_from, both_ways, cases_lt, eqb-true, eq-eqb, leb-true, le-leb, ne_eqb, not-true, not_from_false, or_cases}
use Rattle.std.proofs.lemmas.List.Folds.{list_all-append}
use Rattle.std.proofs.lemmas.List.Sums.{sum_by-cons, sum_by-le-sum_by}
use Rattle.std.proofs.lemmas.Nat.{pow-add}
use Rattle.cube_view.proofs.OneWeight.{one_if}
use Rattle.cube_view.proofs.LevelShifts.{shifted_up}
use Rattle.cube_view.specs.Places.{longer_tile, shifted, tile_within}
use Rattle.cube_view.specs.declared.address.Tile.{Tile}
use Rattle.query_syntax.specs.Queries.{whole_space}
use Rattle.query_syntax.specs.TileOrder.{quadrants}
use Rattle.query_syntax.specs.Tiles.{is_tile}
use Rattle.query_syntax.specs.declared.rect.Rect.{Rect}
use Rattle.window_cover.specs.Covers.{cover, is_largest, parent, FillsRect, IsLeastCover}
use Rattle.window_cover.specs.Rects.{holds, is_inside, tile_rect}
use Rattle.window_cover.specs.Ways.{cover_below}
use Rattle.window_cover.proofs.TileHolders.{apart, exact}
use Rattle.window_cover.proofs.LargestTiles.{cover_is, is_open, open_quadrant}
use Rattle.window_cover.proofs.Order.{ordered}
use Rattle.window_cover.proofs.Quadrants.{contains_from, contains_numbers, holds_from, holds_numbers, place_inside, tile_numbers}
use Rattle.window_cover.proofs.Sides.{in_side, side_positive}

-- Pairs of two lists, counted from either

module _ {A B : Type 0} (R : A → B → Bool) where
  abbrev fits_of : A → B → ℕ
  fits_of a b = cond (R a b) 1 0

  sum_none : (xs : List B) → 0 ≡ sum_by (λ b. 0) xs
  sum_none [] = refl
  sum_none (x ∷ xs) = let c = sum_by-cons (λ (b : B). 0) x xs in let rest = sum_none xs in omega (arith, c, rest)

  sum_added : (f g : B → ℕ) (xs : List B) → sum_by f xs + sum_by g xs ≡ sum_by (λ b. f b + g b) xs
  sum_added f g [] = refl
  sum_added f g (x ∷ xs) =
      let a = sum_by-cons f x xs in
      let b = sum_by-cons g x xs in
      let c = sum_by-cons (λ (y : B). f y + g y) x xs in
      let rest = sum_added f g xs in
      omega (arith, a, b, c, rest)

  -- all pairs, by the first item and by the second
  pairs_swapped : (xs : List A) (ys : List B) → sum_by (λ a. count_by (R a) ys) xs ≡ sum_by (λ b. count_by (λ a. R a b) xs) ys
  pairs_swapped [] ys = sum_none ys
  pairs_swapped (x ∷ xs) ys =
      sum_by-cons (λ a. count_by (R a) ys) x xs
      ∙ (ap (λ n. count_by (R x) ys + n) (pairs_swapped xs ys)
      ∙ (sum_added (fits_of x) (λ b. count_by (λ a. R a b) xs) ys
      ∙ (λ i. sum_by (λ b. sym (sum_by-cons (λ a. fits_of a b) x xs) i) ys)))

-- a sum over items that pass a test, each with 1 or more
each_one : {A : Type 0} (p : A → Bool) (f : A → ℕ) → ((x : A) → p x ≡ true → 1 ≤ f x) → (xs : List A) → list_all p xs ≡ true → length xs ≤ sum_by f xs
each_one p f one [] all = omega arith
each_one p f one (x ∷ xs) all =
    let parts = and_parts (p x) (list_all p xs) all in
    let here = one x parts.0 in
    let rest = each_one p f one xs parts.1 in
    let c = sum_by-cons f x xs in
    omega (arith, here, rest, c)

-- and each with 1 or less
one_each : {A : Type 0} (p : A → Bool) (f : A → ℕ) → ((x : A) → p x ≡ true → f x ≤ 1) → (xs : List A) → list_all p xs ≡ true → sum_by f xs ≤ length xs
one_each p f one [] all = omega arith
one_each p f one (x ∷ xs) all =
    let parts = and_parts (p x) (list_all p xs) all in
    let here = one x parts.0 in
    let rest = one_each p f one xs parts.1 in
    let c = sum_by-cons f x xs in
    omega (arith, here, rest, c)

-- where an item passes one test, and items that pass it and another one pass a third, the third counts 1 or more
some_counts : {A : Type 0} (p q s : A → Bool) → ((x : A) → p x ≡ true → q x ≡ true → s x ≡ true) → (xs : List A) → list_all p xs ≡ true → list_any q xs ≡ true → 1 ≤ count_by s xs
some_counts p q s both [] all any = absurd (cc)
some_counts p q s both (x ∷ xs) all any =
    let parts = and_parts (p x) (list_all p xs) all in
    let c = sum_by-cons (λ u. cond (s u) 1 0) x xs in
    ⊎_elim
    (λ (here : q x ≡ true). let one = ap one_if (both x parts.0 here) in omega (arith, one, c))
    (λ (there : list_any q xs ≡ true). let rest = some_counts p q s both xs parts.1 there in omega (arith, rest, c))
    (or_cases (q x) (list_any q xs) any)

count_less : {A : Type 0} (p q : A → Bool) → ((x : A) → p x ≡ true → q x ≡ true) → (xs : List A) → count_by p xs ≤ count_by q xs
count_less p q each xs = sum_by-le-sum_by (λ x. cond (p x) 1 0) (λ x. cond (q x) 1 0) xs (λ x. less (p x) (q x) (each x))
  where
    less : (a b : Bool) → (a ≡ true → b ≡ true) → cond a 1 0 ≤ cond b 1 0
    less true b there = let one = ap one_if (there refl) in omega (arith, one)
    less false b there = omega arith

-- Tiles of the cover

module _ (depth : ℕ) (r : Rect) where
  abbrev in_cover : Tile → Bool
  in_cover t = leb t.z depth && is_largest depth r t

  four_all : (p : Tile → Bool) (f : Tile → List Tile) (t : Tile) → ((l : ℕ) → l < 4 → list_all p (f (longer_tile 1 t l)) ≡ true) → list_all p (flat_map f (quadrants t)) ≡ true
  four_all p f t each =
      let more : (xs ys : List Tile) → list_all p xs ≡ true → list_all p ys ≡ true → list_all p (xs ++ ys) ≡ true = λ xs ys a b. list_all-append p xs ys ∙ and_from _ _ a b in
      more _ _ (each 0 (omega arith)) (more _ _ (each 1 (omega arith)) (more _ _ (each 2 (omega arith)) (more _ _ (each 3 (omega arith)) refl)))

  one_in_cover : (t : Tile) → t.z ≤ depth → is_open depth r t ≡ true → is_inside depth r t ≡ true → list_all in_cover (t ∷ []) ≡ true
  one_in_cover t deep free is = and_from _ _ (and_from _ _ (le-leb t.z depth deep) (and_from _ _ is free)) refl

  way_in_cover : (n : ℕ) (t : Tile) → t.z + n ≡ depth → is_open depth r t ≡ true → list_all in_cover (cover_below depth r n t) ≡ true
  way_in_cover zero t end free = elim (is_inside depth r t) as (λ b. is_inside depth r t ≡ b → list_all in_cover (cond b (t ∷ []) []) ≡ true) [
    | true ↦ λ is. one_in_cover t (omega (arith, end)) free is
    | false ↦ λ is. refl
  ] refl
  way_in_cover (suc n) t end free = elim (is_inside depth r t) as (λ b. is_inside depth r t ≡ b → list_all in_cover (cond b (t ∷ []) (flat_map (cover_below depth r n) (quadrants t))) ≡ true) [
    | true ↦ λ is. one_in_cover t (omega (arith, end)) free is
    | false ↦ λ is. four_all in_cover (cover_below depth r n) t (λ l lt. way_in_cover n (longer_tile 1 t l) (omega (arith, end)) (open_quadrant depth r t l (omega (arith, end)) lt ∙ not_from_false _ is))
  ] refl

  all_in_cover : list_all in_cover (cover depth r) ≡ true
  all_in_cover = ap (list_all in_cover) (cover_is depth r) ∙ way_in_cover depth whole_space (omega arith) refl

  -- Where a tile holds the first finest tile of another

  -- the first column and row of a tile
  abbrev first_x : Tile → ℕ
  first_x t = t.x * 2 ^ (depth - t.z)

  abbrev first_y : Tile → ℕ
  first_y t = t.y * 2 ^ (depth - t.z)

  first_held : (t : Tile) → holds depth t (first_x t) (first_y t) ≡ true
  first_held t = holds_from depth t (first_x t) (first_y t) (mul-div_cancel t.x (side_positive (depth - t.z))) (mul-div_cancel t.y (side_positive (depth - t.z)))

  -- of two tiles that hold the same finest tile the coarser one has the finer one in it
  finer_within : (c u : Tile) (x y : ℕ) → c.z ≤ u.z → u.z ≤ depth → holds depth c x y ≡ true → holds depth u x y ≡ true → (shifted u.z c.z u.x ≡ c.x) × (shifted u.z c.z u.y ≡ c.y)
  finer_within c u x y le deep hc hu =
      let a = holds_numbers depth c x y hc in
      let b = holds_numbers depth u x y hu in
      (sym (shifted_up depth u.z c.z x u.x le deep b.0) ∙ a.0, sym (shifted_up depth u.z c.z y u.y le deep b.1) ∙ a.1)

  -- a tile within another one holds what that one holds
  coarser_holds : (c u : Tile) (x y : ℕ) → u.z ≤ depth → tile_within c u ≡ true → holds depth u x y ≡ true → holds depth c x y ≡ true
  coarser_holds c u x y deep within hu =
      let parts = and_parts (leb c.z u.z && eqb (shifted u.z c.z u.x) c.x) (eqb (shifted u.z c.z u.y) c.y) within in
      let first = and_parts (leb c.z u.z) (eqb (shifted u.z c.z u.x) c.x) parts.0 in
      let le = leb-true c.z u.z first.0 in
      let b = holds_numbers depth u x y hu in
      holds_from depth c x y (shifted_up depth u.z c.z x u.x le deep b.0 ∙ eqb-true _ _ first.1) (shifted_up depth u.z c.z y u.y le deep b.1 ∙ eqb-true _ _ parts.1)

  -- a tile's numbers within those of a coarser one
  within_side : (uz pz n m : ℕ) → uz ≤ pz → pz ≤ depth → shifted pz uz n ≡ m → (m * 2 ^ (depth - uz) ≤ n * 2 ^ (depth - pz)) × ((n + 1) * 2 ^ (depth - pz) ≤ (m + 1) * 2 ^ (depth - uz))
  within_side uz pz n m le deep at =
      let k = pz - uz in
      let p = 2 ^ (depth - pz) in
      let w = in_side n m k at in
      let e : depth - uz ≡ k + (depth - pz) = omega (arith, le, deep) in
      let s : 2 ^ (depth - uz) ≡ 2 ^ k * p = ap (λ j. 2 ^ j) e ∙ pow-add 2 k (depth - pz) in
      let more : n + 1 ≤ (m + 1) * 2 ^ k = omega (arith, w.1) in
      let low = mul-le-mul_right p w.0 in
      let high = mul-le-mul_right p more in
      let a = mul_assoc m (2 ^ k) p in
      let b = mul_assoc (m + 1) (2 ^ k) p in
      let c = ap (λ j. m * j) s in
      let d = ap (λ j. (m + 1) * j) s in
      (omega (arith, low, a, c), omega (arith, high, b, d))

  -- what is in a tile inside the rectangle is inside it
  finer_inside : (u p : Tile) → u.z ≤ p.z → p.z ≤ depth → shifted p.z u.z p.x ≡ u.x → shifted p.z u.z p.y ≡ u.y → is_inside depth r u ≡ true → is_inside depth r p ≡ true
  finer_inside u p le deep ex ey is =
      let x = within_side u.z p.z p.x u.x le deep ex in
      let y = within_side u.z p.z p.y u.y le deep ey in
      let n = contains_numbers r (tile_rect depth u) is in
      contains_from r (tile_rect depth p) (omega (arith, n.0, x.0)) (omega (arith, n.1, x.1)) (omega (arith, n.2, y.0)) (omega (arith, n.3, y.1))

  -- a tile inside the rectangle that holds a finest tile of one of the cover is in that one
  holder_within : (c u : Tile) (x y : ℕ) → in_cover c ≡ true → is_tile depth u && is_inside depth r u ≡ true → holds depth c x y ≡ true → holds depth u x y ≡ true → tile_within c u ≡ true
  holder_within c u x y largest part hc hu =
      let parts = and_parts (leb c.z depth) (is_largest depth r c) largest in
      let deep = leb-true c.z depth parts.0 in
      let largest_parts = and_parts (is_inside depth r c) (is_open depth r c) parts.1 in
      let tile = and_parts (is_tile depth u) (is_inside depth r u) part in
      let numbers = tile_numbers depth u tile.0 in
      ⊎_elim
      (λ (lt : u.z < c.z).
      let p = parent c in
      let ne : eqb c.z 0 ≡ false = ne_eqb c.z 0 (λ (e : c.z ≡ 0). omega (arith, e, lt)) in
      let out : is_inside depth r p ≡ false = not-true _ (sym (ap (λ b. b || not (is_inside depth r p)) ne) ∙ largest_parts.1) in
      let a = holds_numbers depth c x y hc in
      let hp = holds_from depth p x y (shifted_up depth c.z (c.z - 1) x c.x (omega arith) deep a.0) (shifted_up depth c.z (c.z - 1) y c.y (omega arith) deep a.1) in
      let w = finer_within u p x y (omega (arith, lt)) (omega (arith, deep)) hu hp in
      absurd (both_ways _ out (finer_inside u p (omega (arith, lt)) (omega (arith, deep)) w.0 w.1 tile.1)))
      (λ (ge : c.z ≤ u.z).
      let w = finer_within c u x y ge numbers.0 hc hu in
      and_from _ _ (and_from _ _ (le-leb c.z u.z ge) (eq-eqb _ _ w.0)) (eq-eqb _ _ w.1))
      (cases_lt u.z c.z)

  -- each list that fills the rectangle is as long
  pub fewest : (others : List Tile) → FillsRect depth r others → length (cover depth r) ≤ length others
  fewest others fills =
      let part : Tile → Bool = λ u. is_tile depth u && is_inside depth r u in
      let some = each_one in_cover (λ c. count_by (tile_within c) others) (λ c is.
      let inside = (and_parts (is_inside depth r c) (is_open depth r c) (and_parts (leb c.z depth) (is_largest depth r c) is).1).0 in
      let place = place_inside depth r c (first_x c) (first_y c) inside (first_held c) in
      some_counts part (λ u. holds depth u (first_x c) (first_y c)) (tile_within c) (λ u p q. holder_within c u (first_x c) (first_y c) is p (first_held c) q) others fills.inside (fills.holders (first_x c) (first_y c) place)) (cover depth r) all_in_cover in
      let one = one_each part (λ u. count_by (λ c. tile_within c u) (cover depth r)) (λ u is.
      let deep = (tile_numbers depth u (and_parts (is_tile depth u) (is_inside depth r u) is).0).0 in
      let less = count_less (λ c. tile_within c u) (λ c. holds depth c (first_x u) (first_y u)) (λ c within. coarser_holds c u (first_x u) (first_y u) deep within (first_held u)) (cover depth r) in
      let most = apart depth r (first_x u) (first_y u) in
      omega (arith, less, most)) others fills.inside in
      let swap = pairs_swapped tile_within (cover depth r) others in
      omega (arith, some, one, swap)

  pub least : IsLeastCover depth r (cover depth r)
  least = record { apart = apart depth r; exact = exact depth r; order = ordered depth r; fewest = fewest }
