-- Tiles inside a tile, level by level.
use Rattle.std.proofs.Common.{◌≡◌, ℕ, zero, suc, ◌+◌, ◌-◌, ◌*◌, ◌/◌, ◌%◌, ◌^◌, ◌<◌, ◌≤◌, Bool, true, false, cond, ◌&&◌, eqb, leb, List, [], ◌∷◌, ◌++◌, map, refl, sym, ◌∙◌, ap, arith, ⊎_elim}
use Rattle.std.specs.Prelude.{filter}
use Rattle.std.specs.List.{flat_map}
use Rattle.std.proofs.lemmas.Nat.{shr-shr}
use Rattle.std.proofs.lemmas.Bool.{le-leb, eq-eqb, ne_eqb, eqb-true, cases_eq, and_parts, and_from}
use Rattle.std.proofs.lemmas.List.{append-nil}
use Rattle.std.proofs.lemmas.List.Elements.{filter-append}
use Rattle.std.proofs.lemmas.Grind.{flat_map-append}
use Rattle.cube_view.specs.Places.{shifted, longer_tile, tile_within}
use Rattle.cube_view.specs.declared.address.Tile.{Tile}
use Rattle.cube_view.proofs.LevelShifts.{by_one}
use Rattle.query_syntax.specs.Queries.{whole_space}
use Rattle.query_syntax.specs.TileOrder.{quadrants, tiles_of_level, tiles_inside}

-- Lists of lists

module _ {A B C : Type 0} (f : B → List C) (g : A → List B) where
  flat_map-flat_map : (xs : List A) → flat_map f (flat_map g xs) ≡ flat_map (λ x. flat_map f (g x)) xs
  flat_map-flat_map [] = refl
  flat_map-flat_map (x ∷ xs) = flat_map-append f (g x) (flat_map g xs) ∙ ap (λ ys. flat_map f (g x) ++ ys) (flat_map-flat_map xs)

flat_map-same : {A B : Type 0} (f g : A → List B) → ((x : A) → f x ≡ g x) → (xs : List A) → flat_map f xs ≡ flat_map g xs
flat_map-same f g same [] = refl
flat_map-same f g same (x ∷ xs) = ap (λ ys. ys ++ flat_map f xs) (same x) ∙ ap (λ ys. g x ++ ys) (flat_map-same f g same xs)

flat_map-single : {A : Type 0} (xs : List A) → flat_map (λ x. x ∷ []) xs ≡ xs
flat_map-single [] = refl
flat_map-single (x ∷ xs) = ap (λ ys. x ∷ ys) (flat_map-single xs)

-- one level deeper: below each tile that the way comes to, its quadrants
pub inside_deeper : (n : ℕ) (t : Tile) → tiles_inside (suc n) t ≡ flat_map quadrants (tiles_inside n t)
inside_deeper zero t = flat_map-single (quadrants t) ∙ sym (append-nil (quadrants t))
inside_deeper (suc n) t = flat_map-same (tiles_inside (suc n)) (λ u. flat_map quadrants (tiles_inside n u)) (inside_deeper n) (quadrants t) ∙ sym (flat_map-flat_map quadrants (tiles_inside n) (quadrants t))

-- A quadrant is inside what its tile is inside

half_down : (x b k : ℕ) → b < 2 → (2 * x + b) / 2 ^ (k + 1) ≡ x / 2 ^ k
half_down x b k lt =
    let e : k + 1 ≡ 1 + k = omega arith in
    let h : (2 * x + b) / 2 ^ 1 ≡ x = omega (arith, lt) in
    ap (λ j. (2 * x + b) / 2 ^ j) e ∙ (sym (shr-shr (2 * x + b) 1 k) ∙ ap (λ n. n / 2 ^ k) h)

shifted_half : (r z x b : ℕ) → r ≤ z → b < 2 → shifted (z + 1) r (2 * x + b) ≡ shifted z r x
shifted_half r z x b le lt =
    let e : z + 1 - r ≡ z - r + 1 = omega (arith, le) in
    ap (λ k. (2 * x + b) / 2 ^ k) e ∙ half_down x b (z - r) lt

within_quadrant : (r t : Tile) (l : ℕ) → r.z ≤ t.z → l < 4 → tile_within r (longer_tile 1 t l) ≡ tile_within r t
within_quadrant r t l le lt =
    let x = shifted_half r.z t.z t.x (l % 2) le (omega arith) in
    let y = shifted_half r.z t.z t.y (l / 2) le (omega (arith, lt)) in
    let deep : leb r.z (t.z + 1) ≡ leb r.z t.z = le-leb r.z (t.z + 1) (omega (arith, le)) ∙ sym (le-leb r.z t.z le) in
    λ i. (deep i && eqb (x i) r.x) && eqb (y i) r.y

-- Filters

-- each tile passes the test, or each doesn't
abbrev each : (Tile → Bool) → Bool → List Tile → Type 0
each p b [] = Unit {0}
each p b (t ∷ ts) = (p t ≡ b) × each p b ts

-- what a filter does at a tile that passes or doesn't
abbrev kept : Bool → Tile → List Tile → List Tile
kept b t ts = cond b (t ∷ ts) ts

filter-same : (p : Tile → Bool) (b : Bool) (ts : List Tile) → each p b ts → filter p ts ≡ cond b ts []
filter-same p true [] all = refl
filter-same p false [] all = refl
filter-same p true (t ∷ ts) (here, rest) = ap (λ b. kept b t (filter p ts)) here ∙ ap (λ us. t ∷ us) (filter-same p true ts rest)
filter-same p false (t ∷ ts) (here, rest) = ap (λ b. kept b t (filter p ts)) here ∙ filter-same p false ts rest

-- each tile is of that level
abbrev pub of_level : ℕ → List Tile → Type 0
of_level n [] = Unit {0}
of_level n (t ∷ ts) = (t.z ≡ n) × of_level n ts

of_next_level : (n : ℕ) (ts : List Tile) → of_level n ts → of_level (suc n) (flat_map quadrants ts)
of_next_level n [] all = tt
of_next_level n (t ∷ ts) (here, rest) = let e : t.z + 1 ≡ suc n = omega (arith, here) in (e, (e, (e, (e, of_next_level n ts rest))))

pub levels : (n : ℕ) → of_level n (tiles_of_level n)
levels zero = (refl, tt)
levels (suc n) = of_next_level n (tiles_of_level n) (levels n)

-- the quadrants of the tiles inside a tile are those of all quadrants that are inside it
module _ (r : Tile) where
  cases_of : (b : Bool) (t : Tile) (ts us : List Tile) → us ≡ flat_map quadrants ts → cond b (quadrants t) [] ++ us ≡ flat_map quadrants (kept b t ts)
  cases_of true t ts us e = ap (λ vs. quadrants t ++ vs) e
  cases_of false t ts us e = e

  pub filter_deeper : (n : ℕ) (ts : List Tile) → r.z ≤ n → of_level n ts → filter (tile_within r) (flat_map quadrants ts) ≡ flat_map quadrants (filter (tile_within r) ts)
  filter_deeper n [] le all = refl
  filter_deeper n (t ∷ ts) le (here, rest) =
      let deep : r.z ≤ t.z = omega (arith, le, here) in
      let four = filter-same (tile_within r) (tile_within r t) (quadrants t) (within_quadrant r t 0 deep (omega arith), (within_quadrant r t 1 deep (omega arith), (within_quadrant r t 2 deep (omega arith), (within_quadrant r t 3 deep (omega arith), tt)))) in
      filter-append (tile_within r) (quadrants t) (flat_map quadrants ts)
      ∙ (ap (λ us. us ++ filter (tile_within r) (flat_map quadrants ts)) four
      ∙ cases_of (tile_within r t) t (filter (tile_within r) ts) (filter (tile_within r) (flat_map quadrants ts)) (filter_deeper n ts le rest))

-- Of the tiles of its own level one is inside a tile: itself

same_level : (r q : Tile) → q.z ≡ r.z → tile_within r q ≡ (eqb q.x r.x && eqb q.y r.y)
same_level r q same =
    let deep = le-leb r.z q.z (omega (arith, same)) in
    let none : q.z - r.z ≡ 0 = omega (arith, same) in
    let x : shifted q.z r.z q.x ≡ q.x = ap (λ k. q.x / 2 ^ k) none ∙ by_one q.x in
    let y : shifted q.z r.z q.y ≡ q.y = ap (λ k. q.y / 2 ^ k) none ∙ by_one q.y in
    λ i. (deep i && eqb (x i) r.x) && eqb (y i) r.y

-- the label by which a way comes to a tile
abbrev label_to : Tile → ℕ
label_to r = 2 * (r.y % 2) + r.x % 2

-- a number is twice another and a bit, where the other is its half and the bit its lowest
half_and_bit : (x b n : ℕ) → b < 2 → eqb (2 * x + b) n ≡ (eqb x (n / 2) && eqb b (n % 2))
half_and_bit x b n lt = ⊎_elim
    (λ (e : 2 * x + b ≡ n). eq-eqb (2 * x + b) n e ∙ sym (and_from _ _ (eq-eqb x (n / 2) (omega (arith, e, lt))) (eq-eqb b (n % 2) (omega (arith, e, lt)))))
    (λ (ne : 2 * x + b ≡ n → ⊥). ne_eqb (2 * x + b) n ne ∙ sym (⊎_elim
    (λ (half : x ≡ n / 2). ap (λ c. c && eqb b (n % 2)) (eq-eqb x (n / 2) half) ∙ ne_eqb b (n % 2) (λ (bit : b ≡ n % 2). ne (omega (arith, half, bit))))
    (λ (other : x ≡ n / 2 → ⊥). ap (λ c. c && eqb b (n % 2)) (ne_eqb x (n / 2) other))
    (cases_eq x (n / 2))))
    (cases_eq (2 * x + b) n)

-- two bits are those of a label
bits_and_label : (l bx b : ℕ) → l < 4 → bx < 2 → b < 2 → (eqb (l % 2) bx && eqb (l / 2) b) ≡ eqb l (2 * b + bx)
bits_and_label l bx b lt lx ly = ⊎_elim
    (λ (e : l ≡ 2 * b + bx). and_from _ _ (eq-eqb (l % 2) bx (omega (arith, e, lx))) (eq-eqb (l / 2) b (omega (arith, e, lx))) ∙ sym (eq-eqb l (2 * b + bx) e))
    (λ (ne : l ≡ 2 * b + bx → ⊥). ⊎_elim
    (λ (low : l % 2 ≡ bx). ap (λ c. c && eqb (l / 2) b) (eq-eqb (l % 2) bx low) ∙ ne_eqb (l / 2) b (λ (high : l / 2 ≡ b). ne (omega (arith, low, high))))
    (λ (other : l % 2 ≡ bx → ⊥). ap (λ c. c && eqb (l / 2) b) (ne_eqb (l % 2) bx other))
    (cases_eq (l % 2) bx) ∙ sym (ne_eqb l (2 * b + bx) ne))
    (cases_eq l (2 * b + bx))

regroup : (a c b d : Bool) → ((a && c) && (b && d)) ≡ ((a && b) && (c && d))
regroup true true b d = refl
regroup true false true d = refl
regroup true false false d = refl
regroup false c b d = refl

-- of a tile's quadrants that with one label passes, or none
filter_label : (p : Tile → Bool) (t : Tile) (b : Bool) (k : ℕ) → k < 4 → ((l : ℕ) → l < 4 → p (longer_tile 1 t l) ≡ (b && eqb l k)) → filter p (quadrants t) ≡ cond b (longer_tile 1 t k ∷ []) []
filter_label p t false k lt tests = filter-same p false (quadrants t) (tests 0 (omega arith), (tests 1 (omega arith), (tests 2 (omega arith), (tests 3 (omega arith), tt))))
filter_label p t true zero lt tests = λ i. kept (tests 0 (omega arith) i) (longer_tile 1 t 0) (kept (tests 1 (omega arith) i) (longer_tile 1 t 1) (kept (tests 2 (omega arith) i) (longer_tile 1 t 2) (kept (tests 3 (omega arith) i) (longer_tile 1 t 3) [])))
filter_label p t true (suc zero) lt tests = λ i. kept (tests 0 (omega arith) i) (longer_tile 1 t 0) (kept (tests 1 (omega arith) i) (longer_tile 1 t 1) (kept (tests 2 (omega arith) i) (longer_tile 1 t 2) (kept (tests 3 (omega arith) i) (longer_tile 1 t 3) [])))
filter_label p t true (suc (suc zero)) lt tests = λ i. kept (tests 0 (omega arith) i) (longer_tile 1 t 0) (kept (tests 1 (omega arith) i) (longer_tile 1 t 1) (kept (tests 2 (omega arith) i) (longer_tile 1 t 2) (kept (tests 3 (omega arith) i) (longer_tile 1 t 3) [])))
filter_label p t true (suc (suc (suc zero))) lt tests = λ i. kept (tests 0 (omega arith) i) (longer_tile 1 t 0) (kept (tests 1 (omega arith) i) (longer_tile 1 t 1) (kept (tests 2 (omega arith) i) (longer_tile 1 t 2) (kept (tests 3 (omega arith) i) (longer_tile 1 t 3) [])))
filter_label p t true (suc (suc (suc (suc k)))) lt tests = absurd (omega (arith, lt))

-- below the tile that a tile is a quadrant of
module _ (z : ℕ) (r : Tile) (at : r.z ≡ suc z) where
  abbrev parent : Tile
  parent = record { z = z; x = r.x / 2; y = r.y / 2 }

  quadrant_test : (t : Tile) → t.z ≡ z → (l : ℕ) → l < 4 → tile_within r (longer_tile 1 t l) ≡ (tile_within parent t && eqb l (label_to r))
  quadrant_test t level l lt =
      let back = sym (same_level parent t level) in
      same_level r (longer_tile 1 t l) (omega (arith, level, at))
      ∙ ((λ i. half_and_bit t.x (l % 2) r.x (omega arith) i && half_and_bit t.y (l / 2) r.y (omega (arith, lt)) i)
      ∙ (regroup (eqb t.x (r.x / 2)) (eqb (l % 2) (r.x % 2)) (eqb t.y (r.y / 2)) (eqb (l / 2) (r.y % 2))
      ∙ (λ i. back i && bits_and_label l (r.x % 2) (r.y % 2) lt (omega arith) (omega arith) i)))

  is_quadrant : (t : Tile) → t.z ≡ z → tile_within parent t ≡ true → longer_tile 1 t (label_to r) ≡ r
  is_quadrant t level e =
      let parts = and_parts _ _ (sym (same_level parent t level) ∙ e) in
      let x : t.x ≡ r.x / 2 = eqb-true _ _ parts.0 in
      let y : t.y ≡ r.y / 2 = eqb-true _ _ parts.1 in
      let z_is : t.z + 1 ≡ r.z = omega (arith, level, at) in
      let x_is : 2 * t.x + label_to r % 2 ≡ r.x = omega (arith, x) in
      let y_is : 2 * t.y + label_to r / 2 ≡ r.y = omega (arith, y) in
      λ i. record { z = z_is i; x = x_is i; y = y_is i }

  one_quadrant : (t : Tile) → t.z ≡ z → filter (tile_within r) (quadrants t) ≡ cond (tile_within parent t) (r ∷ []) []
  one_quadrant t level =
      filter_label (tile_within r) t (tile_within parent t) (label_to r) (omega arith) (quadrant_test t level)
      ∙ elim (tile_within parent t) as (λ b. tile_within parent t ≡ b → cond b (longer_tile 1 t (label_to r) ∷ []) [] ≡ cond b (r ∷ []) []) [
        | true ↦ λ e. ap (λ (q : Tile). q ∷ []) (is_quadrant t level e)
        | false ↦ λ e. refl
      ] refl

  -- once for each tile that is the parent
  once_each : (b : Bool) (t : Tile) (ts : List Tile) → cond b (r ∷ []) [] ++ map (λ (u : Tile). r) ts ≡ map (λ (u : Tile). r) (kept b t ts)
  once_each true t ts = refl
  once_each false t ts = refl

  below_parent : (ts : List Tile) → of_level z ts → filter (tile_within r) (flat_map quadrants ts) ≡ map (λ (u : Tile). r) (filter (tile_within parent) ts)
  below_parent [] all = refl
  below_parent (t ∷ ts) (here, rest) =
      filter-append (tile_within r) (quadrants t) (flat_map quadrants ts)
      ∙ (ap (λ us. us ++ filter (tile_within r) (flat_map quadrants ts)) (one_quadrant t here)
      ∙ (ap (λ us. cond (tile_within parent t) (r ∷ []) [] ++ us) (below_parent ts rest)
      ∙ once_each (tile_within parent t) t (filter (tile_within parent) ts)))

pub own_level : (z : ℕ) (r : Tile) → r.z ≡ z → r.x < 2 ^ z → r.y < 2 ^ z → filter (tile_within r) (tiles_of_level z) ≡ r ∷ []
own_level zero r at x_lt y_lt =
    let x : 0 ≡ r.x = omega (arith, x_lt) in
    let y : 0 ≡ r.y = omega (arith, y_lt) in
    let passes = same_level r whole_space (sym at) ∙ and_from _ _ (eq-eqb 0 r.x x) (eq-eqb 0 r.y y) in
    let level = sym at in
    ap (λ b. kept b whole_space []) passes ∙ (λ i. record { z = level i; x = x i; y = y i } ∷ [])
own_level (suc z) r at x_lt y_lt =
    let two : 2 ^ suc z ≡ 2 * 2 ^ z = omega arith in
    below_parent z r at (tiles_of_level z) (levels z)
    ∙ ap (map (λ (u : Tile). r)) (own_level z (parent z r at) refl (omega (arith, x_lt, two)) (omega (arith, y_lt, two)))
