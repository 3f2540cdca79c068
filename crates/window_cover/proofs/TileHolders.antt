-- How many tiles of the cover hold a finest tile.
use Rattle.std.proofs.Common.{◌≡◌, ℕ, zero, suc, ◌+◌, ◌-◌, ◌/◌, ◌^◌, ◌<◌, ◌≤◌, Bool, true, false, cond, ◌&&◌, ◌||◌, eqb, ltb, List, [], ◌∷◌, refl, sym, ◌∙◌, ap, arith}
use Rattle.std.specs.Prelude.{count_by}
use Rattle.std.specs.List.{flat_map, list_any, sum_by}
use Rattle.std.proofs.Math.Nat.{div-eq_of_lt}
use Rattle.std.proofs.lemmas.Bool.{both_ways, cond_both, lt-ltb}
use Rattle.std.proofs.lemmas.List.Sums.{sum_by-cons}
use Rattle.cube_view.proofs.OneWeight.{one_if}
use Rattle.cube_view.specs.Places.{longer_tile, quadrant_at}
use Rattle.cube_view.specs.declared.address.Tile.{Tile}
use Rattle.query_syntax.specs.Queries.{whole_space}
use Rattle.query_syntax.specs.TileOrder.{quadrants}
use Rattle.query_walk.proofs.Addresses.{sum_by-flat_map}
use Rattle.query_syntax.specs.declared.rect.Rect.{Rect}
use Rattle.window_cover.specs.Covers.{cover, has_holder}
use Rattle.query_syntax.specs.Windows.{has_place}
use Rattle.window_cover.specs.Rects.{holds, is_inside}
use Rattle.window_cover.specs.Ways.{cover_below}
use Rattle.window_cover.proofs.LargestTiles.{cover_is}
use Rattle.window_cover.proofs.Quadrants.{finest_inside, holds_from, holds_quadrant, place_inside, place_meets}

-- a test that holds where another does adds nothing to it
pub and_given : (a b : Bool) → (a ≡ true → b ≡ true) → a && b ≡ a
and_given true b there = there refl
and_given false b there = refl

-- two tests that never hold both
pub and_never : (a b : Bool) → (a ≡ true → b ≡ true → ⊥) → a && b ≡ false
and_never true true never = absurd (never refl refl)
and_never true false never = refl
and_never false b never = refl

-- one of the four labels is that of the way
one_label : (label : ℕ) → label < 4 → (b c : Bool) → (((0 + one_if ((b && eqb label 0) && c)) + one_if ((b && eqb label 1) && c)) + one_if ((b && eqb label 2) && c)) + one_if ((b && eqb label 3) && c) ≡ one_if (b && c)
one_label label lt false c = refl
one_label zero lt true c = elim c as (λ c. (((0 + one_if c) + 0) + 0) + 0 ≡ one_if c) [ true ↦ refl | false ↦ refl ]
one_label (suc zero) lt true c = elim c as (λ c. (((0 + 0) + one_if c) + 0) + 0 ≡ one_if c) [ true ↦ refl | false ↦ refl ]
one_label (suc (suc zero)) lt true c = elim c as (λ c. (((0 + 0) + 0) + one_if c) + 0 ≡ one_if c) [ true ↦ refl | false ↦ refl ]
one_label (suc (suc (suc zero))) lt true c = elim c as (λ c. (((0 + 0) + 0) + 0) + one_if c ≡ one_if c) [ true ↦ refl | false ↦ refl ]
one_label (suc (suc (suc (suc k)))) lt true c = absurd (omega (arith, lt))

-- a sum over the four quadrants
pub sum_four : (f : Tile → ℕ) (g : Tile → List Tile) (t : Tile) → sum_by f (flat_map g (quadrants t)) ≡ (((0 + sum_by f (g (longer_tile 1 t 0))) + sum_by f (g (longer_tile 1 t 1))) + sum_by f (g (longer_tile 1 t 2))) + sum_by f (g (longer_tile 1 t 3))
sum_four f g t = sum_by-flat_map f g (quadrants t)

module _ (depth : ℕ) (r : Rect) (x y : ℕ) where
  abbrev holder : Tile → Bool
  holder u = holds depth u x y

  count_one : (t : Tile) → is_inside depth r t ≡ true → count_by holder (t ∷ []) ≡ one_if (holder t && has_place r x y)
  count_one t is =
      let c = sum_by-cons (λ u. cond (holder u) 1 0) t [] in
      let same = ap one_if (and_given (holder t) (has_place r x y) (λ at. place_inside depth r t x y is at)) in
      omega (arith, c, same)

  -- a tile's part of the cover holds a finest tile once, where the tile does and the rectangle has it
  pub held : (n : ℕ) (t : Tile) → t.z + n ≡ depth → count_by holder (cover_below depth r n t) ≡ one_if (holder t && has_place r x y)
  held zero t end = elim (is_inside depth r t) as (λ b. is_inside depth r t ≡ b → count_by holder (cond b (t ∷ []) []) ≡ one_if (holder t && has_place r x y)) [
    | true ↦ λ is. count_one t is
    | false ↦ λ is. sym (ap one_if (and_never (holder t) (has_place r x y) (λ at place. both_ways _ is (finest_inside depth r t (omega (arith, end)) (place_meets depth r t x y at place)))))
  ] refl
  held (suc n) t end = elim (is_inside depth r t) as (λ b. is_inside depth r t ≡ b → count_by holder (cond b (t ∷ []) (flat_map (cover_below depth r n) (quadrants t))) ≡ one_if (holder t && has_place r x y)) [
    | true ↦ λ is. count_one t is
    | false ↦ λ is.
        let each : (l : ℕ) → l < 4 → count_by holder (cover_below depth r n (longer_tile 1 t l)) ≡ one_if ((holder t && eqb (quadrant_at depth (t.z + 1) x y) l) && has_place r x y) = λ l lt.
        held n (longer_tile 1 t l) (omega (arith, end)) ∙ ap (λ b. one_if (b && has_place r x y)) (holds_quadrant depth t l (omega (arith, end)) lt x y) in
        let a = each 0 (omega arith) in
        let b = each 1 (omega arith) in
        let c = each 2 (omega arith) in
        let d = each 3 (omega arith) in
        sum_four (λ u. cond (holder u) 1 0) (cover_below depth r n) t
        ∙ ((λ i. (((0 + a i) + b i) + c i) + d i)
        ∙ one_label (quadrant_at depth (t.z + 1) x y) (omega arith) (holder t) (has_place r x y))
  ] refl

  pub held_in_all : count_by holder (cover depth r) ≡ one_if (holder whole_space && has_place r x y)
  held_in_all = ap (count_by holder) (cover_is depth r) ∙ held depth whole_space (omega arith)

counted : (b c : Bool) (n : ℕ) → c ≡ ltb 0 n → b || c ≡ ltb 0 (cond b 1 0 + n)
counted true c n e = sym (lt-ltb 0 (1 + n) (omega arith))
counted false c n e = let z : n ≡ 0 + n = omega arith in e ∙ ap (λ m. ltb 0 m) z

-- some item passes exactly where one or more do
any_count : {A : Type 0} (p : A → Bool) (xs : List A) → list_any p xs ≡ ltb 0 (count_by p xs)
any_count p [] = refl
any_count p (x ∷ xs) =
    let c = sum_by-cons (λ u. cond (p u) 1 0) x xs in
    counted (p x) (list_any p xs) (count_by p xs) (any_count p xs) ∙ sym (ap (λ n. ltb 0 n) c)

one_if_any : (b : Bool) → ltb 0 (one_if b) ≡ b
one_if_any true = refl
one_if_any false = refl

pub apart : (depth : ℕ) (r : Rect) (x y : ℕ) → count_by (λ t. holds depth t x y) (cover depth r) ≤ 1
apart depth r x y =
    let e = held_in_all depth r x y in
    let le : one_if (holds depth whole_space x y && has_place r x y) ≤ 1 = cond_both (holds depth whole_space x y && has_place r x y) 1 0 (λ n. n ≤ 1) (λ held. omega arith) (λ free. omega arith) in
    omega (arith, e, le)

pub whole_holds : (depth x y : ℕ) → x < 2 ^ depth → y < 2 ^ depth → holds depth whole_space x y ≡ true
whole_holds depth x y xs ys =
    let k : depth - 0 ≡ depth = omega arith in
    holds_from depth whole_space x y (ap (λ j. x / 2 ^ j) k ∙ div-eq_of_lt xs) (ap (λ j. y / 2 ^ j) k ∙ div-eq_of_lt ys)

pub exact : (depth : ℕ) (r : Rect) (x y : ℕ) → x < 2 ^ depth → y < 2 ^ depth → has_place r x y ≡ has_holder depth (cover depth r) x y
exact depth r x y xs ys =
    sym (any_count (λ t. holds depth t x y) (cover depth r)
    ∙ (ap (λ n. ltb 0 n) (held_in_all depth r x y ∙ ap (λ b. one_if (b && has_place r x y)) (whole_holds depth x y xs ys))
    ∙ one_if_any (has_place r x y)))
