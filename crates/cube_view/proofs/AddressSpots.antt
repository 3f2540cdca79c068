-- The steps of an address, followed by a spot's own labels.
use Rattle.std.proofs.Common.{◌≡◌, ℕ, zero, suc, ◌+◌, ◌-◌, ◌*◌, ◌/◌, ◌^◌, ◌<◌, ◌≤◌, Bool, true, false, cond, ◌&&◌, eqb, ltb, List, [], ◌∷◌, length, get_or, Option, Some, None, is_some, refl, sym, ◌∙◌, ap, arith, add-one, add-zero, add-suc, ⊎_elim}
use Rattle.std.proofs.Math.Bool.{and-true}
use Rattle.std.proofs.Math.Nat.{div-eq_of_lt}
use Rattle.std.proofs.lemmas.Bool.{and_parts, and_from, eqb-true, eq-eqb, ne_eqb, lt-ltb, ltb-true, ltb-false, cases_lt}
use Rattle.cube_view.specs.Places.{shifted, bit_at, quadrant_at, time_dim, label_of, in_tile, agrees, agrees_with, tile_label}
use Rattle.cube_view.specs.Paths.{labels_from, path_of, paths_from, spot_path, steps_in_space, value_step, steps_across, StepsTellSpots}
use Rattle.cube_view.specs.Validity.{tile_fits, values_fit}
use Rattle.cube_view.specs.Walks.{Step, down, across, Walk, Cursor, after_across, then_step, cursor}
use Rattle.cube_view.specs.declared.address.Tile.{Tile}
use Rattle.cube_view.specs.declared.schema.Schema.{Schema}
use Rattle.cube_view.specs.declared.spot.Spot.{Spot}
use Rattle.cube_view.proofs.SchemaBounds.{few_categories}
use Rattle.cube_view.proofs.LevelShifts.{bit_more}
use Rattle.cube_view.proofs.TileWays.{tile_at-own}
use Rattle.cube_view.proofs.FinerWalks.{iff_same}

-- a cursor that is there where a test holds
abbrev at_if : Bool → List ℕ → List (List ℕ) → Option Cursor
at_if b rest later = cond b (Some (record { rest = rest; later = later })) None

-- two tests one after the other
twice : (b d : Bool) (rest : List ℕ) (later : List (List ℕ)) → cond b (at_if d rest later) None ≡ at_if (b && d) rest later
twice true d rest later = refl
twice false d rest later = refl

step_if : (b : Bool) (rest : List ℕ) (later : List (List ℕ)) (e : Step) → then_step (at_if b rest later) e ≡ cond b (then_step (Some (record { rest = rest; later = later })) e) None
step_if true rest later e = refl
step_if false rest later e = refl

some_if : (b : Bool) (rest : List ℕ) (later : List (List ℕ)) → is_some (at_if b rest later) ≡ b
some_if true rest later = refl
some_if false rest later = refl

-- two coordinates that are equal to a level, and whose bits of the next level are equal
level_more : (x t xb tb y u yb ub x' t' y' u' : ℕ) → xb < 2 → tb < 2 → yb < 2 → ub < 2 → 2 * x + xb ≡ x' → 2 * t + tb ≡ t' → 2 * y + yb ≡ y' → 2 * u + ub ≡ u'
    → ((eqb x t && eqb y u) && eqb (2 * ub + tb) (2 * yb + xb)) ≡ (eqb x' t' && eqb y' u')
level_more x t xb tb y u yb ub x' t' y' u' lx lt ly lu ex et ey eu = iff_same _ _
    (λ e. let parts = and_parts (eqb x t && eqb y u) (eqb (2 * ub + tb) (2 * yb + xb)) e in
    let both = and_parts (eqb x t) (eqb y u) parts.0 in
    let a : x ≡ t = eqb-true _ _ both.0 in
    let b : y ≡ u = eqb-true _ _ both.1 in
    let c : 2 * ub + tb ≡ 2 * yb + xb = eqb-true _ _ parts.1 in
    and_from _ _ (eq-eqb x' t' (omega (arith, a, c, ex, et, lx, lt))) (eq-eqb y' u' (omega (arith, b, c, ey, eu, lx, lt, ly, lu))))
    (λ e. let both = and_parts (eqb x' t') (eqb y' u') e in
    let a : x' ≡ t' = eqb-true _ _ both.0 in
    let b : y' ≡ u' = eqb-true _ _ both.1 in
    let c : x ≡ t = omega (arith, a, ex, et, lx, lt) in
    let d : y ≡ u = omega (arith, b, ey, eu, ly, lu) in
    let f : 2 * ub + tb ≡ 2 * yb + xb = omega (arith, a, b, c, d, ex, et, ey, eu) in
    and_from _ _ (and_from _ _ (eq-eqb x t c) (eq-eqb y u d)) (eq-eqb _ _ f))

-- The way down space

module _ (z : Schema) (s : Spot) (t : Tile) (deep : t.z ≤ z.depth) (tx : t.x < 2 ^ t.z) (ty : t.y < 2 ^ t.z) (sx : s.x < 2 ^ z.depth) (sy : s.y < 2 ^ z.depth) where
  abbrev same_to : ℕ → Bool
  same_to i = eqb (shifted z.depth i s.x) (shifted t.z i t.x) && eqb (shifted z.depth i s.y) (shifted t.z i t.y)

  abbrev rest_at : ℕ → ℕ → List ℕ
  rest_at i n = labels_from z s 1 (i + 1) n

  abbrev later_at : List (List ℕ)
  later_at = paths_from z s 2 (length z.categories + 1)

  none_yet : (d n : ℕ) → n < 2 ^ d → shifted d 0 n ≡ 0
  none_yet d n lt = let e : d - 0 ≡ d = omega arith in ap (λ k. n / 2 ^ k) e ∙ div-eq_of_lt lt

  in_space : (i n : ℕ) → i ≤ t.z → i + n ≡ z.depth → cursor (spot_path z s) (steps_in_space t i) ≡ at_if (same_to i) (rest_at i n) later_at
  in_space zero n le e =
      let dims : time_dim z ≡ suc (length z.categories + 1) = omega arith in
      let x : eqb (shifted z.depth 0 s.x) (shifted t.z 0 t.x) ≡ true = eq-eqb _ _ (none_yet z.depth s.x sx ∙ sym (none_yet t.z t.x tx)) in
      let y : eqb (shifted z.depth 0 s.y) (shifted t.z 0 t.y) ≡ true = eq-eqb _ _ (none_yet z.depth s.y sy ∙ sym (none_yet t.z t.y ty)) in
      let all : z.depth ≡ n = omega arith in
      ap (λ m. after_across (paths_from z s 1 m)) dims
      ∙ (ap (λ (m : ℕ). at_if true (labels_from z s 1 1 m) later_at) all
      ∙ ap (λ b. at_if b (rest_at 0 n) later_at) (sym (and_from _ _ x y)))
  in_space (suc i) n le e =
      let here = in_space i (suc n) (omega arith) (omega arith) in
      let x = bit_more z.depth i s.x (omega arith) in
      let tx_more = bit_more t.z i t.x (omega arith) in
      let y = bit_more z.depth i s.y (omega arith) in
      let ty_more = bit_more t.z i t.y (omega arith) in
      let l = tile_label t (i + 1) in
      let m = label_of z s 1 (i + 1) in
      let next : (same_to i && eqb l m) ≡ same_to (i + 1) = level_more (shifted z.depth i s.x) (shifted t.z i t.x) (bit_at z.depth (i + 1) s.x) (bit_at t.z (i + 1) t.x) (shifted z.depth i s.y) (shifted t.z i t.y) (bit_at z.depth (i + 1) s.y) (bit_at t.z (i + 1) t.y) _ _ _ _ (omega arith) (omega arith) (omega arith) (omega arith) x tx_more y ty_more in
      ap (λ (o : Option Cursor). then_step o (down l)) here
      ∙ (step_if (same_to i) (rest_at i (suc n)) later_at (down l)
      ∙ (twice (same_to i) (eqb l m) (labels_from z s 1 (i + 1 + 1) n) later_at
      ∙ (ap (λ b. at_if b (labels_from z s 1 (i + 1 + 1) n) later_at) next
      ∙ ap (λ (j : ℕ). at_if (same_to j) (labels_from z s 1 (j + 1) n) later_at) (add-one i))))

  -- at the tile itself
  at_tile : cursor (spot_path z s) (steps_in_space t t.z) ≡ at_if (in_tile z.depth t s) (rest_at t.z (z.depth - t.z)) later_at
  at_tile =
      in_space t.z (z.depth - t.z) (omega arith) (omega arith)
      ∙ ap (λ (u : Tile). at_if (eqb (shifted z.depth t.z s.x) u.x && eqb (shifted z.depth t.z s.y) u.y) (rest_at t.z (z.depth - t.z)) later_at) (tile_at-own t t.z refl)

  -- The way on through the categories

  module _ (values : List (Option ℕ)) (none_past : (k : ℕ) → length z.categories ≤ k → get_or values k None ≡ None) where
    abbrev agrees_in : ℕ → Bool
    agrees_in k = agrees_with (get_or values k None) (get_or s.values k 0)

    abbrev chain : ℕ → Bool
    chain zero = in_tile z.depth t s
    chain (suc k) = chain k && agrees_in k

    -- the path of a category is its value, and that of time is empty
    path_is : (k : ℕ) → k < length z.categories → path_of z s (k + 2) ≡ get_or s.values k 0 ∷ []
    path_is k lt =
        let d : eqb (k + 2) 1 ≡ false = ne_eqb (k + 2) 1 (λ (e : k + 2 ≡ 1). omega (arith, e)) in
        let c : ltb (k + 2) (time_dim z) ≡ true = lt-ltb _ _ (omega (arith, lt)) in
        let i : k + 2 - 2 ≡ k = omega arith in
        ap (λ b. labels_from z s (k + 2) 1 (cond b z.depth (cond (ltb (k + 2) (time_dim z)) 1 0))) d
        ∙ (ap (λ b. labels_from z s (k + 2) 1 (cond b 1 0)) c
        ∙ (ap (λ b. cond b (quadrant_at z.depth 1 s.x s.y) (get_or s.values (k + 2 - 2) 0) ∷ []) d
        ∙ ap (λ (j : ℕ). get_or s.values j 0 ∷ []) i))

    -- what a step by a value leaves
    by_value : (k : ℕ) (o : Option ℕ) (b : Bool) (later : List (List ℕ)) (walk : Walk) → get_or values k None ≡ o → cursor (spot_path z s) walk ≡ at_if b (path_of z s (k + 2)) later
        → (rest : List ℕ) × (cursor (spot_path z s) (value_step o walk) ≡ at_if (b && agrees_with o (get_or s.values k 0)) rest later)
    by_value k None b later walk is at = (path_of z s (k + 2), at ∙ ap (λ c. at_if c (path_of z s (k + 2)) later) (sym (and-true b)))
    by_value k (Some v) b later walk is at =
        let lt : k < length z.categories = one_of k v is in
        let v_is = get_or s.values k 0 in
        let turned : eqb v v_is ≡ eqb v_is v = iff_same _ _ (λ e. eq-eqb _ _ (sym (eqb-true _ _ e))) (λ e. eq-eqb _ _ (sym (eqb-true _ _ e))) in (
          [],
          ap (λ (o : Option Cursor). then_step o (down v)) (at ∙ ap (λ (r : List ℕ). at_if b r later) (path_is k lt))
              ∙ (step_if b (v_is ∷ []) later (down v)
              ∙ (twice b (eqb v v_is) [] later
              ∙ ap (λ c. at_if (b && c) [] later) turned)),
        )
      where
        one_of : (k v : ℕ) → get_or values k None ≡ Some v → k < length z.categories
        one_of k v e = elim (ltb k (length z.categories)) as (λ (b : Bool). ltb k (length z.categories) ≡ b → k < length z.categories) [
          | true ↦ λ t. ltb-true _ _ t
          | false ↦ λ f. let none = none_past k (ltb-false k (length z.categories) f) in absurd (cc)
        ] refl

    through : (k n : ℕ) → k + n ≡ length z.categories + 1 → (rest : List ℕ) × (cursor (spot_path z s) (steps_across t values k) ≡ at_if (chain k) rest (paths_from z s (k + 2) n))
    through zero n e = let all : length z.categories + 1 ≡ n = omega arith in (rest_at t.z (z.depth - t.z), at_tile ∙ ap (λ (m : ℕ). at_if (in_tile z.depth t s) (rest_at t.z (z.depth - t.z)) (paths_from z s 2 m)) all)
    through (suc k) n e =
        let before = through k (suc n) (omega arith) in
        let walk = across ∷ steps_across t values k in
        let at : cursor (spot_path z s) walk ≡ at_if (chain k) (path_of z s (k + 2)) (paths_from z s (k + 2 + 1) n) = ap (λ (o : Option Cursor). then_step o across) before.1 ∙ step_if (chain k) before.0 (paths_from z s (k + 2) (suc n)) across in
        let r = by_value k (get_or values k None) (chain k) (paths_from z s (k + 2 + 1) n) walk refl at in
        let j : k + 2 + 1 ≡ suc k + 2 = omega arith in
        (r.0, r.1 ∙ ap (λ (d : ℕ). at_if (chain k && agrees_in k) r.0 (paths_from z s d n)) j)

    -- Open values agree with every spot

    open_agrees : (k : ℕ) → get_or values k None ≡ None → agrees_in k ≡ true
    open_agrees k e = ap (λ (o : Option ℕ). agrees_with o (get_or s.values k 0)) e

    up : (k j : ℕ) → ((i : ℕ) → k ≤ i → agrees_in i ≡ true) → chain (k + j) ≡ chain k
    up k zero all = ap chain (add-zero k)
    up k (suc j) all =
        ap chain (add-suc k j)
        ∙ (ap (λ b. chain (k + j) && b) (all (k + j) (omega arith))
        ∙ (and-true (chain (k + j))
        ∙ up k j all))

    four : chain 4 ≡ (in_tile z.depth t s && agrees values s.values)
    four = regroup (in_tile z.depth t s) (agrees_in 0) (agrees_in 1) (agrees_in 2) (agrees_in 3)
      where
        regroup : (b p q r o : Bool) → ((((b && p) && q) && r) && o) ≡ (b && (((p && q) && r) && o))
        regroup true p q r o = refl
        regroup false p q r o = refl

    in_all : (k : ℕ) → ((i : ℕ) → k ≤ i → get_or values i None ≡ None) → length z.categories ≤ 4 → chain k ≡ (in_tile z.depth t s && agrees values s.values)
    in_all k later few = ⊎_elim
        (λ (lt : k < 4). let e : k + (4 - k) ≡ 4 = omega arith in sym (up k (4 - k) (λ i le. open_agrees i (later i le))) ∙ (ap chain e ∙ four))
        (λ (ge : 4 ≤ k). let e : 4 + (k - 4) ≡ k = omega arith in sym (ap chain e) ∙ (up 4 (k - 4) (λ i le. open_agrees i (none_past i (omega arith))) ∙ four))
        (cases_lt k 4)

-- a spot lies under an address exactly where its path lies under the address's steps
pub steps_tell_spots : StepsTellSpots
steps_tell_spots z a s is beyond fit =
    let tile = and_parts (ltb s.x (2 ^ z.depth)) (ltb s.y (2 ^ z.depth)) (and_parts (tile_fits z.depth s) (values_fit z.categories s.values) fit).0 in
    let sx : s.x < 2 ^ z.depth = ltb-true _ _ tile.0 in
    let sy : s.y < 2 ^ z.depth = ltb-true _ _ tile.1 in
    let few = few_categories z in
    let low = is.dim.0 in
    let high = is.dim.1 in
    let k = a.dim - 1 in
    let end : k + (length z.categories + 1 - k) ≡ length z.categories + 1 = omega arith in
    let r = through z s a.tile is.depth is.tile.0 is.tile.1 sx sy a.values beyond.past k (length z.categories + 1 - k) end in
    ap is_some r.1
    ∙ (some_if (chain z s a.tile is.depth is.tile.0 is.tile.1 sx sy a.values beyond.past k) r.0 _
    ∙ in_all z s a.tile is.depth is.tile.0 is.tile.1 sx sy a.values beyond.past k (λ i le. beyond.later i (omega arith)) few)
