-- The steps of an address, of the one that is longer by a label and of the one at the next dimension.
use Rattle.std.proofs.Common.{◌≡◌, ◌≢◌, ℕ, zero, suc, ◌+◌, ◌-◌, ◌*◌, ◌/◌, ◌%◌, ◌^◌, ◌<◌, ◌≤◌, cond, List, [], ◌∷◌, length, get_or, set, Option, Some, None, refl, sym, ◌∙◌, ap, ap₂, arith, add-one, ⊎_elim}
use Rattle.std.proofs.lemmas.Bool.{ne_eqb, lt-ltb, le-ltb, cases_lt}
use Rattle.std.proofs.lemmas.List.{get_or-set_same, get_or-set_other, length-set}
use Rattle.cube_view.specs.Paths.{steps_in_space, value_step, steps_across, steps_of}
use Rattle.cube_view.specs.Places.{shifted, bit_at, time_dim, deepest, longer, longer_tile, longer_values, next_dim, tile_label, top_address, IsAddress}
use Rattle.cube_view.specs.Walks.{down, across, Walk, dimension}
use Rattle.cube_view.specs.declared.address.Address.{Address}
use Rattle.cube_view.specs.declared.address.Tile.{Tile}
use Rattle.cube_view.specs.declared.schema.Schema.{Schema}
use Rattle.cube_view.proofs.SchemaBounds.{few_categories}
use Rattle.cube_view.proofs.LevelShifts.{shifted_up, by_one}
use Rattle.cube_store.specs.Reading.{IsWalkAddress}
use Rattle.proper_path.specs.Paths.{level_of}

-- The way to a quadrant goes by the tile's labels and then by the quadrant's

module _ (t : Tile) (l : ℕ) where
  abbrev part : Tile
  part = longer_tile 1 t l

  up_one : (n b : ℕ) → b < 2 → shifted (t.z + 1) t.z (2 * n + b) ≡ n
  up_one n b lt = let e : t.z + 1 - t.z ≡ 1 = omega arith in ap (λ k. (2 * n + b) / 2 ^ k) e ∙ omega (arith, lt)

  same_bit : (j n b : ℕ) → j ≤ t.z → b < 2 → bit_at (t.z + 1) j (2 * n + b) ≡ bit_at t.z j n
  same_bit j n b le lt = ap (λ k. k % 2) (shifted_up (t.z + 1) t.z j (2 * n + b) n le (omega arith) (up_one n b lt))

  same_way : (i : ℕ) → l < 4 → i ≤ t.z → steps_in_space part i ≡ steps_in_space t i
  same_way zero lt le = refl
  same_way (suc i) lt le =
      let x = same_bit (i + 1) t.x (l % 2) (omega (arith, le)) (omega arith) in
      let y = same_bit (i + 1) t.y (l / 2) (omega (arith, le)) (omega (arith, lt)) in
      let label : tile_label part (i + 1) ≡ tile_label t (i + 1) = ap₂ (λ (a b : ℕ). 2 * a + b) y x in
      ap₂ (λ (m : ℕ) (w : Walk). down m ∷ w) label (same_way i lt (omega (arith, le)))

  last_bit : (n : ℕ) → bit_at (t.z + 1) (t.z + 1) n ≡ n % 2
  last_bit n = let e : t.z + 1 - (t.z + 1) ≡ 0 = omega arith in ap (λ k. k % 2) (ap (λ k. n / 2 ^ k) e ∙ by_one n)

  last_label : l < 4 → tile_label part (t.z + 1) ≡ l
  last_label lt =
      let x = last_bit (2 * t.x + l % 2) in
      let y = last_bit (2 * t.y + l / 2) in
      omega (arith, x, y, lt)

  steps-quadrant : l < 4 → steps_in_space part part.z ≡ down l ∷ steps_in_space t t.z
  steps-quadrant lt =
      ap (steps_in_space part) (add-one t.z)
      ∙ ap₂ (λ (m : ℕ) (w : Walk). down m ∷ w) (last_label lt) (same_way t.z lt (omega arith))

-- Steps across read the values of earlier categories alone

across_same : (t : Tile) (vs ws : List (Option ℕ)) (k : ℕ) → ((i : ℕ) → i < k → get_or vs i None ≡ get_or ws i None) → steps_across t vs k ≡ steps_across t ws k
across_same t vs ws zero same = refl
across_same t vs ws (suc k) same = ap₂ (λ (o : Option ℕ) (w : Walk). value_step o (across ∷ w)) (same k (omega arith)) (across_same t vs ws k (λ i lt. same i (omega (arith, lt))))

-- What the steps of an address are

dimension-steps_in_space : (t : Tile) (i : ℕ) → dimension (steps_in_space t i) ≡ 1
dimension-steps_in_space t zero = refl
dimension-steps_in_space t (suc i) = dimension-steps_in_space t i

dimension-value_step : (o : Option ℕ) (w : Walk) → dimension (value_step o w) ≡ dimension w
dimension-value_step None w = refl
dimension-value_step (Some v) w = refl

dimension-steps_across : (t : Tile) (vs : List (Option ℕ)) (k : ℕ) → dimension (steps_across t vs k) ≡ k + 1
dimension-steps_across t vs zero = dimension-steps_in_space t t.z
dimension-steps_across t vs (suc k) =
    let d = dimension-value_step (get_or vs k None) (across ∷ steps_across t vs k) in
    let r = dimension-steps_across t vs k in
    omega (arith, d, r)

level-steps_in_space : (t : Tile) (i : ℕ) → level_of (steps_in_space t i) ≡ i
level-steps_in_space t zero = refl
level-steps_in_space t (suc i) = ap suc (level-steps_in_space t i)

-- a dimension that is not space comes after one
pub data IsSpaceOr (dim : ℕ) : Type 0 where
  in_space : dim ≡ 1 → IsSpaceOr dim
  beyond_space : (k : ℕ) → dim ≡ k + 2 → IsSpaceOr dim

pub space_or : (dim : ℕ) → 1 ≤ dim → IsSpaceOr dim
space_or zero le = absurd (omega (arith, le))
space_or (suc zero) le = in_space refl
space_or (suc (suc k)) le = beyond_space k (omega arith)

module _ (z : Schema) (a : Address) (W : IsWalkAddress z a) where
  pub dimension-steps_of : dimension (steps_of a) ≡ a.dim
  dimension-steps_of = let d = dimension-steps_across a.tile a.values (a.dim - 1) in let low = W.placed.dim.0 in omega (arith, d, low)

  steps-space : a.dim ≡ 1 → steps_of a ≡ steps_in_space a.tile a.tile.z
  steps-space e = let k : a.dim - 1 ≡ 0 = omega (arith, e) in ap (steps_across a.tile a.values) k

  steps-beyond : (k : ℕ) → a.dim ≡ k + 2 → steps_of a ≡ value_step (get_or a.values k None) (across ∷ steps_across a.tile a.values k)
  steps-beyond k e = let n : a.dim - 1 ≡ suc k = omega (arith, e) in ap (steps_across a.tile a.values) n

  -- a dimension beyond space that has a level is a category
  one_level : (k : ℕ) → a.dim ≡ k + 2 → a.level < deepest z a.dim → (a.level ≡ 0) × (k < length z.categories)
  one_level k e lt = ⊎_elim
      (λ (c : a.dim < time_dim z). let d : deepest z a.dim ≡ 1 = rw (ne_eqb a.dim 1 (λ (x : a.dim ≡ 1). omega (arith, e, x)), lt-ltb a.dim (time_dim z) c) refl in (omega (arith, lt, d), omega (arith, c, e)))
      (λ (c : time_dim z ≤ a.dim). let d : deepest z a.dim ≡ 0 = rw (ne_eqb a.dim 1 (λ (x : a.dim ≡ 1). omega (arith, e, x)), le-ltb a.dim (time_dim z) c) refl in absurd (omega (arith, lt, d)))
      (cases_lt a.dim (time_dim z))

  open_here : (k : ℕ) → a.dim ≡ k + 2 → a.level ≡ 0 → get_or a.values k None ≡ None
  open_here k e none = let i : a.dim - 2 ≡ k = omega (arith, e) in sym (ap (λ (j : ℕ). get_or a.values j None) i) ∙ W.fresh (omega (arith, e)) none

  pub level-steps_of : a.level < deepest z a.dim → level_of (steps_of a) ≡ a.level
  level-steps_of lt = elim (space_or a.dim W.placed.dim.0) [
    | in_space e ↦ ap level_of (steps-space e) ∙ (level-steps_in_space a.tile a.tile.z ∙ sym (W.placed.space e))
    | beyond_space k e ↦
        let o = one_level k e lt in
        ap level_of (steps-beyond k e ∙ ap (λ (v : Option ℕ). value_step v (across ∷ steps_across a.tile a.values k)) (open_here k e o.0)) ∙ sym o.0
  ]

  module _ (l : ℕ) (above : a.level < deepest z a.dim) (quadrant : a.dim ≡ 1 → l < 4) where
    values-space : a.dim ≡ 1 → longer_values a.dim a.values l ≡ a.values
    values-space e = ap (λ (d : ℕ). longer_values d a.values l) e

    values-beyond : (k : ℕ) → a.dim ≡ k + 2 → longer_values a.dim a.values l ≡ set a.values k (Some l)
    values-beyond k e =
        let i : a.dim - 2 ≡ k = omega (arith, e) in
        ap (λ b. cond b a.values (set a.values (a.dim - 2) (Some l))) (ne_eqb a.dim 1 (λ (x : a.dim ≡ 1). omega (arith, e, x)))
        ∙ ap (λ (j : ℕ). set a.values j (Some l)) i

    tile-beyond : (k : ℕ) → a.dim ≡ k + 2 → longer_tile a.dim a.tile l ≡ a.tile
    tile-beyond k e = rw (ne_eqb a.dim 1 (λ (x : a.dim ≡ 1). omega (arith, e, x))) refl

    -- the steps of the longer address are a down more
    pub steps-longer : steps_of (longer a l) ≡ down l ∷ steps_of a
    steps-longer = elim (space_or a.dim W.placed.dim.0) [
      | in_space e ↦
          let k : a.dim - 1 ≡ 0 = omega (arith, e) in
          ap (steps_across (longer_tile a.dim a.tile l) (longer_values a.dim a.values l)) k
          ∙ (ap (λ (d : ℕ). steps_in_space (longer_tile d a.tile l) (longer_tile d a.tile l).z) e
          ∙ (steps-quadrant a.tile l (quadrant e)
          ∙ ap (λ (w : Walk). down l ∷ w) (sym (steps-space e))))
      | beyond_space k e ↦
          let o = one_level k e above in
          let n : a.dim - 1 ≡ suc k = omega (arith, e) in
          let four = W.four in
          let few = few_categories z in
          let own : get_or (set a.values k (Some l)) k None ≡ Some l = get_or-set_same a.values k (Some l) None (let lt = o.1 in omega (arith, four, few, lt)) in
          let others = across_same a.tile (set a.values k (Some l)) a.values k (λ i lt. get_or-set_other a.values k i (Some l) None (λ (x : i ≡ k). omega (arith, x, lt))) in
          ap (steps_across (longer_tile a.dim a.tile l) (longer_values a.dim a.values l)) n
          ∙ (ap₂ (λ (t : Tile) (vs : List (Option ℕ)). steps_across t vs (suc k)) (tile-beyond k e) (values-beyond k e)
          ∙ (ap₂ (λ (v : Option ℕ) (w : Walk). value_step v (across ∷ w)) own others
          ∙ ap (λ (w : Walk). down l ∷ w) (sym (steps-beyond k e ∙ ap (λ (v : Option ℕ). value_step v (across ∷ steps_across a.tile a.values k)) (open_here k e o.0)))))
    ]

    four-longer : length (longer_values a.dim a.values l) ≡ 4
    four-longer = elim (space_or a.dim W.placed.dim.0) [
      | in_space e ↦ ap length (values-space e) ∙ W.four
      | beyond_space k e ↦ ap length (values-beyond k e) ∙ (length-set a.values k (Some l) ∙ W.four)
    ]

    open-longer : (i : ℕ) → (a.dim ≡ i + 2 → ⊥) → get_or a.values i None ≡ None → get_or (longer_values a.dim a.values l) i None ≡ None
    open-longer i other none = elim (space_or a.dim W.placed.dim.0) [
      | in_space e ↦ ap (λ (vs : List (Option ℕ)). get_or vs i None) (values-space e) ∙ none
      | beyond_space k e ↦ ap (λ (vs : List (Option ℕ)). get_or vs i None) (values-beyond k e) ∙ (get_or-set_other a.values k i (Some l) None (λ (x : i ≡ k). other (omega (arith, e, x))) ∙ none)
    ]

    -- a walk comes to the longer address
    pub walked-longer : IsAddress z (longer a l) → IsWalkAddress z (longer a l)
    walked-longer placed = record {
      placed = placed;
      four = four-longer;
      beyond = record {
        past = λ i le. open-longer i (λ e. let o = one_level i e above in let lt = o.1 in omega (arith, le, lt)) (W.beyond.past i le);
        later = λ i le. open-longer i (λ e. omega (arith, le, e)) (W.beyond.later i le);
      };
      fresh = λ two none. absurd (omega (arith, none));
    }

  module _ (time : a.dim ≢ time_dim z) where
    -- the steps of the address at the next dimension are a step across more
    pub steps-next : steps_of (next_dim a) ≡ across ∷ steps_of a
    steps-next =
        let low = W.placed.dim.0 in
        let n : a.dim + 1 - 1 ≡ suc (a.dim - 1) = omega (arith, low) in
        ap (steps_across a.tile a.values) n
        ∙ ap (λ (v : Option ℕ). value_step v (across ∷ steps_across a.tile a.values (a.dim - 1))) (W.beyond.later (a.dim - 1) (omega arith))

    -- a walk comes to it
    pub walked-next : IsAddress z (next_dim a) → IsWalkAddress z (next_dim a)
    walked-next placed = record {
      placed = placed;
      four = W.four;
      beyond = record { past = W.beyond.past; later = λ i le. W.beyond.later i (omega (arith, le)) };
      fresh = λ two none.
          let low = W.placed.dim.0 in
          let i : a.dim + 1 - 2 ≡ a.dim - 1 = omega (arith, low) in
          ap (λ (j : ℕ). get_or a.values j None) i ∙ W.beyond.later (a.dim - 1) (omega arith);
    }

-- no value is asked for at the top
pub open_at : (k : ℕ) → ◌≡◌ {A = Option ℕ} (get_or (None ∷ None ∷ None ∷ None ∷ []) k None) None
open_at zero = refl
open_at (suc zero) = refl
open_at (suc (suc zero)) = refl
open_at (suc (suc (suc zero))) = refl
open_at (suc (suc (suc (suc k)))) = refl

-- a walk begins at the top
pub walked-top : (z : Schema) → IsWalkAddress z top_address
walked-top z = record {
  placed = record { dim = (omega arith, omega arith); level = omega arith; space = λ e. refl; depth = omega arith; tile = (omega arith, omega arith) };
  four = refl;
  beyond = record { past = λ k le. open_at k; later = λ k le. open_at k };
  fresh = λ two none. absurd (omega (arith, two));
}
