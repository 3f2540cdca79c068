-- The paths of a spot of the schema tell where it stands: two spots with the same paths differ in their bins alone.
use Rattle.std.proofs.Common.{◌≡◌, ℕ, zero, suc, ◌+◌, ◌-◌, ◌*◌, ◌/◌, ◌^◌, ◌<◌, ◌≤◌, true, false, cond, eqb, ltb, IsTrue, List, [], ◌∷◌, length, get_or, refl, sym, ◌∙◌, ap, arith, add-one, ⊎_elim}
use Rattle.std.proofs.Math.Nat.{div-eq_of_lt}
use Rattle.std.proofs.lemmas.Bool.{and_parts, eqb-true, ne_eqb, lt-ltb, ltb-true, cases_lt}
use Rattle.std.proofs.lemmas.List.{ext_get_or}
use Rattle.cube_view.specs.Paths.{path_of, spot_path}
use Rattle.cube_view.specs.Places.{shifted, bit_at, quadrant_at, time_dim, deepest, label_of}
use Rattle.cube_view.specs.Points.{point_at}
use Rattle.cube_view.specs.Validity.{fits, tile_fits, values_fit}
use Rattle.cube_view.specs.declared.category.Category.{Category}
use Rattle.cube_view.specs.declared.schema.Schema.{Schema}
use Rattle.cube_view.specs.declared.spot.Spot.{Spot}
use Rattle.cube_view.proofs.LevelShifts.{bit_more, by_one}
use Rattle.proper_path.proofs.Labels.{path_at-point_path, get_or-path_of}
use Rattle.cube_store.specs.Reading.{is_countable}

-- the parts of the test
pub record IsOfSchema (z : Schema) (s : Spot) : Type 0 where
  pub fits : IsTrue (fits z s)
  pub x : s.x < 2 ^ z.depth
  pub y : s.y < 2 ^ z.depth
  pub values : values_fit z.categories s.values ≡ true
  pub four : length s.values ≡ 4

pub of_schema : (z : Schema) (s : Spot) → IsTrue (fits z s) → length s.values ≡ 4 → IsOfSchema z s
of_schema z s is four =
    let parts = and_parts (tile_fits z.depth s) (values_fit z.categories s.values) is in
    let tile = and_parts (ltb s.x (2 ^ z.depth)) (ltb s.y (2 ^ z.depth)) parts.0 in
    record { fits = is; x = ltb-true _ _ tile.0; y = ltb-true _ _ tile.1; values = parts.1; four = four }

pub of_test : (z : Schema) (s : Spot) → is_countable z s ≡ true → IsOfSchema z s
of_test z s is =
    let parts = and_parts (fits z s) (eqb (length s.values) 4) is in
    of_schema z s parts.0 (eqb-true _ _ parts.1)

-- values past the categories are 0
past_values : (cs : List Category) (vs : List ℕ) (k : ℕ) → values_fit cs vs ≡ true → length cs ≤ k → get_or vs k 0 ≡ 0
past_values cs [] k fit le = refl
past_values [] (v ∷ vs) zero fit le = eqb-true v 0 (and_parts (eqb v 0) (values_fit [] vs) fit).0
past_values [] (v ∷ vs) (suc k) fit le = past_values [] vs k (and_parts (eqb v 0) (values_fit [] vs) fit).1 (omega arith)
past_values (c ∷ cs) (v ∷ vs) zero fit le = absurd (omega (arith, le))
past_values (c ∷ cs) (v ∷ vs) (suc k) fit le = past_values cs vs k (and_parts (ltb v (length c.values)) (values_fit cs vs) fit).1 (omega (arith, le))

-- both bits of a label tell
bits_same : (a b c d : ℕ) → a < 2 → b < 2 → c < 2 → d < 2 → 2 * a + b ≡ 2 * c + d → (a ≡ c) × (b ≡ d)
bits_same a b c d la lb lc ld e = (omega (arith, lb, ld, e), omega (arith, lb, ld, e))

module _ (z : Schema) (s t : Spot) (S : IsOfSchema z s) (T : IsOfSchema z t) (same : (spot_path z s).paths ≡ (spot_path z t).paths) where
  same_path : (dim : ℕ) → 1 ≤ dim → dim ≤ time_dim z → path_of z s dim ≡ path_of z t dim
  same_path dim low high = path_at-point_path z (point_at s) dim low high ∙ (ap (λ (ps : List (List ℕ)). get_or ps (dim - 1) []) same ∙ sym (path_at-point_path z (point_at t) dim low high))

  same_label : (dim i : ℕ) → 1 ≤ dim → dim ≤ time_dim z → i < deepest z dim → label_of z s dim (i + 1) ≡ label_of z t dim (i + 1)
  same_label dim i low high lt = get_or-path_of z s dim i lt ∙ (ap (λ (ls : List ℕ). get_or ls i 0) (same_path dim low high) ∙ sym (get_or-path_of z t dim i lt))

  -- space

  none_yet : (n : ℕ) → n < 2 ^ z.depth → shifted z.depth 0 n ≡ 0
  none_yet n lt = let e : z.depth - 0 ≡ z.depth = omega arith in ap (λ k. n / 2 ^ k) e ∙ div-eq_of_lt lt

  same_to : (i : ℕ) → i ≤ z.depth → (shifted z.depth i s.x ≡ shifted z.depth i t.x) × (shifted z.depth i s.y ≡ shifted z.depth i t.y)
  same_to zero le = (none_yet s.x S.x ∙ sym (none_yet t.x T.x), none_yet s.y S.y ∙ sym (none_yet t.y T.y))
  same_to (suc i) le =
      let here = same_to i (omega (arith, le)) in
      let lt : i < z.depth = omega (arith, le) in
      let dims : 1 ≤ time_dim z = omega arith in
      let label : 2 * bit_at z.depth (i + 1) s.y + bit_at z.depth (i + 1) s.x ≡ 2 * bit_at z.depth (i + 1) t.y + bit_at z.depth (i + 1) t.x = same_label 1 i (omega arith) dims lt in
      let bits = bits_same _ _ _ _ (omega arith) (omega arith) (omega arith) (omega arith) label in
      let sx = bit_more z.depth i s.x lt in
      let sy = bit_more z.depth i s.y lt in
      let tx = bit_more z.depth i t.x lt in
      let ty = bit_more z.depth i t.y lt in
      let hx = here.0 in
      let hy = here.1 in
      let bx = bits.1 in
      let byy = bits.0 in
      let x : shifted z.depth (i + 1) s.x ≡ shifted z.depth (i + 1) t.x = omega (arith, hx, bx, sx, tx) in
      let y : shifted z.depth (i + 1) s.y ≡ shifted z.depth (i + 1) t.y = omega (arith, hy, byy, sy, ty) in
      let j = add-one i in (
        ap (λ (k : ℕ). shifted z.depth k s.x) (sym j) ∙ (x ∙ ap (λ (k : ℕ). shifted z.depth k t.x) j),
        ap (λ (k : ℕ). shifted z.depth k s.y) (sym j) ∙ (y ∙ ap (λ (k : ℕ). shifted z.depth k t.y) j),
      )

  whole_coordinate : (n : ℕ) → shifted z.depth z.depth n ≡ n
  whole_coordinate n = let e : z.depth - z.depth ≡ 0 = omega arith in ap (λ k. n / 2 ^ k) e ∙ by_one n

  -- the categories

  label_is : (q : Spot) (k : ℕ) → label_of z q (k + 2) (0 + 1) ≡ get_or q.values k 0
  label_is q k =
      let d : eqb (k + 2) 1 ≡ false = ne_eqb (k + 2) 1 (λ (e : k + 2 ≡ 1). omega (arith, e)) in
      let i : k + 2 - 2 ≡ k = omega arith in
      ap (λ b. cond b (quadrant_at z.depth (0 + 1) q.x q.y) (get_or q.values (k + 2 - 2) 0)) d ∙ ap (λ (j : ℕ). get_or q.values j 0) i

  one_deep : (k : ℕ) → k < length z.categories → 0 < deepest z (k + 2)
  one_deep k lt =
      let d : eqb (k + 2) 1 ≡ false = ne_eqb (k + 2) 1 (λ (e : k + 2 ≡ 1). omega (arith, e)) in
      let c : ltb (k + 2) (time_dim z) ≡ true = lt-ltb _ _ (omega (arith, lt)) in
      rw (d, c) (omega arith)

  same_value : (k : ℕ) → get_or s.values k 0 ≡ get_or t.values k 0
  same_value k = ⊎_elim
      (λ (lt : k < length z.categories). sym (label_is s k) ∙ (same_label (k + 2) 0 (omega arith) (omega (arith, lt)) (one_deep k lt) ∙ label_is t k))
      (λ (ge : length z.categories ≤ k). past_values z.categories s.values k S.values ge ∙ sym (past_values z.categories t.values k T.values ge))
      (cases_lt k (length z.categories))

  -- spots of the schema with the same paths and bins are one
  pub same_spot : s.bin ≡ t.bin → s ≡ t
  same_spot bins =
      let deep = same_to z.depth (omega arith) in
      let x : s.x ≡ t.x = sym (whole_coordinate s.x) ∙ (deep.0 ∙ whole_coordinate t.x) in
      let y : s.y ≡ t.y = sym (whole_coordinate s.y) ∙ (deep.1 ∙ whole_coordinate t.y) in
      let size : length s.values ≡ length t.values = S.four ∙ sym T.four in
      let values : s.values ≡ t.values = ext_get_or 0 s.values t.values size (λ i lt. same_value i) in
      λ i. record { x = x i; y = y i; values = values i; bin = bins i }
