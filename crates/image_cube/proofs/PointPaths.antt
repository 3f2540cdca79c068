-- The paths of a schema's points have the schema's levels and labels.
use Rattle.std.proofs.Common.{◌≡◌, ◌⊎◌, inl, inr, ℕ, zero, suc, ◌+◌, ◌*◌, ◌/◌, ◌%◌, ◌-◌, ◌^◌, ◌<◌, ◌≤◌, Bool, true, false, cond, ◌&&◌, eqb, ne_eqb, nat_lt, ltb-true, List, [], ◌∷◌, length, get_or, map, refl, ap, ap₂, ◌∙◌, arith}
use Rattle.std.specs.List.{list_all}
use Rattle.std.proofs.lemmas.Bool.{and_parts, cases_eq, cases_lt, lt-ltb}
use Rattle.cube_view.specs.Paths.{labels_from, path_of, paths_from, spot_path}
use Rattle.cube_view.specs.Places.{deepest, time_dim, label_of, quadrant_at}
use Rattle.cube_view.specs.Validity.{values_fit, tile_fits, fits}
use Rattle.cube_view.specs.declared.category.Category.{Category}
use Rattle.cube_view.specs.declared.schema.Schema.{Schema}
use Rattle.cube_view.specs.declared.spot.Spot.{Spot}
use Rattle.cube_view.proofs.SchemaBounds.{few_categories}
use Rattle.shape_test.specs.Levels.{label_counts}
use Rattle.shape_test.specs.Labels.{levels_from, schema_levels, value_count, label_end, label_fits, paths_fit}
use Rattle.shape_test.proofs.CategoryWays.{in_time}
use Rattle.proper_path.proofs.Labels.{length-labels_from}

one-more : (n : ℕ) → n + 1 ≡ suc n
one-more n = omega arith

counts-from : (schema : Schema) (s : Spot) (dim n : ℕ) → map (λ (p : List ℕ). length p) (paths_from schema s dim n) ≡ levels_from schema dim n
counts-from schema s dim zero = refl
counts-from schema s dim (suc n) =
    ap₂ (λ (x : ℕ) (xs : List ℕ). x ∷ xs) (length-labels_from schema s dim 1 (deepest schema dim)) (counts-from schema s (dim + 1) n ∙ ap (λ (k : ℕ). levels_from schema k n) (one-more dim))

-- a spot has a label for each level
pub path-levels : (schema : Schema) (s : Spot) → label_counts (spot_path schema s) ≡ schema_levels schema
path-levels schema s = counts-from schema s 1 (time_dim schema)

value-fits : (cs : List Category) (vs : List ℕ) (k : ℕ) → k < length cs → k < length vs → values_fit cs vs ≡ true → get_or vs k 0 < value_count cs k
value-fits [] vs k lt some fit = absurd (omega (arith, lt))
value-fits (c ∷ cs) [] k lt some fit = absurd (omega (arith, some))
value-fits (c ∷ cs) (v ∷ vs) zero lt some fit = ltb-true v (length c.values) (and_parts (nat_lt v (length c.values)) (values_fit cs vs) fit).0
value-fits (c ∷ cs) (v ∷ vs) (suc k) lt some fit = value-fits cs vs k (omega (arith, lt)) (omega (arith, some)) (and_parts (nat_lt v (length c.values)) (values_fit cs vs) fit).1

all-labels : (schema : Schema) (s : Spot) (dim : ℕ) → ((level : ℕ) → label_of schema s dim level < label_end schema dim) → (level n : ℕ) → list_all (label_fits schema dim) (labels_from schema s dim level n) ≡ true
all-labels schema s dim f level zero = refl
all-labels schema s dim f level (suc n) = ap₂ ◌&&◌ (lt-ltb (label_of schema s dim level) (label_end schema dim) (f level)) (all-labels schema s dim f (level + 1) n)

module _ (schema : Schema) (s : Spot) (fit : fits schema s ≡ true) (four : length s.values ≡ 4) where
  values : values_fit schema.categories s.values ≡ true
  values = (and_parts (tile_fits schema.depth s) (values_fit schema.categories s.values) fit).1

  quadrant : (level : ℕ) → label_of schema s 1 level < label_end schema 1
  quadrant level = low (s.y / 2 ^ (schema.depth - level)) (s.x / 2 ^ (schema.depth - level))
    where
      low : (a b : ℕ) → 2 * (a % 2) + b % 2 < 4
      low a b = omega arith

  value : (d : ℕ) → 2 ≤ d → d < time_dim schema → (level : ℕ) → label_of schema s d level < label_end schema d
  value d two lt level =
      let other : eqb d 1 ≡ false = ne_eqb d 1 (λ e. omega (arith, e, two)) in
      let l : label_of schema s d level ≡ get_or s.values (d - 2) 0 = ap (λ (b : Bool). cond {A = ℕ} b (quadrant_at schema.depth level s.x s.y) (get_or s.values (d - 2) 0)) other in
      let e : label_end schema d ≡ value_count schema.categories (d - 2) = ap (λ (b : Bool). cond {A = ℕ} b 4 (value_count schema.categories (d - 2))) other in
      let few = few_categories schema in
      let v = value-fits schema.categories s.values (d - 2) (omega (arith, two, lt)) (omega (arith, two, lt, few, four)) values in
      omega (arith, l, e, v)

  path-fits : (d : ℕ) → 1 ≤ d → list_all (label_fits schema d) (path_of schema s d) ≡ true
  path-fits d some = go (cases_eq d 1) (cases_lt d (time_dim schema))
    where
      go : (d ≡ 1) ⊎ (d ≡ 1 → ⊥) → (d < time_dim schema) ⊎ (time_dim schema ≤ d) → list_all (label_fits schema d) (path_of schema s d) ≡ true
      go (inl e) y = ap (λ (k : ℕ). list_all (label_fits schema k) (path_of schema s k)) e ∙ all-labels schema s 1 quadrant 1 (deepest schema 1)
      go (inr n) (inl lt) = all-labels schema s d (value d (omega (arith, some, n)) lt) 1 (deepest schema d)
      go (inr n) (inr le) = ap (λ (k : ℕ). list_all (label_fits schema d) (labels_from schema s d 1 k)) (in_time schema d le)

  paths-fit : (d n : ℕ) → 1 ≤ d → paths_fit schema d (paths_from schema s d n) ≡ true
  paths-fit d zero some = refl
  paths-fit d (suc n) some =
      ap₂ ◌&&◌ (path-fits d some) (ap (λ (k : ℕ). paths_fit schema (suc d) (paths_from schema s k n)) (one-more d) ∙ paths-fit (suc d) n (omega arith))

  -- the labels of a spot are the schema's
  pub path-labels : paths_fit schema 1 (spot_path schema s).paths ≡ true
  path-labels = paths-fit 1 (time_dim schema) (omega arith)
