-- The paths of a point of a schema.
use Rattle.std.proofs.Common.{◌≡◌, ℕ, zero, suc, ◌+◌, ◌-◌, ◌<◌, ◌≤◌, [], ◌∷◌, map, length, get_or, refl, sym, ap, ◌∙◌, arith, ap₂}
use Rattle.std.proofs.lemmas.Bool.{ne_eqb, le-ltb}
use Rattle.cube_view.specs.Points.{Point, spot_of}
use Rattle.cube_view.specs.Places.{label_of, deepest, time_dim}
use Rattle.cube_view.specs.declared.schema.Schema.{Schema}
use Rattle.cube_view.specs.declared.spot.Spot.{Spot}
use Rattle.cube_view.specs.Paths.{labels_from, path_of, paths_from}
use Rattle.proper_path.specs.Paths.{point_path}
use Rattle.proper_path.specs.Making.{IsSpotOf}
use Rattle.proper_path.specs.Rooted.{path_at}
use Rattle.proper_path.specs.Order.{shape_of}

pub length-labels_from : (z : Schema) (s : Spot) (dim level n : ℕ) → length (labels_from z s dim level n) ≡ n
length-labels_from z s dim level zero = refl
length-labels_from z s dim level (suc n) = ap suc (length-labels_from z s dim (level + 1) n)

-- a path has a label for each level
pub length-path_of : (z : Schema) (s : Spot) (dim : ℕ) → length (path_of z s dim) ≡ deepest z dim
length-path_of z s dim = length-labels_from z s dim 1 (deepest z dim)

get_or-labels_from : (z : Schema) (s : Spot) (dim level n i : ℕ) → i < n → get_or (labels_from z s dim level n) i 0 ≡ label_of z s dim (level + i)
get_or-labels_from z s dim level zero i lt = absurd (omega (arith, lt))
get_or-labels_from z s dim level (suc n) zero lt = ap (label_of z s dim) (omega arith)
get_or-labels_from z s dim level (suc n) (suc i) lt = get_or-labels_from z s dim (level + 1) n i (omega (arith, lt)) ∙ ap (label_of z s dim) (omega arith)

-- the label at a place of the path
pub get_or-path_of : (z : Schema) (s : Spot) (dim i : ℕ) → i < deepest z dim → label_of z s dim (i + 1) ≡ get_or (path_of z s dim) i 0
get_or-path_of z s dim i lt = ap (label_of z s dim) (omega arith) ∙ sym (get_or-labels_from z s dim 1 (deepest z dim) i lt)

length-paths_from : (z : Schema) (s : Spot) (dim n : ℕ) → length (paths_from z s dim n) ≡ n
length-paths_from z s dim zero = refl
length-paths_from z s dim (suc n) = ap suc (length-paths_from z s (dim + 1) n)

get_or-paths_from : (z : Schema) (s : Spot) (dim n i : ℕ) → i < n → get_or (paths_from z s dim n) i [] ≡ path_of z s (dim + i)
get_or-paths_from z s dim zero i lt = absurd (omega (arith, lt))
get_or-paths_from z s dim (suc n) zero lt = ap (path_of z s) (omega arith)
get_or-paths_from z s dim (suc n) (suc i) lt = get_or-paths_from z s (dim + 1) n i (omega (arith, lt)) ∙ ap (path_of z s) (omega arith)

-- the path of each dimension up to time
pub path_at-point_path : (z : Schema) (p : Point) (dim : ℕ) → 1 ≤ dim → dim ≤ time_dim z → path_of z (spot_of p) dim ≡ path_at (point_path z p).spot dim
path_at-point_path z p dim low high = ap (path_of z (spot_of p)) (omega (arith, low)) ∙ sym (get_or-paths_from z (spot_of p) 1 (time_dim z) (dim - 1) (omega (arith, low, high)))

-- time has no level
pub deepest-time : (z : Schema) → deepest z (time_dim z) ≡ 0
deepest-time z = rw (ne_eqb (time_dim z) 1 (λ e. omega (arith, e)), le-ltb (time_dim z) (time_dim z) (omega arith)) refl

no_labels : (z : Schema) (s : Spot) (dim n : ℕ) → n ≡ 0 → labels_from z s dim 1 n ≡ []
no_labels z s dim zero e = refl
no_labels z s dim (suc n) e = absurd (omega (arith, e))

-- a point of the schema has a path for each dimension, and none in time
pub spot_of_schema : (z : Schema) (p : Point) → IsSpotOf (time_dim z) (point_path z p).spot
spot_of_schema z p = record {
  size = length-paths_from z (spot_of p) 1 (time_dim z);
  some = omega arith;
  time = sym (path_at-point_path z p (time_dim z) (omega arith) (omega arith)) ∙ no_labels z (spot_of p) (time_dim z) (deepest z (time_dim z)) (deepest-time z);
}

shape-paths_from : (z : Schema) (s q : Spot) (dim n : ℕ) → map length (paths_from z s dim n) ≡ map length (paths_from z q dim n)
shape-paths_from z s q dim zero = refl
shape-paths_from z s q dim (suc n) = ap₂ ◌∷◌ (length-path_of z s dim ∙ sym (length-path_of z q dim)) (shape-paths_from z s q (dim + 1) n)

-- all points of a schema have as many labels in each dimension
pub shape-point_path : (z : Schema) (p q : Point) → shape_of (point_path z p).spot ≡ shape_of (point_path z q).spot
shape-point_path z p q = shape-paths_from z (spot_of p) (spot_of q) 1 (time_dim z)
