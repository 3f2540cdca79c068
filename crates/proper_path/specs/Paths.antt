-- A point of a schema, and a list of points, as walks see them.
use Rattle.std.specs.Prelude.{ℕ, suc, List, [], ◌∷◌, map}
use Rattle.cube_view.specs.Paths.{spot_path}
use Rattle.cube_view.specs.Points.{Point, spot_of, weight_of_point}
use Rattle.cube_view.specs.Walks.{down, across, Walk}
use Rattle.cube_view.specs.declared.schema.Schema.{Schema}
use Rattle.node_arena.specs.Amounts.{Weighted}

-- the point's labels in each dimension up to time, and its bin, with its weight
abbrev pub point_path : Schema → Point → Weighted
point_path schema p = record { spot = spot_path schema (spot_of p); amount = weight_of_point p }

-- the points of a list, as walks see them
abbrev pub paths_of : Schema → List Point → List Weighted
paths_of schema h = map (λ p. point_path schema p) h

-- how many labels a walk has gone down in its dimension
abbrev pub level_of : Walk → ℕ
level_of [] = 0
level_of (down l ∷ a) = suc (level_of a)
level_of (across ∷ a) = 0
