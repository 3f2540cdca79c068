-- The points of a group that an address holds.
use Rattle.std.specs.Prelude.{List, filter}
use Rattle.cube_view.specs.Paths.{spot_path}
use Rattle.cube_view.specs.Points.{Point, spot_of}
use Rattle.cube_view.specs.Walks.{Walk, under}
use Rattle.cube_view.specs.declared.schema.Schema.{Schema}

-- the points that the address holds, in their order
abbrev pub part_of : Schema → List Point → Walk → List Point
part_of schema group a = filter (λ p. under (spot_path schema (spot_of p)) a) group
