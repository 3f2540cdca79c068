-- What a flat view keeps.
use Rattle.std.specs.Prelude.{List}
use Rattle.cube_view.specs.Points.{Point}
use Rattle.cube_view.specs.declared.schema.Schema.{Schema}
use Rattle.flat_view.specs.declared.view.FlatView.{FlatView}

-- the points in path order
abbrev pub flat_points : FlatView → List Point
flat_points view = view.points.items

-- the schema that the view was made with
abbrev pub flat_schema : FlatView → Schema
flat_schema view = view.schema
