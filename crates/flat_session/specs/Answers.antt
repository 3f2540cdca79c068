-- What is answered to a line without a cube.
use Rattle.std.specs.Prelude.{◌≡◌, ℕ, true, List, [], length, Option, Some, None, codes}
use Rattle.cube_view.specs.Points.{Point}
use Rattle.cube_view.specs.declared.schema.Schema.{Schema}
use Rattle.cube_view.specs.declared.stat.Stat.{Stat}
use Rattle.flat_view.specs.Kept.{flat_points, flat_schema}
use Rattle.flat_view.specs.declared.view.FlatView.{FlatView}
use Rattle.query_syntax.specs.declared.query.Parsed.{Parsed}
use Rattle.query_syntax.specs.declared.query.Parsed.TheVariants.{Skip}
use Rattle.reply_json.specs.declared.reply.Reply.{Reply}
use Rattle.session_core.specs.Asked.{asked_reply, asks_reply, asks_to_end, reply_line}
use Rattle.session_core.specs.declared.serving.Served.{Served}
use Rattle.session_core.specs.declared.serving.Served.TheVariants as served

-- What the answers depend on: a schema, and a list of points of it, each of which was told
pub record FlatBasis : Type 0 where
  pub schema : Schema
  pub points : List Point

-- these two
abbrev pub flat_basis : Schema → List Point → FlatBasis
flat_basis schema points = record { schema = schema; points = points }

-- and those of a view
abbrev pub basis_of : FlatView → FlatBasis
basis_of view = flat_basis (flat_schema view) (flat_points view)

-- the numbers of no structure
abbrev pub no_numbers : Stat
no_numbers = record { nodes = 0; tables = 0; proper = 0; shared = 0 }

-- the line that answers `stat`
abbrev pub no_cube_line : List ℕ
no_cube_line = codes "{\"fault\":\"NoCube\"}\n"

-- the line of the reply that a cube would give; in place of its numbers the one that says that there is none
abbrev pub line_without_cube : Option Reply → List ℕ
line_without_cube None = []
line_without_cube (Some (Reply.Table table)) = reply_line (Reply.Table table)
line_without_cube (Some (Reply.Stat stat seen)) = no_cube_line
line_without_cube (Some (Reply.Told told)) = reply_line (Reply.Told told)
line_without_cube (Some (Reply.Fault fault word)) = reply_line (Reply.Fault fault word)
line_without_cube (Some Reply.NoMemory) = reply_line Reply.NoMemory

module _ (of : FlatBasis) where
  -- the line that answers what was asked
  abbrev pub answer_line : Parsed → List ℕ
  answer_line p = line_without_cube (asked_reply no_numbers of.schema of.points (length of.points) p)

  -- what is answered to what a line means: nothing where it asks nothing, its line, or the end
  abbrev pub ServesFlat : Parsed → Served → Type 0
  ServesFlat p served.Skipped = p ≡ Skip
  ServesFlat p (served.Reply line) = (asks_reply p ≡ true) × (line ≡ answer_line p)
  ServesFlat p served.Quit = asks_to_end p ≡ true
