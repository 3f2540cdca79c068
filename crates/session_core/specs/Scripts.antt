-- Where a script ends, and which scripts are refused.
use Rattle.std.specs.Prelude.{ℕ, Bool, false, ◌&&◌, ◌||◌, not, nat_lt, List, [], ◌∷◌, length}
use Rattle.cube_view.specs.declared.schema.Schema.{Schema}
use Rattle.outer_io.specs.Lines.{Line, lines, input_limit}
use Rattle.session_core.specs.Asked.{asks_to_end, line_meaning}

-- the line is `quit`
abbrev pub is_quit : Schema → Line → Bool
is_quit schema line = asks_to_end (line_meaning schema line)

-- a `quit` stands among the lines
abbrev pub has_quit : Schema → List Line → Bool
has_quit schema [] = false
has_quit schema (line ∷ lines) = is_quit schema line || has_quit schema lines

-- the script has more than 2^30 bytes, and no `quit` stands among its lines
unfoldable pub is_script_refused : Schema → List ℕ → Bool
is_script_refused schema script = nat_lt input_limit (length script) && not (has_quit schema (lines script))
