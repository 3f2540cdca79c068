-- What the turns of a script do to the cutter over it: each reads a line, and the last one none.
use Rattle.std.specs.Prelude.{◌≡◌, ℕ, ◌+◌, ◌≤◌, ◌⊎◌, true, false, List, [], ◌∷◌, Option, Some, None}
use Rattle.cube_view.specs.declared.schema.Schema.{Schema}
use Rattle.outer_io.specs.Cutting.{Cutter}
use Rattle.outer_io.specs.Lines.{Line, input_limit}
use Rattle.outer_io.specs.Progress.{IsGoing, Passes, PassesAll}
use Rattle.query_syntax.specs.declared.query.Parsed.{Parsed}
use Rattle.session_core.specs.Asked.{line_meaning}
use Rattle.session_core.specs.Scripts.{is_quit}

module _ {S : Type 0} (left : S → Option (List ℕ)) (faults : S → ℕ) (schema : Schema) (before after : Cutter S) where
  -- the cutter passed a line, and goes on
  pub record PassesLine (line : Line) : Type 0 where
    -- it passed it
    pub passed : Passes left faults before after (line ∷ [])
    -- and gave one line more, within the limit
    pub further : (after.given ≡ before.given + 1) × (after.given ≤ input_limit)
    -- and gives more
    pub going : IsGoing after

  -- the next line means this, or there is none
  abbrev pub AsksNext : Option Parsed → Type 0
  AsksNext None = PassesAll left faults before after []
  AsksNext (Some p) = (line : Line) × PassesLine line × (p ≡ line_meaning schema line)

  -- a line was passed that is no `quit`, and what it asks has such an effect
  abbrev pub GoesOn : (List Line → Type 0) → Type 0
  GoesOn Effect = (line : Line) × PassesLine line × (is_quit schema line ≡ false) × Effect (line ∷ [])

  -- the script has no further line, or the next is `quit`
  abbrev pub Stops : Type 0
  Stops = PassesAll left faults before after [] ⊎ ((line : Line) × PassesLine line × (is_quit schema line ≡ true))
