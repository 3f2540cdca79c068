-- How many steps a session takes at most.
use Rattle.std.specs.Prelude.{◌≡◌, ℕ, ◌+◌, ◌≤◌, ◌⊎◌, true, false, List, [], ◌∷◌, ◌++◌, length, map, Result, IsOk}
use Rattle.cube_view.specs.Bag.{Counts}
use Rattle.cube_view.specs.Points.{Point}
use Rattle.cube_view.specs.declared.schema.Schema.{Schema}
use Rattle.cube_view.specs.declared.view.CubeView as CubeView
use Rattle.live_session.specs.News.{MayAsk}
use Rattle.live_session.specs.State.{SessionState}
use Rattle.live_session.specs.Viewers.{IsSameViewer}
use Rattle.live_session.specs.declared.turn.Turn.{Turn}
use Rattle.mailbox.specs.Ends.{OutEnd}
use Rattle.outer_io.specs.Cutting.{Cutter, lines_left}
use Rattle.outer_io.specs.Lines.{Line}
use Rattle.outer_io.specs.Told.{Told}
use Rattle.outer_io.specs.declared.source.Source as Source
use Rattle.published_pair.specs.declared.viewer.Viewer.{Viewer}
use Rattle.query_syntax.specs.declared.query.Parsed.{Parsed}
use Rattle.session_core.specs.Asked.{asks_look, line_meaning}
use Rattle.session_core.specs.Serving.{answer_cost}
use Rattle.session_core.specs.Turns.{PassesLine}
use Rattle.session_core.specs.declared.fault.SessionFault.{SessionFault}

-- What answering what a line means takes, where this view is shown then, and it counts this list
pub record TakesSteps {V C : Type 0} (members : CubeView.Ghosts V C) (view : V) (schema : Schema) (shown : List Point) (p : Parsed) (before after : ℕ) : Type 0 where
  -- nothing, where the line asks for no look
  pub unlooked : asks_look p ≡ false → after ≡ before
  -- for a look the view counts the list, and is of the schema
  pub counts : asks_look p ≡ true → Counts (members.weight_at view) (members.seen view) shown × (members.schema view ≡ schema)
  -- and it takes at most the bound of its table over the view
  pub looked : asks_look p ≡ true → after ≤ before + answer_cost (members.costs view) schema p shown

-- a turn read no line: the session is at its end, and where it answered no fault the script gave none
abbrev pub ReadsNone : {I O : Type 0} → SessionState I O → SessionState I O → Result Turn SessionFault → Type 0
ReadsNone session session' result = (session'.ended ≡ true) × (IsOk result → session'.source.given ≡ session.source.given)

-- What a turn asks of the mailbox, and which steps it takes, after which the viewer is this one
pub record TurnCosts {I V C : Type 0} {O : Type 0} {members : CubeView.Ghosts V C} (script : Source.Ghosts I) (viewer : Viewer V C members) (out out' : OutEnd) (session session' : SessionState I O) (before after : ℕ) (result : Result Turn SessionFault) : Type 0 where
  -- the mailbox was asked once, or not
  pub mail : MayAsk viewer.learned out out'
  -- it takes at most the steps of the line that it read; none where it read none
  pub steps : ((after ≡ before) × ReadsNone session session' result) ⊎ ((line : Line) × PassesLine script.left script.faults viewer.schema session.source session'.source line × TakesSteps members viewer.shown_view.value viewer.schema viewer.shown.points (line_meaning viewer.schema line) before after)

module _ {V C : Type 0} {members : CubeView.Ghosts V C} where
  -- what lines take that are answered one after another, each over the view that its viewer was shown then
  abbrev pub TakesForEach : List (Line × Viewer V C members) → ℕ → ℕ → Type 0
  TakesForEach [] before after = after ≡ before
  TakesForEach (turn ∷ turns) before after = (mid : ℕ) × TakesSteps members turn.1.shown_view.value turn.1.schema turn.1.shown.points (line_meaning turn.1.schema turn.0) before mid × TakesForEach turns mid after

  -- a viewer goes on turn by turn, as these have it, to another
  abbrev pub GoesOver : Viewer V C members → List (Line × Viewer V C members) → Viewer V C members → Type 0
  GoesOver viewer [] viewer' = IsSameViewer viewer viewer'
  GoesOver viewer (turn ∷ turns) viewer' = IsSameViewer viewer turn.1 × GoesOver turn.1 turns viewer'

  -- What the turns of a run over a script take, which begins with the one viewer and ends with the other
  pub record RunCosts {I T : Type 0} (script : Source.Ghosts I) (viewer viewer' : Viewer V C members) (source source' : Cutter I) (before after : ℕ) (result : Result T SessionFault) : Type 0 where
    -- the lines that were read, each with the viewer that was looked at when it was answered
    pub turns : List (Line × Viewer V C members)
    -- they are the first of the script
    pub read : Told (lines_left script.left source) (λ all. (later : List Line) × (all ≡ map (λ turn. turn.0) turns ++ later))
    -- and without a fault as many as were read
    pub given : IsOk result → source'.given ≡ source.given + length turns
    -- the viewer goes on from turn to turn
    pub viewers : GoesOver viewer turns viewer'
    -- the run takes at most the sum of what these lines may take
    pub steps : TakesForEach turns before after
