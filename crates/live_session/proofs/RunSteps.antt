-- What the turns of a run take, line after line.
use Rattle.std.proofs.Common.{◌≡◌, ℕ, ◌+◌, ◌⊎◌, inl, inr, List, [], ◌∷◌, ◌++◌, length, length-append, map, Option, Some, None, IsSomeAnd, Result, arith, refl, sym, subst, ◌∙◌}
use Rattle.std.proofs.lemmas.List.{map-append}
use Rattle.std.specs.Prelude.{IsOk}
use Rattle.cube_view.specs.declared.view.CubeView as CubeView
use Rattle.live_session.specs.Bounds.{GoesOver, RunCosts, TakesForEach, TakesSteps}
use Rattle.live_session.specs.Viewers.{IsSameViewer}
use Rattle.outer_io.specs.Cutting.{Cutter, lines_left}
use Rattle.outer_io.specs.Lines.{Line}
use Rattle.outer_io.specs.Progress.{Passes}
use Rattle.outer_io.specs.Told.{Told}
use Rattle.outer_io.specs.declared.source.Source as Source
use Rattle.outer_io.proofs.ProgressLaws.{passes_none, passes_on}
use Rattle.published_pair.specs.declared.viewer.Viewer.{Viewer}
use Rattle.session_core.specs.Asked.{line_meaning}
use Rattle.session_core.specs.Turns.{PassesLine}
use Rattle.session_core.specs.declared.fault.SessionFault.{SessionFault}
use Rattle.live_session.proofs.OneTurn.{keeps_on, same_viewer}

-- lines that were passed are the first of those that were left
first_lines : (all after : Option (List Line)) (lines : List Line) → Told all (λ whole. IsSomeAnd after (λ rest. whole ≡ lines ++ rest)) → Told all (λ whole. (later : List Line) × (whole ≡ lines ++ later))
first_lines None after lines covers = tt
first_lines (Some whole) None lines covers = absurd covers
first_lines (Some whole) (Some rest) lines covers = (rest, covers)

module _ {I V C : Type 0} {members : CubeView.Ghosts V C} (script : Source.Ghosts I) (first : Viewer V C members) (source : Cutter I) (start : ℕ) where
  abbrev LineSeen : Type 0
  LineSeen = Line × Viewer V C members

  abbrev line_of : LineSeen → Line
  line_of turn = turn.0

  -- what the turns took by a state of the viewer and the cutter
  pub record TookSoFar (viewer : Viewer V C members) (now : Cutter I) (steps : ℕ) : Type 0 where
    pub turns : List (Line × Viewer V C members)
    pub passed : Passes script.left script.faults source now (map line_of turns)
    pub given : now.given ≡ source.given + length turns
    pub viewers : GoesOver first turns viewer
    pub takes : TakesForEach turns start steps

  same : (viewer : Viewer V C members) → IsSameViewer viewer viewer
  same viewer = same_viewer viewer.shown viewer.learned viewer.last viewer.schema

  pub took_nothing : TookSoFar first source start
  took_nothing = record { turns = []; passed = passes_none script.left script.faults source; given = omega arith; viewers = same first; takes = refl }

  takes_more : (turns : List LineSeen) (turn : LineSeen) (before mid after : ℕ) → TakesForEach turns before mid → TakesSteps members turn.1.shown_view.value turn.1.schema turn.1.shown.points (line_meaning turn.1.schema turn.0) mid after → TakesForEach (turns ++ turn ∷ []) before after
  takes_more [] turn before mid after is takes = (after, subst (λ (n : ℕ). TakesSteps members turn.1.shown_view.value turn.1.schema turn.1.shown.points (line_meaning turn.1.schema turn.0) n after) is takes, refl)
  takes_more (other ∷ turns) turn before mid after more takes = (more.0, more.1, takes_more turns turn more.0 mid after more.2 takes)

  -- a viewer that went over turns goes on, and over one turn more
  goes_further : (viewer now after : Viewer V C members) (turns : List LineSeen) → GoesOver viewer turns now → IsSameViewer now after → GoesOver viewer turns after
  goes_further viewer now after [] goes on = keeps_on goes on
  goes_further viewer now after (turn ∷ turns) goes on = (goes.0, goes_further turn.1 now after turns goes.1 on)

  goes_more : (viewer now : Viewer V C members) (turns : List LineSeen) (turn : LineSeen) → GoesOver viewer turns now → IsSameViewer now turn.1 → GoesOver viewer (turns ++ turn ∷ []) turn.1
  goes_more viewer now [] turn goes on = (keeps_on goes on, same turn.1)
  goes_more viewer now (other ∷ turns) turn goes on = (goes.0, goes_more other.1 now turns turn goes.1 on)

  -- one turn more
  took_more : (viewer viewer' : Viewer V C members) (now after : Cutter I) (steps steps' : ℕ) (line : Line) → IsSameViewer viewer viewer' → TookSoFar viewer now steps → PassesLine script.left script.faults viewer'.schema now after line → TakesSteps members viewer'.shown_view.value viewer'.schema viewer'.shown.points (line_meaning viewer'.schema line) steps steps' → TookSoFar viewer' after steps'
  took_more viewer viewer' now after steps steps' line on took passes takes = record {
    turns = took.turns ++ (line, viewer') ∷ [];
    passed = subst (Passes script.left script.faults source after) (sym (map-append line_of took.turns ((line, viewer') ∷ []))) (passes_on script.left script.faults source now after (map line_of took.turns) (line ∷ []) took.passed passes.passed);
    given = let longer = length-append took.turns ((line, viewer') ∷ []) in omega (arith, took.given, passes.further.0, longer);
    viewers = goes_more first viewer took.turns (line, viewer') took.viewers on;
    takes = takes_more took.turns (line, viewer') start steps steps' took.takes takes;
  }

  -- what a turn took that ended so, or read a line
  abbrev TurnTook : Type 0 → Viewer V C members → Cutter I → Cutter I → ℕ → ℕ → Type 0
  TurnTook Ended viewer now after steps steps' = ((steps' ≡ steps) × Ended) ⊎ ((line : Line) × PassesLine script.left script.faults viewer.schema now after line × TakesSteps members viewer.shown_view.value viewer.schema viewer.shown.points (line_meaning viewer.schema line) steps steps')

  -- after a turn that read a line
  pub took_on : (viewer viewer' : Viewer V C members) (now after : Cutter I) (steps steps' : ℕ) {Ended : Type 0} → IsSameViewer viewer viewer' → TookSoFar viewer now steps → (Ended → TookSoFar viewer' after steps') → TurnTook Ended viewer' now after steps steps' → TookSoFar viewer' after steps'
  took_on viewer viewer' now after steps steps' on took not_ended (inl none) = not_ended none.1
  took_on viewer viewer' now after steps steps' on took not_ended (inr (line, passes, takes)) = took_more viewer viewer' now after steps steps' line on took passes takes

  -- what a run took that ends here
  run_costs : {T : Type 0} (result : Result T SessionFault) (viewer : Viewer V C members) (now after : Cutter I) (steps : ℕ) → TookSoFar viewer now steps → (IsOk result → after.given ≡ now.given) → RunCosts script first viewer source after start steps result
  run_costs result viewer now after steps took same_given = record {
    turns = took.turns;
    read = first_lines (lines_left script.left source) (lines_left script.left now) (map line_of took.turns) took.passed.covers;
    given = λ done. same_given done ∙ took.given;
    viewers = took.viewers;
    steps = took.takes;
  }

  -- and what one took whose last turn ended with this viewer
  pub costs_at_end : {T : Type 0} (result : Result T SessionFault) (viewer viewer' : Viewer V C members) (now after : Cutter I) (steps steps' : ℕ) {Ended Done : Type 0} → (IsOk result → Done) → IsSameViewer viewer viewer' → TookSoFar viewer now steps → TurnTook (Ended × (Done → after.given ≡ now.given)) viewer' now after steps steps' → RunCosts script first viewer' source after start steps' result
  costs_at_end result viewer viewer' now after steps steps' done on took (inl none) =
      run_costs result viewer' now after steps'
      (record {
        turns = took.turns;
        passed = took.passed;
        given = took.given;
        viewers = goes_further first viewer viewer' took.turns took.viewers on;
        takes = subst (TakesForEach took.turns start) (sym none.0) took.takes;
      })
      (λ ok. none.1.1 (done ok))
  costs_at_end result viewer viewer' now after steps steps' done on took (inr (line, passes, takes)) =
      run_costs result viewer' after after steps' (took_more viewer viewer' now after steps steps' line on took passes takes) (λ ok. refl)
