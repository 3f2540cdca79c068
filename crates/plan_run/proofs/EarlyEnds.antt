-- What a run leaves that ended before its threads.
use Rattle.std.proofs.Common.{◌≡◌, ℕ, List, [], ◌∷◌, ◌++◌, All, map, Option, Some, None, sym, subst, ◌∙◌}
use Rattle.std.specs.Prelude.{Contains, IsSome, IsSomeAnd, ◌⊎◌}
use Rattle.std.specs.FinMap.{get}
use Rattle.std.specs.List.{AllZip}
use Rattle.std.proofs.lemmas.Bool.{false≢true}
use Rattle.std.proofs.lemmas.List.Elements.{All-append, All-map, All-weaker}
use Rattle.cube_crew.proofs.Zips.{AllZip-right}
use Rattle.cube_schema.specs.declared.plan.Plan.{Plan}
use Rattle.live_session.specs.State.{SessionState}
use Rattle.outer_io.proofs.ToldLaws.{Told-some}
use Rattle.outer_io.specs.Files.{Files, HasFile}
use Rattle.outer_io.specs.Told.{Told}
use Rattle.run_files.proofs.EmptyFiles.{empty_given, told_still}
use Rattle.run_files.proofs.Stages.{KeepsOthers-one}
use Rattle.run_files.specs.Leaving.{KeepsOthers}
use Rattle.run_files.specs.Outside.{parts_seen, PlaceSeen, SinkSeen, SourceSeen}
use Rattle.session_core.proofs.WholeScripts.{told_by}
use Rattle.plan_run.proofs.OutputFiles.{some_is, told_pair}
use Rattle.plan_run.specs.Parts.{GivesBack}
use Rattle.plan_run.specs.Opening.{AreReady}
use Rattle.plan_run.specs.Ready.{IsSessionOf}
use Rattle.plan_run.specs.declared.parts.RunParts.{RunParts}

-- what is claimed where files are told holds where they are
of_told : (files : Option Files) (A : Type 0) → IsSome files → Told files (λ _. A) → A
of_told None A told h = absurd (false≢true told)
of_told (Some files) A told h = h

module _ {P : Type 0} (p : PlaceSeen P) (a b : P) where
  -- the files of these names are empty, where the files are told
  pub empty_made : (makes : List (List ℕ)) → KeepsOthers (p.files a) (p.files b) makes → (IsSome (p.files a) → All (λ name. HasFile (p.files b) name []) makes) → Told (p.files a) (λ files. IsSomeAnd (p.files b) (λ now. All (λ name. get now name ≡ Some []) makes))
  empty_made makes others empty = told_by (p.files a) (λ files. IsSomeAnd (p.files b) (λ now. All (λ name. get now name ≡ Some []) makes)) (λ files told.
      let now = told_pair (p.files a) (p.files b) files (λ x y. (other : List ℕ) → ¬ Contains makes other → get y other ≡ get x other) told others in
      subst (λ o. IsSomeAnd o (λ now. All (λ name. get now name ≡ Some []) makes)) (sym now.1)
      (All-weaker (λ name. HasFile (p.files b) name []) (λ name. get now.0 name ≡ Some []) (λ name has. Told-some (p.files b) now.0 (λ f. get f name ≡ Some []) now.1 has) makes (empty (some_is (p.files a) files told))))

module _ {P I O : Type 0} (p : PlaceSeen P) (i : SourceSeen I) (s : SinkSeen O) (plan : Plan) (parts : RunParts I O) (files : Option Files) (ready : AreReady i.left i.faults s files plan parts) (told : IsSome files) where
  abbrev sink_in : SessionState I O → O
  sink_in session = session.sink

  abbrev HoldsNothing : O → Type 0
  HoldsNothing sink = s.held sink ≡ Some []

  hold_nothing : (names : List (List ℕ)) (sessions : List (SessionState I O)) → AllZip (IsSessionOf i.left i.faults s files) names sessions → All HoldsNothing (map sink_in sessions)
  hold_nothing names sessions zip =
      All-map HoldsNothing sink_in sessions
      (AllZip-right (IsSessionOf i.left i.faults s files) (λ (session : SessionState I O). HoldsNothing session.sink) names sessions (λ name session is. of_told files (HoldsNothing session.sink) told is.output.holds_nothing) zip)

  -- parts that are given back before they ran leave empty what was empty
  pub given_back_empty : (a b : P) (makes : List (List ℕ)) → IsSome (p.files a) → GivesBack (parts_seen p i s) parts a b → All (λ name. HasFile (p.files a) name []) makes → All (λ name. HasFile (p.files b) name []) makes
  given_back_empty a b makes told_before back all =
      let same : p.files back.read ≡ p.files a = back.finals_back.files ∙ back.asks_back.files ∙ back.feeds_back.files in
      let told_read : IsSome (p.files back.read) = subst IsSome (sym same) told_before in
      let sinks : List O = map sink_in parts.jobs.asks ++ map sink_in parts.jobs.finals in
      let hold : All HoldsNothing sinks = All-append HoldsNothing (map sink_in parts.jobs.asks) (map sink_in parts.jobs.finals) (hold_nothing plan.asks parts.jobs.asks ready.asks) (hold_nothing plan.finals parts.jobs.finals ready.finals) in
      let told_replied = told_still (p.files back.read) (p.files back.replied) (map s.name sinks) back.sinks_back.others told_read in
      All-weaker (λ name. HasFile (p.files a) name []) (λ name. HasFile (p.files b) name []) (λ name has.
      empty_given (p.files back.replied) (p.files b) (s.name parts.journal) name (s.held parts.journal) back.kept told_replied (of_told files (HoldsNothing parts.journal) told ready.journal.holds_nothing)
      (KeepsOthers-one (p.files back.replied) (p.files b) (s.name parts.journal) back.journal_back.others) back.journal_back.lands
      (back.sinks_back.still_empty told_read hold name (subst (λ o. HasFile o name []) (sym same) has))) makes all
