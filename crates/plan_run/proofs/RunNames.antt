-- Which names and files a run leaves changed.
use Rattle.std.proofs.Common.{◌≡◌, ℕ, Bool, List, [], ◌∷◌, ◌++◌, codes, map, append-nil, Option, Some, None, refl, ap, subst, ◌∙◌}
use Rattle.std.specs.List.{AllZip}
use Rattle.live_session.specs.declared.done.SessionDone.{SessionDone}
use Rattle.cube_crew.specs.Crewed.{LeavesTranscript, closing}
use Rattle.cube_schema.specs.Repeats.{outputs}
use Rattle.cube_view.specs.Points.{Point}
use Rattle.cube_view.specs.declared.schema.Schema.{Schema}
use Rattle.cube_view.specs.declared.stat.Stat.{Stat}
use Rattle.live_session.specs.State.{SessionState}
use Rattle.outer_io.specs.Files.{Files}
use Rattle.run_files.specs.Leaving.{KeepsOthers, LeavesNames, LeavesPlace}
use Rattle.run_files.specs.Outside.{PlaceSeen, SinkSeen, SourceSeen}
use Rattle.plan_run.specs.Parts.{ends_seen}
use Rattle.plan_run.specs.Ready.{IsSessionOf}

-- what keeps the others of these names twice keeps them
pub KeepsOthers-twice : (before now after : Option Files) (names : List (List ℕ)) → KeepsOthers before now names → KeepsOthers now after names → KeepsOthers before after names
KeepsOthers-twice None now after names one two = tt
KeepsOthers-twice (Some files) None after names one two = absurd one
KeepsOthers-twice (Some files) (Some now) None names one two = absurd two
KeepsOthers-twice (Some files) (Some now) (Some last) names one two = λ other apart. two other apart ∙ one other apart

module _ {I O : Type 0} (i : SourceSeen I) (s : SinkSeen O) (files : Option Files) where
  -- the sinks of sessions are named by the outputs of their scripts
  pub sessions_named : (names : List (List ℕ)) (sessions : List (SessionState I O)) → AllZip (IsSessionOf i.left i.faults s files) names sessions → map s.name (map (λ (session : SessionState I O). session.sink) sessions) ≡ outputs names
  sessions_named [] [] ready = refl
  sessions_named [] (b ∷ sessions) ready = absurd ready
  sessions_named (n ∷ names) [] ready = absurd ready
  sessions_named (n ∷ names) (b ∷ sessions) ready =
      ap (λ name. name ∷ map s.name (map (λ (session : SessionState I O). session.sink) sessions)) ready.0.output.name_is ∙ ap (λ ns. (n ++ codes ".out") ∷ ns) (sessions_named names sessions ready.1)

  -- and so are those of sessions that have run
  pub dones_named : (is_stat : Stat → Type 0) (schema : Schema) (final closed starved : Bool) (points : List Point) (names : List (List ℕ)) (befores : List (SessionState I O)) (dones : List (SessionDone I O))
      → AllZip (IsSessionOf i.left i.faults s files) names befores → AllZip (LeavesTranscript (ends_seen i s) is_stat schema final (closing closed starved points)) befores dones
      → map s.name (map (λ (done : SessionDone I O). done.sink) dones) ≡ outputs names
  dones_named is_stat schema final closed starved points [] [] [] ready leave = refl
  dones_named is_stat schema final closed starved points [] [] (d ∷ dones) ready leave = absurd leave
  dones_named is_stat schema final closed starved points [] (b ∷ befores) dones ready leave = absurd ready
  dones_named is_stat schema final closed starved points (n ∷ names) [] dones ready leave = absurd ready
  dones_named is_stat schema final closed starved points (n ∷ names) (b ∷ befores) [] ready leave = absurd leave
  dones_named is_stat schema final closed starved points (n ∷ names) (b ∷ befores) (d ∷ dones) ready leave =
      ap (λ name. name ∷ map s.name (map (λ (done : SessionDone I O). done.sink) dones)) (leave.0.named ∙ ready.0.output.name_is)
      ∙ ap (λ ns. (n ++ codes ".out") ∷ ns) (dones_named is_stat schema final closed starved points names befores dones ready.1 leave.1)

module _ {P : Type 0} (p : PlaceSeen P) where
  -- a run that goes on after a stage, and changes files that were created alone, leaves the names that it leaves
  unfoldable pub names_then : (a b c : P) (inputs outputs : List (List ℕ)) → LeavesPlace p a b inputs outputs None → p.opened c ≡ p.opened b → p.created c ≡ p.created b → KeepsOthers (p.files b) (p.files c) outputs → LeavesNames p a c inputs outputs
  names_then a b c inputs outputs stage opened created others =
      let made : outputs ≡ stage.makes = stage.outputs_are ∙ ap (λ ns. stage.makes ++ ns) (stage.makes_all refl) ∙ append-nil stage.makes in
      record {
        opens = stage.opens;
        unopened = stage.unopened;
        inputs_are = stage.inputs_are;
        opened = opened ∙ stage.opened;
        makes = stage.makes;
        unmade = stage.unmade;
        outputs_are = stage.outputs_are;
        created = created ∙ stage.created;
        opens_first = stage.opens_first;
        others = KeepsOthers-twice (p.files a) (p.files b) (p.files c) stage.makes stage.others (subst (KeepsOthers (p.files b) (p.files c)) made others);
      }
