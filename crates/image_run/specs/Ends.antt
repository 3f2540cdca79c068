-- How answering a script over an image ends, and what it leaves.
use Rattle.std.specs.Prelude.{◌≡◌, ◌≢◌, ◌⊎◌, ℕ, Bool, true, false, List, [], ◌∷◌, ◌++◌, length, take, Option, Some, None, IfSome, Result, Ok, Err}
use Rattle.cube_schema.specs.declared.plan.Plan.{Plan}
use Rattle.cube_store.specs.Numbers.{OwnsAllButRoot}
use Rattle.cube_view.specs.Points.{Point}
use Rattle.cube_view.specs.declared.schema.Schema.{Schema}
use Rattle.image_cube.specs.CubeImages.{IsCubeImage}
use Rattle.image_cube.specs.Read.{Refuses}
use Rattle.image_cube.specs.declared.fault.ImageFault.{ImageFault}
use Rattle.image_cube.specs.declared.fault.ImageFault.TheVariants as image_fault
use Rattle.outer_io.specs.Faults.{Rose}
use Rattle.outer_io.specs.Files.{Files, file_or_empty}
use Rattle.outer_io.specs.Lines.{lines}
use Rattle.run_files.specs.FaultCounts.{KeepsFaults}
use Rattle.run_files.specs.Leaving.{FailsAtLast}
use Rattle.run_files.specs.Outside.{file_of, Outside, PlaceSeen, Puts, PutsOrFails, Silent, SinkSeen}
use Rattle.run_files.specs.Planned.{MayHavePlan, RefusesPlan}
use Rattle.run_files.specs.Stops.{is_lacking, IsOrLacks}
use Rattle.run_files.specs.declared.stop.Stop.{Stop}
use Rattle.run_files.specs.declared.stop.Stop.TheVariants.{ReadFault, FeedRefused}
use Rattle.session_core.specs.Answered.{GainsReplies, GainsFront}
use Rattle.session_core.specs.Asked.{asked}
use Rattle.session_core.specs.Scripts.{is_script_refused}
use Rattle.image_run.specs.Lines.{image_line}
use Rattle.image_run.specs.Names.{ImageNames}
use Rattle.image_run.specs.declared.end.ImageEnd.{ImageEnd}
use Rattle.image_run.specs.declared.end.ImageEnd.TheVariants.{Done, Refused}

-- the bytes are the image of a cube of the schema, whatever it counts
abbrev pub IsAcceptedImage : Schema → List ℕ → Type 0
IsAcceptedImage schema bytes = ∥ ((h : List Point) × IsCubeImage schema bytes h) ∥₁

-- the bytes are refused, for a fault other than want of memory
abbrev pub IsRefusedFor : Schema → List ℕ → ImageFault → Type 0
IsRefusedFor schema bytes fault = (fault ≢ image_fault.NoMemory) × Refuses schema bytes fault

-- what a sink gains of an image and a script under a schema
module _ {O : Type 0} (s : SinkSeen O) (out out' : O) (schema : Schema) (image script : List ℕ) where
  -- the replies to all that the script asks, over each list of points of whose cubes the bytes are the image, each of
  -- which was told; the numbers of `stat` are those of a cube
  pub record GainsImageAnswers : Type 0 where
    pub accepted : IsAcceptedImage schema image
    pub gains : (h : List Point) → IsCubeImage schema image h → GainsReplies schema OwnsAllButRoot h (length h) false (s.held out) (s.held out') (asked schema (lines script))

  -- a part of them, from the front, or nothing; a reply may be the line for want of memory, or may not
  pub record GainsSomeImageAnswers (lacking : Bool) : Type 0 where
    pub accepted : IsAcceptedImage schema image
    pub gains : (h : List Point) → IsCubeImage schema image h → GainsFront schema OwnsAllButRoot h (length h) lacking (s.held out) (s.held out') (asked schema (lines script))

-- the names of the files that a load opens after the plan, where there is one
abbrev pub later_names : ImageNames → Option Plan → List (List ℕ)
later_names names None = []
later_names names (Some plan) = names.image ∷ names.script ∷ []

-- what answering the named script over the named image leaves of a place and a sink
module _ {P O : Type 0} (p : PlaceSeen P) (s : SinkSeen O) (before after : Outside P O) (names : ImageNames) where
  -- the claim holds of the bytes of the image and the script, where the place tells its files
  abbrev pub OfLoadFiles : (List ℕ → List ℕ → Type 0) → Type 0
  OfLoadFiles Claim = (files : Files) → p.files before.place ≡ Some files → Claim (file_or_empty files names.image) (file_or_empty files names.script)

  -- The image is refused, and this is said of its fault
  pub record SaysFault (schema : Schema) (Says : List ℕ → Type 0) : Type 0 where
    pub fault : ImageFault
    pub refuses : OfLoadFiles (λ i q. IsRefusedFor schema i fault)
    pub says : Says (image_line fault)

  -- what is put: nothing, or the line of a refused plan, or that of a refused image, or a part of it, or some answers
  abbrev pub SaysOfLoad : Option Plan → Result ImageEnd Stop → Type 0
  SaysOfLoad None result = Silent s before.out after.out ⊎ RefusesPlan s before.out after.out (file_of (p.files before.place) names.plan)
  SaysOfLoad (Some plan) result = Silent s before.out after.out ⊎ SaysFault plan.schema (PutsOrFails s before.out after.out) ⊎ OfLoadFiles (λ i q. GainsSomeImageAnswers s before.out after.out plan.schema i q (is_lacking result))

  -- How it ends
  pub record LoadEnds (result : Result ImageEnd Stop) : Type 0 where
    -- the plan, where the file of that name was read and is one
    pub planned : MayHavePlan s before.out after.out (file_of (p.files before.place) names.plan) (λ end. result ≡ Err end)
    -- with Done the image was accepted, the sink gained all answers, and the script is not refused
    pub done : result ≡ Ok Done → (which : Plan) × (planned.plan ≡ Some which) × OfLoadFiles (λ i q. GainsImageAnswers s before.out after.out which.schema i q × (is_script_refused which.schema q ≡ false))
    -- with Refused the image is refused, which is said, and the script was not opened
    pub refused_image : result ≡ Ok Refused → (which : Plan) × (planned.plan ≡ Some which) × SaysFault which.schema (Puts s before.out after.out) × (p.opened after.place ≡ p.opened before.place ++ names.plan ∷ names.image ∷ [])
    -- a script is refused only where it is, and then the sink gained all answers
    pub refused : result ≡ Err FeedRefused → (which : Plan) × (planned.plan ≡ Some which) × OfLoadFiles (λ i q. GainsImageAnswers s before.out after.out which.schema i q × (is_script_refused which.schema q ≡ true))
    -- of what is put nothing else comes
    pub said : SaysOfLoad planned.plan result
    -- the plan was opened, and under a plan the image and then the script, each once at most, and all with Done
    pub opened : (k : ℕ) × (p.opened after.place ≡ p.opened before.place ++ take k (names.plan ∷ later_names names planned.plan))
    -- one that could not be read is the last that was opened
    pub first : result ≡ Err ReadFault → FailsAtLast p before.place (take opened.0 (names.plan ∷ later_names names planned.plan))
    pub opened_all : result ≡ Ok Done → p.opened after.place ≡ p.opened before.place ++ names.plan ∷ names.image ∷ names.script ∷ []
    -- the script only where the image was accepted
    pub opened_last : p.opened after.place ≡ p.opened before.place ++ names.plan ∷ names.image ∷ names.script ∷ [] → (which : Plan) × (planned.plan ≡ Some which) × OfLoadFiles (λ i q. IsAcceptedImage which.schema i)
    -- each fault has its cause, and no file is written
    pub faults : KeepsFaults p s before after result
    -- where there is a plan and no count rose, the run is done with an image that is accepted and a script that is not
    -- refused, and a refused image is refused, unless memory was wanted
    pub complete : ¬ Rose (p.read_faults before.place) (p.read_faults after.place) → ¬ Rose (s.faults before.out) (s.faults after.out)
        → IfSome planned.plan (λ which. OfLoadFiles (λ i q. (IsAcceptedImage which.schema i → is_script_refused which.schema q ≡ false → IsOrLacks Done result) × ((fault : ImageFault) → IsRefusedFor which.schema i fault → IsOrLacks Refused result)))
