-- What a stage of a run leaves of a place.
use Rattle.std.specs.Prelude.{◌≡◌, ◌≢◌, ℕ, List, [], ◌∷◌, ◌++◌, All, Contains, Option, Some, None, IsSome, IsSomeAnd, ◌⊎◌}
use Rattle.std.specs.FinMap.{get}
use Rattle.outer_io.specs.Faults.{Rose}
use Rattle.outer_io.specs.Files.{Files, HasFile}
use Rattle.outer_io.specs.Told.{Told}
use Rattle.run_files.specs.Outside.{PlaceSeen}
use Rattle.run_files.specs.declared.stop.Stop.{Stop}
use Rattle.run_files.specs.declared.stop.Stop.TheVariants.{NoMemory, ReadFault, WriteFault}

-- files that were told are told still, and only files of these names may have changed
abbrev pub KeepsOthers : Option Files → Option Files → List (List ℕ) → Type 0
KeepsOthers before after names = Told before (λ files. IsSomeAnd after (λ now. (other : List ℕ) → ¬ Contains names other → get now other ≡ get files other))

-- The last of these names, which were opened one after another, is the first at which a read failed
pub record FailsAtLast {P : Type 0} (p : PlaceSeen P) (before : P) (opens : List (List ℕ)) : Type 0 where
  pub earlier : List (List ℕ)
  pub last : List ℕ
  pub opens_are : opens ≡ earlier ++ last ∷ []
  -- the place was this when the earlier ones were opened, and no read had failed
  pub reached : P
  pub opened : p.opened reached ≡ p.opened before ++ earlier
  pub quiet : p.read_faults reached ≡ p.read_faults before

-- The last of these names, which were created one after another, is the first at which a write may have failed
pub record FailsAtLastMade {P : Type 0} (p : PlaceSeen P) (before : P) (makes : List (List ℕ)) : Type 0 where
  pub earlier : List (List ℕ)
  pub last : List ℕ
  pub makes_are : makes ≡ earlier ++ last ∷ []
  -- the place was this when the earlier ones were created, and no write had failed
  pub reached : P
  pub created : p.created reached ≡ p.created before ++ earlier
  pub quiet : p.write_faults reached ≡ p.write_faults before

-- What a run leaves of the names and the files of a place, which is to open and then to create these names
pub record LeavesNames {P : Type 0} (p : PlaceSeen P) (before after : P) (inputs outputs : List (List ℕ)) : Type 0 where
  -- some of the inputs were opened, from the front, each once
  pub opens : List (List ℕ)
  pub unopened : List (List ℕ)
  pub inputs_are : inputs ≡ opens ++ unopened
  pub opened : p.opened after ≡ p.opened before ++ opens
  -- some of the outputs were created, from the front, each once
  pub makes : List (List ℕ)
  pub unmade : List (List ℕ)
  pub outputs_are : outputs ≡ makes ++ unmade
  pub created : p.created after ≡ p.created before ++ makes
  -- none before all inputs were opened
  pub opens_first : (makes ≡ []) ⊎ (unopened ≡ [])
  -- every file that was not created is as before
  pub others : KeepsOthers (p.files before) (p.files after) makes

-- What a stage leaves of a place, which is to open and then to create these names, by what ends the run with it, if it
-- does. The stages of a run follow each other, so this is also what several of them leave, of all their names.
pub record LeavesPlace {P : Type 0} (p : PlaceSeen P) (before after : P) (inputs outputs : List (List ℕ)) (stop : Option Stop) : Type 0 where
  -- some of the inputs were opened, from the front, each once; all where the run goes on
  pub opens : List (List ℕ)
  pub unopened : List (List ℕ)
  pub inputs_are : inputs ≡ opens ++ unopened
  pub opened : p.opened after ≡ p.opened before ++ opens
  pub opens_all : stop ≡ None → unopened ≡ []
  -- some of the outputs were created, from the front, each once; all where the run goes on
  pub makes : List (List ℕ)
  pub unmade : List (List ℕ)
  pub outputs_are : outputs ≡ makes ++ unmade
  pub created : p.created after ≡ p.created before ++ makes
  pub makes_all : stop ≡ None → unmade ≡ []
  -- none before all inputs were opened
  pub opens_first : (makes ≡ []) ⊎ (unopened ≡ [])
  -- a read fault comes before any is created
  pub read_first : stop ≡ Some ReadFault → makes ≡ []
  -- each file that was created is empty, where the files are told, and where the run goes on or no write failed
  pub emptied : (stop ≢ None → ¬ Rose (p.write_faults before) (p.write_faults after)) → IsSome (p.files before) → All (λ name. HasFile (p.files after) name []) makes
  -- the count of reading rose where a read fault ends the run, and else is as before
  pub read : stop ≡ Some ReadFault → Rose (p.read_faults before) (p.read_faults after)
  pub read_quiet : stop ≢ Some ReadFault → p.read_faults after ≡ p.read_faults before
  -- the count of writing is as before where nothing was created, and where neither a write fault nor want of memory
  -- ends the run
  pub unwritten : makes ≡ [] → p.write_faults after ≡ p.write_faults before
  pub write_quiet : stop ≢ Some WriteFault → stop ≢ Some NoMemory → p.write_faults after ≡ p.write_faults before
  -- the files are as before where nothing was created, and every file that was not created is
  pub untouched : makes ≡ [] → p.files after ≡ p.files before
  pub others : KeepsOthers (p.files before) (p.files after) makes
