-- What writing the image of a cube leaves of a place and a sink.
use Rattle.std.specs.Prelude.{◌≡◌, ◌⊎◌, ℕ, List, [], ◌∷◌, ◌++◌, length, Some, IsSomeAnd, Result, Ok, Err}
use Rattle.std.specs.FinMap.{get}
use Rattle.cube_schema.specs.declared.plan.Plan.{Plan}
use Rattle.cube_store.specs.Holding.{CubeCounts, IsLeastCubeOf}
use Rattle.cube_store.specs.declared.cube.Cube.{Cube}
use Rattle.cube_view.specs.Points.{Point}
use Rattle.feed_reader.specs.declared.counts.FeedCounts.{FeedCounts}
use Rattle.image_cube.specs.CubeImages.{AreRecords, HasLongCubeImage, IsCubeImage}
use Rattle.image_cube.specs.LeastImages.{IsLeastImage}
use Rattle.image_cube.specs.declared.fault.ImageFault.TheVariants as image_fault
use Rattle.image_run.specs.Lines.{image_line}
use Rattle.image_run.specs.declared.end.ImageEnd.{ImageEnd}
use Rattle.image_run.specs.declared.end.ImageEnd.TheVariants.{Done, Refused}
use Rattle.outer_io.specs.Faults.{Rose}
use Rattle.outer_io.specs.Told.{Told}
use Rattle.run_files.specs.Leaving.{KeepsOthers}
use Rattle.run_files.specs.Outside.{FailsToPut, Outside, PlaceSeen, Puts, Silent, SinkSeen}
use Rattle.run_files.specs.declared.stop.Stop.{Stop}
use Rattle.run_files.specs.declared.stop.Stop.TheVariants.{NoMemory, PlanRefused, ReadFault, WriteFault, FeedRefused}
use Rattle.save_run.specs.Lines.{saved_text}

module _ {P : Type 0} (p : PlaceSeen P) (before after : P) (name : List ℕ) where
  -- The file of that name alone may have been written, which was then created, once
  pub record MayWrite : Type 0 where
    pub created : (p.created after ≡ p.created before) ⊎ (p.created after ≡ p.created before ++ name ∷ [])
    pub untouched : p.created after ≡ p.created before → p.files after ≡ p.files before
    pub others : KeepsOthers (p.files before) (p.files after) (name ∷ [])
    -- nothing was read
    pub opened : p.opened after ≡ p.opened before
    pub read_faults : p.read_faults after ≡ p.read_faults before

  -- The file of that name was created and has these bytes, and no write failed
  pub record Writes (bytes : List ℕ) : Type 0 where
    pub keeps : MayWrite
    pub created : p.created after ≡ p.created before ++ name ∷ []
    pub holds : Told (p.files before) (λ files. IsSomeAnd (p.files after) (λ now. get now name ≡ Some bytes))
    pub write_faults : p.write_faults after ≡ p.write_faults before

  -- the bytes were written, or how that ends the run
  abbrev pub WritesFile : List ℕ → Result (Unit {0}) Stop → Type 0
  WritesFile bytes (Ok done) = Writes bytes
  WritesFile bytes (Err NoMemory) = MayWrite
  WritesFile bytes (Err WriteFault) = MayWrite × Rose (p.write_faults before) (p.write_faults after)
  WritesFile bytes (Err PlanRefused) = ⊥
  WritesFile bytes (Err ReadFault) = ⊥
  WritesFile bytes (Err FeedRefused) = ⊥

-- `taken` is the cube and what was counted of the feeds
module _ {P O : Type 0} (p : PlaceSeen P) (s : SinkSeen O) (before after : Outside P O) (plan : Plan) (taken : Cube × List FeedCounts) (image : List ℕ) where
  -- The image of the cube was written, of which this is said
  pub record SavesImage (Says : List ℕ → Type 0) : Type 0 where
    pub bytes : List ℕ
    pub of_cube : (h : List Point) → CubeCounts taken.0 h → AreRecords taken.0.schema h → IsCubeImage taken.0.schema bytes h
    pub of_least : (h : List Point) → IsLeastCubeOf taken.0 h → IsLeastImage taken.0.schema bytes h
    pub writes : Writes p before.place after.place image bytes
    pub says : Says (saved_text plan taken.1 (length bytes))

  -- It has too many bytes, of which this is said, and the place is as before
  pub record IsTooLong (Says : List ℕ → Type 0) : Type 0 where
    pub long : (h : List Point) → CubeCounts taken.0 h → HasLongCubeImage taken.0.schema h
    pub same : after.place ≡ before.place
    pub says : Says (image_line image_fault.TooLong)

  -- The file could not be written, and nothing is said
  pub record FailsToWrite : Type 0 where
    pub keeps : MayWrite p before.place after.place image
    pub rose : Rose (p.write_faults before.place) (p.write_faults after.place)
    pub silent : Silent s before.out after.out

  -- what saving a cube leaves that counts the records of feeds, by how it ends
  abbrev pub SavesCube : Result ImageEnd Stop → Type 0
  SavesCube (Ok Done) = SavesImage (Puts s before.out after.out)
  SavesCube (Ok Refused) = IsTooLong (Puts s before.out after.out)
  SavesCube (Err NoMemory) = MayWrite p before.place after.place image × Silent s before.out after.out
  SavesCube (Err WriteFault) = FailsToWrite ⊎ IsTooLong (FailsToPut s before.out after.out) ⊎ SavesImage (FailsToPut s before.out after.out)
  SavesCube (Err PlanRefused) = ⊥
  SavesCube (Err ReadFault) = ⊥
  SavesCube (Err FeedRefused) = ⊥
