-- What taking an image as a cube leaves of a sink, and answers.
use Rattle.std.specs.Prelude.{◌≢◌, ℕ, List, Option, Some, None, Result, Ok, Err}
use Rattle.cube_store.specs.declared.cube.Cube.{Cube}
use Rattle.cube_view.specs.declared.schema.Schema.{Schema}
use Rattle.image_cube.specs.CubeImages.{IsCubeOfImage}
use Rattle.image_cube.specs.Read.{Refuses}
use Rattle.image_cube.specs.declared.fault.ImageFault.{ImageFault}
use Rattle.image_cube.specs.declared.fault.ImageFault.TheVariants as image_fault
use Rattle.image_run.specs.Lines.{image_line}
use Rattle.run_files.specs.Outside.{FailsToPut, Puts, Silent, SinkSeen}
use Rattle.run_files.specs.declared.stop.Stop.{Stop}
use Rattle.run_files.specs.declared.stop.Stop.TheVariants as stop

module _ {O : Type 0} (s : SinkSeen O) (out out' : O) (schema : Schema) (bytes : List ℕ) where
  -- The bytes are refused for a fault other than want of memory, of which this is said
  pub record RefusesImage (Says : List ℕ → Type 0) : Type 0 where
    pub fault : ImageFault
    pub of_bytes : fault ≢ image_fault.NoMemory
    pub refuses : Refuses schema bytes fault
    pub says : Says (image_line fault)

  -- The answer is the cube of the bytes, or none where they are refused, which is said, or how the run ends
  abbrev pub TakesImage : Result (Option Cube) Stop → Type 0
  TakesImage (Ok (Some cube)) = IsCubeOfImage schema bytes cube × Silent s out out'
  TakesImage (Ok None) = RefusesImage (Puts s out out')
  TakesImage (Err stop.WriteFault) = RefusesImage (FailsToPut s out out')
  TakesImage (Err stop.NoMemory) = Silent s out out'
  TakesImage (Err stop.PlanRefused) = ⊥
  TakesImage (Err stop.ReadFault) = ⊥
  TakesImage (Err stop.FeedRefused) = ⊥
