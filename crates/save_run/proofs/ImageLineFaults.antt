-- How saving a cube ends where what is said of its image is not put.
use Rattle.std.proofs.Common.{ℕ, List, length, Err, inl, inr, refl}
use Rattle.cube_schema.specs.declared.plan.Plan.{Plan}
use Rattle.cube_store.specs.Holding.{CubeCounts, IsLeastCubeOf}
use Rattle.cube_store.specs.declared.cube.Cube.{Cube}
use Rattle.cube_view.specs.Points.{Point}
use Rattle.feed_reader.specs.declared.counts.FeedCounts.{FeedCounts}
use Rattle.image_cube.specs.CubeImages.{AreRecords, HasLongCubeImage, IsCubeImage}
use Rattle.image_cube.specs.LeastImages.{IsLeastImage}
use Rattle.image_cube.specs.declared.fault.ImageFault.TheVariants as image_fault
use Rattle.image_run.specs.Lines.{image_line}
use Rattle.run_files.specs.Outside.{at, PlaceSeen, SinkSeen}
use Rattle.run_files.specs.Saying.{SaysText}
use Rattle.run_files.specs.declared.stop.Stop.{Stop}
use Rattle.run_files.specs.declared.stop.Stop.TheVariants as stop
use Rattle.save_run.proofs.Written.{writes_nothing}
use Rattle.save_run.specs.Lines.{saved_text}
use Rattle.save_run.specs.Writing.{SavesCube, Writes}

module _ {P O : Type 0} (p : PlaceSeen P) (s : SinkSeen O) (a b : P) (out out' : O) (plan : Plan) (cube : Cube) (counts : List FeedCounts) (image : List ℕ) where
  -- that it is too long
  pub long_unsaid : (k : Stop) → ((h : List Point) → CubeCounts cube h → HasLongCubeImage cube.schema h) → SaysText {T = Unit {0}} s out out' (image_line image_fault.TooLong) (Err k) → SavesCube p s (at a out) (at a out') plan (cube, counts) image (Err k)
  long_unsaid stop.NoMemory long says = (writes_nothing p a image, says.silent refl)
  long_unsaid stop.WriteFault long says = inr (inl (record { long = long; same = refl; says = says.fails refl }))
  long_unsaid stop.PlanRefused long says = absurd (says.ends.0 refl)
  long_unsaid stop.ReadFault long says = absurd (says.ends.1 refl)
  long_unsaid stop.FeedRefused long says = absurd (says.ends.2 refl)

  -- what was written
  pub image_unsaid : (k : Stop) (bytes : List ℕ) → ((h : List Point) → CubeCounts cube h → AreRecords cube.schema h → IsCubeImage cube.schema bytes h) → ((h : List Point) → IsLeastCubeOf cube h → IsLeastImage cube.schema bytes h) → Writes p a b image bytes → SaysText {T = Unit {0}} s out out' (saved_text plan counts (length bytes)) (Err k) → SavesCube p s (at a out) (at b out') plan (cube, counts) image (Err k)
  image_unsaid stop.NoMemory bytes of_cube of_least writes says = (writes.keeps, says.silent refl)
  image_unsaid stop.WriteFault bytes of_cube of_least writes says = inr (inr (record { bytes = bytes; of_cube = of_cube; of_least = of_least; writes = writes; says = says.fails refl }))
  image_unsaid stop.PlanRefused bytes of_cube of_least writes says = absurd (says.ends.0 refl)
  image_unsaid stop.ReadFault bytes of_cube of_least writes says = absurd (says.ends.1 refl)
  image_unsaid stop.FeedRefused bytes of_cube of_least writes says = absurd (says.ends.2 refl)
