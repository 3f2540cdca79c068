-- What loading a feed leaves.
use Rattle.std.specs.Prelude.{◌≡◌, ◌≢◌, ℕ, true, false, List, [], ◌∷◌, ◌++◌, map, take, Some, Result, IfErr, OnOk, IsErrOf}
use Rattle.run_files.specs.Outside.{PlaceSeen}
use Rattle.run_files.specs.declared.stop.Stop.{Stop}
use Rattle.run_files.specs.declared.stop.Stop.TheVariants.{PlanRefused, ReadFault, WriteFault, FeedRefused}
use Rattle.cube_view.specs.Bag.{Counts, CountsMore}
use Rattle.cube_view.specs.Points.{Point}
use Rattle.cube_view.specs.declared.schema.Schema.{Schema}
use Rattle.cube_view.specs.declared.view.CubeView as CubeView
use Rattle.feed_reader.specs.Feeds.{accepted, is_feed_refused, points_in}
use Rattle.feed_reader.specs.Rows.{row_of_line}
use Rattle.outer_io.specs.Cutting.{Cutter}
use Rattle.outer_io.specs.Faults.{HasCause}
use Rattle.outer_io.specs.Files.{Files, file_or_empty}
use Rattle.outer_io.specs.Lines.{Line}
use Rattle.outer_io.specs.Progress.{PassesAll}
use Rattle.outer_io.specs.declared.source.Source as Source

-- the lists of points that a view counts
abbrev pub counted_by : {V C : Type 0} → CubeView.Ghosts V C → V → List Point → Type 0
counted_by view v = Counts (view.weight_at v) (view.seen v)

-- all lines that were left were read, and the view that counted some lists counts each with the points of their rows
pub record KeepsRows {S V C : Type 0} (source : Source.Ghosts S) (view : CubeView.Ghosts V C) (places : List ℕ) (before after : Cutter S) (cube cube' : V) : Type 0 where
  pub lines : List Line
  pub passed : PassesAll source.left source.faults before after lines
  pub kept : CountsMore (counted_by view cube) (counted_by view cube') (points_in (map (row_of_line (view.schema cube) places) lines))

-- the feed is not refused, and its accepted records are counted
abbrev pub TakesFeed : Schema → (List Point → Type 0) → List ℕ → Type 0
TakesFeed schema counts feed = (is_feed_refused schema feed ≡ false) × counts (accepted schema feed)

-- what loading the named feed leaves of a place, and of a view of the schema that counts these lists afterwards
pub record Loads {P : Type 0} (p : PlaceSeen P) (place place' : P) (name : List ℕ) (schema : Schema) (counts : List Point → Type 0) (result : Result (Unit {0}) Stop) : Type 0 where
  -- with Ok the feed was taken
  pub loaded : (fs : Files) → p.files place ≡ Some fs → OnOk result (TakesFeed schema counts (file_or_empty fs name))
  -- it is answered as refused only where it is
  pub refused : (fs : Files) → p.files place ≡ Some fs → IsErrOf result FeedRefused → is_feed_refused schema (file_or_empty fs name) ≡ true
  -- no other end comes than those of a feed
  pub ends : IfErr result (λ end. (end ≢ WriteFault) × (end ≢ PlanRefused))
  -- a read fault has its cause
  pub read : HasCause (p.read_faults place) (p.read_faults place') result ReadFault
  -- no file is written
  pub files : p.files place' ≡ p.files place
  pub created : p.created place' ≡ p.created place
  pub write_faults : p.write_faults place' ≡ p.write_faults place
  -- the feed was opened, once at most
  pub opened_once : (n : ℕ) × (p.opened place' ≡ p.opened place ++ take n (name ∷ []))
  -- and with Ok it was
  pub opened_it : OnOk result (p.opened place' ≡ p.opened place ++ name ∷ [])
