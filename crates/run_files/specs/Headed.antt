-- Feeds whose headers were read, and what opening them answers and puts.
use Rattle.std.specs.Prelude.{◌≡◌, ◌≢◌, ℕ, ◌+◌, ◌<◌, List, [], ◌∷◌, ◌++◌, get_or, length, Option, Some, None, Err, IsOk}
use Rattle.std.specs.List.{AllZip}
use Rattle.cube_schema.specs.declared.plan.Plan.{Plan}
use Rattle.cube_view.specs.declared.schema.Schema.{Schema}
use Rattle.feed_reader.specs.Feeds.{feed_head}
use Rattle.feed_reader.specs.Reading.{LeavesAccepted, ReadsHeader}
use Rattle.feed_reader.specs.declared.feed.NoHeader.{NoHeader}
use Rattle.feed_reader.specs.declared.feed.NoHeader.TheVariants.{Refused}
use Rattle.feed_reader.specs.declared.header.HeadFault.{HeadFault}
use Rattle.feed_reader.specs.declared.header.HeadFault.TheVariants as head
use Rattle.feed_reader.specs.declared.job.FeedJob.{FeedJob}
use Rattle.outer_io.specs.Cutting.{Cutter, IsNew}
use Rattle.outer_io.specs.Files.{Files}
use Rattle.outer_io.specs.Told.{Told}
use Rattle.run_files.specs.Lines.{head_line}
use Rattle.run_files.specs.Leaving.{FailsAtLast, LeavesPlace}
use Rattle.run_files.specs.Outside.{FailsToPut, file_of, Outside, PlaceSeen, Puts, Silent, SinkSeen}
use Rattle.run_files.specs.declared.stop.Stop.{Stop}
use Rattle.run_files.specs.declared.stop.Stop.TheVariants.{PlanRefused, ReadFault, WriteFault, FeedRefused}

module _ {S : Type 0} (left : S → Option (List ℕ)) (faults : S → ℕ) (schema : Schema) where
  -- a cutter was made of the source, and gave its first line, which is the header
  pub record ReadsHead (source : S) (feed : FeedJob S) : Type 0 where
    pub before : Cutter S
    pub made : IsNew source before
    pub header : ReadsHeader left faults schema before feed.cutter feed.header.places
    pub accepted : LeavesAccepted left schema feed.header.places before feed.cutter
    pub schema_is : feed.header.schema ≡ schema

  -- and so it is of a source that met no fault and has the bytes of the file, where they are told
  pub record IsHeaded (file : Option (List ℕ)) (feed : FeedJob S) : Type 0 where
    pub source : S
    pub left_is : Told file (λ bytes. left source ≡ Some bytes)
    pub fresh : faults source ≡ 0
    pub reads : ReadsHead source feed

  -- and so is each of these feeds, of the file of its name
  abbrev pub AreHeaded : Option Files → List (List ℕ) → List (FeedJob S) → Type 0
  AreHeaded files names feeds = AllZip (λ name. IsHeaded (file_of files name)) names feeds

-- the first line of the feed meets this fault, where it is told
abbrev pub MeetsHeadFault : Schema → Option (List ℕ) → HeadFault → Type 0
MeetsHeadFault schema file fault = Told file (λ feed. feed_head schema feed ≡ Err fault)

-- the feed of that name has no header since its first line is refused, of which this is said
abbrev pub SaysHeadFault : Schema → List ℕ → NoHeader → (List ℕ → Type 0) → Type 0
SaysHeadFault schema name met Says = (fault : HeadFault) × (met ≡ Refused fault) × Says (head_line schema name fault)

-- the first line of the feed is no header, for a fault other than want of memory, of which this is said
pub record RefusesHead (schema : Schema) (file : Option (List ℕ)) (name : List ℕ) (Says : List ℕ → Type 0) : Type 0 where
  pub fault : HeadFault
  pub of_line : fault ≢ head.NoMemory
  pub refused : MeetsHeadFault schema file fault
  pub says : Says (head_line schema name fault)

-- of these feeds the last is refused
pub record RefusesLast (schema : Schema) (file : List ℕ → Option (List ℕ)) (names : List (List ℕ)) (Says : List ℕ → Type 0) : Type 0 where
  pub earlier : List (List ℕ)
  pub name : List ℕ
  pub names_are : names ≡ earlier ++ name ∷ []
  pub refuses : RefusesHead schema (file name) name Says

-- the first line of the feed is a header, where it is told
abbrev pub HasHeader : Schema → Option (List ℕ) → Type 0
HasHeader schema file = Told file (λ feed. IsOk (feed_head schema feed))

-- What opening feeds and reading their headers leaves of a place and a sink, by what ends the run with it, if it does
pub record OpensFeeds {P O : Type 0} (p : PlaceSeen P) (s : SinkSeen O) (schema : Schema) (before after : Outside P O) (names : List (List ℕ)) (stop : Option Stop) : Type 0 where
  pub leaves : LeavesPlace p before.place after.place names [] stop
  -- the first trouble ends the run: each feed that was opened before another one has a header
  pub headed : (i : ℕ) → i + 1 < length leaves.opens → HasHeader schema (file_of (p.files before.place) (get_or leaves.opens i []))
  -- a read fault ends it at the feed that was opened last
  pub first : stop ≡ Some ReadFault → FailsAtLast p before.place leaves.opens
  -- the one that was opened last is refused, which is said, or a part of it where the put fails
  pub refused : stop ≡ Some FeedRefused → RefusesLast schema (file_of (p.files before.place)) leaves.opens (Puts s before.out after.out)
  pub unsaid : stop ≡ Some WriteFault → RefusesLast schema (file_of (p.files before.place)) leaves.opens (FailsToPut s before.out after.out)
  -- else nothing is put
  pub silent : stop ≢ Some FeedRefused → stop ≢ Some WriteFault → Silent s before.out after.out
  pub ends : stop ≢ Some PlanRefused

-- These feeds of the plan were opened, and the run ends at the last one of them, or before the next
pub record EndsAtFeeds {P O : Type 0} (p : PlaceSeen P) (s : SinkSeen O) (plan : Plan) (before after : Outside P O) (opens makes : List (List ℕ)) (stop : Option Stop) : Type 0 where
  pub unopened : List (List ℕ)
  pub feeds_are : plan.feeds ≡ opens ++ unopened
  pub ends : (stop ≢ None) × (stop ≢ Some PlanRefused)
  -- nothing was created
  pub unmade : makes ≡ []
  -- each feed that was opened before another one has a header
  pub headed : (i : ℕ) → i + 1 < length opens → HasHeader plan.schema (file_of (p.files before.place) (get_or opens i []))
  -- the one that was opened last is refused, which is said, or a part of it where the put fails
  pub refused : stop ≡ Some FeedRefused → RefusesLast plan.schema (file_of (p.files before.place)) opens (Puts s before.out after.out)
  pub unsaid : stop ≡ Some WriteFault → RefusesLast plan.schema (file_of (p.files before.place)) opens (FailsToPut s before.out after.out)
  -- else nothing was put
  pub silent : stop ≢ Some FeedRefused → stop ≢ Some WriteFault → Silent s before.out after.out
