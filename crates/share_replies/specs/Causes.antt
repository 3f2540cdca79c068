-- Which cause each end of adding the replies of shares has, and what it leaves.
use Rattle.std.specs.Prelude.{◌≡◌, ◌≢◌, ◌⊎◌, ℕ, ◌+◌, ◌≤◌, List, [], ◌∷◌, ◌++◌, take, Option, Some, None, Result, Ok, Err, IfErr, IsOk, ⊤}
use Rattle.std.specs.Result.{result_err}
use Rattle.cube_schema.specs.Meaning.{plan_meaning}
use Rattle.cube_schema.specs.declared.fault.PlanFault.{PlanFault}
use Rattle.outer_io.specs.Files.{Files, file_or_empty}
use Rattle.outer_io.specs.Told.{Told}
use Rattle.run_files.specs.Leaving.{FailsAtLast, LeavesPlace}
use Rattle.run_files.specs.Outside.{file_of, PlaceSeen, Silent, SinkSeen}
use Rattle.run_files.specs.Planned.{RefusesPlan}
use Rattle.run_files.specs.declared.stop.Stop.{Stop}
use Rattle.run_files.specs.declared.stop.Stop.TheVariants.{NoMemory, PlanRefused, ReadFault, WriteFault, FeedRefused}
use Rattle.share_replies.specs.Ends.{FailsToSayShares, FileNames, TakesShares}
use Rattle.share_replies.specs.Lengths.{AreFilesShort, HasLongFile}
use Rattle.share_replies.specs.Texts.{PutsFirst}
use Rattle.share_replies.specs.declared.adding.Outcome.{Outcome}
use Rattle.share_replies.specs.declared.fault.FileFault.{FileFault}
use Rattle.share_replies.specs.declared.fault.FileFault.TheVariants as file
use Rattle.share_replies.specs.declared.fault.SharesFault.{SharesFault}
use Rattle.share_replies.specs.declared.fault.SharesFault.TheVariants as shares
use Rattle.share_replies.specs.declared.summed.Summed.{Summed}

-- the end of reading that a fault of a file is, if it is one
abbrev pub stop_of_file : FileFault → Option Stop
stop_of_file (file.Stopped stop) = Some stop
stop_of_file (file.Wrong line w) = None

-- and an answer
abbrev pub stop_in_file : {T : Type 0} → Result T FileFault → Option Stop
stop_in_file (Ok x) = None
stop_in_file (Err fault) = stop_of_file fault

-- What reading the named files, in order, leaves of a place, by what ends it
pub record ReadsFiles {P : Type 0} (p : PlaceSeen P) (place place' : P) (names : List (List ℕ)) (stop : Option Stop) : Type 0 where
  -- they are opened up to the first trouble, and a read fault comes only where the count of reading rose
  pub leaves : LeavesPlace p place place' names [] stop
  -- one that could not be read is the last that was opened
  pub first : stop ≡ Some ReadFault → FailsAtLast p place leaves.opens
  -- they are refused only where one is long
  pub long : stop ≡ Some FeedRefused → Told (p.files place) (λ files. HasLongFile files names)
  -- and none is where nothing ends it
  pub short : stop ≡ None → Told (p.files place) (λ files. AreFilesShort files names)
  -- no other end comes than these and want of memory
  pub ends : (stop ≢ Some PlanRefused) × (stop ≢ Some WriteFault)

-- what reading so many of them leaves, where this ends it
abbrev pub ReadsFront : {P : Type 0} → PlaceSeen P → P → P → List (List ℕ) → Stop → Type 0
ReadsFront p place place' names stop = (count : ℕ) × ReadsFiles p place place' (take count names) (Some stop)

-- what reading the first files and then the replies of shares leaves, by what is answered of these: with sums all were
-- read, and with a wrong share the replies up to its own
abbrev pub ReadsReplies : {P : Type 0} → PlaceSeen P → P → P → List (List ℕ) → List (List ℕ) → Result (List (Option Summed)) SharesFault → Type 0
ReadsReplies p place place' first names (Ok sums) = ReadsFiles p place place' (first ++ names) None
ReadsReplies p place place' first names (Err (shares.Stopped stop)) = ReadsFront p place place' (first ++ names) stop
ReadsReplies p place place' first names (Err (shares.Wrong k line w)) = ReadsFiles p place place' (first ++ take (k + 1) names) None

-- the plan is refused, or was not read, or memory ran out
abbrev pub EndsAtPlan : Result Outcome Stop → Type 0
EndsAtPlan result = (result ≡ Err PlanRefused) ⊎ (result ≡ Err ReadFault) ⊎ (result ≡ Err NoMemory)

-- the ends that no file is the cause of: want of memory, and the faults of a place and of a sink
abbrev pub IsOutsideEnd : Stop → Type 0
IsOutsideEnd NoMemory = ⊤
IsOutsideEnd PlanRefused = ⊥
IsOutsideEnd ReadFault = ⊤
IsOutsideEnd WriteFault = ⊤
IsOutsideEnd FeedRefused = ⊥

-- What adding the replies of shares leaves of a place
pub record OpensShares {P : Type 0} (p : PlaceSeen P) (place place' : P) (names : FileNames) (result : Result Outcome Stop) : Type 0 where
  -- so many of the files, from the front, were to be opened
  pub count : ℕ
  -- they were, in order, up to the first trouble; nothing is created, and a read fault comes only where the count of
  -- reading rose
  pub leaves : LeavesPlace p place place' (take count (names.plan ∷ names.script ∷ names.replies)) [] (result_err result)
  -- one that could not be read is the last that was opened
  pub first : result ≡ Err ReadFault → FailsAtLast p place leaves.opens
  -- where the plan is refused, or is none, no other file was
  pub refused_plan : result ≡ Err PlanRefused → count ≤ 1
  pub no_plan : Told (p.files place) (λ files. (fault : PlanFault) → plan_meaning (file_or_empty files names.plan) ≡ Err fault → count ≤ 1)

-- What it leaves of a sink, where these files are told
pub record LeavesSink {O : Type 0} (s : SinkSeen O) (out out' : O) (told : Option Files) (names : FileNames) (result : Result Outcome Stop) : Type 0 where
  -- a plan is refused only where the bytes are none, which is said
  pub refused_plan : result ≡ Err PlanRefused → RefusesPlan s out out' (file_of told names.plan)
  -- a write fault comes only where a put of what is said of the shares failed: a part of it was put, and the count rose
  pub unsaid : result ≡ Err WriteFault → FailsToSayShares s out out' told names
  -- where memory ran out nothing was put, or the lines of the first totals, where all shares are right
  pub lacks : result ≡ Err NoMemory → Silent s out out' ⊎ TakesShares told names (PutsFirst s out out')
  -- where a file was not read, or is refused, nothing was put
  pub silent : (result ≡ Err ReadFault) ⊎ (result ≡ Err FeedRefused) → Silent s out out'

-- Which end it has of which files
pub record EndsByFiles (told : Option Files) (names : FileNames) (result : Result Outcome Stop) : Type 0 where
  -- where the plan's bytes are none it is refused, unless it is not read or memory ran out
  pub no_plan : Told told (λ files. (fault : PlanFault) → plan_meaning (file_or_empty files names.plan) ≡ Err fault → EndsAtPlan result)
  -- a script or replies are refused only where one has more than 2^30 bytes
  pub refused : result ≡ Err FeedRefused → Told told (λ files. HasLongFile files (names.script ∷ names.replies))
  -- with a plan and texts that are short, sums are put or a share is refused, or the end is one that no file is the
  -- cause of
  pub complete : Told told (λ files. IsOk (plan_meaning (file_or_empty files names.plan)) → AreFilesShort files (names.script ∷ names.replies) → IfErr result IsOutsideEnd)
