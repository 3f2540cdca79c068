-- What giving parts back leaves of a place.
use Rattle.std.specs.Prelude.{◌≡◌, ◌≢◌, ℕ, ◌==◌, ◌≤◌, not, List, [], length, map, fold, All, AllPairs, Contains, count_by, Option, Some, Result, Ok, Err, IsSome, IsSomeAnd, OnOk}
use Rattle.std.specs.FinMap.{get}
use Rattle.std.specs.List.{AllZip}
use Rattle.outer_io.specs.Faults.{Rose, RoseBy}
use Rattle.outer_io.specs.Files.{Files, HasFile, HasPart}
use Rattle.outer_io.specs.Told.{Told}
use Rattle.outer_io.specs.declared.fault.IoFault.{IoFault}
use Rattle.outer_io.specs.declared.fault.IoFault.TheVariants as fault
use Rattle.run_files.specs.Leaving.{KeepsOthers}
use Rattle.run_files.specs.Outside.{PlaceSeen, SinkSeen}
use Rattle.run_files.specs.Stops.{joined_ends, write_end}
use Rattle.run_files.specs.declared.stop.Stop.{Stop}
use Rattle.run_files.specs.declared.stop.Stop.TheVariants.{PlanRefused, ReadFault, WriteFault, FeedRefused}

-- how many of the parts met faults, of which these are the counts
abbrev pub faulty : List ℕ → ℕ
faulty counts = count_by (λ n. not (n == 0)) counts

-- Sources were given back that met so many faults each
pub record TakesSources {P : Type 0} (p : PlaceSeen P) (before after : P) (counts : List ℕ) : Type 0 where
  -- the count of reading rose once for each that met faults, and is as before where none did
  pub rose : RoseBy (faulty counts) (p.read_faults before) (p.read_faults after)
  pub quiet : All (λ n. n ≡ 0) counts → p.read_faults after ≡ p.read_faults before
  -- all else is as before
  pub files : p.files after ≡ p.files before
  pub opened : p.opened after ≡ p.opened before
  pub created : p.created after ≡ p.created before
  pub write_faults : p.write_faults after ≡ p.write_faults before

-- What the file of that name has after a sink that held these bytes was given back with this answer: the bytes, a part
-- of them from the front, or what it had
abbrev pub Lands : Option Files → Option Files → List ℕ → Option (List ℕ) → Result (Unit {0}) IoFault → Type 0
Lands before after name held (Ok done) = Told held (HasFile after name)
Lands before after name held (Err fault.Failed) = Told held (HasPart after name)
Lands before after name held (Err fault.NoMemory) = Told before (λ files. IsSomeAnd after (λ now. get now name ≡ get files name))

-- Sinks were given back, and this says how that ended
pub record TakesSinks {P O : Type 0} (p : PlaceSeen P) (s : SinkSeen O) (before after : P) (sinks : List O) (result : Result (Unit {0}) Stop) : Type 0 where
  -- what giving each one back answered; the first in the order of what went wrong is the end
  pub answers : List (Result (Unit {0}) IoFault)
  pub one_each : length answers ≡ length sinks
  pub result_is : result ≡ fold joined_ends (Ok tt) (map write_end answers)
  -- each sink's file has what its answer says, where the files are told and no two sinks have one name
  pub lands : IsSome (p.files before) → AllPairs (λ n m. n ≢ m) (map s.name sinks) → AllZip (λ sink answer. Lands (p.files before) (p.files after) (s.name sink) (s.held sink) answer) sinks answers
  -- and every other file is as before
  pub others : KeepsOthers (p.files before) (p.files after) (map s.name sinks)
  -- a file that was empty still is where the sinks hold nothing, also where giving them back failed
  pub still_empty : IsSome (p.files before) → All (λ sink. s.held sink ≡ Some []) sinks → (name : List ℕ) → HasFile (p.files before) name [] → HasFile (p.files after) name []
  -- the count of writing rose where a giving back failed or a sink met faults, is as before where neither is so, and
  -- never fell
  pub failed : Contains answers (Err fault.Failed) → Rose (p.write_faults before) (p.write_faults after)
  pub met : (sink : O) → Contains sinks sink → Rose 0 (s.faults sink) → Rose (p.write_faults before) (p.write_faults after)
  pub quiet : OnOk result (All (λ sink. s.faults sink ≡ 0) sinks → p.write_faults after ≡ p.write_faults before)
  pub grows : p.write_faults before ≤ p.write_faults after
  pub write : result ≡ Err WriteFault → Rose (p.write_faults before) (p.write_faults after)
  -- no other end comes
  pub only : (result ≢ Err PlanRefused) × (result ≢ Err ReadFault) × (result ≢ Err FeedRefused)
  -- all else is as before
  pub none : sinks ≡ [] → after ≡ before
  pub read_faults : p.read_faults after ≡ p.read_faults before
  pub opened : p.opened after ≡ p.opened before
  pub created : p.created after ≡ p.created before
