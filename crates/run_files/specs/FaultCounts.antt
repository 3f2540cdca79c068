-- What a form of words that writes no file keeps of the counts of faults.
use Rattle.std.specs.Prelude.{◌≡◌, ◌≢◌, Result, Err}
use Rattle.outer_io.specs.Faults.{Rose}
use Rattle.run_files.specs.Outside.{Outside, PlaceSeen, SinkSeen}
use Rattle.run_files.specs.declared.stop.Stop.{Stop}
use Rattle.run_files.specs.declared.stop.Stop.TheVariants.{NoMemory, PlanRefused, ReadFault, WriteFault}

-- A fault has its cause in a count that rose; no file is written, and the sink keeps its name.
pub record KeepsFaults {P O T : Type 0} (p : PlaceSeen P) (s : SinkSeen O) (before after : Outside P O) (result : Result T Stop) : Type 0 where
  -- a read fault comes only where the place's count rose, a write fault only where the sink's did
  pub read : result ≡ Err ReadFault → Rose (p.read_faults before.place) (p.read_faults after.place)
  pub write : result ≡ Err WriteFault → Rose (s.faults before.out) (s.faults after.out)
  -- with every other end the counts are as before, but for want of memory, which is answered before both, and a refused
  -- plan, which is answered whether it was said or not
  pub quiet_place : result ≢ Err ReadFault → result ≢ Err NoMemory → p.read_faults after.place ≡ p.read_faults before.place
  pub quiet_sink : result ≢ Err WriteFault → result ≢ Err NoMemory → result ≢ Err PlanRefused → s.faults after.out ≡ s.faults before.out
  pub name : s.name after.out ≡ s.name before.out
  -- the files are as before, and what was noted of writing them
  pub files : p.files after.place ≡ p.files before.place
  pub created : p.created after.place ≡ p.created before.place
  pub write_faults : p.write_faults after.place ≡ p.write_faults before.place
