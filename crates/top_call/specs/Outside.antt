-- The causes of faults with every form of words.
use Rattle.std.specs.Prelude.{◌≡◌, ◌≢◌, ◌⊎◌}
use Rattle.top_call.specs.declared.status.Status.{Status}
use Rattle.top_call.specs.declared.status.Status.TheVariants.{NoMemory, PlanRefused, ReadFault, WriteFault}
use Rattle.outer_io.specs.Faults.{Rose}
use Rattle.run_files.specs.Counts.{StandStill}
use Rattle.run_files.specs.Outside.{at, PlaceSeen, SinkSeen}

-- The causes of faults with every form of words: a count that rose, where those of the causes before it did not
pub record HasCauses {P O : Type 0} (p : PlaceSeen P) (s : SinkSeen O) (place place' : P) (out out' : O) (status : Status) : Type 0 where
  -- a read fault comes only where the place's count of reading rose
  pub read : status ≡ ReadFault → Rose (p.read_faults place) (p.read_faults place')
  -- a write fault only where its count of writing rose, or the sink's
  pub write : status ≡ WriteFault → Rose (p.write_faults place) (p.write_faults place') ⊎ Rose (s.faults out) (s.faults out')
  -- and where that of reading is as before
  pub unread : status ≡ WriteFault → p.read_faults place' ≡ p.read_faults place
  -- no count rose but with want of memory, a refused plan, or one of these faults
  pub still : status ≢ NoMemory → status ≢ PlanRefused → status ≢ ReadFault → status ≢ WriteFault → StandStill p s (at place out) (at place' out')
