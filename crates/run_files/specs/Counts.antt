-- Which counts of faults an end leaves as they were, and which it finds risen.
use Rattle.std.specs.Prelude.{◌≡◌, ◌⊎◌, Result, Ok, Err}
use Rattle.outer_io.specs.Faults.{Rose}
use Rattle.run_files.specs.Outside.{Outside, PlaceSeen, SinkSeen}
use Rattle.run_files.specs.declared.stop.Stop.{Stop}
use Rattle.run_files.specs.declared.stop.Stop.TheVariants.{PlanRefused, ReadFault, WriteFault, FeedRefused}

module _ {P O : Type 0} (p : PlaceSeen P) (s : SinkSeen O) (before after : Outside P O) where
  -- no count of faults rose
  abbrev pub StandStill : Type 0
  StandStill = (p.read_faults after.place ≡ p.read_faults before.place) × (p.write_faults after.place ≡ p.write_faults before.place) × (s.faults after.out ≡ s.faults before.out)

  -- What an end says of the counts of faults, which is the order of causes. Of want of memory, which comes first of
  -- all, it says nothing.
  pub record CountsAt {E : Type 0} (end : Result E Stop) : Type 0 where
    -- with Ok, and with a refused feed, all three are as before
    pub done : (x : E) → end ≡ Ok x → StandStill
    pub refused : end ≡ Err FeedRefused → StandStill
    -- with a write fault that of reading is, and that of writing rose, or the sink's
    pub unread : end ≡ Err WriteFault → p.read_faults after.place ≡ p.read_faults before.place
    pub write : end ≡ Err WriteFault → Rose (p.write_faults before.place) (p.write_faults after.place) ⊎ Rose (s.faults before.out) (s.faults after.out)
    -- with a read fault that of reading rose
    pub read : end ≡ Err ReadFault → Rose (p.read_faults before.place) (p.read_faults after.place)
    -- with a refused plan, which is answered whether it was said or not, those of the place are as before
    pub refused_plan : end ≡ Err PlanRefused → (p.read_faults after.place ≡ p.read_faults before.place) × (p.write_faults after.place ≡ p.write_faults before.place)
