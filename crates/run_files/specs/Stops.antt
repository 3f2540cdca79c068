-- Why a run ends, and which cause is answered where several hold.
use Rattle.std.specs.Prelude.{◌≡◌, ◌⊎◌, ℕ, nat_lt, Bool, true, false, if◌then◌else◌, Result, Ok, Err, IsOk}
use Rattle.outer_io.specs.declared.cutter.CutFault.{CutFault}
use Rattle.outer_io.specs.declared.cutter.CutFault.TheVariants as cut
use Rattle.outer_io.specs.declared.fault.IoFault.{IoFault}
use Rattle.outer_io.specs.declared.fault.IoFault.TheVariants as fault
use Rattle.session_core.specs.declared.fault.SessionFault.{SessionFault}
use Rattle.session_core.specs.declared.fault.SessionFault.TheVariants as session
use Rattle.run_files.specs.declared.stop.Stop.{Stop}
use Rattle.run_files.specs.declared.stop.Stop.TheVariants.{NoMemory, PlanRefused, ReadFault, WriteFault, FeedRefused}

-- the order in which the causes are answered where several hold: the least comes first
abbrev pub rank_of : Stop → ℕ
rank_of NoMemory = 0
rank_of PlanRefused = 1
rank_of ReadFault = 2
rank_of WriteFault = 3
rank_of FeedRefused = 4

-- the cause of two that is answered
abbrev pub earlier : Stop → Stop → Stop
earlier one other = if nat_lt (rank_of other) (rank_of one) then other else one

-- how two things end that were both done
abbrev pub joined_ends : Result (Unit {0}) Stop → Result (Unit {0}) Stop → Result (Unit {0}) Stop
joined_ends (Ok done) end = end
joined_ends (Err one) (Ok done) = Err one
joined_ends (Err one) (Err other) = Err (earlier one other)

-- how a run ends by what opening or reading a file answered, if it ends
abbrev pub read_end : {T : Type 0} → Result T IoFault → Result T Stop
read_end (Ok x) = Ok x
read_end (Err fault.Failed) = Err ReadFault
read_end (Err fault.NoMemory) = Err NoMemory

-- and by what creating a file or giving it back answered
abbrev pub write_end : {T : Type 0} → Result T IoFault → Result T Stop
write_end (Ok x) = Ok x
write_end (Err fault.Failed) = Err WriteFault
write_end (Err fault.NoMemory) = Err NoMemory

-- the cause that the fault which ended a feed is: a feed with too much is refused
abbrev pub stop_of_cut : CutFault → Stop
stop_of_cut cut.Read = ReadFault
stop_of_cut cut.TooMuch = FeedRefused
stop_of_cut cut.NoMemory = NoMemory

-- and the one that the fault which ended a session is: its script counts as a feed
abbrev pub stop_of_session : SessionFault → Stop
stop_of_session session.Read = ReadFault
stop_of_session session.Write = WriteFault
stop_of_session session.TooMuch = FeedRefused
stop_of_session session.NoMemory = NoMemory

module _ {T : Type 0} where
  -- the run ended so, or memory was wanted
  abbrev pub IsOrLacks : T → Result T Stop → Type 0
  IsOrLacks end result = (result ≡ Ok end) ⊎ (result ≡ Err NoMemory)

  -- it was done, or memory was wanted
  abbrev pub IsDoneOrLacks : Result T Stop → Type 0
  IsDoneOrLacks result = IsOk result ⊎ (result ≡ Err NoMemory)

  -- it ended for want of memory, so that a reply may be the line that says so
  abbrev pub is_lacking : Result T Stop → Bool
  is_lacking (Ok end) = false
  is_lacking (Err NoMemory) = true
  is_lacking (Err PlanRefused) = false
  is_lacking (Err ReadFault) = false
  is_lacking (Err WriteFault) = false
  is_lacking (Err FeedRefused) = false
