-- What is answered in all, by how the answers ended.
use Rattle.std.proofs.Common.{◌≡◌, Result, Ok, Err, OnOk, IsErrOf, refl}
use Rattle.session_core.specs.declared.fault.SessionFault.{SessionFault}
use Rattle.session_core.specs.declared.fault.SessionFault.TheVariants as fault
use Rattle.flat_session.specs.Putting.{OnAll}

pub all_of_end : (r : Result (Unit {0}) SessionFault) (P : Type 0) → OnAll r P → OnOk r P
all_of_end (Ok done) P all = all
all_of_end (Err f) P all = tt

pub all_of_too_much : (r : Result (Unit {0}) SessionFault) (P : Type 0) → IsErrOf r fault.TooMuch → OnAll r P → P
all_of_too_much (Ok done) P is all = cc
all_of_too_much (Err fault.Read) P is all = cc
all_of_too_much (Err fault.Write) P is all = cc
all_of_too_much (Err fault.TooMuch) P is all = all
all_of_too_much (Err fault.NoMemory) P is all = cc

-- and back
pub all_with : (f : SessionFault) (P : Type 0) → (f ≡ fault.TooMuch → P) → OnAll (Err f) P
all_with fault.Read P all = tt
all_with fault.Write P all = tt
all_with fault.TooMuch P all = all refl
all_with fault.NoMemory P all = tt
