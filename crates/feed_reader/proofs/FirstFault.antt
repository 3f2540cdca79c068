-- The first fault of a list.
use Rattle.std.proofs.Common.{◌≡◌, refl, ℕ, zero, suc, Bool, true, false, List, [], ◌∷◌, get_or, Option, Some, None}
use Rattle.feed_reader.specs.Rows.{fault_if, first_fault}
use Rattle.feed_reader.specs.declared.row.RowFault.{RowFault}

-- where there is none, each test fails
pub first_fault_none : (faults : List (Option RowFault)) → first_fault faults ≡ None → (k : ℕ) → get_or faults k None ≡ None
first_fault_none [] h k = refl
first_fault_none (None ∷ rest) h zero = refl
first_fault_none (None ∷ rest) h (suc k) = first_fault_none rest h k
first_fault_none (Some f ∷ rest) h k = absurd (cc h)

pub fault_if_none : (b : Bool) (f : RowFault) → fault_if b f ≡ None → b ≡ false
fault_if_none true f h = absurd (cc h)
fault_if_none false f h = refl
