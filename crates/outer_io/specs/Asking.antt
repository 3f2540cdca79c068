-- What a call of a place leaves, and what it notes.
use Rattle.std.specs.Prelude.{◌≡◌, ◌≢◌, ℕ, Bool, true, false, List, [], ◌∷◌, ◌++◌, Result, Err, OnOk}
use Rattle.outer_io.specs.Faults.{HasCause, Rose}
use Rattle.outer_io.specs.declared.fault.IoFault.{IoFault}
use Rattle.outer_io.specs.declared.fault.IoFault.TheVariants as fault

-- a half of a place, its count of faults and the names that it was asked for, is as before
abbrev pub Stays : {P : Type 0} → (P → ℕ) → (P → List (List ℕ)) → P → P → Type 0
Stays faults names before after = (faults after ≡ faults before) × (names after ≡ names before)

-- The name was noted at the end of the names that were asked for; after want of memory they are as before.
pub record Notes (before after : List (List ℕ)) (name : List ℕ) {T : Type 0} (result : Result T IoFault) : Type 0 where
  pub noted : result ≢ Err fault.NoMemory → after ≡ before ++ name ∷ []
  pub unnoted : result ≡ Err fault.NoMemory → after ≡ before

-- The faults of a part that is given back count as the place's. One of a part without faults is answered with a cause.
pub record CountsPart (before now part : ℕ) {T : Type 0} (result : Result T IoFault) : Type 0 where
  pub rose : Rose 0 part → Rose before now
  pub cause : part ≡ 0 → HasCause before now result fault.Failed

-- the call failed where it was to fail, and only there
pub record FailsWhere (fails : Bool) {T : Type 0} (result : Result T IoFault) : Type 0 where
  pub good : OnOk result (fails ≡ false)
  pub bad : result ≡ Err fault.Failed → fails ≡ true
