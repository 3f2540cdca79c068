-- Which scripts the run of a session refuses.
use Rattle.std.specs.Prelude.{◌≡◌, ℕ, Bool, true, false, List, Option, Result, OnOk, IsErrOf}
use Rattle.cube_view.specs.declared.schema.Schema.{Schema}
use Rattle.outer_io.specs.Cutting.{Cutter, IsNew}
use Rattle.outer_io.specs.Told.{Told}
use Rattle.session_core.specs.Scripts.{is_script_refused}
use Rattle.session_core.specs.declared.fault.SessionFault.{SessionFault}
use Rattle.session_core.specs.declared.fault.SessionFault.TheVariants as fault

-- of a script whose cutter has given nothing, where its source tells it: it is refused, or it is not
abbrev pub TellsRefused : {I : Type 0} → (I → Option (List ℕ)) → Schema → Cutter I → Bool → Type 0
TellsRefused left schema source refused = IsNew source.source source → Told (left source.source) (λ script. is_script_refused schema script ≡ refused)

-- a run that ends so has a script that is not refused, where it met no fault, and one that is, where there was too much
abbrev pub RefusesExactly : {I T : Type 0} → (I → Option (List ℕ)) → Schema → Cutter I → Result T SessionFault → Type 0
RefusesExactly left schema source end = OnOk end (TellsRefused left schema source false) × (IsErrOf end fault.TooMuch → TellsRefused left schema source true)
