-- The names of the files of a script that is answered without a cube.
use Rattle.std.specs.Prelude.{ℕ, List}
use Rattle.flat_run.specs.declared.files.FlatNames.{FlatNames}

-- Those of the plan and the script
pub record ScriptNames : Type 0 where
  pub plan : List ℕ
  pub script : List ℕ

-- the names that a call is given
abbrev pub flat_names : FlatNames → ScriptNames
flat_names names = record { plan = names.plan.now; script = names.script.now }
