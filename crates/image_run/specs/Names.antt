-- The names of the files of a load.
use Rattle.std.specs.Prelude.{ℕ, List}
use Rattle.image_run.specs.declared.load.LoadNames.{LoadNames}

-- Those of the plan, the image and the script
pub record ImageNames : Type 0 where
  pub plan : List ℕ
  pub image : List ℕ
  pub script : List ℕ

-- the names that a call is given
abbrev pub image_names : LoadNames → ImageNames
image_names names = record { plan = names.plan.now; image = names.image.now; script = names.script.now }
