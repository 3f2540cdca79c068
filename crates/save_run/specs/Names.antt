-- The names of the files of a save.
use Rattle.std.specs.Prelude.{ℕ, List}

-- Those of the plan and the image
pub record SaveNames : Type 0 where
  pub plan : List ℕ
  pub image : List ℕ

-- these two
abbrev pub saving : List ℕ → List ℕ → SaveNames
saving plan image = record { plan = plan; image = image }
