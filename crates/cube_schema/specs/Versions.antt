-- The two versions of a plan: one of version 2 names the column of the weights.
use Rattle.std.specs.Prelude.{ℕ, Bool, true, false, List, codes, ◌==◌, Option, Some, None, option_and_then}
use Rattle.std.specs.Option.{option_map_or}
use Rattle.serde_json.specs.Data.{Data}
use Rattle.serde_json.specs.Find.{get, as_number, as_u64}
use Rattle.cube_schema.specs.declared.member.Member.{Member}
use Rattle.cube_schema.specs.declared.member.Member.TheVariants.{Weight}

-- the version of a plan whose weight column has this name, or that has none
abbrev pub version_of : Option (List ℕ) → ℕ
version_of None = 1
version_of (Some name) = 2

-- a whole number: a JSON number that `serde_json` gives as a u64
abbrev pub as_whole_number : Data → Option ℕ
as_whole_number d = option_and_then as_u64 (as_number d)

-- the object's version is the number 2
abbrev pub is_weighted : Data → Bool
is_weighted d = option_map_or (λ (n : ℕ). n == 2) (option_and_then as_whole_number (get (codes "version") d)) false

-- the plan has this member: the weight only where it is weighted, and every other one
abbrev pub has_member : Bool → Member → Bool
has_member weighted Weight = weighted
has_member weighted member = true
