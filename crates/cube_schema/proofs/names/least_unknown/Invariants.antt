use Rattle.std.proofs.Common.{◌≡◌, String, Global, map}
use Rattle.std.specs.Prelude.{find, not, string_bytes}
use Rattle.serde_json.specs.View.{view}
use Rattle.cube_schema.specs.Versions.{is_weighted}
use Rattle.cube_schema.specs.Members.{is_plan_name, least_unknown}
use Rattle.cube_schema.proofs.names.least_unknown.Given as goal

-- the names passed are those of a plan
abbrev pub invariant-loop-name : goal.invariant-loop-name
invariant-loop-name l = find (λ name. not (is_plan_name (is_weighted (view l.value)) name)) (map (λ (s : String Global). string_bytes s) l.name-iterator) ≡ least_unknown (view l.value)
