-- The object of a plan with the name of its weight column, and without one.
use Rattle.std.proofs.Common.{◌≡◌, ℕ, List, Option, Some, None, refl, sym, ap, ◌∙◌}
use Rattle.std.specs.Prelude.{codes}
use Rattle.serde_json.specs.Data.{Data, Members, object, string, put}
use Rattle.cube_schema.specs.declared.draft.Draft.{Draft}
use Rattle.cube_schema.specs.Printed.{draft_members, draft_value}

-- the object of the draft with this weight column
abbrev object_with : Draft → Option (List ℕ) → Data
object_with draft weight = object (draft_members (record draft { weight = weight }))

put_weight : (draft : Draft) (name : List ℕ) → object (put (codes "weight") (string name) (draft_members (record draft { weight = None }))) ≡ object_with draft (Some name)
put_weight draft name = refl

-- the name that is put among the other members is where a plan has it
pub draft_value-weighted : (draft : Draft) (name : List ℕ) (plain made : Data) → draft.weight ≡ Some name → plain ≡ draft_value (record draft { weight = None })
    → ((members : Members) → plain ≡ object members → made ≡ object (put (codes "weight") (string name) members)) → made ≡ draft_value draft
unfolding draft_value
draft_value-weighted draft name plain made is same put_in = put_in _ same ∙ put_weight draft name ∙ ap (object_with draft) (sym is)

pub draft_value-plain : (draft : Draft) (plain : Data) → draft.weight ≡ None → plain ≡ draft_value (record draft { weight = None }) → plain ≡ draft_value draft
unfolding draft_value
draft_value-plain draft plain is same = same ∙ ap (object_with draft) (sym is)
