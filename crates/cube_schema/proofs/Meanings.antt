-- What bytes mean, step by step.
use Rattle.std.proofs.Common.{◌≤◌, sym, ◌∙◌, ◌≡◌, ℕ, Bool, true, false, cond, List, length, Option, Some, None, Result, Ok, Err, refl}
use Rattle.std.specs.Str.{IsUtf8, is_utf8}
use Rattle.std.specs.Prelude.{is_some, nat_lt}
use Rattle.std.proofs.lemmas.Bool.{le-ltb}
use Rattle.std.proofs.lemmas.Str.{is_utf8-from_IsUtf8, IsUtf8-from_is_utf8}
use Rattle.serde_json.specs.Data.{Data}
use Rattle.serde_json.specs.Find.{as_object}
use Rattle.serde_json.specs.Read.{read}
use Rattle.cube_schema.specs.declared.draft.Draft.{Draft}
use Rattle.cube_schema.specs.declared.fault.PlanFault.{PlanFault}
use Rattle.cube_schema.specs.declared.fault.PlanFault.TheVariants.{NotJson, NotObject, Missing, Unknown, OutOfRange, Repeated, TooLong}
use Rattle.cube_view.specs.Results.{◌>>=◌}
use Rattle.cube_schema.specs.Kinds.{found_or, members_of}
use Rattle.cube_schema.specs.Members.{first_missing, least_unknown}
use Rattle.cube_schema.specs.Ranges.{first_out_of_range}
use Rattle.cube_schema.specs.Repeats.{first_repeated}
use Rattle.cube_schema.specs.Meaning.{longest_plan, unless, tested, object_meaning, value_meaning, json_value, plan_meaning}

-- text that reads as a value is that value
pub json_value-some : (bytes : List ℕ) (d : Data) → IsUtf8 bytes → read bytes ≡ Some d → json_value bytes ≡ Some d
unfolding json_value
json_value-some bytes d text reads = rw (is_utf8-from_IsUtf8 bytes text, reads) refl

-- bytes that are no text, or that read as nothing, are no value
pub json_value-none : (bytes : List ℕ) → (IsUtf8 bytes → read bytes ≡ None) → json_value bytes ≡ None
unfolding json_value
json_value-none bytes refused = here (is_utf8 bytes) refl
  where
    here : (b : Bool) → is_utf8 bytes ≡ b → cond b (read bytes) None ≡ None
    here true is = refused (IsUtf8-from_is_utf8 bytes is)
    here false is = refl

-- the value of a step that did not fail
bind_ok : {A B : Type 0} (r : Result A PlanFault) (next : A → Result B PlanFault) (b : B) → (r >>= next) ≡ Ok b → (a : A) × (next a ≡ Ok b)
bind_ok (Ok a) next b e = (a, e)
bind_ok (Err f) next b e = absurd cc

unless_ok : {A B : Type 0} (fault : A → PlanFault) (found : Option A) (next : Result B PlanFault) (b : B) → unless fault found next ≡ Ok b → (found ≡ None) × (next ≡ Ok b)
unless_ok fault None next b e = (refl, e)
unless_ok fault (Some a) next b e = absurd cc

cond_ok : {A : Type 0} (c : Bool) (fault : PlanFault) (r : Result A PlanFault) (a : A) → cond c r (Err fault) ≡ Ok a → r ≡ Ok a
cond_ok true fault r a e = e
cond_ok false fault r a e = absurd cc

cond_err_ok : {A : Type 0} (c : Bool) (fault : PlanFault) (r : Result A PlanFault) (a : A) → cond c (Err fault) r ≡ Ok a → r ≡ Ok a
cond_err_ok true fault r a e = absurd cc
cond_err_ok false fault r a e = e

abbrev done : Draft → Result Draft PlanFault
done draft = Ok draft

same_draft : (a b : Draft) → done a ≡ done b → a ≡ b
same_draft a b e = cc

-- a draft that was tested is the one that is given, and nothing was found
tested-passes : (draft meant : Draft) → tested draft ≡ Ok meant → (first_out_of_range meant ≡ None) × (first_repeated meant ≡ None)
tested-passes draft meant e =
    let ranges = unless_ok OutOfRange (first_out_of_range draft) (unless Repeated (first_repeated draft) (Ok draft)) meant e in
    let repeats = unless_ok Repeated (first_repeated draft) (Ok draft) meant ranges.1 in
    let same = same_draft draft meant repeats.1 in
    rw (← same) (ranges.0, repeats.0)

-- what bytes mean passed the tests
pub meaning-passes : (bytes : List ℕ) (draft : Draft) → plan_meaning bytes ≡ Ok draft → (first_out_of_range draft ≡ None) × (first_repeated draft ≡ None)
unfolding plan_meaning value_meaning
meaning-passes bytes draft e =
    let value = bind_ok (found_or NotJson (json_value bytes)) value_meaning draft (cond_err_ok (nat_lt longest_plan (length bytes)) TooLong _ draft e) in
    let d = value.0 in
    let object = cond_ok (is_some (as_object d)) NotObject (object_meaning d) draft value.1 in
    let missing = unless_ok Missing (first_missing d) _ draft object in
    let unknown = unless_ok Unknown (least_unknown d) _ draft missing.1 in
    let members = bind_ok (members_of d) tested draft unknown.1 in
    tested-passes members.0 draft members.1

-- bytes that are not too many, are text and read as a value mean what the value does
pub meaning-reads : (bytes : List ℕ) (d : Data) → length bytes ≤ longest_plan → IsUtf8 bytes → read bytes ≡ Some d → plan_meaning bytes ≡ value_meaning d
unfolding plan_meaning
meaning-reads bytes d short text reads =
    let fits : nat_lt longest_plan (length bytes) ≡ false = le-ltb _ _ short in
    rw (fits, json_value-some bytes d text reads) refl

-- bytes that mean two drafts mean one
pub one_draft : (bytes : List ℕ) (a b : Draft) → plan_meaning bytes ≡ Ok a → plan_meaning bytes ≡ Ok b → a ≡ b
one_draft bytes a b p q = same_draft a b (sym p ∙ q)
