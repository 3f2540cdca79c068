-- What bytes mean as the text of a plan: a draft within its ranges, or the first fault.
use Rattle.std.specs.Prelude.{◌≡◌, ◌≢◌, ℕ, List, length, nat_lt, Option, Some, None, is_some, Result, Ok, Err, if◌then◌else◌}
use Rattle.std.specs.Str.{is_utf8}
use Rattle.serde_json.specs.Data.{Data}
use Rattle.serde_json.specs.Find.{as_object}
use Rattle.serde_json.specs.Read.{read}
use Rattle.cube_view.specs.Results.{◌>>=◌}
use Rattle.cube_schema.specs.declared.draft.Draft.{Draft}
use Rattle.cube_schema.specs.declared.plan.Plan.{Plan}
use Rattle.cube_schema.specs.declared.fault.PlanFault.{PlanFault}
use Rattle.cube_schema.specs.declared.fault.PlanFault.TheVariants.{NotJson, NotObject, Missing, Unknown, OutOfRange, Repeated, NoMemory, TooLong}
use Rattle.cube_schema.specs.Members.{first_missing, least_unknown}
use Rattle.cube_schema.specs.Drafts.{draft_of}
use Rattle.cube_schema.specs.Kinds.{found_or, members_of}
use Rattle.cube_schema.specs.Ranges.{first_out_of_range}
use Rattle.cube_schema.specs.Repeats.{first_repeated}

-- the most bytes of a plan
abbrev pub longest_plan : ℕ
longest_plan = 1048576

-- refused with a fault where something was found, and else what comes next
abbrev pub unless : {A B : Type 0} → (A → PlanFault) → Option A → Result B PlanFault → Result B PlanFault
unless fault None next = next
unless fault (Some found) next = Err (fault found)

-- the draft, if it is within its ranges and no text is repeated in it
abbrev pub tested : Draft → Result Draft PlanFault
tested draft = unless OutOfRange (first_out_of_range draft) (unless Repeated (first_repeated draft) (Ok draft))

-- what an object means
abbrev pub object_meaning : Data → Result Draft PlanFault
object_meaning d = unless Missing (first_missing d) (unless Unknown (least_unknown d) (members_of d >>= tested))

-- what a value means
unfoldable pub value_meaning : Data → Result Draft PlanFault
value_meaning d = if is_some (as_object d) then object_meaning d else Err NotObject

-- the JSON value that the bytes are, by RFC 8259 as `serde_json` reads it; none where they are not UTF-8
unfoldable pub json_value : List ℕ → Option Data
json_value bytes = if is_utf8 bytes then read bytes else None

-- what the bytes mean
unfoldable pub plan_meaning : List ℕ → Result Draft PlanFault
plan_meaning bytes = if nat_lt longest_plan (length bytes) then Err TooLong else found_or NotJson (json_value bytes) >>= value_meaning

-- no member of the plan is out of its range, and no text is repeated in it
abbrev pub IsPrintable : Plan → Type 0
IsPrintable plan = (first_out_of_range (draft_of plan) ≡ None) × (first_repeated (draft_of plan) ≡ None)

-- what a step of reading answers, seen by `see`, is what is meant, unless memory ran out
abbrev pub ReadsAs : {A B : Type 0} → (A → B) → Result A PlanFault → Result B PlanFault → Type 0
ReadsAs see (Ok a) meant = meant ≡ Ok (see a)
ReadsAs see (Err f) meant = f ≢ NoMemory → meant ≡ Err f
