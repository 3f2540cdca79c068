-- What is printed of a plan means that plan.
use Rattle.std.proofs.Common.{◌≡◌, ℕ, ◌≤◌, ◌<◌, ◌^◌, false, List, length, None, Some, Ok, sym, ap, subst, ◌∙◌}
use Rattle.std.specs.Str.{IsUtf8}
use Rattle.serde_json.specs.Data.{Data, depth}
use Rattle.serde_json.specs.Read.{read, max_depth}
use Rattle.serde_json.specs.Written.{compact_text, has_float}
use Rattle.cube_schema.specs.declared.draft.Draft.{Draft}
use Rattle.cube_schema.specs.Printed.{draft_value}
use Rattle.cube_schema.specs.Ranges.{first_out_of_range}
use Rattle.cube_schema.specs.Repeats.{first_repeated}
use Rattle.cube_schema.specs.Meaning.{longest_plan, plan_meaning}
use Rattle.cube_schema.proofs.Meanings.{meaning-reads}
use Rattle.cube_schema.proofs.PrintedBack.{value_back}
use Rattle.cube_schema.proofs.PrintedSize.{draft_shallow, draft_whole, draft_short}

-- what a writer puts down for a value that stands for the draft
pub printed_text : (bytes : List ℕ) (d : Data) (draft : Draft) → d ≡ draft_value draft → (has_float d ≡ false → bytes ≡ compact_text d) → bytes ≡ compact_text (draft_value draft)
printed_text bytes d draft is text = text (ap has_float is ∙ draft_whole draft) ∙ ap compact_text is

pub printed_meaning : (bytes : List ℕ) (d : Data) (draft : Draft) → d ≡ draft_value draft → first_out_of_range draft ≡ None → first_repeated draft ≡ None → draft.start < 2 ^ 64 → draft.width < 2 ^ 64
    → IsUtf8 bytes → (has_float d ≡ false → bytes ≡ compact_text d) → (depth d ≤ max_depth → read bytes ≡ Some d) → plan_meaning bytes ≡ Ok draft
printed_meaning bytes d draft is ranges repeats start width utf8 text reads =
    let short : length bytes ≤ longest_plan = subst (λ (bs : List ℕ). length bs ≤ longest_plan) (sym (printed_text bytes d draft is text)) (draft_short draft ranges start width) in
    let shallow : depth d ≤ max_depth = subst (λ (v : Data). depth v ≤ max_depth) (sym is) (draft_shallow draft) in
    meaning-reads bytes (draft_value draft) short utf8 (reads shallow ∙ ap Some is) ∙ value_back draft ranges repeats
