use Rattle.cube_schema.proofs.Meanings.{meaning-passes, one_draft}
use Rattle.cube_schema.proofs.PlanFiles.{names_files}
use Rattle.cube_schema.proofs.SamePlan.{same_plan}
use Rattle.cube_schema.specs.Drafts.{draft_of}
use Rattle.std.proofs.Common.{◌≡◌, ◌∙◌, None, subst, sym}
use Rattle.cube_schema.specs.declared.draft.Draft.{Draft}
use Rattle.cube_schema.specs.Ranges.{first_out_of_range}
use Rattle.cube_schema.specs.Repeats.{first_repeated}
use Rattle.cube_schema.proofs.reading.read_plan.Goals as goal

pub plan_of-requires-clause-in_range : goal.plan_of-requires-clause-in_range
plan_of-requires-clause-in_range c = (meaning-passes c.args.bytes.now c.in_ok-draft.draft c.in_ok-draft.ensures).0

pub plan_of-requires-clause-distinct : goal.plan_of-requires-clause-distinct
plan_of-requires-clause-distinct c = (meaning-passes c.args.bytes.now c.in_ok-draft.draft c.in_ok-draft.ensures).1

pub returns-clause-printable : goal.returns-clause-printable
returns-clause-printable c =
    subst (λ (draft : Draft). (first_out_of_range draft ≡ None) × (first_repeated draft ≡ None)) (sym c.plan_of.ensures) (meaning-passes c.args.bytes.now c.in_ok-draft.draft c.in_ok-draft.ensures)

pub returns-clause-files : goal.returns-clause-files
returns-clause-files c = names_files c.plan_of.result (returns-clause-printable c)

pub returns-clause-only : goal.returns-clause-only
returns-clause-only c = λ other e. same_plan c.plan_of.result other (c.plan_of.ensures ∙ one_draft c.args.bytes.now _ (draft_of other) c.in_ok-draft.ensures e)
