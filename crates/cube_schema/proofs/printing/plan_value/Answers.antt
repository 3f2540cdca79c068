use Rattle.std.proofs.Common.{◌∙◌, ap, sym, Some}
use Rattle.std.proofs.lemmas.Result.{IfOk-weaker}
use Rattle.serde_json.specs.View.{view}
use Rattle.cube_schema.specs.Drafts.{draft_of}
use Rattle.cube_schema.proofs.PrintedWeight.{draft_value-weighted, draft_value-plain}
use Rattle.cube_schema.proofs.printing.plan_value.Goals as goal

pub returns-in-Some-clause-value : goal.returns-in-Some-clause-value
returns-in-Some-clause-value c =
    IfOk-weaker _ _ _ (λ value. draft_value-weighted (draft_of c.args.plan.now) c.as_str.result.now (view c.in_ok-value.value) (view value) (c.in-Some.is ∙ ap Some (sym c.as_str.ensures)) c.in_ok-value.ensures.value) c.with_weight_member.ensures

pub returns-in-None-clause-value : goal.returns-in-None-clause-value
returns-in-None-clause-value c = draft_value-plain (draft_of c.args.plan.now) (view c.in_ok-value.value) c.in-None.is c.in_ok-value.ensures.value
