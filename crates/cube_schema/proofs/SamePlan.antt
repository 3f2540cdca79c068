-- A plan is what the members of its text say: plans with one draft are one plan.
use Rattle.std.proofs.Common.{◌≡◌, subst, ap}
use Rattle.std.specs.Prelude.{IsTrue, true}
use Rattle.std.proofs.Math.Bool.{Bool-set}
use Rattle.cube_view.specs.Limits.{in_limits}
use Rattle.cube_schema.specs.declared.draft.Draft.{Draft}
use Rattle.cube_schema.specs.declared.plan.Plan.{Plan}
use Rattle.cube_schema.specs.Drafts.{draft_of}

abbrev AreLimits : Draft → Type 0
AreLimits draft = IsTrue (in_limits draft.depth draft.categories draft.width draft.batch draft.weight)

abbrev plan_from : (draft : Draft) → AreLimits draft → Plan
plan_from draft h = record {
  schema = record { depth = draft.depth; categories = draft.categories; start = draft.start; width = draft.width; batch = draft.batch; weight = draft.weight; limits = h };
  feeds = draft.feeds;
  journal = draft.journal;
  asks = draft.asks;
  finals = draft.finals;
}

one_proof : (draft : Draft) (h k : AreLimits draft) → h ≡ k
one_proof draft h k = Bool-set (in_limits draft.depth draft.categories draft.width draft.batch draft.weight) true h k

from_same : (a b : Draft) → a ≡ b → (h : AreLimits a) (k : AreLimits b) → plan_from a h ≡ plan_from b k
from_same a b e h = subst (λ (d : Draft). (k : AreLimits d) → plan_from a h ≡ plan_from d k) e (λ k. ap (plan_from a) (one_proof a h k))

pub same_plan : (p q : Plan) → draft_of p ≡ draft_of q → p ≡ q
same_plan p q e = from_same (draft_of p) (draft_of q) e p.schema.limits q.schema.limits
