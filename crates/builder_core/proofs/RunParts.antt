-- A run in parts, one after the other.
use Rattle.std.proofs.Common.{◌≡◌, ◌≤◌, lit≤, Bool, true, false, MatchBool, refl, sym, ap, subst, ◌∙◌}
use Rattle.builder_core.specs.Built.{HasBuilt, IsBuilding, IsBuilt, IsNewWork}
use Rattle.builder_core.specs.Endings.{all_ended}
use Rattle.builder_core.specs.Steps.{IsStep}
use Rattle.builder_core.specs.Work.{BuilderWorkState}
use Rattle.feed_queue.specs.Items.{has_end}
use Rattle.builder_core.proofs.FeederEnds.{all_ended-open, each_ended}
use Rattle.builder_core.proofs.WorkRuns.{has_run-none, has_run-step, is_built}

-- the End of each feeder was taken
abbrev pub has_ended : BuilderWorkState → Bool
has_ended w = all_ended w.builder.feeders w.builder.taken

-- what a run begins with is nothing of it
pub built-none : (w : BuilderWorkState) → IsNewWork w → 1 ≤ w.builder.feeders → HasBuilt w w
built-none w new some =
    let none : has_end 1 w.builder.taken ≡ false = ap (has_end 1) (new.draws.taken ∙ new.drawn) in
    subst (λ (t : Bool). MatchBool t (IsBuilt w w) (IsBuilding w w)) (sym (all_ended-open w.builder.feeders 1 w.builder.taken (lit≤ tt) some none)) (has_run-none w new)

module _ (first before : BuilderWorkState) where
  -- while an End is missing
  pub missing : HasBuilt first before → has_ended before ≡ false → IsBuilding first before
  missing has is = subst (λ (t : Bool). MatchBool t (IsBuilt first before) (IsBuilding first before)) is has

  -- once each was taken
  pub whole : HasBuilt first before → has_ended before ≡ true → IsBuilt first before
  whole has is = subst (λ (t : Bool). MatchBool t (IsBuilt first before) (IsBuilding first before)) is has

  step_by : (after : BuilderWorkState) → IsBuilding first before → IsStep before after → (t : Bool) → has_ended after ≡ t → MatchBool t (IsBuilt first after) (IsBuilding first after)
  step_by after run step true is = is_built first before after run step is (each_ended after.builder.feeders after.builder.taken is)
  step_by after run step false is = has_run-step first before after run step is

  -- a step more
  pub part_more : (after : BuilderWorkState) → HasBuilt first before → has_ended before ≡ false → IsStep before after → HasBuilt first after
  part_more after has is step = step_by after (missing has is) step (has_ended after) refl
