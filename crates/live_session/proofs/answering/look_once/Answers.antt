use Rattle.std.proofs.Common.{◌≡◌, ◌∙◌, ◌+◌, ◌≤◌, ap, sym, subst, length}
use Rattle.std.proofs.lemmas.Bool.{false≢true}
use Rattle.cube_view.specs.Bag.{Counts}
use Rattle.cube_view.specs.declared.schema.Schema.{Schema}
use Rattle.session_core.specs.Serving.{answer_cost}
use Rattle.live_session.specs.Bounds.{TakesSteps}
use Rattle.live_session.specs.Saying.{IsShownTo}
use Rattle.published_pair.specs.Rules.{Known}
use Rattle.live_session.proofs.SaidReplies.{over_shown, shown_says}
use Rattle.live_session.proofs.answering.look_once.Goals as goal

pub returns-clause-served : goal.returns-clause-served
returns-clause-served g c =
    let view = g.V.CubeView in
    let viewer = c.leave.result in
    let last : c.view.result.now ≡ viewer.shown_view.value = c.view.ensures.view ∙ sym (ap (λ k. k.value) c.leave.ensures.view) in
    let h = viewer.shown.points in
    let told = length viewer.learned.points in record {
      says =
          over_shown viewer.schema (IsShownTo viewer) h told c.args.parsed.now c.serve-served.result c.requires.look
          (shown_says view.schema view.numbers viewer.schema c.look-shown.result.shown.points h c.told-told.result told c.args.parsed.now c.serve-served.result c.view.result.now viewer.shown_view.value
          (c.view.ensures.schema ∙ sym c.leave.ensures.same.3) last
          (ap (λ (k : Known). k.points) (sym c.leave.ensures.same.0))
          (c.told-told.ensures ∙ ap (λ (k : Known). length k.points) (sym (c.leave.ensures.same.1 ∙ c.look-shown.ensures.same.1)))
          (c.serve-served.ensures.served c.look-shown.result.shown.points c.view.ensures.counts));
      no_memory = c.serve-served.ensures.no_memory;
    }

pub returns-clause-steps : goal.returns-clause-steps
returns-clause-steps g c =
    let view = g.V.CubeView in
    let schema = c.view.ensures.schema ∙ c.look-shown.ensures.same.3 in
    let shown = sym c.leave.ensures.same.0 in
    let last : c.view.result.now ≡ c.leave.result.shown_view.value = c.view.ensures.view ∙ sym (ap (λ k. k.value) c.leave.ensures.view) in
    subst (λ v. TakesSteps view v c.args.viewer.schema c.leave.result.shown.points c.args.parsed.now c.args.steps.now c.serve-served.new.steps) last (record {
      unlooked = λ e. absurd (false≢true (sym e ∙ c.requires.look));
      counts = λ e. (subst (λ (k : Known). Counts (view.weight_at c.view.result.now) (view.seen c.view.result.now) k.points) shown c.view.ensures.counts, schema);
      looked = λ e.
          subst (λ (k : Known). c.serve-served.new.steps ≤ c.args.steps.now + answer_cost (view.costs c.view.result.now) c.args.viewer.schema c.args.parsed.now k.points) shown
          (subst (λ (z : Schema). c.serve-served.new.steps ≤ c.args.steps.now + answer_cost (view.costs c.view.result.now) z c.args.parsed.now c.look-shown.result.shown.points) schema
          (c.serve-served.ensures.cost c.look-shown.result.shown.points c.view.ensures.counts));
    })
