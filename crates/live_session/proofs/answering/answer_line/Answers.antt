use Rattle.std.proofs.Common.{ℕ, ◌∙◌, refl, sym, subst, IfOk}
use Rattle.std.proofs.lemmas.Bool.{false≢true}
use Rattle.cube_view.specs.declared.schema.Schema.{Schema}
use Rattle.live_session.specs.Bounds.{TakesSteps}
use Rattle.live_session.specs.Saying.{IsShownTo, SaysOver}
use Rattle.live_session.proofs.OneTurn.{goes_unseen}
use Rattle.live_session.proofs.SaidReplies.{over_unseen}
use Rattle.live_session.proofs.answering.answer_line.Goals as goal

pub returns-clause-served : goal.returns-clause-served
returns-clause-served g c =
    let viewer = c.catch_up-viewer.result in
    let h = viewer.shown.points in record {
      says =
          subst (λ (n : ℕ). IfOk c.serve_unseen-served.result (SaysOver viewer.schema (IsShownTo viewer) h n c.args.parsed.now)) c.told.ensures
          (over_unseen viewer.schema (IsShownTo viewer) h c.told.result c.args.parsed.now c.serve_unseen-served.result (sym c.asks_look.ensures ∙ c.if-asks_look.false) c.serve_unseen-served.ensures.served);
      no_memory = c.serve_unseen-served.ensures.no_memory;
    }

pub returns-clause-goes : goal.returns-clause-goes
returns-clause-goes g c = record {
  goes = goes_unseen c.args.viewer.shown c.args.viewer.learned c.args.viewer.last c.catch_up-viewer.result.shown c.catch_up-viewer.result.learned c.catch_up-viewer.ensures.same.0 c.catch_up-viewer.ensures.learned;
  look = λ e. absurd (false≢true (sym c.if-asks_look.false ∙ c.asks_look.ensures ∙ e));
  unseen = λ e. c.catch_up-viewer.ensures.same.0;
  unasked = c.catch_up-viewer.ensures.unasked;
  mail = c.catch_up-viewer.ensures.mail;
}

pub returns-then-asks_look-clause-steps : goal.returns-then-asks_look-clause-steps
returns-then-asks_look-clause-steps g c =
    subst (λ (z : Schema). TakesSteps g.V.CubeView c.look_once.result.0.shown_view.value z c.look_once.result.0.shown.points c.args.parsed.now c.args.steps.now c.look_once.new.steps) c.catch_up-viewer.ensures.same.1
    c.look_once.ensures.steps

pub returns-clause-steps : goal.returns-clause-steps
returns-clause-steps g c = record {
  unlooked = λ e. refl;
  counts = λ e. absurd (false≢true (sym c.if-asks_look.false ∙ c.asks_look.ensures ∙ e));
  looked = λ e. absurd (false≢true (sym c.if-asks_look.false ∙ c.asks_look.ensures ∙ e));
}
