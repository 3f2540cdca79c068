use Rattle.std.proofs.Common.{◌∙◌, Result, Ok, Err, sym, subst, refl, arith, rules, true, false}
use Rattle.std.specs.Prelude.{IsOk}
use Rattle.std.proofs.lemmas.Bool.{false≢true}
use Rattle.live_session.specs.News.{news_of}
use Rattle.live_session.specs.Saying.{IsShownTo}
use Rattle.live_session.proofs.OneTurn.{if_some, keeps_on, learns_nothing, learns_on, of_err, same_viewer, shown_numbers}
use Rattle.live_session.proofs.RefusedScripts.{refused_at_too_much, taken_at_end}
use Rattle.live_session.proofs.RunSteps.{costs_at_end, took_nothing, took_on}
use Rattle.live_session.proofs.SessionRuns.{after_turn, all_ended, all_too_much, answered_on, done_fault, has_ended, mail_same, some_on}
use Rattle.live_session.proofs.SoFarLaws.{answered_nothing}
use Rattle.live_session.specs.State.{ends_of}
use Rattle.live_session.specs.declared.turn.Turn.{Turn}
use Rattle.session_core.specs.declared.fault.SessionFault.{SessionFault}
use Rattle.session_core.proofs.SoFar.{fault_is}
use Rattle.live_session.proofs.session.Session.run.Goals as goal

pub turns-init : goal.turns-init
turns-init g c = record {
  between = record {
    so_far = answered_nothing (ends_of g.I.Source g.O.Sink) c.args.viewer.schema g.V.CubeView.is_stat c.args.mail.now.takes false (news_of c.args.viewer.shown c.args.viewer.learned c.args.mail.now) c.args.self.now (omega arith);
    finals = if_some c.args.viewer.last (λ w last. answered_nothing (ends_of g.I.Source g.O.Sink) c.args.viewer.schema g.V.CubeView.is_stat c.args.mail.now.takes true (news_of w w c.args.mail.now) c.args.self.now (omega arith));
    going = c.requires.1;
    pair = c.requires.0;
    source = refl;
    sink = refl;
    viewer = same_viewer c.args.viewer.shown c.args.viewer.learned c.args.viewer.last c.args.viewer.schema;
    mailbox = refl;
    mail_pair = refl;
    learns = learns_nothing c.args.viewer.learned c.args.mail.now c.args.mail.now refl;
    name = refl;
  };
  took = took_nothing g.I.Source c.args.viewer c.args.self.now.source c.args.steps.now;
}

pub turns-preserved : goal.turns-preserved
turns-preserved g c =
    let turn = c.turn-after.ensures in
    let after = c.turn-after.result.0 in
    let was = c.turns.invariant in
    let between =
    after_turn (IsShownTo after) after.shown after.learned after.last after.schema c.turn-after.new.mail c.turn-after.new.self c.turn-after.result.1 c.in-Ok.field-0 was.between c.in-Ok.is (search rules)
    (shown_numbers after g.met.V.CubeView.structure)
    turn.turned.turned turn.faults turn.viewer.0 turn.costs.mail turn.so_far turn.finals in
    record {
      between = between;
      took = took_on g.I.Source c.args.viewer c.args.self.now.source c.args.steps.now c.turns.viewer after c.turns.self.source c.turn-after.new.self.source c.turns.steps c.turn-after.new.steps turn.viewer.0 was.took
          (λ none. absurd (false≢true (sym between.going ∙ none.0)))
          turn.costs.steps;
    }

pub returns-in-Err-clause-done : goal.returns-in-Err-clause-done
returns-in-Err-clause-done g c =
    let was = c.turns.invariant.between in
    let turn = c.turn-after.ensures in
    let after = c.turn-after.result.0 in
    done_fault (ends_of g.I.Source g.O.Sink) g.V.CubeView.is_stat c.args.mail.now.takes false (news_of c.turns.viewer.shown c.turns.viewer.learned c.turns.mail) (news_of after.shown after.learned c.turn-after.new.mail) c.args.self.now c.turns.self c.turn-after.new.self c.turns.viewer.schema c.args.viewer.schema c.turn-after.result.1 c.in-Err.fault was.viewer.same_schema c.in-Err.is turn.so_far was.so_far

pub returns-in-Ok-Ended-clause-finals : goal.returns-in-Ok-Ended-clause-finals
returns-in-Ok-Ended-clause-finals g c =
    let was = c.turns.invariant.between in
    let turn = c.turn-after.ensures in
    some_on c.args.viewer.last c.turns.viewer.last was.viewer.same_last (λ w. answered_on (ends_of g.I.Source g.O.Sink) g.V.CubeView.is_stat c.args.mail.now.takes true (news_of w w c.turns.mail) (news_of w w c.turn-after.new.mail) c.args.self.now c.turns.self c.turn-after.new.self c.turns.viewer.schema c.args.viewer.schema c.turn-after.result.1 c.in-Ok-Ended.field-0 was.viewer.same_schema c.in-Ok-Ended.is) turn.finals was.finals

pub returns-in-Err-clause-finals : goal.returns-in-Err-clause-finals
returns-in-Err-clause-finals g c =
    let was = c.turns.invariant.between in
    let turn = c.turn-after.ensures in
    some_on c.args.viewer.last c.turns.viewer.last was.viewer.same_last (λ w. done_fault (ends_of g.I.Source g.O.Sink) g.V.CubeView.is_stat c.args.mail.now.takes true (news_of w w c.turns.mail) (news_of w w c.turn-after.new.mail) c.args.self.now c.turns.self c.turn-after.new.self c.turns.viewer.schema c.args.viewer.schema c.turn-after.result.1 c.in-Err.fault was.viewer.same_schema c.in-Err.is) turn.finals was.finals

pub returns-in-Ok-Ended-clause-script : goal.returns-in-Ok-Ended-clause-script
returns-in-Ok-Ended-clause-script g c =
    let was = c.turns.invariant.between in
    let turn = c.turn-after.ensures in
    let after = c.turn-after.result.0 in
    let last = rw c.in-Ok-Ended.is at c.in-Ok-Ended.field-0-is in record {
      all = all_ended (ends_of g.I.Source g.O.Sink) g.V.CubeView.is_stat c.args.mail.now.takes false (news_of c.turns.viewer.shown c.turns.viewer.learned c.turns.mail) (news_of after.shown after.learned c.turn-after.new.mail) c.args.self.now c.turns.self c.turn-after.new.self
          (IsShownTo after)
          (shown_numbers after g.met.V.CubeView.structure)
          c.turns.viewer.schema c.args.viewer.schema c.turn-after.result.1 c.in-Ok-Ended.field-0 was.viewer.same_schema c.in-Ok-Ended.is last was.going was.so_far turn.turned.turned;
      too_much = λ e. cc;
      refused = (
        taken_at_end (ends_of g.I.Source g.O.Sink) g.V.CubeView.is_stat c.args.mail.now.takes false (news_of c.turns.viewer.shown c.turns.viewer.learned c.turns.mail) (news_of after.shown after.learned c.turn-after.new.mail) c.args.self.now c.turns.self c.turn-after.new.self
            (IsShownTo after)
            c.turns.viewer.schema c.args.viewer.schema c.turn-after.result.1 c.in-Ok-Ended.field-0 was.viewer.same_schema c.in-Ok-Ended.is last was.going was.so_far turn.turned.turned,
        λ e. cc,
      );
      ended = has_ended (ends_of g.I.Source g.O.Sink) g.V.CubeView.is_stat c.args.mail.now.takes false (news_of c.turns.viewer.shown c.turns.viewer.learned c.turns.mail) (news_of after.shown after.learned c.turn-after.new.mail) c.args.self.now c.turns.self c.turn-after.new.self
          (IsShownTo after)
          (shown_numbers after g.met.V.CubeView.structure)
          c.turns.viewer.schema c.turn-after.result.1 c.in-Ok-Ended.field-0 c.in-Ok-Ended.is last turn.turned.turned;
    }

pub returns-in-Err-clause-script : goal.returns-in-Err-clause-script
returns-in-Err-clause-script g c =
    let was = c.turns.invariant.between in
    let turn = c.turn-after.ensures in
    let after = c.turn-after.result.0 in record {
      all = tt;
      too_much = λ e. all_too_much (ends_of g.I.Source g.O.Sink) g.V.CubeView.is_stat c.args.mail.now.takes false (news_of c.turns.viewer.shown c.turns.viewer.learned c.turns.mail) (news_of after.shown after.learned c.turn-after.new.mail) c.args.self.now c.turns.self c.turn-after.new.self
          c.args.viewer.schema c.turn-after.result.1 c.in-Err.fault c.in-Err.is (fault_is {T = Unit {0}} c.in-Err.fault _ e) was.going was.so_far turn.faults.0;
      refused = (
        tt,
        λ e. refused_at_too_much (ends_of g.I.Source g.O.Sink) g.V.CubeView.is_stat c.args.mail.now.takes false (news_of c.turns.viewer.shown c.turns.viewer.learned c.turns.mail) (news_of after.shown after.learned c.turn-after.new.mail) c.args.self.now c.turns.self c.turn-after.new.self
            c.args.viewer.schema c.turn-after.result.1 c.in-Err.fault c.in-Err.is (fault_is {T = Unit {0}} c.in-Err.fault _ e) was.going was.so_far turn.faults.0,
      );
      ended = (of_err _ c.turn-after.result.1 c.in-Err.fault c.in-Err.is turn.faults.0.ended).0;
    }

pub returns-in-Ok-Ended-clause-viewer : goal.returns-in-Ok-Ended-clause-viewer
returns-in-Ok-Ended-clause-viewer g c = keeps_on c.turns.invariant.between.viewer c.turn-after.ensures.viewer.0

pub returns-in-Err-clause-viewer : goal.returns-in-Err-clause-viewer
returns-in-Err-clause-viewer g c = keeps_on c.turns.invariant.between.viewer c.turn-after.ensures.viewer.0

pub returns-in-Ok-Ended-clause-names : goal.returns-in-Ok-Ended-clause-names
returns-in-Ok-Ended-clause-names g c =
    let was = c.turns.invariant.between in
    let turn = c.turn-after.ensures in
    let names = mail_same c.turn-after.result.0.learned c.turns.mail c.turn-after.new.mail turn.costs.mail in
    (turn.faults.1 ∙ was.name, (names.0 ∙ was.mailbox, names.1 ∙ was.mail_pair, learns_on c.turns.viewer.learned c.turn-after.result.0.learned c.args.mail.now c.turns.mail c.turn-after.new.mail turn.viewer.0.goes.told was.learns turn.costs.mail))

pub returns-in-Err-clause-names : goal.returns-in-Err-clause-names
returns-in-Err-clause-names g c =
    let was = c.turns.invariant.between in
    let turn = c.turn-after.ensures in
    let names = mail_same c.turn-after.result.0.learned c.turns.mail c.turn-after.new.mail turn.costs.mail in
    (turn.faults.1 ∙ was.name, (names.0 ∙ was.mailbox, names.1 ∙ was.mail_pair, learns_on c.turns.viewer.learned c.turn-after.result.0.learned c.args.mail.now c.turns.mail c.turn-after.new.mail turn.viewer.0.goes.told was.learns turn.costs.mail))

pub returns-in-Ok-Ended-clause-costs : goal.returns-in-Ok-Ended-clause-costs
returns-in-Ok-Ended-clause-costs g c =
    let turn = c.turn-after.ensures in
    let was = c.turns.invariant in
    costs_at_end g.I.Source c.args.viewer c.args.self.now.source c.args.steps.now {T = Unit {0}} (Ok tt) c.turns.viewer c.turn-after.result.0 c.turns.self.source c.turn-after.new.self.source c.turns.steps c.turn-after.new.steps (λ ok. subst (λ (r : Result Turn SessionFault). IsOk r) (sym c.in-Ok-Ended.is) refl) turn.viewer.0 was.took turn.costs.steps

pub returns-in-Err-clause-costs : goal.returns-in-Err-clause-costs
returns-in-Err-clause-costs g c =
    let turn = c.turn-after.ensures in
    let was = c.turns.invariant in
    costs_at_end g.I.Source c.args.viewer c.args.self.now.source c.args.steps.now {T = Unit {0}} (Err c.in-Err.fault) c.turns.viewer c.turn-after.result.0 c.turns.self.source c.turn-after.new.self.source c.turns.steps c.turn-after.new.steps (λ ok. absurd (false≢true ok)) turn.viewer.0 was.took turn.costs.steps
