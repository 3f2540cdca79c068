use Rattle.std.proofs.Common.{inl, refl, sym, subst}
use Rattle.run_files.proofs.Apart.{residual_is}
use Rattle.live_sums.proofs.SessionTurns.{turn_fails}
use Rattle.live_sums.specs.Sessions.{EndsLine}
use Rattle.live_sums.specs.Turns.{live_seen, stage}
use Rattle.live_sums.specs.declared.fault.TurnFault.TheVariants as turn
use Rattle.live_sums.proofs.serving.serve_line.Goals as goal

pub returns-in_err-next_question-clause-ends : goal.returns-in_err-next_question-clause-ends
returns-in_err-next_question-clause-ends g c =
    let seen = live_seen g.A.Sink g.S.Source g.O.Sink in
    let before = stage c.args.asks.now c.args.runs.now c.args.out.now in
    let k = c.in_err-next_question.field-0.0 in
    subst (EndsLine seen c.args.schema.now before before) (sym (residual_is c.from_residual.result (turn.Stopped k) c.from_residual.ensures.1)) (inl refl)

pub returns-in_err-answer_question-in-Asks-clause-ends : goal.returns-in_err-answer_question-in-Asks-clause-ends
returns-in_err-answer_question-in-Asks-clause-ends g c =
    let seen = live_seen g.A.Sink g.S.Source g.O.Sink in
    let before = stage c.args.asks.now c.args.runs.now c.args.out.now in
    let after = stage c.answer_question.new.asks c.answer_question.new.runs c.answer_question.new.out in
    let f = c.in_err-answer_question-in-Asks.field-0.0 in
    subst (EndsLine seen c.args.schema.now before after) (sym (residual_is c.from_residual-in_err-answer_question-in-Asks.result f c.from_residual-in_err-answer_question-in-Asks.ensures.1))
    (turn_fails seen c.args.schema.now c.in-Asks.question before after f c.in_err-answer_question-in-Asks.ensures.ends)

pub returns-in_ok-answer_question-in-Asks-clause-ends : goal.returns-in_ok-answer_question-in-Asks-clause-ends
returns-in_ok-answer_question-in-Asks-clause-ends g c = (c.in-Asks.question, c.in_ok-answer_question-in-Asks.ensures.ends)
