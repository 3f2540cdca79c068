use Rattle.std.proofs.Common.{List, ℕ, Err, refl, sym, ap, subst}
use Rattle.std.specs.List.{AllZip}
use Rattle.run_files.proofs.Apart.{residual_is}
use Rattle.run_files.specs.Outside.{Puts, of_sink}
use Rattle.share_replies.specs.Shares.{together}
use Rattle.live_sums.proofs.RunSums.{parts_final}
use Rattle.live_sums.proofs.TurnClaims.{turn_refused, turn_unasked, turn_unsaid}
use Rattle.live_sums.specs.declared.fault.TurnFault.TheVariants as turn
use Rattle.live_sums.specs.Turns.{EndsTurn, stage, live_seen, seen_parts}
use Rattle.live_sums.proofs.turn.answer_question.Goals as goal

pub returns-in_err-ask_all-clause-ends : goal.returns-in_err-ask_all-clause-ends
returns-in_err-ask_all-clause-ends g c =
    let seen = live_seen g.A.Sink g.S.Source g.O.Sink in
    let before = stage c.args.asks.now c.args.runs.now c.args.out.now in
    let after = stage c.ask_all.new.asks c.args.runs.now c.args.out.now in
    let f = c.in_err-ask_all.field-0.0 in
    subst (EndsTurn seen c.args.schema.now c.args.question.now before after) (sym (residual_is c.from_residual.result f c.from_residual.ensures.1))
    (turn_unasked seen c.args.schema.now c.args.question.now before after f c.requires.each (λ k w e. c.in_err-ask_all.ensures.place k w (ap (λ x. Err x) e)) refl refl)

pub returns-in_err-sum-clause-ends : goal.returns-in_err-sum-clause-ends
returns-in_err-sum-clause-ends g c =
    let seen = live_seen g.A.Sink g.S.Source g.O.Sink in
    let before = stage c.args.asks.now c.args.runs.now c.args.out.now in
    let after = stage c.ask_all.new.asks c.sum_of_runs.new.runs c.args.out.now in
    let f = c.in_err-sum.field-0.0 in
    let asks = subst (λ (line : List ℕ). AllZip (λ ask now. Puts (of_sink g.A.Sink) ask now line) c.args.asks.now c.ask_all.new.asks) c.as_slice.ensures.value c.in_ok-ask_all.ensures.asked in
    subst (EndsTurn seen c.args.schema.now c.args.question.now before after) (sym (residual_is c.from_residual-in_err-sum.result f c.from_residual-in_err-sum.ensures.1))
    (turn_refused seen c.args.schema.now c.args.question.now before after f asks (λ k w e. c.in_err-sum.ensures.wrong k w (ap (λ x. Err x) e)) refl)

pub returns-in_err-put_sum-clause-ends : goal.returns-in_err-put_sum-clause-ends
returns-in_err-put_sum-clause-ends g c =
    let seen = live_seen g.A.Sink g.S.Source g.O.Sink in
    let before = stage c.args.asks.now c.args.runs.now c.args.out.now in
    let after = stage c.ask_all.new.asks c.sum_of_runs.new.runs c.put_sum.new.out in
    let k = c.in_err-put_sum.field-0.0 in
    subst (EndsTurn seen c.args.schema.now c.args.question.now before after) (sym (residual_is c.from_residual-in_err-put_sum.result (turn.Stopped k) c.from_residual-in_err-put_sum.ensures.1))
    (turn_unsaid seen c.args.schema.now c.args.question.now before after (turn.Stopped k) k refl c.in_ok-sum.sum c.in_ok-sum.ensures.sums c.in_err-put_sum.ensures.puts)

pub returns-clause-ends : goal.returns-clause-ends
returns-clause-ends g c =
    let asks = subst (λ (line : List ℕ). AllZip (λ ask now. Puts (of_sink g.A.Sink) ask now line) c.args.asks.now c.ask_all.new.asks) c.as_slice.ensures.value c.in_ok-ask_all.ensures.asked in
    let p = c.args.question.now.asked in
    let sums = c.in_ok-sum.ensures.sums in
    record {
      asks = asks;
      sum = c.in_ok-sum.sum;
      sums = sums;
      puts = c.in_ok-put_sum.ensures.puts.puts;
      law = λ lists are.
          let parts = seen_parts lists sums.replies in
          c.in_ok-put_sum.ensures.law c.args.schema.now (together parts) p (sums.law parts (parts_final c.args.schema.now p lists sums.replies are));
    }
