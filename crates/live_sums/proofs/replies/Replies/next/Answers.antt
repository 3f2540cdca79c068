use Rattle.std.proofs.Common.{Err, drop, refl, sym, ap, ◌∙◌}
use Rattle.run_files.proofs.Apart.{residual_is}
use Rattle.live_sums.proofs.NextReplies.{fault_is, reads_next, unread_other}
use Rattle.live_sums.proofs.replies.Replies.next.Goals as goal

pub returns-clause-read : goal.returns-clause-read
returns-clause-read g c =
    reads_next g.S.Source.left c.args.self.now c.fill.new.self (record c.fill.new.self { held = c.in_ok-rest.rest }) c.as_slice.result.now c.in_ok-first.first.reply c.in_ok-first.first.size
    c.as_slice.ensures.value c.in_ok-fill.ensures.keeps c.in_ok-first.ensures.printable c.in_ok-first.ensures.line refl
    (c.in_ok-rest.ensures.rest ∙ ap (drop c.in_ok-first.first.size) (c.as_slice-2.ensures.value ∙ sym c.as_slice.ensures.value))

pub returns-in_err-fill-clause-wrong : goal.returns-in_err-fill-clause-wrong
returns-in_err-fill-clause-wrong g c w e =
    let f = c.in_err-fill.field-0.0 in
    c.in_err-fill.ensures.ended w (ap (λ x. Err x) (fault_is f w c.from_residual.result (residual_is c.from_residual.result f c.from_residual.ensures.1) e))

pub returns-in_err-first-clause-wrong : goal.returns-in_err-first-clause-wrong
returns-in_err-first-clause-wrong g c w e =
    let f = c.in_err-first.field-0.0 in
    let is = ap (λ x. Err x) (fault_is f w c.from_residual-in_err-first.result (residual_is c.from_residual-in_err-first.result f c.from_residual-in_err-first.ensures.1) e) in
    unread_other g.S.Source.left c.args.self.now c.fill.new.self c.as_slice.result.now w c.as_slice.ensures.value c.in_ok-fill.ensures.keeps c.in_ok-fill.ensures.line (c.in_err-first.ensures.not_reply w is) (c.in_err-first.ensures.none w is)

pub returns-in_err-rest-clause-wrong : goal.returns-in_err-rest-clause-wrong
returns-in_err-rest-clause-wrong g c w e =
    let f = c.in_err-rest.field-0.0 in
    absurd (c.in_err-rest.ensures.right w (ap (λ x. Err x) (fault_is f w c.from_residual-in_err-rest.result (residual_is c.from_residual-in_err-rest.result f c.from_residual-in_err-rest.ensures.1) e)))
