use Rattle.std.proofs.Common.{Err, max, sym, ap, ◌∙◌, subst}
use Rattle.std.proofs.lemmas.Bool.{false≢true}
use Rattle.recount.specs.declared.testing.Marks.{Marks}
use Rattle.run_files.proofs.Apart.{residual_is}
use Rattle.session_core.specs.Transcript.{MayCome, seen_in, told_in}
use Rattle.share_replies.specs.Refusals.{total_of_sum}
use Rattle.live_sums.proofs.NextReplies.{err_wrong, fault_is, is_behind, sum_refused, unreadable_wrong, wrong_is}
use Rattle.live_sums.specs.declared.fault.WrongShare.TheVariants as share
use Rattle.live_sums.proofs.replies.Replies.add_next.Goals as goal

pub returns-in_err-reply-clause-wrong : goal.returns-in_err-reply-clause-wrong
returns-in_err-reply-clause-wrong g c w e =
    let f = c.in_err-reply.field-0.0 in
    unreadable_wrong g.S.Source.left c.args.asked.now (total_of_sum c.args.sum.now) c.args.self.now w
    (c.in_err-reply.ensures.wrong w (ap (λ x. Err x) (fault_is f w c.from_residual.result (residual_is c.from_residual.result f c.from_residual.ensures.1) e)))

pub returns-in-Err-clause-wrong : goal.returns-in-Err-clause-wrong
returns-in-Err-clause-wrong g c w e =
    sum_refused g.S.Source.left c.args.asked.now (total_of_sum c.args.sum.now) c.args.self.now c.next.new.self c.in_ok-reply.reply c.in_ok-reply.ensures.read c.in-Err.fault c.fault_of_sum.result w c.fault_of_sum.ensures (err_wrong c.fault_of_sum.result w e)
    (λ v is. c.in-Err.ensures.wrong v (ap (λ x. Err x) is))

pub returns-then-not-may_come-clause-wrong : goal.returns-then-not-may_come-clause-wrong
returns-then-not-may_come-clause-wrong g c w e =
    is_behind g.S.Source.left c.args.asked.now (total_of_sum c.args.sum.now) c.args.self.now c.next.new.self c.in_ok-reply.reply c.in_ok-reply.ensures.read w c.next.new.self.marks c.in_ok-reply.ensures.marks (wrong_is share.Behind w (err_wrong _ w e))
    (λ comes. false≢true (sym c.if-not-may_come.true ∙ c.may_come.ensures.1 comes))

pub returns-clause-adds : goal.returns-clause-adds
returns-clause-adds g c =
    let marks = c.in_ok-reply.ensures.marks in
    let r = c.in_ok-reply.reply in
    record {
      reply = r;
      takes = record {
        read = record { printable = c.in_ok-reply.ensures.read.printable; taken = c.in_ok-reply.ensures.read.taken };
        comes = subst (λ (m : Marks). MayCome m.seen m.told r) marks (c.may_come.ensures.0 c.if-not-may_come.false);
        seen = c.marks_after-self.ensures.seen ∙ ap (λ (m : Marks). max m.seen (seen_in r)) marks;
        told = c.marks_after-self.ensures.told ∙ ap (λ (m : Marks). max m.told (told_in r)) marks;
      };
      adds = c.in-Ok.ensures.right;
      law = λ schema s t is final. (c.in-Ok.ensures.law schema s t is final).0;
    }
