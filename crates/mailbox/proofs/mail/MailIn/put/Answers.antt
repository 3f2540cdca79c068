use Rattle.std.proofs.Common.{◌∙◌, ap, sym}
use Rattle.crossbeam_queue.specs.Passes.{ruled_capacity}
use Rattle.mailbox.specs.Ends.{InEnd}
use Rattle.mailbox.proofs.MailboxRule.{may_put, may_put_after, may_remove}
use Rattle.mailbox.proofs.mail.MailIn.put.Goals as goal

pub force_push_as-requires-clause-push : goal.force_push_as-requires-clause-push
force_push_as-requires-clause-push g c =
    let room = ap ruled_capacity c.deref.ensures ∙ c.self.invariant.2 in
    let of = c.requires ∙ ap (λ (e : InEnd). e.pair) (sym c.self.view_is) in
    (may_put _ _ _ _ _ c.self.invariant.1 room of, may_put_after _ _ _ _ _ c.self.invariant.1 room of)

pub force_push_as-requires-clause-pop : goal.force_push_as-requires-clause-pop
force_push_as-requires-clause-pop g c = may_remove _ _ _ _ c.self.invariant.1
