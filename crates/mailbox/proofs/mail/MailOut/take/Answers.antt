use Rattle.mailbox.proofs.MailboxRule.{may_take}
use Rattle.mailbox.proofs.mail.MailOut.take.Goals as goal

pub pop_as-requires-clause-rule : goal.pop_as-requires-clause-rule
pop_as-requires-clause-rule g c = (may_take _ _ _ c.self.invariant.1, λ items views k at. tt)
