use Rattle.std.proofs.Common.{rules}
use Rattle.mailbox.proofs.MailboxRule.{new_place, may_name, may_begin, may_part}
use Rattle.mailbox.proofs.mail.open_mail.Goals as goal

pub ruled-requires-clause-rule : goal.ruled-requires-clause-rule
ruled-requires-clause-rule g c = new_place

pub try_push_as-requires-clause-rule : goal.try_push_as-requires-clause-rule
try_push_as-requires-clause-rule g c = may_name _ _ _ c.tell.result c.in_ok-place.ensures.3

pub try_pop_as-requires-clause-rule : goal.try_pop_as-requires-clause-rule
try_pop_as-requires-clause-rule g c = may_begin _ _ c.tell.result.front (search rules)

pub another-taking-requires-clause-rule : goal.another-taking-requires-clause-rule
another-taking-requires-clause-rule g c = may_part _ _ c.tell.result.front (search rules)
