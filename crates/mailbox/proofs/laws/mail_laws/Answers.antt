use Rattle.mailbox.proofs.HeldLetters.{holds_last_put}
use Rattle.mailbox.proofs.laws.mail_laws.Goals as goal

pub returns : goal.returns
returns c = holds_last_put
