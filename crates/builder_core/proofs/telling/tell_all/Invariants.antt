use Rattle.std.proofs.Common.{◌≡◌, ◌++◌, map, length, take, drop}
use Rattle.builder_core.specs.Telling.{having_put}
use Rattle.builder_core.proofs.telling.tell_all.Given as goal

abbrev pub invariant-loop-mail : goal.invariant-loop-mail
invariant-loop-mail g l = l.mails ≡ map (having_put (length l.builder.published.points)) (take l.mail-index l.initial.mails) ++ drop l.mail-index l.initial.mails
