use Rattle.std.proofs.Common.{refl}
use Rattle.group_insert.specs.Entry.{owned, no_turn}
use Rattle.group_insert.proofs.NoTurns.{none_there}
use Rattle.group_insert.proofs.way.put_later.Goals as goal

pub returns-in_default-clause-put : goal.returns-in_default-clause-put
returns-in_default-clause-put g c =
    let r = none_there c.not_own.result c.in_default.not-Some c.not_own.ensures.owned in
    (refl, owned r.0 r.1)

pub returns-in-None-clause-put : goal.returns-in-None-clause-put
returns-in-None-clause-put g c = (refl, no_turn c.in-Some.old c.in-Some.ensures.shared c.in-None.ensures.none)
