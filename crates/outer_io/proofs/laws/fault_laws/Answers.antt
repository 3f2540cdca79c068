use Rattle.outer_io.proofs.CountLaws.{RoseBy-each}
use Rattle.outer_io.proofs.laws.fault_laws.Goals as goal

pub returns : goal.returns
returns c = RoseBy-each
