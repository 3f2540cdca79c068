use Rattle.builder_core.proofs.JournalEnds.{ended_of, each_of}
use Rattle.builder_core.proofs.builder.BuilderOf+Of+V.ended.Goals as goal

pub returns-clause-test : goal.returns-clause-test
returns-clause-test g c = ended_of _ _ _ c.self.view_is c.self.invariant

pub returns-clause-each : goal.returns-clause-each
returns-clause-each g c = each_of _ _ _ (ended_of _ _ _ c.self.view_is c.self.invariant)
