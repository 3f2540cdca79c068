use Rattle.world_core.proofs.Interleavings.{prefixes_interleave, counts_interleave, lists_are_determined, amounts_interleave, tables_interleave}
use Rattle.world_core.proofs.laws.interleaving_laws.Goals as goal

pub returns-clause-prefix : goal.returns-clause-prefix
returns-clause-prefix c = prefixes_interleave

pub returns-clause-length : goal.returns-clause-length
returns-clause-length c = counts_interleave

pub returns-clause-lists : goal.returns-clause-lists
returns-clause-lists c = lists_are_determined

pub returns-clause-amount : goal.returns-clause-amount
returns-clause-amount c = amounts_interleave

pub returns-clause-table : goal.returns-clause-table
returns-clause-table c = tables_interleave
