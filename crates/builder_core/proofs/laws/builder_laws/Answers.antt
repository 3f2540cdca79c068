use Rattle.builder_core.proofs.EntryCounts.{entries_are_few}
use Rattle.builder_core.proofs.laws.builder_laws.Goals as goal

pub returns : goal.returns
returns c = entries_are_few
