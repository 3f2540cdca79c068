use Rattle.big_run.proofs.AcceptedLines.{all_accepted}
use Rattle.big_run.proofs.FinalQueries.{asks_four}
use Rattle.big_run.proofs.laws.big_run_laws.Goals as goal

pub returns-clause-accepted : goal.returns-clause-accepted
returns-clause-accepted c = all_accepted

pub returns-clause-asks : goal.returns-clause-asks
returns-clause-asks c = asks_four
