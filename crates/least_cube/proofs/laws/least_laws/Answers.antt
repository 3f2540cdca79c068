use Rattle.least_cube.proofs.Needed.{tells_needed}
use Rattle.least_cube.proofs.Fewest.{tells_fewest}
use Rattle.least_cube.proofs.Finest.{tells_targets, tells_one_finest}
use Rattle.least_cube.proofs.laws.least_laws.Goals as goal

pub returns-clause-needed : goal.returns-clause-needed
returns-clause-needed c = tells_needed

pub returns-clause-fewest : goal.returns-clause-fewest
returns-clause-fewest c = tells_fewest

pub returns-clause-targets : goal.returns-clause-targets
returns-clause-targets c = tells_targets

pub returns-clause-finest : goal.returns-clause-finest
returns-clause-finest c = tells_one_finest
