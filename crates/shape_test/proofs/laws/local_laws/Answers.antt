use Rattle.shape_test.proofs.Bag.{tells_cube, tells_local}
use Rattle.shape_test.proofs.laws.local_laws.Goals as goal

pub returns-clause-cube : goal.returns-clause-cube
returns-clause-cube c = tells_cube

pub returns-clause-local : goal.returns-clause-local
returns-clause-local c = tells_local
