use Rattle.shape_test.proofs.StepBounds.{tells_short}
use Rattle.shape_test.proofs.homes.home_laws.Goals as goal

pub returns : goal.returns
returns c = tells_short
