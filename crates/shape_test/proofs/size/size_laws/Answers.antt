use Rattle.shape_test.proofs.Light.{tells_light}
use Rattle.shape_test.proofs.CubePoints.{tells_points}
use Rattle.shape_test.proofs.size.size_laws.Goals as goal

pub returns-clause-points : goal.returns-clause-points
returns-clause-points c = tells_points

pub returns-clause-light : goal.returns-clause-light
returns-clause-light c = tells_light
