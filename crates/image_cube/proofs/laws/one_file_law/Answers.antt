use Rattle.image_cube.proofs.LeastOfCube.{one_file}
use Rattle.image_cube.proofs.laws.one_file_law.Goals as goal

pub returns : goal.returns
returns c = one_file c.image_laws.ensures.one
