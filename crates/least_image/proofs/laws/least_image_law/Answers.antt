use Rattle.least_image.proofs.Image.{tells_one_image, tells_shared_image}
use Rattle.least_image.proofs.laws.least_image_law.Goals as goal

pub returns-clause-one : goal.returns-clause-one
returns-clause-one c = tells_one_image

pub returns-clause-shared : goal.returns-clause-shared
returns-clause-shared c = tells_shared_image
