use Rattle.std.proofs.Common.{arith}
use Rattle.image_parse.proofs.ImageReads.{image_found, image_none}
use Rattle.image_parse.proofs.image.parse_image.Goals as goal

pub returns-clause-image : goal.returns-clause-image
returns-clause-image c = image_found c.args.bytes.now c.take_image.result (λ i. omega (arith, c.type_inv.bytes i)) c.take_image.ensures

pub returns-clause-none : goal.returns-clause-none
returns-clause-none c = image_none c.args.bytes.now c.take_image.result c.take_image.ensures
