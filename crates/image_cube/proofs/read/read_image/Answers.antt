use Rattle.image_cube.proofs.TestableSlots.{image_testable, image_read}
use Rattle.image_cube.proofs.read.read_image.Goals as goal

pub fit_image-requires-clause-testable : goal.fit_image-requires-clause-testable
fit_image-requires-clause-testable c =
    let L = c.in-Ok.ensures.image in
    image_testable c.args.bytes.now c.in-Ok.image.size c.in-Ok.image.arena (c.image_parse_laws.ensures.orderly c.args.bytes.now c.in-Ok.image.size c.in-Ok.image.arena L.1.image) L.1.image

pub returns-in-Ok : goal.returns-in-Ok
returns-in-Ok c =
    let L = c.in-Ok.ensures.image in
    image_read c.args.schema.now c.args.bytes.now c.in-Ok.image.arena c.in-Ok.image.size c.image_parse_laws.ensures.orderly L.0 L.1.image c.fit_image.result c.fit_image.ensures

pub returns-in-Err : goal.returns-in-Err
returns-in-Err c = c.in-Err.ensures.refused c.args.schema.now
