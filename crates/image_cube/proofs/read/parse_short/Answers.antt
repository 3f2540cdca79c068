use Rattle.std.proofs.Common.{arith}
use Rattle.std.proofs.lemmas.Option.{MatchOption-at_some, MatchOption-at_none}
use Rattle.image_cube.proofs.TestableSlots.{heavy_unfit}
use Rattle.image_cube.proofs.read.parse_short.Goals as goal

pub returns-in-Ok-Some-clause-image : goal.returns-in-Ok-Some-clause-image
returns-in-Ok-Some-clause-image c = (omega (arith, c.if-bytes-gt-MOST_BYTES.false), MatchOption-at_some _ _ c.in-Ok-Some.image c.in-Ok-Some.field-0-is c.in-Ok-Some.ensures.image)

pub returns-in-Ok-None-clause-refused : goal.returns-in-Ok-None-clause-refused
returns-in-Ok-None-clause-refused c = λ schema. heavy_unfit schema c.args.bytes.now c.image_parse_laws.ensures.orderly c.size_laws.ensures.light (omega (arith, c.if-bytes-gt-MOST_BYTES.false)) (MatchOption-at_none _ _ c.in-Ok-None.field-0-is c.in-Ok-None.ensures.image)
