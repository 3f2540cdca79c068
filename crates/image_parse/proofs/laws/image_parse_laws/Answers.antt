use Rattle.image_parse.proofs.Readable.{orderly}
use Rattle.image_parse.proofs.ImageReads.{one_meaning}
use Rattle.image_parse.proofs.laws.image_parse_laws.Goals as goal

pub returns-clause-one : goal.returns-clause-one
returns-clause-one c = one_meaning

pub returns-clause-orderly : goal.returns-clause-orderly
returns-clause-orderly c = orderly c.image_laws.ensures.own
