use Rattle.feed_reader.proofs.FieldReads.{bare_to_comma, bare_to_last}
use Rattle.feed_reader.proofs.regular.bare_field.Goals as goal

pub returns-in-None : goal.returns-in-None
returns-in-None c = bare_to_last c.args.bytes.now c.in-None.ensures

pub returns-in-Some : goal.returns-in-Some
returns-in-Some c = bare_to_comma c.args.bytes.now c.in-Some.n c.in-Some.ensures c.if-bytes-n-eq44.true
