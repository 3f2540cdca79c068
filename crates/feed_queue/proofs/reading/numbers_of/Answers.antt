use Rattle.std.proofs.Common.{◌∙◌, refl}
use Rattle.feed_queue.proofs.ByteByByte.{if_none, read_next, too_many}
use Rattle.feed_queue.proofs.reading.numbers_of.Goals as goal

pub returns-in_err-number-clause-refused : goal.returns-in_err-number-clause-refused
returns-in_err-number-clause-refused c = if_none _ _ (too_many c.args.line.now c.loop-byte.byte-index _ _ 10 _ _ c.loop-byte-test.true refl c.loop-byte.invariant c.in_err-number.ensures.refused)

pub loop-byte-preserved : goal.loop-byte-preserved
loop-byte-preserved c = read_next c.args.line.now c.loop-byte.byte-index _ _ _ _ c.loop-byte-test.true refl c.loop-byte.invariant ∙ c.in_ok-number.ensures.taken
