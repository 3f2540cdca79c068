use Rattle.std.proofs.Common.{◌≡◌, [], Some, None, take}
use Rattle.feed_queue.specs.NumberReading.{read_on}
use Rattle.feed_queue.proofs.reading.numbers_of.Given as goal

abbrev pub invariant-loop-byte : goal.invariant-loop-byte
invariant-loop-byte l = read_on (Some ([], None)) (take l.byte-index l.line) ≡ Some (l.numbers.items, l.number)
