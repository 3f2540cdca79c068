use Rattle.std.proofs.Common.{◌≡◌, length}
use Rattle.query_syntax.specs.Words.{words}
use Rattle.query_syntax.proofs.words.next_word.Given as goal

abbrev pub invariant-loop-after : goal.invariant-loop-after
invariant-loop-after l = words l.rest ≡ words l.line

abbrev pub decreases-loop-after : goal.decreases-loop-after
decreases-loop-after l = length l.rest
