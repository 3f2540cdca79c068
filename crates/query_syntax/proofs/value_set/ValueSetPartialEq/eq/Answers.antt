use Rattle.std.proofs.Common.{arith}
use Rattle.query_syntax.specs.WordsBack.{words_back}
use Rattle.query_syntax.proofs.value_set.ValueSetPartialEq.eq.Goals as goal

pub returns : goal.returns
returns c = grind (arith, words_back)
