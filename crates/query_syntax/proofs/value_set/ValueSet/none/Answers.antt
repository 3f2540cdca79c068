use Rattle.std.proofs.Common.{refl, ◌<◌, ◌^◌, arith}
use Rattle.std.proofs.lemmas.List.Elements.{All-replicate}
use Rattle.query_syntax.specs.SetBits.{members_in_words, bits_of}
use Rattle.query_syntax.proofs.value_set.ValueSet.none.Goals as goal

pub returns : goal.returns
unfolding members_in_words bits_of
returns c = refl

pub invariant_of-result : goal.invariant_of-result
invariant_of-result c = record { four = refl; small = All-replicate (λ w. w < 2 ^ 64) 4 0 (omega arith) }
