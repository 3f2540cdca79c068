use Rattle.std.proofs.Common.{ℕ, ◌^◌, ◌<◌, subst, arith}
use Rattle.std.proofs.lemmas.Nat.{leading_length}
use Rattle.query_syntax.proofs.value_set.bit_length.Goals as goal

pub returns-clause-small : goal.returns-clause-small
returns-clause-small c =
    let length = leading_length 64 c.args.word c.ranges.word.fits in
    subst (λ (m : ℕ). c.args.word < 2 ^ m) (let e = length.1 in omega (arith, e)) length.2
