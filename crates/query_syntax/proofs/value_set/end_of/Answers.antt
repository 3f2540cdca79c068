use Rattle.std.proofs.Common.{◌*◌, ◌^◌, ◌<◌, ◌≤◌, get_or, subst, ◌∙◌, arith, ⊎_elim}
use Rattle.std.proofs.lemmas.Bool.{cases_lt}
use Rattle.query_syntax.proofs.SetBits.{member_at, no_bit_behind, no_bit_from}
use Rattle.query_syntax.proofs.value_set.end_of.Goals.{then-length-gt0, else-length-gt0}
use Rattle.query_syntax.proofs.value_set.end_of.Goals as goal

pub loop-word-preserved : goal.loop-word-preserved
loop-word-preserved c =
    let words = c.args.bits.now in
    let at = c.loop-word.word in
    let so_far = c.loop-word.invariant in
    let m = c.bit_length-length.result in
    let small : get_or words at 0 < 2 ^ m = subst (λ i. get_or words i 0 < 2 ^ m) c.from.ensures c.bit_length-length.ensures.small in
    elim c.if-length-gt0.branch [
      | then-length-gt0 w ↦ record {
        within = omega (arith, w.end-is, c.bit_length-length.ensures.few);
        none = λ v from before. no_bit_from words at m v small (omega (arith, w.end-is, from)) before;
      }
      | else-length-gt0 w ↦ record {
        within = omega (arith, w.end-is, so_far.within);
        none = λ v from before. ⊎_elim
            (λ (lt : v < 64 * at). so_far.none v (omega (arith, w.end-is, from)) lt)
            (λ (ge : 64 * at ≤ v). no_bit_from words at m v small (let none = w.if-length-gt0.false in omega (arith, ge, none)) before)
            (cases_lt v (64 * at));
      }
    ]

pub returns-clause-none : goal.returns-clause-none
returns-clause-none c = λ v from. member_at c.args.bits.now v ∙ ⊎_elim
    (λ (lt : v < 256). c.loop-word.invariant.none v from (omega (arith, lt)))
    (λ (ge : 256 ≤ v). no_bit_behind c.args.bits.now v (omega (arith, ge)))
    (cases_lt v 256)
