use Rattle.std.proofs.Common.{◌<◌, false, length, take, sym, ◌∙◌, arith}
use Rattle.std.proofs.lemmas.Bool.{and_from}
use Rattle.std.proofs.lemmas.List.{get_or-take, length-take-le}
use Rattle.std.proofs.lemmas.List.Folds.{list_all_at, list_all_more}
use Rattle.query_syntax.specs.SetBits.{members_in_words}
use Rattle.query_syntax.proofs.SetBits.{length_four}
use Rattle.query_syntax.proofs.value_set.are_members_under.Goals as goal

pub returns-then-not-is_member : goal.returns-then-not-is_member
returns-then-not-is_member c =
    let xs = members_in_words c.args.bits.now in
    let n = c.args.count in
    let v = c.loop-value.value in
    let within : v < length (take n xs) = omega (arith, length-take-le n xs (omega (arith, length_four c.args.bits.now (omega arith)))) in
    sym (list_all_at (λ b. b) (take n xs) v false within (get_or-take n xs v false (omega arith) ∙ (sym c.is_member.ensures ∙ c.if-not-is_member.true)))

pub loop-value-preserved : goal.loop-value-preserved
loop-value-preserved c =
    let xs = members_in_words c.args.bits.now in
    let v = c.loop-value.value in
    list_all_more (λ b. b) xs v false (omega (arith, length_four c.args.bits.now (omega arith)))
    ∙ and_from _ _ c.loop-value.invariant (sym c.is_member.ensures ∙ c.if-not-is_member.false)
