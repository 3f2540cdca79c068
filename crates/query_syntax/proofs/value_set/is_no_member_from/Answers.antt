use Rattle.std.proofs.Common.{◌≡◌, ◌+◌, Bool, true, false, ◌||◌, not, List, drop, sym, ◌∙◌, ap, arith}
use Rattle.std.specs.List.{list_any}
use Rattle.std.proofs.lemmas.List.{drop_more, drop_all}
use Rattle.query_syntax.specs.SetBits.{members_in_words}
use Rattle.query_syntax.proofs.SetBits.{length_four}
use Rattle.query_syntax.proofs.value_set.is_no_member_from.Goals as goal

abbrev some : List Bool → Bool
some set = list_any (λ b. b) set

pub returns-then-is_member : goal.returns-then-is_member
returns-then-is_member c =
    let xs = members_in_words c.args.bits.now in
    let v = c.loop-value.value in
    let there : some (drop c.args.count xs) ≡ true = c.loop-value.invariant ∙ ap some (drop_more xs v false (omega (arith, length_four c.args.bits.now (omega arith)))) ∙ ap (λ b. b || some (drop (v + 1) xs)) (sym c.is_member.ensures ∙ c.if-is_member.true) in
    sym (ap not there)

pub loop-value-preserved : goal.loop-value-preserved
loop-value-preserved c =
    let xs = members_in_words c.args.bits.now in
    let v = c.loop-value.value in
    c.loop-value.invariant ∙ ap some (drop_more xs v false (omega (arith, length_four c.args.bits.now (omega arith)))) ∙ ap (λ b. b || some (drop (v + 1) xs)) (sym c.is_member.ensures ∙ c.if-is_member.false)

pub returns : goal.returns
returns c =
    let xs = members_in_words c.args.bits.now in
    let none : some (drop c.args.count xs) ≡ false = c.loop-value.invariant ∙ ap some (drop_all c.loop-value.value xs (omega (arith, length_four c.args.bits.now (omega arith)))) in
    sym (ap not none)
