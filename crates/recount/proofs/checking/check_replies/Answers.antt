use Rattle.std.proofs.Common.{◌≡◌, ◌≢◌, ◌+◌, [], length, refl, subst, arith, rules}
use Rattle.std.proofs.lemmas.Grind.{common_steps}
use Rattle.recount.specs.Comparing.{Tests}
use Rattle.recount.specs.Faults.{RepliesDiffer}
use Rattle.recount.specs.Verdicts.{RepliesAgree}
use Rattle.recount.specs.declared.verdict.Why.TheVariants.{TooMany}
use Rattle.recount.proofs.ReplyTests.{audited_none, audited_next, audited_fails, audited_all, audited_many}
use Rattle.recount.proofs.checking.check_replies.Goals as goal

pub replies-init : goal.replies-init
replies-init c =
    audited_none c.args.schema.now c.args.points.now c.args.asked.now c.args.replies.now _ refl refl

pub returns-in-Fails : goal.returns-in-Fails
returns-in-Fails c =
    let some : c.replies.rest.now ≢ [] = first_of (search rules, grind (arith, common_steps)) in
    audited_fails c.args.schema.now c.args.points.now c.args.asked.now c.args.replies.now c.replies.marks c.replies.rest.now c.replies.without c.replies.i c.index-asked-i.result c.in-Fails.why c.replies.invariant c.replies-test.true c.index-asked-i.is some
    (subst (Tests c.args.schema.now c.args.points.now c.replies.marks c.test_next.new.marks c.index-asked-i.result c.replies.rest.now) c.in-Fails.is c.in_ok-more.ensures)

pub replies-preserved : goal.replies-preserved
replies-preserved c =
    let next = subst (Tests c.args.schema.now c.args.points.now c.replies.marks c.test_next.new.marks c.index-asked-i.result c.replies.rest.now) c.in-Agrees.is c.in_ok-more.ensures in
    audited_next c.args.schema.now c.args.points.now c.args.asked.now c.args.replies.now c.replies.marks c.test_next.new.marks c.replies.rest.now c.in-Agrees.more.now c.replies.without c.in-Agrees.lacks c.replies.i c.index-asked-i.result next.0 c.replies.invariant c.replies-test.true c.index-asked-i.is next.2 next.3 next.4

pub returns-then-is_empty-2 : goal.returns-then-is_empty-2
returns-then-is_empty-2 c =
    let all : c.replies.i ≡ length c.args.asked.now = omega arith in
    let none : c.replies.rest.now ≡ [] = first_of (search rules, grind (arith, common_steps)) in
    subst (λ n. RepliesAgree c.args.schema.now c.args.points.now c.args.asked.now c.args.replies.now n c.replies.without) all
    (audited_all c.args.schema.now c.args.points.now c.args.asked.now c.args.replies.now c.replies.marks c.replies.rest.now c.replies.without c.replies.i c.replies.invariant all none)

pub returns-else-is_empty-2 : goal.returns-else-is_empty-2
returns-else-is_empty-2 c =
    let all : c.replies.i ≡ length c.args.asked.now = omega arith in
    let some : c.replies.rest.now ≢ [] = first_of (search rules, grind (arith, common_steps)) in
    subst (λ n. RepliesDiffer c.args.schema.now c.args.points.now c.args.asked.now c.args.replies.now (n + 1) TooMany) all
    (audited_many c.args.schema.now c.args.points.now c.args.asked.now c.args.replies.now c.replies.marks c.replies.rest.now c.replies.without c.replies.i c.replies.invariant all some)
