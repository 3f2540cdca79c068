use Rattle.std.proofs.Common.{IsTrue, All, sym, ◌∙◌, subst}
use Rattle.cube_view.specs.Validity.{sound}
use Rattle.recount.specs.Reading.{ReadsJournal}
use Rattle.recount.specs.declared.verdict.Verdict.TheVariants as verdict
use Rattle.recount.proofs.OneVerdict.{one_verdict, agree_agrees, agrees_agree, decided_by, if_ok_each}
use Rattle.recount.proofs.JournalEntries.{points_sound}
use Rattle.recount.proofs.checking.check.Goals as goal

pub check_replies-requires-clause-sound : goal.check_replies-requires-clause-sound
check_replies-requires-clause-sound c =
    let read = subst (ReadsJournal c.args.schema.now c.args.feeders c.args.journal.now) c.in-Points.is c.in_ok-line.ensures in
    subst (All (λ p. IsTrue (sound c.args.schema.now p))) (sym (c.as_slice.ensures.value ∙ read.2)) (points_sound c.args.schema.now read.0 read.1.0.valid)

pub returns-in-Differs-clause-only : goal.returns-in-Differs-clause-only
returns-in-Differs-clause-only c w has =
    let differs = subst (ReadsJournal c.args.schema.now c.args.feeders c.args.journal.now) c.in-Differs.is c.in_ok-line.ensures in
    one_verdict c.args.schema.now c.args.feeders c.journal_laws.ensures.prefix c.args.journal.now c.args.script.now c.args.replies.now w (verdict.Journal c.in-Differs.line c.in-Differs.why) has differs

pub returns-in-Differs-clause-agrees : goal.returns-in-Differs-clause-agrees
returns-in-Differs-clause-agrees c =
    let differs = subst (ReadsJournal c.args.schema.now c.args.feeders c.args.journal.now) c.in-Differs.is c.in_ok-line.ensures in
    (λ never. absurd never, agrees_agree c.args.schema.now c.args.feeders c.journal_laws.ensures.prefix c.args.journal.now c.args.script.now c.args.replies.now (verdict.Journal c.in-Differs.line c.in-Differs.why) differs)

pub returns-in_ok-asked-in-Points-clause-only : goal.returns-in_ok-asked-in-Points-clause-only
returns-in_ok-asked-in-Points-clause-only c =
    let read = subst (ReadsJournal c.args.schema.now c.args.feeders c.args.journal.now) c.in-Points.is c.in_ok-line.ensures in
    if_ok_each c.check_replies.result _ _
    (λ v has w other.
    one_verdict c.args.schema.now c.args.feeders c.journal_laws.ensures.prefix c.args.journal.now c.args.script.now c.args.replies.now w v other
    (decided_by c.args.schema.now c.args.feeders c.journal_laws.ensures.prefix c.args.journal.now c.args.script.now c.args.replies.now read.0 read.1 c.as_slice.result.now c.as_slice-in-Points.result.now (c.as_slice.ensures.value ∙ read.2) (c.as_slice-in-Points.ensures ∙ c.in_ok-asked-in-Points.ensures.asked) v has))
    c.check_replies.ensures

pub returns-in_ok-asked-in-Points-clause-agrees : goal.returns-in_ok-asked-in-Points-clause-agrees
returns-in_ok-asked-in-Points-clause-agrees c =
    let read = subst (ReadsJournal c.args.schema.now c.args.feeders c.args.journal.now) c.in-Points.is c.in_ok-line.ensures in
    if_ok_each c.check_replies.result _ _
    (λ v has.
    let decided = decided_by c.args.schema.now c.args.feeders c.journal_laws.ensures.prefix c.args.journal.now c.args.script.now c.args.replies.now read.0 read.1 c.as_slice.result.now c.as_slice-in-Points.result.now (c.as_slice.ensures.value ∙ read.2) (c.as_slice-in-Points.ensures ∙ c.in_ok-asked-in-Points.ensures.asked) v has in
    (agree_agrees c.args.schema.now c.args.feeders c.journal_laws.ensures.prefix c.args.journal.now c.args.script.now c.args.replies.now v decided, agrees_agree c.args.schema.now c.args.feeders c.journal_laws.ensures.prefix c.args.journal.now c.args.script.now c.args.replies.now v decided))
    c.check_replies.ensures
