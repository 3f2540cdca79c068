use Rattle.std.proofs.Common.{Result, subst, sym}
use Rattle.run_files.proofs.Apart.{residual_is}
use Rattle.run_files.specs.Outside.{of_sink}
use Rattle.run_files.specs.declared.stop.Stop.{Stop}
use Rattle.recount.proofs.Puts.{decided_under, said, unsaid}
use Rattle.recount.specs.Said.{AuditsTexts}
use Rattle.recount.specs.declared.audit.Audit.{Audit}
use Rattle.recount.proofs.recounting.audit_texts.Goals as goal

pub returns-in_err-say_verdict-in-Ok : goal.returns-in_err-say_verdict-in-Ok
returns-in_err-say_verdict-in-Ok g c =
    let s = of_sink g.O.Sink in
    let texts = c.args.texts.now in
    let k = c.in_err-say_verdict-in-Ok.field-0.0 in
    subst (λ (r : Result Audit Stop). AuditsTexts s c.args.out.now c.say_verdict.new.out c.args.plan.now texts r) (sym (residual_is c.from_residual.result k c.from_residual.ensures.1))
    (unsaid s c.args.out.now c.say_verdict.new.out c.args.plan.now texts c.in-Ok.verdict k
    (decided_under c.args.plan.now c.len-feeders.result c.as_slice-journal.result.now c.as_slice-script.result.now c.as_slice.result.now texts.journal texts.script texts.replies c.in-Ok.verdict
    c.len-feeders.ensures c.as_slice-journal.ensures c.as_slice-script.ensures c.as_slice.ensures (c.in-Ok.ensures.decided, c.in-Ok.ensures.only, c.in-Ok.ensures.agrees))
    c.in_err-say_verdict-in-Ok.ensures)

pub returns-in_ok-say_verdict-in-Ok : goal.returns-in_ok-say_verdict-in-Ok
returns-in_ok-say_verdict-in-Ok g c =
    let texts = c.args.texts.now in
    said (of_sink g.O.Sink) c.args.out.now c.say_verdict.new.out c.args.plan.now texts c.in-Ok.verdict c.in_ok-say_verdict-in-Ok.field-0 c.audit_of.result
    (decided_under c.args.plan.now c.len-feeders.result c.as_slice-journal.result.now c.as_slice-script.result.now c.as_slice.result.now texts.journal texts.script texts.replies c.in-Ok.verdict
    c.len-feeders.ensures c.as_slice-journal.ensures c.as_slice-script.ensures c.as_slice.ensures (c.in-Ok.ensures.decided, c.in-Ok.ensures.only, c.in-Ok.ensures.agrees))
    c.audit_of.ensures c.in_ok-say_verdict-in-Ok.ensures
