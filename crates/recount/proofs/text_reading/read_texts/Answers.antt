use Rattle.std.proofs.Common.{Result, subst, sym}
use Rattle.run_files.proofs.Apart.{residual_is}
use Rattle.run_files.specs.Outside.{of_place}
use Rattle.run_files.specs.declared.stop.Stop.{Stop}
use Rattle.recount.specs.AuditTexts.{ReadsTexts}
use Rattle.recount.specs.declared.text_reading.Texts.{Texts}
use Rattle.recount.proofs.AuditTexts.{ended_by_journal, ended_by_replies, ended_by_script, read_all}
use Rattle.recount.proofs.text_reading.read_texts.Goals as goal

pub returns-in_err-journal : goal.returns-in_err-journal
returns-in_err-journal g c =
    let p = of_place g.P.Place in
    let n = c.args.names.now in
    subst (λ (r : Result Texts Stop). ReadsTexts p c.args.place.now c.read_text.new.place n.journal.now n.script.now n.replies.now r) (sym (residual_is c.from_residual.result c.in_err-journal.field-0.0 c.from_residual.ensures.1))
    (ended_by_journal p n.journal.now n.script.now n.replies.now c.args.place.now c.read_text.new.place c.in_err-journal.field-0.0 c.in_err-journal.ensures)

pub returns-in_err-script : goal.returns-in_err-script
returns-in_err-script g c =
    let p = of_place g.P.Place in
    let n = c.args.names.now in
    subst (λ (r : Result Texts Stop). ReadsTexts p c.args.place.now c.read_text-2.new.place n.journal.now n.script.now n.replies.now r) (sym (residual_is c.from_residual-in_err-script.result c.in_err-script.field-0.0 c.from_residual-in_err-script.ensures.1))
    (ended_by_script p n.journal.now n.script.now n.replies.now c.args.place.now c.read_text.new.place c.read_text-2.new.place c.in_err-script.field-0.0 c.in_ok-journal.journal c.in_ok-journal.ensures c.in_err-script.ensures)

pub returns-in_err-replies : goal.returns-in_err-replies
returns-in_err-replies g c =
    let p = of_place g.P.Place in
    let n = c.args.names.now in
    subst (λ (r : Result Texts Stop). ReadsTexts p c.args.place.now c.read_text-3.new.place n.journal.now n.script.now n.replies.now r) (sym (residual_is c.from_residual-in_err-replies.result c.in_err-replies.field-0.0 c.from_residual-in_err-replies.ensures.1))
    (ended_by_replies p n.journal.now n.script.now n.replies.now c.args.place.now c.read_text.new.place c.read_text-2.new.place c.read_text-3.new.place c.in_err-replies.field-0.0 c.in_ok-journal.journal c.in_ok-script.script c.in_ok-journal.ensures c.in_ok-script.ensures c.in_err-replies.ensures)

pub returns : goal.returns
returns g c =
    let p = of_place g.P.Place in
    let n = c.args.names.now in
    read_all p n.journal.now n.script.now n.replies.now c.args.place.now c.read_text.new.place c.read_text-2.new.place c.read_text-3.new.place (record { journal = c.in_ok-journal.journal; script = c.in_ok-script.script; replies = c.in_ok-replies.replies })
    c.in_ok-journal.ensures c.in_ok-script.ensures c.in_ok-replies.ensures
