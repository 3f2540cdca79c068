use Rattle.std.proofs.Common.{List, Result, Err, ℕ, ap, subst, sym, arith}
use Rattle.run_files.proofs.Apart.{residual_is}
use Rattle.run_files.specs.Outside.{of_place}
use Rattle.run_files.specs.declared.stop.Stop.{Stop}
use Rattle.recount.specs.AuditTexts.{ReadsText}
use Rattle.recount.proofs.AuditTexts.{text_ended, text_read, text_refused}
use Rattle.recount.proofs.text_reading.read_text.Goals as goal

pub returns-in_err-bytes : goal.returns-in_err-bytes
returns-in_err-bytes g c =
    let p = of_place g.P.Place in
    subst (λ (r : Result (List ℕ) Stop). ReadsText p c.args.place.now c.read_file.new.place c.args.name.now r) (sym (residual_is c.from_residual.result c.in_err-bytes.field-0.0 c.from_residual.ensures.1))
    (text_ended p c.args.place.now c.read_file.new.place c.args.name.now c.in_err-bytes.field-0.0 c.in_err-bytes.ensures.leaves (λ e. c.in_err-bytes.ensures.read (ap (λ k. Err k) e)) c.in_err-bytes.ensures.ends)

pub returns-then-len-gt-LONGEST_TEXT : goal.returns-then-len-gt-LONGEST_TEXT
returns-then-len-gt-LONGEST_TEXT g c =
    text_refused (of_place g.P.Place) c.args.place.now c.read_file.new.place c.args.name.now c.in_ok-bytes.bytes
    c.in_ok-bytes.ensures.leaves c.in_ok-bytes.ensures.bytes (omega (arith, c.len.ensures, c.if-len-gt-LONGEST_TEXT.true))

pub returns : goal.returns
returns g c =
    text_read (of_place g.P.Place) c.args.place.now c.read_file.new.place c.args.name.now c.in_ok-bytes.bytes
    c.in_ok-bytes.ensures.leaves c.in_ok-bytes.ensures.bytes (omega (arith, c.len.ensures, c.if-len-gt-LONGEST_TEXT.false))
