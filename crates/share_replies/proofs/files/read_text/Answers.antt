use Rattle.std.proofs.Common.{[], ◌∷◌, ◌≤◌, List, ℕ, Result, Err, length, arith, ap, subst, sym}
use Rattle.std.specs.Result.{result_err}
use Rattle.outer_io.specs.Lines.{input_limit}
use Rattle.run_files.specs.Outside.{file_of, of_place}
use Rattle.run_files.proofs.Fronts.{told_whole}
use Rattle.run_files.proofs.Apart.{residual_is}
use Rattle.run_files.specs.declared.stop.Stop.{Stop}
use Rattle.share_replies.specs.Causes.{ReadsFiles}
use Rattle.share_replies.proofs.ShareEnds.{text_ended, text_read, text_refused}
use Rattle.share_replies.proofs.files.read_text.Goals as goal

pub returns-clause-whole : goal.returns-clause-whole
returns-clause-whole g c = told_whole input_limit (file_of (g.P.Place.files c.args.place.now) c.args.name.now) c.in_ok-bytes.bytes c.in_ok-bytes.ensures.bytes (omega (arith, c.len.ensures, c.if-len-gt-LONGEST_TEXT.false))

pub returns-in_err-bytes-clause-stage : goal.returns-in_err-bytes-clause-stage
returns-in_err-bytes-clause-stage g c =
    let p = of_place g.P.Place in
    subst (λ (r : Result (List ℕ) Stop). ReadsFiles p c.args.place.now c.read_file.new.place (c.args.name.now ∷ []) (result_err r)) (sym (residual_is c.from_residual.result c.in_err-bytes.field-0.0 c.from_residual.ensures.1))
    (text_ended p c.args.place.now c.read_file.new.place c.args.name.now c.in_err-bytes.field-0.0 c.in_err-bytes.ensures.leaves (λ e. c.in_err-bytes.ensures.read (ap (λ k. Err k) e)) c.in_err-bytes.ensures.ends)

pub returns-then-len-gt-LONGEST_TEXT-clause-stage : goal.returns-then-len-gt-LONGEST_TEXT-clause-stage
returns-then-len-gt-LONGEST_TEXT-clause-stage g c =
    text_refused (of_place g.P.Place) c.args.place.now c.read_file.new.place c.args.name.now c.in_ok-bytes.bytes
    c.in_ok-bytes.ensures.leaves c.in_ok-bytes.ensures.bytes (omega (arith, c.len.ensures, c.if-len-gt-LONGEST_TEXT.true))

pub returns-clause-stage : goal.returns-clause-stage
returns-clause-stage g c =
    let short : length c.in_ok-bytes.bytes ≤ input_limit = omega (arith, c.len.ensures, c.if-len-gt-LONGEST_TEXT.false) in
    text_read (of_place g.P.Place) c.args.place.now c.read_file.new.place c.args.name.now c.in_ok-bytes.bytes c.in_ok-bytes.ensures.leaves
    (told_whole input_limit (file_of (g.P.Place.files c.args.place.now) c.args.name.now) c.in_ok-bytes.bytes c.in_ok-bytes.ensures.bytes short) short
