use Rattle.std.proofs.Common.{[], ◌∷◌, All, IsTrue, List, ℕ, Option, map, sym, ◌∙◌, ap, subst}
use Rattle.std.specs.Prelude.{string_bytes}
use Rattle.outer_io.specs.Files.{Files, file_or_empty}
use Rattle.outer_io.specs.Lines.{lines}
use Rattle.query_syntax.specs.Meaning.{asks_valid}
use Rattle.query_syntax.specs.declared.query.Parsed.{Parsed}
use Rattle.run_files.specs.Outside.{file_of, of_place}
use Rattle.session_core.specs.Asked.{asked}
use Rattle.share_replies.specs.Shares.{nothing}
use Rattle.share_replies.specs.Sums.{SumsOver}
use Rattle.share_replies.proofs.ShallowQueries.{all_shallow}
use Rattle.share_replies.proofs.FileSums.{told_is}
use Rattle.share_replies.proofs.Outcomes.{sums_asked}
use Rattle.share_replies.proofs.ShareClaims.{decides_script}
use Rattle.share_replies.proofs.ShareEnds.{files_lacked, front_one, replies_then}
use Rattle.share_replies.proofs.adding.sums_of.Goals as goal

pub add_files-requires-clause-shallow : goal.add_files-requires-clause-shallow
add_files-requires-clause-shallow g c κs within =
    all_shallow c.args.schema.now c.as_slice-3.result.now (subst (λ (qs : List Parsed). All (λ (p : Parsed). IsTrue (asks_valid c.args.schema.now p)) qs) (sym c.as_slice-3.ensures) c.in-Ok-asked_of.ensures.valid)

pub returns-clause-law : goal.returns-clause-law
returns-clause-law g c files shares told are =
    let schema = c.args.schema.now in
    let name = c.args.names.now.script.now in
    let here = ap (λ (fs : Option Files). file_of fs name) told in
    let script = c.as_slice.ensures ∙ told_is (file_of (g.P.Place.files c.args.place.now) name) c.in-Ok.script (file_or_empty files name) c.in-Ok.ensures.whole here in
    let same = c.as_slice-3.ensures ∙ c.in-Ok-asked_of.ensures.asked ∙ ap (λ (t : List ℕ). asked schema (lines t)) script in
    let first = subst (λ (qs : List Parsed). SumsOver schema nothing qs c.in-Ok-first_sums.first) (c.as_slice-2.ensures ∙ sym c.as_slice-3.ensures) c.in-Ok-first_sums.ensures.sums in
    sums_asked schema c.as_slice-3.result.now (asked schema (lines (file_or_empty files name))) shares (map (file_or_empty files) (map string_bytes c.args.names.now.replies.now)) c.add_files.result same
    (λ own. c.add_files.ensures.law schema files shares (c.in-Ok.ensures.files ∙ told) first own)
    are

pub returns-clause-decides : goal.returns-clause-decides
returns-clause-decides g c =
    let schema = c.args.schema.now in
    let asks = c.as_slice-3.ensures ∙ (c.in-Ok-asked_of.ensures.asked ∙ ap (λ (t : List ℕ). asked schema (lines t)) c.as_slice.ensures) in
    let first = subst (λ (qs : List Parsed). SumsOver schema nothing qs c.in-Ok-first_sums.first) (c.as_slice-2.ensures ∙ sym c.as_slice-3.ensures) c.in-Ok-first_sums.ensures.sums in
    decides_script schema (g.P.Place.files c.args.place.now) _ c.args.names.now.script.now (map string_bytes c.args.names.now.replies.now) c.as_slice-3.result.now c.in-Ok-first_sums.first c.in-Ok.script c.add_files.result
    c.in-Ok.ensures.files c.in-Ok.ensures.whole asks first c.add_files.ensures.decides

pub returns-in-Err-clause-stage : goal.returns-in-Err-clause-stage
returns-in-Err-clause-stage g c = front_one (of_place g.P.Place) c.args.place.now c.read_text.new.place c.args.names.now.script.now (map string_bytes c.args.names.now.replies.now) _ c.in-Err.ensures.stage

pub returns-clause-stage : goal.returns-clause-stage
returns-clause-stage g c =
    replies_then (of_place g.P.Place) c.args.place.now c.read_text.new.place c.add_files.new.place c.args.names.now.script.now (map string_bytes c.args.names.now.replies.now) c.add_files.result
    c.in-Ok.ensures.stage c.add_files.ensures.stage

pub returns-in_default-clause-stage : goal.returns-in_default-clause-stage
returns-in_default-clause-stage g c =
    let p = of_place g.P.Place in
    let script = c.args.names.now.script.now in
    front_one p c.args.place.now c.read_text.new.place script (map string_bytes c.args.names.now.replies.now) _ (files_lacked p c.args.place.now c.read_text.new.place (script ∷ []) c.in-Ok.ensures.stage)

pub returns-in_default-first_sums-clause-stage : goal.returns-in_default-first_sums-clause-stage
returns-in_default-first_sums-clause-stage g c =
    let p = of_place g.P.Place in
    let script = c.args.names.now.script.now in
    front_one p c.args.place.now c.read_text.new.place script (map string_bytes c.args.names.now.replies.now) _ (files_lacked p c.args.place.now c.read_text.new.place (script ∷ []) c.in-Ok.ensures.stage)
