use Rattle.std.proofs.Common.{List, ℕ, Option, None, Ok, Err, map, take_all, refl, sym, ◌∙◌, ap, subst, arith}
use Rattle.std.specs.Prelude.{string_bytes}
use Rattle.std.proofs.lemmas.List.{length-map}
use Rattle.outer_io.specs.Files.{file_or_empty}
use Rattle.run_files.specs.Outside.{file_of, of_place}
use Rattle.outer_io.specs.Told.{Told}
use Rattle.share_replies.specs.Refusals.{IsRight, IsWrongAt, totals_of}
use Rattle.share_replies.specs.Shares.{Share}
use Rattle.share_replies.specs.Sums.{SumsOver}
use Rattle.share_replies.specs.declared.summed.Summed.{Summed}
use Rattle.share_replies.proofs.FileSums.{file_adds, front_of, no_shares}
use Rattle.share_replies.proofs.RightFiles.{at_share, first_wrong, right_all, right_more, same_share, told_none}
use Rattle.share_replies.proofs.TextSums.{take_at_item}
use Rattle.share_replies.specs.Causes.{ReadsFiles}
use Rattle.share_replies.proofs.ShareEnds.{all_more, names_at, none_read, replies_ended}
use Rattle.share_replies.proofs.files.add_files.Goals as goal

pub loop-i-init : goal.loop-i-init
loop-i-init g c = record {
  law = λ schema files shares told all are. subst (λ (s : Share). SumsOver schema s c.args.asked.now c.args.first) (sym (no_shares schema c.args.asked.now shares are)) all;
  right = told_none (g.P.Place.files c.args.place.now) c.args.asked.now (totals_of c.args.first);
  size = c.requires.size;
  files = refl;
  read = none_read (of_place g.P.Place) c.args.place.now;
}

pub returns-in-Err-clause-law : goal.returns-in-Err-clause-law
returns-in-Err-clause-law g c schema files shares told all are =
    let asked = c.args.asked.now in
    let n = c.index-names-i.result in
    let at = take_at_item c.args.names.now c.loop-i.i n c.index-names-i.is (omega arith) in
    let front = front_of schema asked (file_or_empty files) string_bytes c.args.names.now c.loop-i.i n at shares are in
    let added =
    file_adds schema asked files string_bytes c.args.names.now c.loop-i.i n at front.0 c.loop-i.sums c.as_slice.result.now (g.P.Place.files c.loop-i.place) c.as_str.result.now (Err c.in-Err.fault)
    c.as_slice.ensures (c.loop-i.invariant.files ∙ told) c.as_str.ensures.value front.1 (λ before. c.loop-i.invariant.law schema files before told all) (c.in-Err.ensures.law schema)
    in
    (tt, c.fault_of_share.ensures.innocent added.1)

pub loop-i-preserved : goal.loop-i-preserved
loop-i-preserved g c = record {
  law = λ schema files shares told all are.
      let at = take_at_item c.args.names.now c.loop-i.i c.index-names-i.result c.index-names-i.is (omega arith) in
      let added =
      file_adds schema c.args.asked.now files string_bytes c.args.names.now c.loop-i.i c.index-names-i.result at shares c.loop-i.sums c.as_slice.result.now (g.P.Place.files c.loop-i.place) c.as_str.result.now (Ok c.in-Ok.next)
      c.as_slice.ensures (c.loop-i.invariant.files ∙ told) c.as_str.ensures.value are (λ before. c.loop-i.invariant.law schema files before told all) (c.in-Ok.ensures.law schema)
      in
      added.0;
  right =
      let asked = c.args.asked.now in
      let names = c.args.names.now in
      let i = c.loop-i.i in
      let n = c.index-names-i.result in
      right_more asked (totals_of c.args.first) string_bytes names i n (g.P.Place.files c.args.place.now) (g.P.Place.files c.loop-i.place) c.as_str.result.now c.loop-i.sums c.loop-i.invariant.files c.as_str.ensures.value c.in-Ok.next
      (take_at_item names i n c.index-names-i.is (omega arith)) c.loop-i.invariant.right
      (subst (λ (sums : List (Option Summed)). Told (file_of (g.P.Place.files c.loop-i.place) c.as_str.result.now) (λ text. IsRight asked (totals_of sums) text (totals_of c.in-Ok.next))) c.as_slice.ensures c.in-Ok.ensures.decides.right);
  size = c.in-Ok.ensures.size;
  files = c.add_file.ensures.files ∙ c.loop-i.invariant.files;
  read =
      let names = c.args.names.now in
      let i = c.loop-i.i in
      let name = c.as_str.result.now in
      let at = names_at string_bytes names i c.index-names-i.result name c.index-names-i.is (omega arith) c.as_str.ensures.value in
      all_more (of_place g.P.Place) c.args.place.now c.loop-i.place c.add_file.new.place (map string_bytes names) i name at c.loop-i.invariant.read c.in-Ok.ensures.stage;
}

pub returns-in-Err-clause-decides : goal.returns-in-Err-clause-decides
returns-in-Err-clause-decides g c = record {
  right = tt;
  wrong = λ k line w e.
      let asked = c.args.asked.now in
      let names = c.args.names.now in
      let i = c.loop-i.i in
      let n = c.index-names-i.result in
      let at = c.fault_of_share.ensures.at k line w (at_share c.fault_of_share.result k line w e) in
      let here = c.in-Err.ensures.decides.wrong line w (ap (λ f. Err f) at.1) in
      same_share asked (totals_of c.args.first) string_bytes names (g.P.Place.files c.args.place.now) k i line w at.0
      (first_wrong asked (totals_of c.args.first) string_bytes names i n (g.P.Place.files c.args.place.now) (g.P.Place.files c.loop-i.place) c.as_str.result.now c.loop-i.sums c.loop-i.invariant.files c.as_str.ensures.value line w c.index-names-i.is (omega arith)
      c.loop-i.invariant.right
      (subst (λ (sums : List (Option Summed)). Told (file_of (g.P.Place.files c.loop-i.place) c.as_str.result.now) (λ text. IsWrongAt asked (totals_of sums) text line w)) c.as_slice.ensures here));
}

pub returns-clause-decides : goal.returns-clause-decides
returns-clause-decides g c = record {
  right = right_all c.args.asked.now (totals_of c.args.first) string_bytes c.args.names.now (g.P.Place.files c.args.place.now) c.loop-i.i c.loop-i.sums (omega arith) c.loop-i.invariant.right;
  wrong = λ k line w e. cc;
}

pub returns-in-Err-clause-stage : goal.returns-in-Err-clause-stage
returns-in-Err-clause-stage g c =
    let p = (of_place g.P.Place) in
    let names = c.args.names.now in
    let i = c.loop-i.i in
    let n = c.index-names-i.result in
    let name = c.as_str.result.now in
    let all = map string_bytes names in
    let at = names_at string_bytes names i n name c.index-names-i.is (omega arith) c.as_str.ensures.value in
    replies_ended p c.args.place.now c.loop-i.place c.add_file.new.place all i name at c.loop-i.invariant.read c.in-Err.fault c.fault_of_share.result c.fault_of_share.ensures.at c.fault_of_share.ensures.stopped c.in-Err.ensures.stage

pub returns-clause-stage : goal.returns-clause-stage
returns-clause-stage g c =
    let all = map string_bytes c.args.names.now in
    let size = length-map c.args.names.now string_bytes in
    subst (λ (names : List (List ℕ)). ReadsFiles (of_place g.P.Place) c.args.place.now c.loop-i.place names None) (take_all c.loop-i.i all (omega (arith, size))) c.loop-i.invariant.read
