use Rattle.std.proofs.Common.{Err, sym, ◌∙◌, ap, subst}
use Rattle.run_files.specs.Outside.{file_of, of_place}
use Rattle.share_replies.specs.Shares.{IsShare}
use Rattle.share_replies.specs.Refusals.{IsRight, IsWrongAt, totals_of}
use Rattle.share_replies.proofs.FileSums.{told_is}
use Rattle.share_replies.proofs.RightFiles.{at_file, told_keep}
use Rattle.share_replies.proofs.ShareEnds.{file_faulty}
use Rattle.share_replies.proofs.files.add_file.Goals as goal

pub returns-clause-law : goal.returns-clause-law
returns-clause-law g c schema before s bytes told all share =
    let same = c.as_slice.ensures ∙ told_is (file_of (g.P.Place.files c.args.place.now) c.args.name.now) c.in-Ok.bytes bytes c.in-Ok.ensures.whole told in
    (tt, c.fault_of_text.ensures.innocent (c.in-Err-add_text.ensures.law schema before s all (subst (IsShare schema c.args.asked.now s) (sym same) share)).1)

pub returns-in-Ok-add_text-clause-decides : goal.returns-in-Ok-add_text-clause-decides
returns-in-Ok-add_text-clause-decides g c = record {
  right =
      told_keep (λ text. IsRight c.args.asked.now (totals_of c.args.sums.now) text (totals_of c.in-Ok-add_text.next)) (file_of (g.P.Place.files c.args.place.now) c.args.name.now) c.in-Ok.bytes c.as_slice.result.now c.as_slice.ensures
      c.in-Ok.ensures.whole c.in-Ok-add_text.ensures.right;
  wrong = λ line w e. cc;
}

pub returns-clause-decides : goal.returns-clause-decides
returns-clause-decides g c = record {
  right = tt;
  wrong = λ line w e.
      let at = c.fault_of_text.ensures.at line w (at_file c.fault_of_text.result line w e) in
      told_keep (λ text. IsWrongAt c.args.asked.now (totals_of c.args.sums.now) text line w) (file_of (g.P.Place.files c.args.place.now) c.args.name.now) c.in-Ok.bytes c.as_slice.result.now c.as_slice.ensures
      c.in-Ok.ensures.whole (c.in-Err-add_text.ensures.wrong line w (ap (λ f. Err f) at));
}

pub returns-in-Ok-add_text-clause-stage : goal.returns-in-Ok-add_text-clause-stage
returns-in-Ok-add_text-clause-stage g c = c.in-Ok.ensures.stage

pub returns-clause-stage : goal.returns-clause-stage
returns-clause-stage g c = file_faulty (of_place g.P.Place) c.args.place.now c.read_text.new.place c.args.name.now c.fault_of_text.result c.fault_of_text.ensures.memory c.in-Ok.ensures.stage
