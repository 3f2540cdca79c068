use Rattle.std.proofs.Common.{◌≡◌, length}
use Rattle.cube_view.specs.declared.schema.Schema.{Schema}
use Rattle.share_replies.specs.Shares.{IsShare, Share}
use Rattle.share_replies.specs.Refusals.{totals_of}
use Rattle.share_replies.specs.Sums.{SumsOver}
use Rattle.share_replies.proofs.ShareLines.{HasRead}
use Rattle.share_replies.proofs.TextSums.{Going}
use Rattle.share_replies.proofs.text.add_text.Given as goal

abbrev pub invariant-loop-i : goal.invariant-loop-i
invariant-loop-i l = record {
  law : (schema : Schema) (g s : Share) → SumsOver schema g l.asked l.sums → IsShare schema l.asked s l.text → Going schema g s l.asked l.sums l.i l.next l.rest;
  read : HasRead l.asked (totals_of l.sums) l.text l.i (totals_of l.next) l.rest;
  size : length l.next ≡ l.i;
}
