use Rattle.std.proofs.Common.{◌≡◌, length, take}
use Rattle.share_replies.specs.Shares.{nothing}
use Rattle.share_replies.specs.Sums.{SumsOver}
use Rattle.share_replies.proofs.first.first_sums.Given as goal

abbrev pub invariant-loop-i : goal.invariant-loop-i
invariant-loop-i l = record {
  sums : SumsOver l.schema nothing (take l.i l.asked) l.sums;
  size : length l.sums ≡ l.i;
}
