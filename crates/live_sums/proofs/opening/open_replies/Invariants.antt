use Rattle.std.proofs.Common.{◌≡◌, ◌≤◌, [], All, length, take, vec_len, vec_capacity, None}
use Rattle.std.specs.List.{AllZip}
use Rattle.run_files.specs.Outside.{of_place}
use Rattle.run_files.specs.Scripted.{OpensScripts}
use Rattle.live_sums.specs.Opening.{NoneRead, reply_names}
use Rattle.live_sums.specs.declared.replies.Replies.{Replies}
use Rattle.live_sums.proofs.opening.open_replies.Given as goal

abbrev pub invariant-loop-i : goal.invariant-loop-i
invariant-loop-i g l = record {
  opens : OpensScripts (of_place g.P.Place) l.initial.place l.place (take l.i (reply_names l.runs)) [] None;
  unread : AllZip (NoneRead g.P.In.Source.left g.P.In.Source.faults (g.P.Place.files l.initial.place)) (take l.i (reply_names l.runs)) l.replies.items;
  quiet : All (λ (run : Replies g.row.P-In.Denot). g.P.In.Source.faults run.source ≡ 0) l.replies.items;
  len : vec_len l.replies ≡ l.i;
  room : length l.runs ≤ vec_capacity l.replies;
}
