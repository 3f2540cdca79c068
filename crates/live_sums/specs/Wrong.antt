-- What is wrong with a run.
use Rattle.std.specs.Prelude.{ℕ, List, codes}
use Rattle.run_files.specs.declared.stop.Stop.TheVariants as stop
use Rattle.share_replies.specs.Texts.{wrong_reply_text}
use Rattle.share_replies.specs.declared.fault.LineFault.{LineFault}
use Rattle.share_replies.specs.declared.fault.LineFault.TheVariants as line
use Rattle.live_sums.specs.declared.fault.ReplyFault.{ReplyFault}
use Rattle.live_sums.specs.declared.fault.ReplyFault.TheVariants as reply
use Rattle.live_sums.specs.declared.fault.TurnFault.{TurnFault}
use Rattle.live_sums.specs.declared.fault.TurnFault.TheVariants as turn
use Rattle.live_sums.specs.declared.fault.WrongShare.{WrongShare}
use Rattle.live_sums.specs.declared.fault.WrongShare.TheVariants as share

-- the name of what is wrong with a run
abbrev pub wrong_share_text : WrongShare → List ℕ
wrong_share_text share.NotAsked = codes "NotAsked"
wrong_share_text (share.Reply w) = wrong_reply_text w
wrong_share_text share.Behind = codes "Behind"

-- the fault of a reply that is not added
abbrev pub fault_of_sum : LineFault → ReplyFault
fault_of_sum line.NoMemory = reply.Stopped stop.NoMemory
fault_of_sum (line.Wrong w) = reply.Wrong (share.Reply w)

-- the fault of the run of that place
abbrev pub fault_of_share : ReplyFault → ℕ → TurnFault
fault_of_share (reply.Stopped end) k = turn.Stopped end
fault_of_share (reply.Wrong w) k = turn.Wrong k w
