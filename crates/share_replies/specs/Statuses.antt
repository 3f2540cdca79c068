-- The statuses of the programs of shares.
use Rattle.std.specs.Prelude.{ℕ}
use Rattle.run_files.specs.declared.stop.Stop.TheVariants as stop
use Rattle.share_replies.specs.declared.status.Status.{Status}
use Rattle.share_replies.specs.declared.status.Status.TheVariants.{Done, Usage, Stopped, Refused}

-- the exit code of a status
abbrev pub exit_code_of : Status → ℕ
exit_code_of Done = 0
exit_code_of Usage = 2
exit_code_of (Stopped stop.PlanRefused) = 3
exit_code_of (Stopped stop.NoMemory) = 4
exit_code_of (Stopped stop.ReadFault) = 5
exit_code_of (Stopped stop.WriteFault) = 6
exit_code_of (Stopped stop.FeedRefused) = 7
exit_code_of Refused = 9
