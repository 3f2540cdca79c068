-- The form of the words, and the status of an end.
use Rattle.std.specs.Prelude.{ℕ, nat_le, ◌&&◌, ◌==◌, ◌%◌, Bool, Result, Ok, Err}
use Rattle.live_sums.specs.declared.live.LiveOutcome.{LiveOutcome}
use Rattle.live_sums.specs.declared.live.LiveOutcome.TheVariants as outcome
use Rattle.run_files.specs.declared.stop.Stop.{Stop}
use Rattle.share_replies.specs.declared.status.Status.{Status}
use Rattle.share_replies.specs.declared.status.Status.TheVariants.{Done, Stopped, Refused}

-- so many words are of the program's form: a plan, questions, and the ask and the replies of each of 1 to 500 runs
abbrev pub has_form : ℕ → Bool
has_form n = nat_le 4 n && (nat_le n 1002 && (n % 2 == 0))

-- the status of an end
abbrev pub live_status : Result LiveOutcome Stop → Status
live_status (Ok outcome.Ended) = Done
live_status (Ok (outcome.Refused why)) = Refused
live_status (Err stop) = Stopped stop
