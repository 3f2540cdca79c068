-- The statuses of the program.
use Rattle.std.specs.Prelude.{◌≡◌, ℕ, nat_le, if◌then◌else◌, List, ◌∷◌, length, Option, Some, None, Result, Ok, Err, IfOk}
use Rattle.run_files.specs.declared.stop.Stop.{Stop}
use Rattle.run_files.specs.Outside.{Outside, PlaceSeen, SinkSeen}
use Rattle.share_replies.specs.Causes.{EndsByFiles, LeavesSink, OpensShares}
use Rattle.share_replies.specs.Ends.{AddsUpFiles, FileNames, SaysShares}
use Rattle.share_replies.specs.declared.adding.Outcome.{Outcome}
use Rattle.share_replies.specs.declared.adding.Outcome.TheVariants as outcome
use Rattle.share_replies.specs.declared.status.Status.{Status}
use Rattle.share_replies.specs.declared.status.Status.TheVariants.{Done, Stopped, Refused}

-- the status of an end
abbrev pub status_of : Result Outcome Stop → Status
status_of (Ok outcome.Added) = Done
status_of (Ok (outcome.Refused why)) = Refused
status_of (Err stop) = Stopped stop

-- the most shares
abbrev pub most_shares : ℕ
most_shares = 1024

-- the names that the words give, where they are of the program's form: a plan, a script, and the replies of 1 to 1,024
-- shares
abbrev pub share_names : List (List ℕ) → Option FileNames
share_names (plan ∷ script ∷ first ∷ others) = if nat_le (length (first ∷ others)) most_shares then Some (record { plan = plan; script = script; replies = first ∷ others }) else None
share_names words = None

-- the claim holds of these names, where the words are of this form
abbrev pub IfForm : List (List ℕ) → (FileNames → Type 0) → Type 0
IfForm words Claim = (names : FileNames) → share_names words ≡ Some names → Claim names

-- What an end of adding the replies of shares, over the files of these names, leaves and says
pub record EndsAdding {P O : Type 0} (p : PlaceSeen P) (s : SinkSeen O) (before after : Outside P O) (names : FileNames) (end : Result Outcome Stop) : Type 0 where
  -- it obeys the law of sums
  pub law : AddsUpFiles (p.files before.place) names (s.held before.out) (s.held after.out) end
  -- it says of the shares that all are right, or which is the first that is wrong
  pub says : IfOk end (SaysShares s before.out after.out (p.files before.place) names)
  -- it comes of these files
  pub causes : EndsByFiles (p.files before.place) names end
  -- it leaves the place and the sink so
  pub opens : OpensShares p before.place after.place names end
  pub sink : LeavesSink s before.out after.out (p.files before.place) names end

-- the status is that of such an end
abbrev pub EndsInStatus : {P O : Type 0} → PlaceSeen P → SinkSeen O → Outside P O → Outside P O → Status → FileNames → Type 0
EndsInStatus p s before after status names = (end : Result Outcome Stop) × EndsAdding p s before after names end × (status ≡ status_of end)
