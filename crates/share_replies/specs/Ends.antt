-- How adding the replies of shares ends, from files.
use Rattle.std.specs.Prelude.{◌≡◌, ◌⊎◌, ℕ, ◌+◌, List, [], ◌∷◌, map, take, get_or, string_bytes, Option, Some, Result, Ok, Err, IfOk, IfErr}
use Rattle.cube_schema.specs.declared.plan.Plan.{Plan}
use Rattle.cube_view.specs.declared.schema.Schema.{Schema}
use Rattle.outer_io.specs.Files.{Files, file_or_empty}
use Rattle.outer_io.specs.Told.{Told}
use Rattle.query_syntax.specs.declared.query.Parsed.{Parsed}
use Rattle.reply_json.specs.declared.reply.Reply.{Reply}
use Rattle.run_files.specs.Outside.{FailsToPut, file_of, Puts, Silent, SinkSeen}
use Rattle.run_files.specs.Planned.{IsPlanOf}
use Rattle.run_files.specs.Saying.{SaysText}
use Rattle.run_files.specs.declared.stop.Stop.{Stop}
use Rattle.share_replies.specs.Lengths.{AreFilesShort}
use Rattle.share_replies.specs.Refusals.{AreRight, IsFirstWrong, asks_of, first_totals, totals_of}
use Rattle.share_replies.specs.Shares.{AreShares, Share, together}
use Rattle.share_replies.specs.Sums.{IsInnocent, IsInnocentShares, SumsOver}
use Rattle.share_replies.specs.Texts.{PutsSums, PutsTotals, totals_text, wrong_line}
use Rattle.share_replies.specs.declared.adding.Outcome.{Outcome}
use Rattle.share_replies.specs.declared.adding.Outcome.TheVariants as outcome
use Rattle.share_replies.specs.declared.adding.ShareNames.{ShareNames}
use Rattle.share_replies.specs.declared.fault.SharesFault.{SharesFault}
use Rattle.share_replies.specs.declared.fault.SharesFault.TheVariants as shares
use Rattle.share_replies.specs.declared.fault.WrongReply.{WrongReply}
use Rattle.share_replies.specs.declared.summed.Summed.{Summed}

-- what an outcome says of what was asked and of shares whose replies are all final: the transcript over all of them was
-- put, and none was refused, unless a sum is too great
abbrev pub OutcomeOver : Schema → List Parsed → Share → Option (List ℕ) → Option (List ℕ) → Outcome → Type 0
OutcomeOver schema ps s before after outcome.Added = PutsSums schema s ps before after
OutcomeOver schema ps s before after (outcome.Refused why) = IsInnocent why

-- The names of the plan, the script, and the replies of each share
pub record FileNames : Type 0 where
  pub plan : List ℕ
  pub script : List ℕ
  pub replies : List (List ℕ)

-- those that are given
abbrev pub given_names : ShareNames → FileNames
given_names names = record { plan = names.plan.now; script = names.script.now; replies = map string_bytes names.replies.now }

-- where the files are told, and each file of replies is the final transcript of the script over a share, the answer is
-- the sums over all of them, and no fault but an innocent one comes
abbrev pub SumsOfFiles : Schema → Option Files → FileNames → Result (List (Option Summed)) SharesFault → Type 0
SumsOfFiles schema told names result =
    (files : Files) (shares : List Share) → told ≡ Some files
    → AreShares schema (asks_of schema files names.script) shares (map (file_or_empty files) names.replies)
    → IfOk result (SumsOver schema (together shares) (asks_of schema files names.script)) × IfErr result IsInnocentShares

-- the sums are over some points, or the fault is innocent
abbrev pub AreSumsOver : Schema → Share → List Parsed → Result (List (Option Summed)) SharesFault → Type 0
AreSumsOver schema s ps sums = IfOk sums (SumsOver schema s ps) × IfErr sums IsInnocentShares

-- the law of sums over files: where they are told, the first is a plan, and where each file of replies is the final
-- transcript of the script over a list of points, the outcome is that of the lists joined
abbrev pub AddsUpFiles : Option Files → FileNames → Option (List ℕ) → Option (List ℕ) → Result Outcome Stop → Type 0
AddsUpFiles told names before after result =
    (files : Files) → told ≡ Some files → IfOk result (λ outcome.
    (plan : Plan) × IsPlanOf (Some (file_or_empty files names.plan)) plan
    × ((shares : List Share) → AreShares plan.schema (asks_of plan.schema files names.script) shares (map (file_or_empty files) names.replies)
    → OutcomeOver plan.schema (asks_of plan.schema files names.script) (together shares) before after outcome))

-- under a schema, in these files, the share of that place is the first that is wrong, this line is its first, and so it
-- is
abbrev pub IsWrongShare : Schema → FileNames → Files → ℕ → ℕ → WrongReply → Type 0
IsWrongShare schema names files = IsFirstWrong (asks_of schema files names.script) (first_totals schema (asks_of schema files names.script)) (map (file_or_empty files) names.replies)

-- A share is refused, and this is said of its line
pub record RefusesShare (told : Option Files) (names : FileNames) (w : WrongReply) (Says : List ℕ → Type 0) : Type 0 where
  -- under the plan
  pub plan : Plan
  pub is_plan : IsPlanOf (file_of told names.plan) plan
  -- this share is the first that is wrong, and this line the first of it
  pub share : ℕ
  pub line : ℕ
  pub wrong : Told told (λ files. IsWrongShare plan.schema names files share line w)
  -- and no other is
  pub only : Told told (λ files. (k l : ℕ) (v : WrongReply) → IsWrongShare plan.schema names files k l v → (k ≡ share) × (l ≡ line) × (v ≡ w))
  -- the script, and the replies of the shares up to this one, were read whole
  pub short : Told told (λ files. AreFilesShort files (names.script ∷ take (share + 1) names.replies))
  -- this is said of the line that names it
  pub says : Says (wrong_line (get_or names.replies share []) line w)

-- The shares are taken, and this is said of their totals
pub record TakesShares (told : Option Files) (names : FileNames) (Says : List (Option Reply) → Type 0) : Type 0 where
  -- under the plan
  pub plan : Plan
  pub is_plan : IsPlanOf (file_of told names.plan) plan
  -- no line of a share is wrong, and these are the totals after the last share
  pub last : List (Option Reply)
  pub right : Told told (λ files. AreRight (asks_of plan.schema files names.script) (first_totals plan.schema (asks_of plan.schema files names.script)) (map (file_or_empty files) names.replies) last)
  -- so none is the first that is
  pub none : Told told (λ files. (k l : ℕ) (v : WrongReply) → ¬ IsWrongShare plan.schema names files k l v)
  -- the script and all replies were read whole
  pub short : Told told (λ files. AreFilesShort files (names.script ∷ names.replies))
  -- this is said of the totals
  pub says : Says last

-- what an outcome says of shares: all are right, and the lines of the totals were put, or the first wrong line is
-- refused, and the line that names it was put
abbrev pub SaysShares : {O : Type 0} → SinkSeen O → O → O → Option Files → FileNames → Outcome → Type 0
SaysShares s out out' told names outcome.Added = TakesShares told names (λ last. Puts s out out' (totals_text last))
SaysShares s out out' told names (outcome.Refused w) = RefusesShare told names w (Puts s out out')

-- a put of one of these failed, and a part of it was put
abbrev pub FailsToSayShares : {O : Type 0} → SinkSeen O → O → O → Option Files → FileNames → Type 0
FailsToSayShares s out out' told names = TakesShares told names (λ last. FailsToPut s out out' (totals_text last)) ⊎ ((w : WrongReply) × RefusesShare told names w (FailsToPut s out out'))

-- what is answered and put of a fault: the line that names the share that is wrong, or nothing where a file was not
-- read
abbrev pub SaysWrong : {O : Type 0} → SinkSeen O → O → O → List (List ℕ) → SharesFault → Result Outcome Stop → Type 0
SaysWrong s out out' names (shares.Stopped stop) result = (result ≡ Err stop) × Silent s out out'
SaysWrong s out out' names (shares.Wrong k line w) result = SaysText s out out' (wrong_line (get_or names k []) line w) result × IfOk result (λ o. o ≡ outcome.Refused w)

-- and of sums: that they were added, and their lines
abbrev pub SaysSums : {O : Type 0} → SinkSeen O → O → O → List (List ℕ) → Result (List (Option Summed)) SharesFault → Result Outcome Stop → Type 0
SaysSums s out out' names (Ok sums) result = PutsTotals s out out' (totals_of sums) result × IfOk result (λ o. o ≡ outcome.Added)
SaysSums s out out' names (Err fault) result = SaysWrong s out out' names fault result
