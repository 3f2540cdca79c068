-- How a session ends, from files: what was opened and created, what was sent and put, and why.
use Rattle.std.specs.Prelude.{◌≡◌, ◌⊎◌, ℕ, ◌+◌, List, [], ◌∷◌, get_or, map, Some, None, Result, Ok, Err, IfOk}
use Rattle.std.specs.List.{AllZip}
use Rattle.cube_schema.specs.declared.plan.Plan.{Plan}
use Rattle.cube_view.specs.declared.schema.Schema.{Schema}
use Rattle.outer_io.specs.Cutting.{Cutter}
use Rattle.outer_io.specs.declared.place.Place as Place
use Rattle.outer_io.specs.declared.sink.Sink as Sink
use Rattle.outer_io.specs.declared.source.Source as Source
use Rattle.run_files.specs.GivingBack.{TakesSinks, TakesSources}
use Rattle.run_files.specs.Leaving.{LeavesPlace}
use Rattle.run_files.specs.Outside.{Outside, PartsSeen, Silent, SinkSeen, file_of, of_parts, of_sink}
use Rattle.run_files.specs.Planned.{IsPlanOf, LacksPlan}
use Rattle.run_files.specs.Saying.{SaysText}
use Rattle.run_files.specs.Scripted.{IsOutput, IsScript, OpensScripts}
use Rattle.run_files.specs.Stops.{earlier}
use Rattle.run_files.specs.declared.stop.Stop.{Stop}
use Rattle.share_replies.specs.Texts.{share_line}
use Rattle.live_sums.specs.Opening.{NoneRead, ask_names, reply_names}
use Rattle.live_sums.specs.Sessions.{ServesAll}
use Rattle.live_sums.specs.Turns.{LiveSeen, stage}
use Rattle.live_sums.specs.Wrong.{wrong_share_text}
use Rattle.live_sums.specs.declared.fault.TurnFault.TheVariants as turn
use Rattle.live_sums.specs.declared.fault.TurnFault.{TurnFault}
use Rattle.live_sums.specs.declared.live.LiveOutcome.{LiveOutcome}
use Rattle.live_sums.specs.declared.live.LiveOutcome.TheVariants as outcome
use Rattle.live_sums.specs.declared.opening.LiveNames.{LiveNames}
use Rattle.live_sums.specs.declared.opening.RunNames.{RunNames}
use Rattle.live_sums.specs.declared.replies.Replies.{Replies}
use Rattle.live_sums.specs.declared.serving.Served.{Served}

-- The names of the plan, of the questions, and of the asks and the replies of runs
pub record SessionNames : Type 0 where
  pub plan : List ℕ
  pub questions : List ℕ
  pub asks : List (List ℕ)
  pub replies : List (List ℕ)

-- those that are given
abbrev pub session_names : LiveNames → SessionNames
session_names names = record { plan = names.plan.now; questions = names.questions.now; asks = ask_names names.runs.now; replies = reply_names names.runs.now }

-- how a session ends whose asks were given back so: by what comes first in the order of causes
abbrev pub ended_with : Result LiveOutcome Stop → Result (Unit {0}) Stop → Result LiveOutcome Stop
ended_with (Ok outcome) (Ok done) = Ok outcome
ended_with (Ok outcome) (Err stop) = Err stop
ended_with (Err stop) (Ok done) = Err stop
ended_with (Err stop) (Err other) = Err (earlier stop other)

-- what is answered and put of a fault after so many sums: nothing where a stage ended, and of a run that is wrong the
-- line of its name, the reply's number from 1 and why
abbrev pub SaysTurnFault : {O : Type 0} → SinkSeen O → List (List ℕ) → ℕ → TurnFault → O → O → Result LiveOutcome Stop → Type 0
SaysTurnFault s names sums (turn.Stopped stop) out out' end = (end ≡ Err stop) × (out' ≡ out)
SaysTurnFault s names sums (turn.Wrong k w) out out' end = SaysText s out out' (share_line (get_or names k []) (sums + 1) (wrong_share_text w)) end × IfOk end (λ o. o ≡ outcome.Refused w)

-- and of the end of the answers
abbrev pub SaysEnd : {O : Type 0} → SinkSeen O → List (List ℕ) → ℕ → Result (Unit {0}) TurnFault → O → O → Result LiveOutcome Stop → Type 0
SaysEnd s names sums (Ok done) out out' end = (end ≡ Ok outcome.Ended) × (out' ≡ out)
SaysEnd s names sums (Err fault) out out' end = SaysTurnFault s names sums fault out out' end

-- what contracts see of asks, of replies and of the sink of sums, where these are parts of a place
abbrev pub live_parts : {P S A O : Type 0} → PartsSeen P S A → SinkSeen O → LiveSeen A S O
live_parts seen s = record { ask = seen.sink; left = seen.source.left; out = s }

-- A place, the cutter of the questions, asks and the sink of sums at one moment
pub record Asked (P S A O : Type 0) : Type 0 where
  pub place : P
  pub lines : Cutter S
  pub asks : List A
  pub out : O

-- these four
abbrev pub asked_at : {P S A O : Type 0} → P → Cutter S → List A → O → Asked P S A O
asked_at place lines asks out = record { place = place; lines = lines; asks = asks; out = out }

module _ {P S A O : Type 0} (seen : PartsSeen P S A) (s : SinkSeen O) (schema : Schema) where
  -- ---- the replies

  module _ (names : List (List ℕ)) (before after : Asked P S A O) (end : Result LiveOutcome Stop) where
    -- Not all replies were opened
    pub record LacksReplies : Type 0 where
      -- the first ones were, in order, and given back; one that is refused is the last that was touched
      pub stop : Stop
      pub opens : OpensScripts seen.place before.place after.place names [] (Some stop)
      pub end_is : end ≡ Err stop
      -- no question was read or sent, and nothing was put
      pub quiet : (after.lines ≡ before.lines) × (after.asks ≡ before.asks) × (after.out ≡ before.out)

    -- All replies were opened, and questions answered
    pub record HasServed : Type 0 where
      -- they were opened in order, and the place was then this
      pub reached : P
      pub opens : OpensScripts seen.place before.place reached names [] None
      -- nothing of them was read then
      pub runs : List (Replies S)
      pub unread : AllZip (NoneRead seen.source.left seen.source.faults (seen.place.files before.place)) names runs
      -- the questions were answered, and this was left of them
      pub served : Served
      pub last : List (Replies S)
      pub middle : O
      pub serves : ServesAll (live_parts seen s) schema (stage before.asks runs before.out) (stage after.asks last middle) served
      -- the replies were given back
      pub given : TakesSources seen.place reached after.place (map (λ run. seen.source.faults run.source) last)
      -- what ended the questions is answered and put
      pub says : SaysEnd s names served.sums served.end middle after.out end

    -- how a session ends whose asks were created
    abbrev pub AnswersRuns : Type 0
    AnswersRuns = LacksReplies ⊎ HasServed

  -- ---- the asks, of which all are created before any replies are opened

  module _ (names replies : List (List ℕ)) (before after : Asked P S A O) (end : Result LiveOutcome Stop) where
    -- Not all asks were created
    pub record LacksAsks : Type 0 where
      -- the first ones were, in order, and the place was then this; one that is refused is the last that was touched
      pub reached : P
      pub stop : Stop
      pub creates : OpensScripts seen.place before.place reached [] names (Some stop)
      -- these were given back
      pub asks : List A
      pub given_end : Result (Unit {0}) Stop
      pub given : TakesSinks seen.place seen.sink reached after.place asks given_end
      pub end_is : end ≡ ended_with (Err stop) given_end
      -- no question was read, and nothing was put
      pub quiet : (after.lines ≡ before.lines) × (after.out ≡ before.out)

    -- All asks were created, and the runs asked
    pub record HasAsked : Type 0 where
      -- they were created in order, and the place was then this
      pub reached : P
      pub creates : OpensScripts seen.place before.place reached [] names None
      -- nothing was sent to them then
      pub asks : List A
      pub empty : AllZip (IsOutput seen.sink (seen.place.files before.place)) names asks
      -- the runs answered so
      pub last : Asked P S A O
      pub answered : Result LiveOutcome Stop
      pub answers : AnswersRuns replies (asked_at reached before.lines asks before.out) last answered
      -- and the asks were given back
      pub given_end : Result (Unit {0}) Stop
      pub given : TakesSinks seen.place seen.sink last.place after.place last.asks given_end
      pub end_is : end ≡ ended_with answered given_end
      pub same : (after.lines ≡ last.lines) × (after.out ≡ last.out)

    -- how a session ends whose questions were opened
    abbrev pub RunsSession : Type 0
    RunsSession = LacksAsks ⊎ HasAsked

-- ---- the same of runs by their names, as the members of the traits see the parts and the sink of sums

module _ {P S A O : Type 0} (place : Place.Ghosts P S A) (source : Source.Ghosts S) (ask : Sink.Ghosts A) (out : Sink.Ghosts O) (schema : Schema) (names : List RunNames) where
  abbrev pub LiveRuns : P → Cutter S → List A → O → P → Cutter S → List A → O → Result LiveOutcome Stop → Type 0
  LiveRuns p l a o p' l' a' o' = AnswersRuns (of_parts place source ask) (of_sink out) schema (reply_names names) (asked_at p l a o) (asked_at p' l' a' o')

  abbrev pub RanSession : P → Cutter S → O → P → Cutter S → O → Result LiveOutcome Stop → Type 0
  RanSession p l o p' l' o' = RunsSession (of_parts place source ask) (of_sink out) schema (ask_names names) (reply_names names) (asked_at p l [] o) (asked_at p' l' [] o')

-- ---- the plan, and then the questions, which are opened before any ask is created

module _ {P S A O : Type 0} (seen : PartsSeen P S A) (s : SinkSeen O) (names : SessionNames) (before after : Outside P O) (end : Result LiveOutcome Stop) where
  -- The questions were not opened
  pub record LacksQuestions (planned : Outside P O) : Type 0 where
    pub stop : Stop
    pub opens : OpensScripts seen.place planned.place after.place (names.questions ∷ []) [] (Some stop)
    pub end_is : end ≡ Err stop
    -- nothing was put
    pub quiet : after.out ≡ planned.out

  -- They were
  pub record HasQuestions (schema : Schema) (planned : Outside P O) : Type 0 where
    pub reached : P
    pub opens : OpensScripts seen.place planned.place reached (names.questions ∷ []) [] None
    -- no line of them was read then
    pub lines : Cutter S
    pub unread : IsScript seen.source.left seen.source.faults (file_of (seen.place.files planned.place) names.questions) lines
    -- the session was run so, and they were given back
    pub last : Asked P S A O
    pub session : RunsSession seen s schema names.asks names.replies (asked_at reached lines [] planned.out) last end
    pub given : TakesSources seen.place last.place after.place (seen.source.faults last.lines.source ∷ [])
    pub same : after.out ≡ last.out

  -- The plan was read
  pub record LiveUnderPlan : Type 0 where
    pub plan : Plan
    pub plan_is : IsPlanOf (file_of (seen.place.files before.place) names.plan) plan
    -- the place and the sink were then these: no other file was opened, and nothing was put
    pub planned : Outside P O
    pub opened : LeavesPlace seen.place before.place planned.place (names.plan ∷ []) [] None
    pub silent : Silent s before.out planned.out
    -- and then the questions were opened, or not
    pub questions : LacksQuestions planned ⊎ HasQuestions plan.schema planned

  -- how a session ends
  abbrev pub LiveEnds : Type 0
  LiveEnds = LacksPlan seen.place s before after names.plan end ⊎ LiveUnderPlan
