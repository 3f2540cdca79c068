-- One question, asked of all runs, and the sum of their replies to it.
use Rattle.std.specs.Prelude.{◌≡◌, ◌⊎◌, ℕ, ◌<◌, true, false, List, [], ◌∷◌, get_or, length, take, Option, Result, Ok, Err, ⊤}
use Rattle.std.specs.List.{AllZip}
use Rattle.cube_view.specs.declared.schema.Schema.{Schema}
use Rattle.outer_io.specs.declared.sink.Sink as Sink
use Rattle.outer_io.specs.declared.source.Source as Source
use Rattle.query_syntax.specs.declared.query.Parsed.{Parsed}
use Rattle.reply_json.specs.declared.reply.Reply.{Reply}
use Rattle.reply_sums.specs.Additive.{adds_up}
use Rattle.run_files.specs.Outside.{FailsToPut, Puts, Silent, SinkSeen, of_sink}
use Rattle.session_core.specs.Transcript.{IsReply, seen_in, told_in}
use Rattle.share_replies.specs.Refusals.{AddsBy, first_total, total_of_sum}
use Rattle.share_replies.specs.Shares.{AnyStat, Share, together}
use Rattle.share_replies.specs.Sums.{IsSumOver}
use Rattle.share_replies.specs.Texts.{PutsSumLine, total_line}
use Rattle.share_replies.specs.declared.summed.Summed.{Summed}
use Rattle.live_sums.specs.Runs.{IsWrongNext, TakesReply}
use Rattle.live_sums.specs.declared.fault.TurnFault.{TurnFault}
use Rattle.live_sums.specs.declared.fault.TurnFault.TheVariants as turn
use Rattle.live_sums.specs.declared.fault.WrongShare.{WrongShare}
use Rattle.live_sums.specs.declared.fault.WrongShare.TheVariants as share
use Rattle.live_sums.specs.declared.question.Question.{Question}
use Rattle.live_sums.specs.declared.replies.Replies.{Replies}

-- the replies, one after another, make the last total of the first
abbrev pub AddUp : Parsed → Option Reply → List Reply → Option Reply → Type 0
AddUp p total [] last = last ≡ total
AddUp p total (reply ∷ replies) last = (next : Option Reply) × AddsBy (adds_up p) p total reply next × AddUp p next replies last

-- each reply is the final one to what was asked, over one of the shares
abbrev pub AreFinal : Schema → Parsed → List Share → List Reply → Type 0
AreFinal schema p shares replies = AllZip (λ s reply. IsReply schema AnyStat true s.points s.told p reply) shares replies

-- where the replies are the final ones over shares, the sum is the one over these joined
abbrev pub IsSumOfFinal : Schema → Parsed → List Reply → Option Summed → Type 0
IsSumOfFinal schema p replies sum = (shares : List Share) → AreFinal schema p shares replies → IsSumOver schema (together shares) p sum

-- each reply is one to what was asked, over a first part of one of the lists, as many points as it has seen
abbrev pub AreLive : Schema → Parsed → List Share → List Reply → Type 0
AreLive schema p lists replies = AllZip (λ l reply. IsReply schema AnyStat false l.points l.told p reply) lists replies

-- the part of a list that a reply is over: the points that it has seen, and how many it tells
abbrev pub seen_part : Share → Reply → Share
seen_part l reply = record { points = take (seen_in reply) l.points; told = told_in reply }

-- those of lists and their replies
abbrev pub seen_parts : List Share → List Reply → List Share
seen_parts [] replies = []
seen_parts (l ∷ lists) [] = []
seen_parts (l ∷ lists) (reply ∷ replies) = seen_part l reply ∷ seen_parts lists replies

-- where the sources of replies tell the bytes that they have left
module _ {S : Type 0} (left : S → Option (List ℕ)) where
  -- one reply was read of each run
  abbrev pub TakeReplies : List (Replies S) → List (Replies S) → List Reply → Type 0
  TakeReplies [] [] [] = ⊤
  TakeReplies (run ∷ runs) (now ∷ nows) (reply ∷ replies) = TakesReply left run now reply × TakeReplies runs nows replies
  TakeReplies runs nows replies = ⊥

  -- One reply to what was asked was read of each run, and these add up
  pub record SumsRuns (schema : Schema) (p : Parsed) (before after : List (Replies S)) (sum : Option Summed) : Type 0 where
    pub replies : List Reply
    pub takes : TakeReplies before after replies
    -- by the law of sums, from the total of no replies on
    pub adds : AddUp p (first_total schema p) replies (total_of_sum sum)
    -- where they are the final replies over shares, the sum is the one over these joined
    pub law : IsSumOfFinal schema p replies sum

  -- The reply of the run of this place is the first that is wrong
  pub record RefusesRun (schema : Schema) (p : Parsed) (before after : List (Replies S)) (k : ℕ) (w : WrongShare) : Type 0 where
    -- the replies of those before it were read, and make this total
    pub replies : List Reply
    pub takes : TakeReplies (take k before) (take k after) replies
    pub total : Option Reply
    pub adds : AddUp p (first_total schema p) replies total
    -- there is such a run
    pub within : k < length before
    pub run : Replies S
    pub is_run : run ≡ get_or before k run
    -- and this is wrong with its next reply
    pub wrong : IsWrongNext left p total run w

-- What contracts see of asks, of the sources of replies and of the sink of sums
pub record LiveSeen (A S O : Type 0) : Type 0 where
  pub ask : SinkSeen A
  pub left : S → Option (List ℕ)
  pub out : SinkSeen O

-- these as the members of their traits see them
abbrev pub live_seen : {A S O : Type 0} → Sink.Ghosts A → Source.Ghosts S → Sink.Ghosts O → LiveSeen A S O
live_seen ask source out = record { ask = of_sink ask; left = source.left; out = of_sink out }

-- Asks, the replies of their runs and the sink of sums at one moment
pub record LiveState (A S O : Type 0) : Type 0 where
  pub asks : List A
  pub runs : List (Replies S)
  pub out : O

-- these three
abbrev pub stage : {A S O : Type 0} → List A → List (Replies S) → O → LiveState A S O
stage asks runs out = record { asks = asks; runs = runs; out = out }

module _ {A S O : Type 0} (seen : LiveSeen A S O) (schema : Schema) (question : Question) (before after : LiveState A S O) where
  -- each ask gained the question
  abbrev pub AsksAll : Type 0
  AsksAll = AllZip (λ ask now. Puts seen.ask ask now question.line.items) before.asks after.asks

  -- The question was answered
  pub record AnswersTurn : Type 0 where
    pub asks : AsksAll
    -- one reply of each run was read, and these add up
    pub sum : Option Summed
    pub sums : SumsRuns seen.left schema question.asked before.runs after.runs sum
    -- and the line of their sum was put, and nothing else
    pub puts : Puts seen.out before.out after.out (total_line (total_of_sum sum))
    -- where each is a reply over a first part of some list, it is the line of the final reply over these parts joined
    pub law : (lists : List Share) → AreLive schema question.asked lists sums.replies
        → PutsSumLine schema (together (seen_parts lists sums.replies)) question.asked (seen.out.held before.out) (seen.out.held after.out)

  -- The run of this place is wrong
  pub record RefusesTurn (k : ℕ) (w : WrongShare) : Type 0 where
    pub within : k < length before.runs
    -- its ask did not take the question, and no reply was read; or all asks did, and its reply is wrong
    pub cause : ((w ≡ share.NotAsked) × (after.runs ≡ before.runs)) ⊎ (AsksAll × RefusesRun seen.left schema question.asked before.runs after.runs k w)
    -- nothing was put
    pub silent : after.out ≡ before.out

  -- a stage ended it: nothing was put, or a put of the line of the sum failed, and a part of it was put
  abbrev pub StopsTurn : Type 0
  StopsTurn = Silent seen.out before.out after.out ⊎ ((sum : Option Summed) × SumsRuns seen.left schema question.asked before.runs after.runs sum × FailsToPut seen.out before.out after.out (total_line (total_of_sum sum)))

  -- how a turn ends
  abbrev pub EndsTurn : Result (Unit {0}) TurnFault → Type 0
  EndsTurn (Ok done) = AnswersTurn
  EndsTurn (Err (turn.Wrong k w)) = RefusesTurn k w
  EndsTurn (Err (turn.Stopped stop)) = StopsTurn
