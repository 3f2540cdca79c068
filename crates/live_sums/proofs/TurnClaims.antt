-- How a turn ends.
use Rattle.std.proofs.Common.{◌≡◌, ◌⊎◌, ℕ, ◌<◌, List, length, Option, Err, inl, inr, refl, sym, subst}
use Rattle.cube_view.specs.declared.schema.Schema.{Schema}
use Rattle.run_files.proofs.SinkPuts.{silent_itself}
use Rattle.run_files.specs.Outside.{FailsToPut, Silent, SinkSeen}
use Rattle.run_files.specs.Saying.{SaysText}
use Rattle.run_files.specs.declared.stop.Stop.{Stop}
use Rattle.run_files.specs.declared.stop.Stop.TheVariants as stop
use Rattle.share_replies.specs.Refusals.{total_of_sum}
use Rattle.share_replies.specs.Texts.{total_line}
use Rattle.share_replies.specs.declared.summed.Summed.{Summed}
use Rattle.live_sums.specs.Turns.{AsksAll, EndsTurn, LiveSeen, LiveState, RefusesRun, SumsRuns}
use Rattle.live_sums.specs.declared.fault.TurnFault.{TurnFault}
use Rattle.live_sums.specs.declared.fault.TurnFault.TheVariants as turn
use Rattle.live_sums.specs.declared.fault.WrongShare.{WrongShare}
use Rattle.live_sums.specs.declared.fault.WrongShare.TheVariants as share
use Rattle.live_sums.specs.declared.question.Question.{Question}

-- what was not said was not put, or a part of it was
not_said : {O T : Type 0} (s : SinkSeen O) (a b : O) (text : List ℕ) (k : Stop) → SaysText {T = T} s a b text (Err k) → Silent s a b ⊎ FailsToPut s a b text
not_said s a b text stop.NoMemory says = inl (says.silent refl)
not_said s a b text stop.PlanRefused says = absurd (says.ends.0 refl)
not_said s a b text stop.ReadFault says = absurd (says.ends.1 refl)
not_said s a b text stop.WriteFault says = inr (says.fails refl)
not_said s a b text stop.FeedRefused says = absurd (says.ends.2 refl)

-- a sink that is the same one
same_silent : {O : Type 0} (s : SinkSeen O) (a b : O) → b ≡ a → Silent s a b
same_silent s a b same = subst (λ o. Silent s a o) (sym same) (silent_itself s a)

module _ {A S O : Type 0} (seen : LiveSeen A S O) (schema : Schema) (question : Question) (before after : LiveState A S O) where
  -- an ask did not take the question
  pub turn_unasked : (f : TurnFault) → length before.asks ≡ length before.runs → ((k : ℕ) (w : WrongShare) → f ≡ turn.Wrong k w → (k < length before.asks) × (w ≡ share.NotAsked)) → after.runs ≡ before.runs → after.out ≡ before.out → EndsTurn seen schema question before after (Err f)
  turn_unasked (turn.Stopped stop) each place runs same = inl (same_silent seen.out before.out after.out same)
  turn_unasked (turn.Wrong k w) each place runs same = let at = place k w refl in record { within = subst (λ n. k < n) each at.0; cause = inl (at.1, runs); silent = same }

  -- a reply is wrong
  pub turn_refused : (f : TurnFault) → AsksAll seen schema question before after → ((k : ℕ) (w : WrongShare) → f ≡ turn.Wrong k w → RefusesRun seen.left schema question.asked before.runs after.runs k w) → after.out ≡ before.out → EndsTurn seen schema question before after (Err f)
  turn_refused (turn.Stopped stop) asks wrong same = inl (same_silent seen.out before.out after.out same)
  turn_refused (turn.Wrong k w) asks wrong same = let is = wrong k w refl in record { within = is.within; cause = inr (asks, is); silent = same }

  -- the line of the sum was not said
  pub turn_unsaid : (f : TurnFault) (k : Stop) → f ≡ turn.Stopped k → (sum : Option Summed) → SumsRuns seen.left schema question.asked before.runs after.runs sum → SaysText {T = Unit {0}} seen.out before.out after.out (total_line (total_of_sum sum)) (Err k) → EndsTurn seen schema question before after (Err f)
  turn_unsaid f k is sum sums says = subst (λ g. EndsTurn seen schema question before after (Err g)) (sym is) (elim (not_said seen.out before.out after.out (total_line (total_of_sum sum)) k says) [ inl silent ↦ inl silent | inr fails ↦ inr (sum, sums, fails) ])
