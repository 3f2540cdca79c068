-- A session: what lines ask, one after another.
use Rattle.std.specs.Prelude.{◌≡◌, ◌⊎◌, ℕ, Bool, true, false, List, [], ◌∷◌, length, Result, Ok, Err}
use Rattle.cube_view.specs.declared.schema.Schema.{Schema}
use Rattle.live_sums.specs.Turns.{AnswersTurn, LiveSeen, LiveState, RefusesTurn, StopsTurn}
use Rattle.live_sums.specs.declared.fault.TurnFault.{TurnFault}
use Rattle.live_sums.specs.declared.fault.TurnFault.TheVariants as turn
use Rattle.live_sums.specs.declared.question.Question.{Question}
use Rattle.live_sums.specs.declared.serving.Served.{Served}
use Rattle.live_sums.specs.declared.serving.Went.{Went}
use Rattle.live_sums.specs.declared.serving.Went.TheVariants as went

-- no line comes after it
abbrev pub is_last : Went → Bool
is_last went.Passed = false
is_last went.Answered = false
is_last went.Ended = true

-- how many sums were put
abbrev pub sums_in : Went → ℕ
sums_in went.Passed = 0
sums_in went.Answered = 1
sums_in went.Ended = 0

module _ {A S O : Type 0} (seen : LiveSeen A S O) (schema : Schema) where
  -- a line was not answered: a run is wrong, or a stage ended it, before the question or with it
  abbrev pub FailsLine : LiveState A S O → LiveState A S O → TurnFault → Type 0
  FailsLine before after (turn.Wrong k w) = (question : Question) × RefusesTurn seen schema question before after k w
  FailsLine before after (turn.Stopped stop) = (after ≡ before) ⊎ ((question : Question) × StopsTurn seen schema question before after)

  -- how a line ends
  abbrev pub EndsLine : LiveState A S O → LiveState A S O → Result Went TurnFault → Type 0
  EndsLine before after (Ok went.Passed) = after ≡ before
  EndsLine before after (Ok went.Answered) = (question : Question) × AnswersTurn seen schema question before after
  EndsLine before after (Ok went.Ended) = after ≡ before
  EndsLine before after (Err fault) = FailsLine before after fault

  -- the questions were answered, one after another
  abbrev pub AnswersQuestions : List Question → LiveState A S O → LiveState A S O → Type 0
  AnswersQuestions [] before after = after ≡ before
  AnswersQuestions (question ∷ questions) before after = (middle : LiveState A S O) × AnswersTurn seen schema question before middle × AnswersQuestions questions middle after

  -- how the answers end after the last that is whole
  abbrev pub EndsAnswers : LiveState A S O → LiveState A S O → Result (Unit {0}) TurnFault → Type 0
  EndsAnswers before after (Ok done) = after ≡ before
  EndsAnswers before after (Err fault) = FailsLine before after fault

  -- Questions were answered to their end
  pub record ServesAll (before after : LiveState A S O) (served : Served) : Type 0 where
    -- these, each with a sum
    pub questions : List Question
    pub middle : LiveState A S O
    pub answers : AnswersQuestions questions before middle
    pub counted : served.sums ≡ length questions
    -- and this ended them
    pub ends : EndsAnswers middle after served.end
