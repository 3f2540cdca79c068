-- Lines of a session, one after another.
use Rattle.std.proofs.Common.{◌≡◌, ℕ, ◌+◌, ◌<◌, true, List, [], ◌∷◌, ◌++◌, length, length-append, Ok, Err, inr, refl, sym, ap, ◌∙◌, subst, arith}
use Rattle.std.proofs.lemmas.Bool.{false≢true}
use Rattle.cube_view.specs.declared.schema.Schema.{Schema}
use Rattle.live_sums.specs.Sessions.{AnswersQuestions, EndsAnswers, EndsLine, FailsLine, ServesAll, is_last, sums_in}
use Rattle.live_sums.specs.Turns.{AnswersTurn, EndsTurn, LiveSeen, LiveState}
use Rattle.live_sums.specs.declared.fault.TurnFault.{TurnFault}
use Rattle.live_sums.specs.declared.fault.TurnFault.TheVariants as turn
use Rattle.live_sums.specs.declared.fault.WrongShare.{WrongShare}
use Rattle.live_sums.specs.declared.question.Question.{Question}
use Rattle.live_sums.specs.declared.serving.Served.{Served}
use Rattle.live_sums.specs.declared.serving.Went.{Went}
use Rattle.live_sums.specs.declared.serving.Went.TheVariants as went

module _ {A S O : Type 0} (seen : LiveSeen A S O) (schema : Schema) where
  answers_more : (questions : List Question) (a b c : LiveState A S O) (question : Question) → AnswersQuestions seen schema questions a b → AnswersTurn seen schema question b c → AnswersQuestions seen schema (questions ++ question ∷ []) a c
  answers_more [] a b c question same one = (c, subst (λ s. AnswersTurn seen schema question s c) same one, refl)
  answers_more (q ∷ questions) a b c question (m, first, later) one = (m, first, answers_more questions m b c question later one)

  -- What the lines so far leave
  pub record Answered (before now : LiveState A S O) (sums : ℕ) : Type 0 where
    pub questions : List Question
    pub answers : AnswersQuestions seen schema questions before now
    pub counted : sums ≡ length questions

  pub answered_none : (before : LiveState A S O) → Answered before before 0
  answered_none before = record { questions = []; answers = refl; counted = refl }

  -- a line that asked nothing
  answered_same : (before now after : LiveState A S O) (sums : ℕ) → after ≡ now → Answered before now sums → Answered before after sums
  answered_same before now after sums same so_far = subst (λ s. Answered before s sums) (sym same) so_far

  -- one question more
  answered_more : (before now after : LiveState A S O) (sums : ℕ) (one : (question : Question) × AnswersTurn seen schema question now after) → Answered before now sums → Answered before after (sums + 1)
  answered_more before now after sums (question, one) so_far = record {
    questions = so_far.questions ++ question ∷ [];
    answers = answers_more so_far.questions before now after question so_far.answers one;
    counted = ap (λ n. n + 1) so_far.counted ∙ sym (length-append so_far.questions (question ∷ []));
  }

  -- a line more
  pub answered_next : (before now after : LiveState A S O) (sums n : ℕ) (w : Went) → n ≡ sums_in w → EndsLine seen schema now after (Ok w) → Answered before now sums → Answered before after (sums + n)
  answered_next before now after sums n went.Passed is same so_far = let none : sums ≡ sums + n = omega (arith, is) in subst (Answered before after) none (answered_same before now after sums same so_far)
  answered_next before now after sums n went.Answered is one so_far = subst (λ (k : ℕ). Answered before after (sums + k)) (sym is) (answered_more before now after sums one so_far)
  answered_next before now after sums n went.Ended is same so_far = let none : sums ≡ sums + n = omega (arith, is) in subst (Answered before after) none (answered_same before now after sums same so_far)

  -- the last
  pub last_same : (now after : LiveState A S O) (w : Went) → is_last w ≡ true → EndsLine seen schema now after (Ok w) → after ≡ now
  last_same now after went.Passed last same = same
  last_same now after went.Answered last one = absurd (false≢true last)
  last_same now after went.Ended last same = same

  -- how it ended
  pub serves_all : (before middle after : LiveState A S O) (served : Served) → Answered before middle served.sums → EndsAnswers seen schema middle after served.end → ServesAll seen schema before after served
  serves_all before middle after served so_far ends = record { questions = so_far.questions; middle = middle; answers = so_far.answers; counted = so_far.counted; ends = ends }

  -- a turn that failed is a line that failed
  pub turn_fails : (question : Question) (before after : LiveState A S O) (f : TurnFault) → EndsTurn seen schema question before after (Err f) → FailsLine seen schema before after f
  turn_fails question before after (turn.Wrong k w) ends = (question, ends)
  turn_fails question before after (turn.Stopped stop) ends = inr (question, ends)

  -- the run that is named is one of them
  pub fails_within : (before after : LiveState A S O) (f : TurnFault) (k : ℕ) (w : WrongShare) → FailsLine seen schema before after f → f ≡ turn.Wrong k w → k < length before.runs
  fails_within before after (turn.Wrong j v) k w (question, refuses) is = subst (λ n. n < length before.runs) (place is) refuses.within
    where
      place : turn.Wrong j v ≡ turn.Wrong k w → j ≡ k
      place e = cc
  fails_within before after (turn.Stopped stop) k w fails is = absurd (never is)
    where
      never : turn.Stopped stop ≡ turn.Wrong k w → ⊥
      never e = cc
