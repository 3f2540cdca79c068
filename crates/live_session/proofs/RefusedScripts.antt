-- Which scripts the run of a session refuses.
use Rattle.std.proofs.Common.{◌≡◌, ℕ, ◌<◌, ◌≤◌, Bool, true, false, List, [], ◌∷◌, ◌++◌, Option, Some, None, ◌⊎◌, inl, inr, sym, ap, ◌∙◌, subst, Result, Ok, Err, IfOk, IsErrOf, IsSomeAnd, append-nil}
use Rattle.std.proofs.lemmas.Bool.{false≢true}
use Rattle.cube_view.specs.declared.schema.Schema.{Schema}
use Rattle.cube_view.specs.declared.stat.Stat.{Stat}
use Rattle.live_session.specs.News.{News}
use Rattle.live_session.specs.Refusing.{TellsRefused}
use Rattle.live_session.specs.SoFar.{HasAnswered, moment}
use Rattle.live_session.specs.State.{SessionEnds, SessionState}
use Rattle.live_session.specs.Turned.{ComesToEnd, HasFaults, IsTurn, Turned}
use Rattle.live_session.specs.declared.turn.Turn.{Turn}
use Rattle.live_session.specs.declared.turn.Turn.TheVariants as turn
use Rattle.live_session.proofs.OneTurn.{as_fault, of_ok}
use Rattle.live_session.proofs.TurnLaws.{Front}
use Rattle.outer_io.specs.Cutting.{Cutter, input_size, lines_left}
use Rattle.outer_io.specs.Lines.{Line, input_limit}
use Rattle.outer_io.specs.Progress.{IsWithinLimit, Passes}
use Rattle.outer_io.specs.Told.{Told}
use Rattle.outer_io.proofs.ToldLaws.{Told-each}
use Rattle.session_core.specs.Scripts.{has_quit, is_quit}
use Rattle.session_core.specs.declared.fault.SessionFault.{SessionFault}
use Rattle.session_core.specs.declared.fault.SessionFault.TheVariants as fault
use Rattle.session_core.proofs.AskedLaws.{has_quit-at}
use Rattle.session_core.proofs.WholeScripts.{script_refused, script_taken, told_by}

-- a script of which some lines were passed, and none of them is `quit`
module _ {I : Type 0} (left : I → Option (List ℕ)) (faults : I → ℕ) (schema : Schema) (start before : Cutter I) (lines : List Line) (on : Passes left faults start before lines) (none : has_quit schema lines ≡ false) where
  size_from : (P : ℕ → Type 0) → Told (input_size left before) P → Told (input_size left start) P
  size_from P p = Told-each (input_size left start) (λ n. input_size left before ≡ Some n) P (λ n is. subst (λ (o : Option ℕ). Told o P) is p) on.size

  quit_from : (line : Line) → is_quit schema line ≡ true → Told (lines_left left before) (Front schema (line ∷ [])) → Told (lines_left left start) (λ all. has_quit schema all ≡ true)
  quit_from line quit read = here (lines_left left start) (lines_left left before) on.covers read
    where
      here : (x y : Option (List Line)) → Told x (λ all. IsSomeAnd y (λ rest. all ≡ lines ++ rest)) → Told y (Front schema (line ∷ [])) → Told x (λ all. has_quit schema all ≡ true)
      here None y p q = tt
      here (Some all) None p q = absurd p
      here (Some all) (Some rest) p (later, is) = ap (has_quit schema) (p ∙ ap (λ ls. lines ++ ls) is) ∙ has_quit-at schema lines line later quit

  none_from : Told (lines_left left before) (λ all. all ≡ []) → Told (lines_left left start) (λ all. has_quit schema all ≡ false)
  none_from end = here (lines_left left start) (lines_left left before) on.covers end
    where
      here : (x y : Option (List Line)) → Told x (λ all. IsSomeAnd y (λ rest. all ≡ lines ++ rest)) → Told y (λ all. all ≡ []) → Told x (λ all. has_quit schema all ≡ false)
      here None y p q = tt
      here (Some all) None p q = absurd p
      here (Some all) (Some rest) p q = ap (has_quit schema) (p ∙ ap (λ ls. lines ++ ls) q ∙ append-nil lines) ∙ none

module _ {I O : Type 0} (ends : SessionEnds I O) (is_stat : Stat → Type 0) (taken : ℕ) (final : Bool) (a b : News) (start before after : SessionState I O) where
  module _ (A : Stat → Type 0) where
    -- at its end the script is within its limit, or a `quit` came
    comes_to_end : (schema : Schema) (lines : List Line) → before.ended ≡ false → HasAnswered ends schema is_stat final taken start (moment a before) → Told (lines_left ends.left before.source) (Front schema lines) → ComesToEnd ends schema before after lines
        → IsWithinLimit ends.left start.source ⊎ Told (lines_left ends.left start.source) (λ all. has_quit schema all ≡ true)
    comes_to_end schema lines going s read (inl was) = absurd (false≢true (sym going ∙ was.0))
    comes_to_end schema lines going s read (inr (inl all)) =
        let on = s.goes_on going in
        inl (size_from ends.left ends.faults schema start.source before.source s.lines on.0 on.1 (λ size. size ≤ input_limit) all.0.size)
    comes_to_end schema lines going s read (inr (inr (line, one, quit))) =
        let on = s.goes_on going in
        inr (quit_from ends.left ends.faults schema start.source before.source s.lines on.0 on.1 line quit (subst (λ (ls : List Line). Told (lines_left ends.left before.source) (Front schema ls)) one read))

    taken_last : (schema : Schema) (t : Turn) → t ≡ turn.Ended → before.ended ≡ false → HasAnswered ends schema is_stat final taken start (moment a before) → Turned ends schema A a b before after t → TellsRefused ends.left schema start.source false
    taken_last schema t end going s d new =
        let answer : IsTurn ends schema before after d.lines d.replies turn.Ended = subst (IsTurn ends schema before after d.lines d.replies) end d.answer in
        told_by (ends.left start.source.source) _ (λ script told.
        script_taken ends.left start.source.source start.source script schema new told (comes_to_end schema d.lines going s d.read answer.2))

    -- a run that ends without a fault has a script that is not refused
    pub taken_at_end : (z z' : Schema) (r : Result Turn SessionFault) (t : Turn) → z ≡ z' → r ≡ Ok t → t ≡ turn.Ended → before.ended ≡ false → HasAnswered ends z' is_stat final taken start (moment a before) → IfOk r (Turned ends z A a b before after) → TellsRefused ends.left z' start.source false
    taken_at_end z z' r t same is end going s d = taken_last z' t end going s (subst (λ (y : Schema). Turned ends y A a b before after t) same (of_ok (Turned ends z A a b before after) r t is d))

  -- and one that is, where there was too much
  pub refused_at_too_much : (z' : Schema) (r : Result Turn SessionFault) (f : SessionFault) → r ≡ Err f → f ≡ fault.TooMuch → before.ended ≡ false → HasAnswered ends z' is_stat final taken start (moment a before) → HasFaults ends.left ends.faults ends.held ends.put_faults before after r → TellsRefused ends.left z' start.source true
  refused_at_too_much z' r f is large going s fs new =
      let much = fs.too_much (subst (λ (x : Result Turn SessionFault). IsErrOf x fault.TooMuch) (sym is) (as_fault {T = Turn} f fault.TooMuch large)) in
      let on = s.goes_on going in
      told_by (ends.left start.source.source) _ (λ script told.
      script_refused ends.left start.source.source start.source script z' new told
      (size_from ends.left ends.faults z' start.source before.source s.lines on.0 on.1 (λ size. input_limit < size) much.0)
      (none_from ends.left ends.faults z' start.source before.source s.lines on.0 on.1 much.1))
