-- A session's turns to its end.
use Rattle.std.proofs.Common.{◌≡◌, ◌≢◌, ℕ, ◌<◌, Bool, true, false, Option, Some, None, inl, inr, refl, sym, ap, ◌∙◌, subst, Result, Ok, Err, IfOk, IsErrOf, IfSome}
use Rattle.cube_view.specs.declared.schema.Schema.{Schema}
use Rattle.cube_view.specs.declared.stat.Stat.{Stat}
use Rattle.live_session.specs.News.{KeepsViewer, LearnsTaken, MayAsk, News, news_of}
use Rattle.live_session.specs.SoFar.{AnswersAll, HasAnswered, HasDone, KeepsAnswers, moment}
use Rattle.live_session.specs.State.{SessionEnds, SessionState}
use Rattle.live_session.specs.Turned.{HasFaults, IsTurn, Turned}
use Rattle.live_session.specs.declared.turn.Turn.{Turn}
use Rattle.live_session.specs.declared.turn.Turn.TheVariants as turn
use Rattle.live_session.proofs.OneTurn.{as_fault, keeps_on, learns_on, of_err, of_ok, ok_answer}
use Rattle.live_session.proofs.SoFarLaws.{all_at_end, all_at_too_much}
use Rattle.mailbox.specs.Ends.{OutEnd}
use Rattle.outer_io.specs.Cutting.{input_size}
use Rattle.outer_io.specs.Lines.{input_limit}
use Rattle.outer_io.specs.Progress.{IsTooLarge}
use Rattle.outer_io.specs.Told.{Told}
use Rattle.published_pair.specs.Rules.{Known}
use Rattle.session_core.specs.declared.fault.SessionFault.{SessionFault}
use Rattle.session_core.specs.declared.fault.SessionFault.TheVariants as fault

-- two facts of the same value, where there is one, give a third
pub some_on : {A : Type 0} {P Q R : A → Type 0} (o o' : Option A) → o' ≡ o → ((x : A) → P x → Q x → R x) → IfSome o' P → IfSome o Q → IfSome o R
some_on {P = P} None o' same gives p q = tt
some_on {P = P} (Some x) o' same gives p q = gives x (subst (λ o. IfSome o P) same p) q

-- a mailbox keeps its names
pub mail_same : (learned : Known) (mail mail' : OutEnd) → MayAsk learned mail mail' → (mail'.mailbox ≡ mail.mailbox) × (mail'.pair ≡ mail.pair)
mail_same learned mail mail' (inl e) = (ap (λ (m : OutEnd). m.mailbox) e, ap (λ (m : OutEnd). m.pair) e)
mail_same learned mail mail' (inr asks) = (asks.mailbox, asks.pair)

module _ {I O : Type 0} (ends : SessionEnds I O) (is_stat : Stat → Type 0) (taken : ℕ) (final : Bool) (a b : News) (start before after : SessionState I O) where
  -- what it answered goes on over the turn, under this schema
  abbrev Keeps : Schema → Result Turn SessionFault → Type 0
  Keeps z r = (from : SessionState I O) (n : ℕ) → HasAnswered ends z is_stat final n from (moment a before) → HasDone ends z is_stat final n from (moment b after) r

  -- what a turn does under a schema that is another's
  done_under : (z z' : Schema) (r : Result Turn SessionFault) → z ≡ z' → Keeps z r → HasAnswered ends z' is_stat final taken start (moment a before) → HasDone ends z' is_stat final taken start (moment b after) r
  done_under z z' r same clause = subst (λ (y : Schema). HasAnswered ends y is_stat final taken start (moment a before) → HasDone ends y is_stat final taken start (moment b after) r) same (clause start taken)

  -- a turn without a fault
  pub answered_on : (z z' : Schema) (r : Result Turn SessionFault) (t : Turn) → z ≡ z' → r ≡ Ok t → Keeps z r → HasAnswered ends z' is_stat final taken start (moment a before) → HasAnswered ends z' is_stat final taken start (moment b after)
  answered_on z z' r t same is clause s = subst (HasDone ends z' is_stat final taken start (moment b after)) is (done_under z z' r same clause s)

  unit_done : (z : Schema) (f : SessionFault) → HasDone ends z is_stat final taken start (moment b after) {T = Turn} (Err f) → HasDone ends z is_stat final taken start (moment b after) {T = Unit {0}} (Err f)
  unit_done z fault.NoMemory d = d
  unit_done z fault.Read d = d
  unit_done z fault.TooMuch d = d
  unit_done z fault.Write d = d

  -- a turn with a fault
  pub done_fault : (z z' : Schema) (r : Result Turn SessionFault) (f : SessionFault) → z ≡ z' → r ≡ Err f → Keeps z r → HasAnswered ends z' is_stat final taken start (moment a before) → HasDone ends z' is_stat final taken start (moment b after) {T = Unit {0}} (Err f)
  done_fault z z' r f same is clause s = unit_done z' f (subst (HasDone ends z' is_stat final taken start (moment b after)) is (done_under z z' r same clause s))

  module _ (A : Stat → Type 0) (weaker : (stat : Stat) → A stat → is_stat stat) where
    -- a session goes on after a turn that is not its last
    turn_goes : (z : Schema) (t : Turn) → t ≢ turn.Ended → Turned ends z A a b before after t → after.ended ≡ false
    turn_goes z turn.Skipped ne d = d.answer.4
    turn_goes z turn.Replied ne d = d.answer.5
    turn_goes z turn.Ended ne d = absurd (ne refl)

    still_going : (z : Schema) (r : Result Turn SessionFault) (t : Turn) → t ≢ turn.Ended → r ≡ Ok t → IfOk r (Turned ends z A a b before after) → after.ended ≡ false
    still_going z r t ne is d = turn_goes z t ne (of_ok (Turned ends z A a b before after) r t is d)

    -- at the end all is answered
    pub all_ended : (z z' : Schema) (r : Result Turn SessionFault) (t : Turn) → z ≡ z' → r ≡ Ok t → t ≡ turn.Ended → before.ended ≡ false → HasAnswered ends z' is_stat final taken start (moment a before) → IfOk r (Turned ends z A a b before after) → AnswersAll ends.left z' start after
    all_ended z z' r t same is end going s d =
        subst (λ (y : Schema). AnswersAll ends.left y start after) same
        (all_at_end ends z is_stat taken final A weaker a b start before after t end going (subst (λ (y : Schema). HasAnswered ends y is_stat final taken start (moment a before)) (sym same) s) (of_ok (Turned ends z A a b before after) r t is d))

    -- and the session is at its end
    ended_turn : (z : Schema) (t : Turn) → t ≡ turn.Ended → Turned ends z A a b before after t → after.ended ≡ true
    ended_turn z t end d =
        let answer : IsTurn ends z before after d.lines d.replies turn.Ended = subst (IsTurn ends z before after d.lines d.replies) end d.answer in
        answer.0

    pub has_ended : (z : Schema) (r : Result Turn SessionFault) (t : Turn) → r ≡ Ok t → t ≡ turn.Ended → IfOk r (Turned ends z A a b before after) → after.ended ≡ true
    has_ended z r t is end d = ended_turn z t end (of_ok (Turned ends z A a b before after) r t is d)

  large_before : (x y : Option ℕ) → Told x (λ size. y ≡ Some size) → Told y (λ size. input_limit < size) → Told x (λ size. input_limit < size)
  large_before None y p q = tt
  large_before (Some n) y p q = subst (λ (o : Option ℕ). Told o (λ size. input_limit < size)) p q

  -- and where too much is left
  pub all_too_much : (z' : Schema) (r : Result Turn SessionFault) (f : SessionFault) → r ≡ Err f → f ≡ fault.TooMuch → before.ended ≡ false → HasAnswered ends z' is_stat final taken start (moment a before) → HasFaults ends.left ends.faults ends.held ends.put_faults before after r → AnswersAll ends.left z' start after × IsTooLarge ends.left start.source
  all_too_much z' r f is large going s fs =
      let much = fs.too_much (subst (λ (x : Result Turn SessionFault). IsErrOf x fault.TooMuch) (sym is) (as_fault {T = Turn} f fault.TooMuch large)) in
      let counted = of_err _ r f is fs.ended in (
        all_at_too_much ends z' is_stat taken final is_stat (λ stat m. m) a b start before after going s much counted.1,
        large_before (input_size ends.left start.source) (input_size ends.left before.source) (s.goes_on going).0.size much.0,
      )

-- What holds between two turns of a run, from a viewer, an end of a mailbox and a session to what they are now
pub record BetweenTurns {I O : Type 0} (ends : SessionEnds I O) (is_stat : Stat → Type 0) (shown learned : Known) (last : Option Known) (schema : Schema) (mail : OutEnd) (start : SessionState I O) (shown' learned' : Known) (last' : Option Known) (schema' : Schema) (mail' : OutEnd) (now : SessionState I O) : Type 0 where
  -- what was answered so far
  pub so_far : HasAnswered ends schema is_stat false mail.takes start (moment (news_of shown' learned' mail') now)
  -- finally, where the viewer had learned the ended list
  pub finals : IfSome last (λ w. HasAnswered ends schema is_stat true mail.takes start (moment (news_of w w mail') now))
  -- the session goes on
  pub going : now.ended ≡ false
  -- viewer and mailbox are of one pair
  pub pair : shown'.book ≡ mail'.pair
  -- no fault came
  pub source : ends.faults now.source.source ≡ ends.faults start.source.source
  pub sink : ends.put_faults now.sink ≡ ends.put_faults start.sink
  -- the viewer is the same
  pub viewer : KeepsViewer shown learned last schema shown' learned' last' schema'
  -- and the mailbox, and the names
  pub mailbox : mail'.mailbox ≡ mail.mailbox
  pub mail_pair : mail'.pair ≡ mail.pair
  -- what was taken is learned
  pub learns : LearnsTaken learned' mail mail'
  pub name : ends.name now.sink ≡ ends.name start.sink

module _ {I O : Type 0} {ends : SessionEnds I O} {is_stat : Stat → Type 0} {shown learned : Known} {last : Option Known} {schema : Schema} {mail : OutEnd} {start : SessionState I O} {shown' learned' : Known} {last' : Option Known} {schema' : Schema} {mail' : OutEnd} {now : SessionState I O} where
  -- it holds after a turn that is not the last
  pub after_turn : (A : Stat → Type 0) (shown'' learned'' : Known) (last'' : Option Known) (schema'' : Schema) (mail'' : OutEnd) (after : SessionState I O) (r : Result Turn SessionFault) (t : Turn) → BetweenTurns ends is_stat shown learned last schema mail start shown' learned' last' schema' mail' now → r ≡ Ok t → t ≢ turn.Ended
      → ((stat : Stat) → A stat → is_stat stat) → IfOk r (Turned ends schema' A (news_of shown' learned' mail') (news_of shown'' learned'' mail'') now after) → HasFaults ends.left ends.faults ends.held ends.put_faults now after r × (ends.name after.sink ≡ ends.name now.sink)
      → KeepsViewer shown' learned' last' schema' shown'' learned'' last'' schema'' → MayAsk learned'' mail' mail''
      → KeepsAnswers ends schema' is_stat false (moment (news_of shown' learned' mail') now) (moment (news_of shown'' learned'' mail'') after) r
      → IfSome last' (λ w. KeepsAnswers ends schema' is_stat true (moment (news_of w w mail') now) (moment (news_of w w mail'') after) r)
      → BetweenTurns ends is_stat shown learned last schema mail start shown'' learned'' last'' schema'' mail'' after
  after_turn A shown'' learned'' last'' schema'' mail'' after r t was is ne weaker turned fs viewer mails so_far finals =
      let names = mail_same learned'' mail' mail'' mails in
      record {
        so_far = answered_on ends is_stat mail.takes false (news_of shown' learned' mail') (news_of shown'' learned'' mail'') start now after schema' schema r t was.viewer.same_schema is so_far was.so_far;
        finals = some_on last last' was.viewer.same_last (λ w. answered_on ends is_stat mail.takes true (news_of w w mail') (news_of w w mail'') start now after schema' schema r t was.viewer.same_schema is) finals was.finals;
        going = still_going ends is_stat mail.takes false (news_of shown' learned' mail') (news_of shown'' learned'' mail'') start now after A weaker schema' r t ne is turned;
        pair = viewer.goes.pair ∙ was.pair ∙ sym names.1;
        source = fs.0.read.quiet (ok_answer r t fault.Read is) ∙ was.source;
        sink = fs.0.write.quiet (ok_answer r t fault.Write is) ∙ was.sink;
        viewer = keeps_on was.viewer viewer;
        mailbox = names.0 ∙ was.mailbox;
        mail_pair = names.1 ∙ was.mail_pair;
        learns = learns_on learned' learned'' mail mail' mail'' viewer.goes.told was.learns mails;
        name = fs.1 ∙ was.name;
      }
