-- A script that was opened, answered and given back, and one that was not opened.
use Rattle.std.proofs.Common.{◌≡◌, ◌≢◌, ℕ, Bool, true, false, List, [], ◌∷◌, ◌++◌, take, Option, Some, Result, Ok, Err, OnOk, IsErrOf, refl}
use Rattle.outer_io.proofs.GainedLaws.{gains_none}
use Rattle.outer_io.proofs.ToldLaws.{Told-each, Told-some}
use Rattle.outer_io.specs.Files.{Files, file_or_empty}
use Rattle.outer_io.specs.Lines.{lines}
use Rattle.outer_io.specs.Told.{Told}
use Rattle.run_files.specs.Answering.{answers_end, lacking_end, script_end}
use Rattle.run_files.specs.Outside.{at, PlaceSeen, SinkSeen}
use Rattle.run_files.specs.Stops.{is_lacking, joined_ends}
use Rattle.run_files.specs.declared.stop.Stop.{Stop}
use Rattle.run_files.specs.declared.stop.Stop.TheVariants as stop
use Rattle.session_core.proofs.WholeScripts.{told_by}
use Rattle.session_core.specs.Asked.{asked}
use Rattle.session_core.specs.declared.answering.ScriptEnd.{ScriptEnd}
use Rattle.session_core.specs.declared.fault.SessionFault.{SessionFault}
use Rattle.session_core.specs.declared.fault.SessionFault.TheVariants as fault
use Rattle.flat_session.proofs.Gained.{part_lacking}
use Rattle.flat_session.proofs.SameAnswers.{gains_own}
use Rattle.flat_session.specs.Answers.{FlatBasis}
use Rattle.flat_session.specs.Putting.{PutsLinesFront, PutsScript, PutsScriptPart}
use Rattle.flat_run.specs.Answering.{AnswersNamed, GainsScript}

module _ {P O : Type 0} (p : PlaceSeen P) (s : SinkSeen O) (place place' : P) (out out' : O) (of : FlatBasis) (name : List ℕ) where
  abbrev Front : Bool → List ℕ → Type 0
  Front lacks script = PutsLinesFront of lacks (s.held out) (s.held out') (lines script)

  module _ (left : Option (List ℕ)) (opens : Told (p.files place) (λ fs. left ≡ Some (file_or_empty fs name))) where
    abbrev Whole : Bool → Bool → Type 0
    Whole lacked refused = PutsScript of lacked refused left (s.held out) (s.held out')

    abbrev Begun : Bool → Type 0
    Begun lacked = PutsScriptPart of lacked left (s.held out) (s.held out')

    at_name : (Q : List ℕ → Type 0) → Told left Q → Told (p.files place) (λ fs. Q (file_or_empty fs name))
    at_name Q told_Q = told_by (p.files place) _ (λ fs told_fs. Told-some left (file_or_empty fs name) Q (Told-some (p.files place) fs (λ fs. left ≡ Some (file_or_empty fs name)) told_fs opens) told_Q)

    all_at : (refused : Bool) → Whole false refused → Told (p.files place) (λ fs. GainsScript s out out' of refused (file_or_empty fs name))
    all_at refused answers = at_name (GainsScript s out out' of refused) (Told-each left _ (GainsScript s out out' of refused) (λ script it. (gains_own of (s.held out) (s.held out') (lines script) it.0, it.1)) answers)

    begun_lacking : Begun false → Begun true
    begun_lacking front = Told-each left (Front false) (Front true) (λ script it. (it.0, it.1, it.2, part_lacking of false true (λ e. refl) (s.held out) (s.held out') it.0 it.3)) front

    -- a script that was opened, with what its answers gained
    module _ (opened : p.opened place' ≡ p.opened place ++ name ∷ []) where
      abbrev End : Type 0
      End = Result (Unit {0}) Stop

      named_with : (result : End) → (result ≡ Ok tt → Whole false false) → (result ≡ Err stop.FeedRefused → Whole false true) → Begun (is_lacking result) → result ≢ Err stop.PlanRefused → AnswersNamed p s (at place out) (at place' out') of name result
      named_with result done refused part form =
          record {
            done = λ e. all_at false (done e);
            refused = λ e. all_at true (refused e);
            part = at_name (Front (is_lacking result)) part;
            form = form;
            opens = 1;
            opened = opened;
            opened_it = λ e. opened;
          }

      lacked : Begun true → AnswersNamed p s (at place out) (at place' out') of name (Err stop.NoMemory)
      lacked part = named_with (Err stop.NoMemory) (λ e. cc) (λ e. cc) part (λ e. cc)

      -- by the end of its answers
      ended_named : (lacks : Bool) (r : Result (Unit {0}) SessionFault) → Begun lacks → OnOk r (Whole lacks false) → (IsErrOf r fault.TooMuch → Whole lacks true) → AnswersNamed p s (at place out) (at place' out') of name (joined_ends (lacking_end lacks) (answers_end r))
      ended_named false (Ok x) part done refused = named_with (Ok tt) (λ e. done) (λ e. cc) part (λ e. cc)
      ended_named false (Err fault.Read) part done refused = named_with (Err stop.ReadFault) (λ e. cc) (λ e. cc) part (λ e. cc)
      ended_named false (Err fault.Write) part done refused = named_with (Err stop.WriteFault) (λ e. cc) (λ e. cc) part (λ e. cc)
      ended_named false (Err fault.TooMuch) part done refused = named_with (Err stop.FeedRefused) (λ e. cc) (λ e. refused refl) part (λ e. cc)
      ended_named false (Err fault.NoMemory) part done refused = lacked (begun_lacking part)
      ended_named true (Ok x) part done refused = lacked part
      ended_named true (Err fault.Read) part done refused = lacked part
      ended_named true (Err fault.Write) part done refused = lacked part
      ended_named true (Err fault.TooMuch) part done refused = lacked part
      ended_named true (Err fault.NoMemory) part done refused = lacked part

      pub answered_named : (e : ScriptEnd) → Begun e.lacked → OnOk e.end (Whole e.lacked false) → (IsErrOf e.end fault.TooMuch → Whole e.lacked true) → AnswersNamed p s (at place out) (at place' out') of name (script_end e)
      answered_named e part done refused = ended_named e.lacked e.end part done refused

-- a script that was not answered, with what its opening noted
pub unopened_named : {P O : Type 0} (p : PlaceSeen P) (s : SinkSeen O) (place place' : P) (out : O) (of : FlatBasis) (name : List ℕ) (result : Result (Unit {0}) Stop) (k : ℕ) → p.opened place' ≡ p.opened place ++ take k (name ∷ []) → result ≢ Ok tt → result ≢ Err stop.FeedRefused → result ≢ Err stop.PlanRefused → AnswersNamed p s (at place out) (at place' out) of name result
unopened_named p s place place' out of name result k opened not_done not_refused form =
    record {
      done = λ e. absurd (not_done e);
      refused = λ e. absurd (not_refused e);
      part = told_by (p.files place) _ (λ fs told_fs. ([], asked of.schema (lines (file_or_empty fs name)), refl, ([], tt, (0, gains_none (s.held out)))));
      form = form;
      opens = k;
      opened = opened;
      opened_it = λ e. absurd (not_done e);
    }
