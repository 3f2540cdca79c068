-- A script that was opened, answered and given back, and one that was not opened.
use Rattle.std.proofs.Common.{◌≡◌, ◌≢◌, ℕ, Bool, true, false, List, [], ◌∷◌, ◌++◌, take, length, Option, Some, Result, Ok, Err, refl, sym, ◌∙◌, subst, OnOk, IsErrOf}
use Rattle.cube_view.specs.Bag.{Counts, EachCounted}
use Rattle.cube_view.specs.Points.{Point}
use Rattle.cube_view.specs.declared.schema.Schema.{Schema}
use Rattle.cube_view.specs.declared.spot.Spot.{Spot}
use Rattle.cube_view.specs.declared.stat.Stat.{Stat}
use Rattle.outer_io.proofs.GainedLaws.{gains_none}
use Rattle.outer_io.proofs.ToldLaws.{Told-each, Told-some}
use Rattle.outer_io.specs.Files.{Files, file_or_empty}
use Rattle.outer_io.specs.Lines.{lines}
use Rattle.outer_io.specs.Told.{Told}
use Rattle.query_syntax.specs.declared.query.Parsed.{Parsed}
use Rattle.session_core.proofs.Transcripts.{transcript_lacking, transcript_weaker}
use Rattle.session_core.specs.Answered.{GainsFront, GainsFrontNoted, GainsNoted, GainsReplies}
use Rattle.session_core.specs.Asked.{asked}
use Rattle.session_core.specs.Scripts.{is_script_refused}
use Rattle.session_core.specs.declared.answering.ScriptEnd.{ScriptEnd}
use Rattle.session_core.specs.declared.fault.SessionFault.{SessionFault}
use Rattle.session_core.specs.declared.fault.SessionFault.TheVariants as fault
use Rattle.run_files.specs.Answering.{answers_end, lacking_end, script_end, AnswersFile}
use Rattle.run_files.specs.Views.{seen_view}
use Rattle.run_files.specs.Outside.{at, PlaceSeen, SinkSeen}
use Rattle.run_files.proofs.Lists.{not_grown}
use Rattle.run_files.specs.Stops.{is_lacking, joined_ends}
use Rattle.run_files.specs.declared.stop.Stop.{Stop}
use Rattle.run_files.specs.declared.stop.Stop.TheVariants as stop

-- where no reply may be the line for want of memory, one may be
front_lacking : (schema : Schema) (is_stat : Stat → Type 0) (h : List Point) (told : ℕ) (a b : Option (List ℕ)) (ps : List Parsed) → GainsFront schema is_stat h told false a b ps → GainsFront schema is_stat h told true a b ps
front_lacking schema is_stat h told a b ps (front, later, is, (rs, are, gained)) = (front, later, is, (rs, transcript_lacking schema is_stat false true true h told front rs (λ e. refl) are, gained))

-- a sink that is as before gained the replies to the front of what was asked that is empty
pub nothing_gained : (schema : Schema) (is_stat : Stat → Type 0) (h : List Point) (told : ℕ) (lacks : Bool) (held : Option (List ℕ)) (ps : List Parsed) → GainsFront schema is_stat h told lacks held held ps
nothing_gained schema is_stat h told lacks held ps = ([], ps, refl, ([], record { each = tt; order = tt }, (0, gains_none held)))

module _ {P O : Type 0} (p : PlaceSeen P) (s : SinkSeen O) (place place' : P) (out out' : O) (schema : Schema) (is_stat : Stat → Type 0) (weight : Spot → ℕ) (n : ℕ) (name : List ℕ) where
  abbrev Replies : List Point → List ℕ → Type 0
  Replies h script = GainsReplies schema is_stat h (length h) false (s.held out) (s.held out') (asked schema (lines script))

  abbrev Front : Bool → List Point → List ℕ → Type 0
  Front lacks h script = GainsFront schema is_stat h (length h) lacks (s.held out) (s.held out') (asked schema (lines script))

  module _ (stat : Stat) (met : is_stat stat) (told : ℕ) (left : Option (List ℕ)) (all : told ≡ n) (opens : Told (p.files place) (λ fs. left ≡ Some (file_or_empty fs name))) where
    abbrev IsIts : Stat → Type 0
    IsIts x = x ≡ stat

    weaker : (x : Stat) → IsIts x → is_stat x
    weaker x is = subst is_stat (sym is) met

    abbrev Answered : Bool → Bool → List ℕ → Type 0
    Answered lacked refused q = EachCounted weight n (λ k. GainsNoted schema IsIts k told lacked (s.held out) (s.held out') (asked schema (lines q))) × (is_script_refused schema q ≡ refused)

    abbrev Begun : Bool → List ℕ → Type 0
    Begun lacked q = EachCounted weight n (λ k. GainsFront schema IsIts k told lacked (s.held out) (s.held out') (asked schema (lines q)))

    abbrev BegunNoted : Bool → List ℕ → Type 0
    BegunNoted lacked q = EachCounted weight n (λ k. GainsFrontNoted schema IsIts k told lacked (s.held out) (s.held out') (asked schema (lines q)))

    begun : (lacked : Bool) → Told left (BegunNoted lacked) → Told left (Begun lacked)
    begun lacked told_front = Told-each left (BegunNoted lacked) (Begun lacked) (λ q each h counts. let (front, later, is, (rs, are, gained, noted)) = each h counts in (front, later, is, (rs, are, gained))) told_front

    bytes_of : (P : List ℕ → Type 0) → Told left P → (fs : Files) → p.files place ≡ Some fs → P (file_or_empty fs name)
    bytes_of P told_P fs told_fs = Told-some left (file_or_empty fs name) P (Told-some (p.files place) fs (λ fs. left ≡ Some (file_or_empty fs name)) told_fs opens) told_P

    replies_at : (refused : Bool) → Told left (Answered false refused) → (fs : Files) → p.files place ≡ Some fs → ((h : List Point) → Counts weight n h → Replies h (file_or_empty fs name)) × (is_script_refused schema (file_or_empty fs name) ≡ refused)
    replies_at refused answers fs told_fs =
        let it = bytes_of (Answered false refused) answers fs told_fs in (
          λ h counts.
              let r = subst (λ (t : ℕ). GainsNoted schema IsIts h t false (s.held out) (s.held out') (asked schema (lines (file_or_empty fs name)))) (all ∙ counts.number) (it.0 h counts) in
              (r.0, transcript_weaker schema IsIts is_stat weaker false true h (length h) _ r.0 r.1, r.2),
          it.1,
        )

    front_at : (lacked : Bool) → Told left (Begun lacked) → (fs : Files) → p.files place ≡ Some fs → (h : List Point) → Counts weight n h → Front lacked h (file_or_empty fs name)
    front_at lacked answers fs told_fs h counts =
        let r = subst (λ (t : ℕ). GainsFront schema IsIts h t lacked (s.held out) (s.held out') (asked schema (lines (file_or_empty fs name)))) (all ∙ counts.number) (bytes_of (Begun lacked) answers fs told_fs h counts) in
        (r.0, r.1, r.2, (r.3.0, transcript_weaker schema IsIts is_stat weaker lacked true h (length h) _ r.3.0 r.3.1, r.3.2))

    -- a script that was opened, with what its answers gained
    module _ (opened : p.opened place' ≡ p.opened place ++ name ∷ []) where
      abbrev End : Type 0
      End = Result (Unit {0}) Stop

      file_with : (result : End) → result ≢ Err stop.PlanRefused → (result ≡ Ok tt → Told left (Answered false false)) → (result ≡ Err stop.FeedRefused → Told left (Answered false true)) → Told left (Begun (is_lacking result)) → AnswersFile p s (at place out) (at place' out') (seen_view schema is_stat (Counts weight n)) name result
      file_with result form done refused part =
          record {
            form = form;
            done = λ fs told_fs e. replies_at false (done e) fs told_fs;
            refused = λ fs told_fs e. replies_at true (refused e) fs told_fs;
            part = front_at (is_lacking result) part;
            opened_once = (1, opened);
            opened_it = λ e. opened;
            untouched = λ same. absurd (not_grown (p.opened place) (p.opened place') name opened same);
          }

      -- by the end of its answers
      ended_file : (lacked : Bool) (r : Result (Unit {0}) SessionFault) → OnOk r (Told left (Answered lacked false)) → (IsErrOf r fault.TooMuch → Told left (Answered lacked true)) → Told left (Begun lacked) → AnswersFile p s (at place out) (at place' out') (seen_view schema is_stat (Counts weight n)) name (joined_ends (lacking_end lacked) (answers_end r))
      ended_file true (Ok x) done refused part = file_with (Err stop.NoMemory) (λ e. cc) (λ e. cc) (λ e. cc) part
      ended_file true (Err fault.TooMuch) done refused part = file_with (Err stop.NoMemory) (λ e. cc) (λ e. cc) (λ e. cc) part
      ended_file true (Err fault.Read) done refused part = file_with (Err stop.NoMemory) (λ e. cc) (λ e. cc) (λ e. cc) part
      ended_file true (Err fault.Write) done refused part = file_with (Err stop.NoMemory) (λ e. cc) (λ e. cc) (λ e. cc) part
      ended_file true (Err fault.NoMemory) done refused part = file_with (Err stop.NoMemory) (λ e. cc) (λ e. cc) (λ e. cc) part
      ended_file false (Ok x) done refused part = file_with (Ok tt) (λ e. cc) (λ e. done) (λ e. cc) part
      ended_file false (Err fault.TooMuch) done refused part = file_with (Err stop.FeedRefused) (λ e. cc) (λ e. cc) (λ e. refused refl) part
      ended_file false (Err fault.Read) done refused part = file_with (Err stop.ReadFault) (λ e. cc) (λ e. cc) (λ e. cc) part
      ended_file false (Err fault.Write) done refused part = file_with (Err stop.WriteFault) (λ e. cc) (λ e. cc) (λ e. cc) part
      ended_file false (Err fault.NoMemory) done refused part = file_with (Err stop.NoMemory) (λ e. cc) (λ e. cc) (λ e. cc) (lacking_front part)
        where
          lacking_front : Told left (Begun false) → Told left (Begun true)
          lacking_front told_front = Told-each left (Begun false) (Begun true) (λ q each h counts. front_lacking schema IsIts h told (s.held out) (s.held out') (asked schema (lines q)) (each h counts)) told_front

      pub answered_file : (e : ScriptEnd) → OnOk e.end (Told left (Answered e.lacked false)) → (IsErrOf e.end fault.TooMuch → Told left (Answered e.lacked true)) → Told left (BegunNoted e.lacked) → AnswersFile p s (at place out) (at place' out') (seen_view schema is_stat (Counts weight n)) name (script_end e)
      answered_file e done refused part = ended_file e.lacked e.end done refused (begun e.lacked part)

-- a script that was not answered, with what its opening noted
pub unopened_file : {P O : Type 0} (p : PlaceSeen P) (s : SinkSeen O) (place place' : P) (out : O) (schema : Schema) (is_stat : Stat → Type 0) (counts : List Point → Type 0) (name : List ℕ) (result : Result (Unit {0}) Stop) → result ≢ Err stop.PlanRefused → result ≢ Ok tt → result ≢ Err stop.FeedRefused → (k : ℕ) × (p.opened place' ≡ p.opened place ++ take k (name ∷ [])) → AnswersFile p s (at place out) (at place' out) (seen_view schema is_stat counts) name result
unopened_file p s place place' out schema is_stat counts name result form not_done not_refused opened =
    record {
      form = form;
      done = λ fs told_fs e. absurd (not_done e);
      refused = λ fs told_fs e. absurd (not_refused e);
      part = λ fs told_fs h c. nothing_gained schema is_stat h (length h) (is_lacking result) (s.held out) (asked schema (lines (file_or_empty fs name)));
      opened_once = opened;
      opened_it = λ e. absurd (not_done e);
      untouched = λ same. refl;
    }
