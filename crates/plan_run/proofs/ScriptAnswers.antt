-- What a script of a run gets, whatever ended its session.
use Rattle.std.proofs.Common.{◌≡◌, ◌≢◌, ◌⊎◌, inl, inr, ◌+◌, ◌≤◌, ℕ, Bool, true, false, List, [], ◌∷◌, ◌++◌, length, take, None, Some, Result, Ok, Err, refl, sym, ap, subst, ◌∙◌, arith, zero-add}
use Rattle.std.specs.Prelude.{IsErrOf, OnOk}
use Rattle.std.specs.FinMap.{get}
use Rattle.std.proofs.lemmas.Bool.{false≢true}
use Rattle.std.proofs.lemmas.List.{take_at}
use Rattle.live_session.specs.Work.{ending_fault, last_number}
use Rattle.live_session.specs.declared.done.SessionDone.{SessionDone}
use Rattle.cube_crew.specs.Crewed.{LeavesTranscript, closing}
use Rattle.cube_store.specs.Numbers.{OwnsAllButRoot}
use Rattle.cube_view.specs.Points.{Point}
use Rattle.cube_view.specs.declared.schema.Schema.{Schema}
use Rattle.feed_reader.proofs.FeedStart.{new_lines}
use Rattle.live_session.specs.News.{News}
use Rattle.live_session.specs.Refusing.{TellsRefused}
use Rattle.live_session.specs.SoFar.{AnswersAll, AsksFirst, HasAnswered, HasDone, moment}
use Rattle.live_session.specs.State.{SessionState}
use Rattle.live_session.specs.Turned.{seens_of}
use Rattle.outer_io.proofs.ToldLaws.{Told-some}
use Rattle.outer_io.specs.Bytes.{Gains}
use Rattle.outer_io.specs.Cutting.{lines_left}
use Rattle.outer_io.specs.Files.{Files, file_or_empty}
use Rattle.outer_io.specs.Lines.{lines}
use Rattle.outer_io.specs.Progress.{IsTooLarge}
use Rattle.reply_json.specs.declared.reply.Reply.{Reply}
use Rattle.run_files.specs.Outside.{SinkSeen, SourceSeen}
use Rattle.run_files.specs.Stops.{is_lacking}
use Rattle.run_files.specs.declared.stop.Stop.{Stop}
use Rattle.run_files.specs.declared.stop.Stop.TheVariants.{NoMemory, PlanRefused}
use Rattle.session_core.proofs.Transcripts.{transcript_lacking}
use Rattle.session_core.specs.Asked.{asked}
use Rattle.session_core.specs.Scripts.{is_script_refused}
use Rattle.session_core.specs.Transcript.{IsTranscript, replies_text}
use Rattle.session_core.specs.declared.fault.SessionFault.{SessionFault}
use Rattle.session_core.specs.declared.fault.SessionFault.TheVariants as fault
use Rattle.world_core.proofs.Prefixes.{IsPrefix-then}
use Rattle.world_core.specs.Interleaving.{entry_points}
use Rattle.world_core.specs.PairFact.{IsPrefix}
use Rattle.plan_run.proofs.OutputsByEnd.{LandsAs}
use Rattle.plan_run.proofs.EndRanks.{rank_end, session_lacking, session_read}
use Rattle.plan_run.proofs.InputRefusals.{large_script}
use Rattle.plan_run.proofs.FaultlessSessions.{answered_length}
use Rattle.plan_run.specs.Completed.{output_of}
use Rattle.plan_run.specs.Interrupted.{Account, AnswersInFile, StopsScript}
use Rattle.plan_run.specs.Parts.{ends_seen}
use Rattle.plan_run.specs.Ready.{IsSessionOf}
use Rattle.plan_run.specs.Counted.{script_counts}
use Rattle.plan_run.specs.ThreadEnds.{session_end}

abbrev Ending : Type 0
Ending = Result (Unit {0}) SessionFault

-- the line for want of memory comes only where the run ends so
lacks_only : (starved lacked wants : Bool) → (starved ≡ true → wants ≡ true) → (starved ≡ false → lacked ≡ false) → lacked ≡ true → wants ≡ true
lacks_only true lacked wants wanted found is = wanted refl
lacks_only false lacked wants wanted found is = absurd (cc (found refl, is))

-- replies that raise no count are none
none_counted : (n : ℕ) (replies : List Reply) → n + length replies ≡ n → replies ≡ []
none_counted n [] same = refl
none_counted n (reply ∷ replies) same = absurd (omega (arith, same))

module _ {I O : Type 0} (i : SourceSeen I) (s : SinkSeen O) (schema : Schema) (final closed starved : Bool) (points : List Point) (files : Files) (end : Result (Unit {0}) Stop) where
  -- the session of the script of that name was opened, and has run
  pub record HasRun (name : List ℕ) (done : SessionDone I O) : Type 0 where
    pub before : SessionState I O
    pub ready : IsSessionOf i.left i.faults s (Some files) name before
    pub leaves : LeavesTranscript (ends_seen i s) OwnsAllButRoot schema final (closing closed starved points) before done

  pub stops_script : end ≢ Err PlanRefused → (name : List ℕ) (done : SessionDone I O) → HasRun name done → rank_end end ≤ rank_end (session_end done.fault) → StopsScript schema closed end files name (script_counts done)
  stops_script planned name done run first = record {
    read = session_read end planned done.fault first;
    too_much = λ much. (large_script i s OwnsAllButRoot schema final closed starved points files name run.before done run.ready run.leaves (ap session_end much)).0;
    refused = λ shut r w m bad. run.leaves.numbers.2 ∙ named_end run.leaves.end
        (λ whole. Told-some (i.left run.before.source.source) (file_or_empty files name) (λ script. is_script_refused schema script ≡ false) run.ready.script.left_is (taken_end run.leaves.end whole (run.leaves.taken shut) run.ready.script.is_new))
        (λ is. r (run.leaves.numbers.2 ∙ is)) (λ is. w (run.leaves.numbers.2 ∙ is)) (λ is. m (run.leaves.numbers.2 ∙ is)) bad;
    no_memory = session_lacking end planned done.fault first;
  }
    where
      taken_end : (e : Ending) → ending_fault e ≡ None → OnOk e (TellsRefused i.left schema run.before.source false) → TellsRefused i.left schema run.before.source false
      taken_end (Ok x) whole taken = taken
      taken_end (Err f) whole taken = absurd (cc whole)

      -- a script that is refused ended by too much, where it ended by no other fault
      named_end : (e : Ending) → (ending_fault e ≡ None → is_script_refused schema (file_or_empty files name) ≡ false) → ending_fault e ≢ Some fault.Read → ending_fault e ≢ Some fault.Write → ending_fault e ≢ Some fault.NoMemory → is_script_refused schema (file_or_empty files name) ≡ true
          → ending_fault e ≡ Some fault.TooMuch
      named_end (Ok x) fine r w m bad = absurd (false≢true (sym (fine refl) ∙ bad))
      named_end (Err fault.NoMemory) fine r w m bad = absurd (m refl)
      named_end (Err fault.Read) fine r w m bad = absurd (r refl)
      named_end (Err fault.TooMuch) fine r w m bad = refl
      named_end (Err fault.Write) fine r w m bad = absurd (w refl)

  until_put : (news : News) (before after : SessionState I O) (e : Ending) → ending_fault e ≢ Some fault.Write → HasDone (ends_seen i s) schema OwnsAllButRoot final 0 before (moment news after) e → HasAnswered (ends_seen i s) schema OwnsAllButRoot final 0 before (moment news after)
  until_put news before after (Ok x) put has = has
  until_put news before after (Err fault.NoMemory) put has = has
  until_put news before after (Err fault.Read) put has = has
  until_put news before after (Err fault.TooMuch) put has = has
  until_put news before after (Err fault.Write) put has = absurd (put refl)

  all_answered : (before after : SessionState I O) (e : Ending) → ending_fault e ≢ Some fault.Write → ending_fault e ≢ Some fault.Read → ending_fault e ≢ Some fault.NoMemory
      → OnOk e (AnswersAll i.left schema before after) → (IsErrOf e fault.TooMuch → AnswersAll i.left schema before after × IsTooLarge i.left before.source) → AnswersAll i.left schema before after
  all_answered before after (Ok x) put read found all large = all
  all_answered before after (Err fault.NoMemory) put read found all large = absurd (found refl)
  all_answered before after (Err fault.Read) put read found all large = absurd (read refl)
  all_answered before after (Err fault.TooMuch) put read found all large = (large refl).0
  all_answered before after (Err fault.Write) put read found all large = absurd (put refl)

  lands_text : (after : Files) (sink : O) (name bytes : List ℕ) → s.name sink ≡ name → s.held sink ≡ Some bytes → LandsAs s end after sink → (get after name ≡ Some bytes) ⊎ ((end ≡ Err NoMemory) × (get after name ≡ Some []))
  lands_text after sink name bytes named held (inl has) = inl (subst (λ n. get after n ≡ Some bytes) named (Told-some (s.held sink) bytes (λ b. get after (s.name sink) ≡ Some b) held has))
  lands_text after sink name bytes named held (inr lost) = inr (lost.0, subst (λ n. get after n ≡ Some []) named lost.1)

  pub answers_script : (after : Files) (account : Account) → account.closed ≡ closed → (closed ≡ true → points ≡ entry_points account.entries) → IsPrefix points (entry_points account.drawn) → (starved ≡ true → end ≡ Err NoMemory) → (name : List ℕ) (done : SessionDone I O) → HasRun name done → (done.fault ≢ Some fault.Write) × LandsAs s end after done.sink → AnswersInFile schema final end account files after name (script_counts done)
  answers_script after account same_closed over_entries over_drawn starving name done run good =
      let before = run.before in
      let leaves = run.leaves in
      let script = file_or_empty files name in
      let of_end : (f : SessionFault) → done.fault ≢ Some f → ending_fault leaves.end ≢ Some f = λ f other is. other (leaves.numbers.2 ∙ is) in
      let over = leaves.points in
      let news : News = record { shown = over; told = over; takes = done.mail.takes } in
      let h = until_put news before leaves.after leaves.end (of_end fault.Write good.0) leaves.replied in
      let has = new_lines i.left before.source before.source.source script run.ready.script.is_new run.ready.script.left_is in
      let first : AsksFirst schema h.lines (lines script) = Told-some (lines_left i.left before.source) (lines script) (AsksFirst schema h.lines) has h.first in
      let count : length h.replies ≡ length (asked schema h.lines) = answered_length schema OwnsAllButRoot final over (length over) leaves.after.lacked (asked schema h.lines) h.replies h.transcript.each in
      let front : take (length h.replies) (asked schema (lines script)) ≡ asked schema h.lines =
      ap (take (length h.replies)) first.1 ∙ take_at (asked schema h.lines) first.0 (length h.replies) (sym count) in
      let wants : leaves.after.lacked ≡ true → is_lacking end ≡ true =
      lacks_only starved leaves.after.lacked (is_lacking end) (λ is. ap is_lacking (starving is)) (λ is. (leaves.found is).0) in
      let text : s.held leaves.after.sink ≡ Some (replies_text h.replies) = subst (λ o. Gains o (s.held leaves.after.sink) (replies_text h.replies)) run.ready.output.holds_nothing h.gained in
      let start : before.replies ≡ 0 = ap (λ (b : SessionState I O). b.replies) run.ready.no_turn in
      let seens : before.seens ≡ [] = ap (λ (b : SessionState I O). b.seens) run.ready.no_turn in
      record {
        replies = h.replies;
        points = over;
        over = λ is_shut. let shut = sym same_closed ∙ is_shut in leaves.whole shut ∙ over_entries shut;
        within = IsPrefix-then leaves.points points (entry_points account.drawn) leaves.within over_drawn;
        unrun = λ open_ last. none_counted before.replies h.replies (sym h.counted ∙ ap (λ (after : SessionState I O). after.replies) (leaves.unrun (sym same_closed ∙ open_) last));
        transcript = subst (λ ps. IsTranscript schema OwnsAllButRoot final over (length over) (is_lacking end) ps h.replies) (sym front)
            (transcript_lacking schema OwnsAllButRoot leaves.after.lacked (is_lacking end) final over (length over) (asked schema h.lines) h.replies wants h.transcript);
        text = lands_text after done.sink (output_of name) (replies_text h.replies) (leaves.named ∙ run.ready.output.name_is) (ap s.held leaves.parts.1 ∙ text) good.1;
        counted = (
          leaves.numbers.0 ∙ h.counted ∙ ap (λ (n : ℕ). n + length h.replies) start ∙ zero-add (length h.replies),
          leaves.numbers.1 ∙ ap last_number (h.noted ∙ ap (λ ns. ns ++ seens_of h.replies) seens),
        );
        all = λ is_shut read found.
            let shut = sym same_closed ∙ is_shut in
            leaves.numbers.0 ∙ Told-some (lines_left i.left before.source) (lines script) (λ all. leaves.after.replies ≡ before.replies + length (asked schema all)) has
            (all_answered before leaves.after leaves.end (of_end fault.Write good.0) (of_end fault.Read read) (of_end fault.NoMemory found) (leaves.all shut) leaves.too_much)
            ∙ ap (λ (n : ℕ). n + length (asked schema (lines script))) start ∙ zero-add (length (asked schema (lines script)));
      }
