-- What a session of a run leaves that ended without a fault, where nothing lacked memory.
use Rattle.std.proofs.Common.{◌≡◌, ◌+◌, ℕ, suc, Bool, true, false, List, [], ◌∷◌, ◌++◌, length, Some, None, Result, Ok, Err, OnOk, refl, sym, ap, subst, ◌∙◌, arith, zero-add}
use Rattle.live_session.specs.Work.{HadNoTurn, ending_fault, last_number}
use Rattle.live_session.specs.declared.done.SessionDone.{SessionDone}
use Rattle.cube_crew.specs.Crewed.{LeavesTranscript, closing}
use Rattle.cube_view.specs.Points.{Point}
use Rattle.cube_view.specs.declared.schema.Schema.{Schema}
use Rattle.cube_view.specs.declared.stat.Stat.{Stat}
use Rattle.feed_reader.proofs.FeedStart.{new_lines}
use Rattle.live_session.specs.News.{News}
use Rattle.live_session.specs.SoFar.{AnswersAll, AsksFirst, HasAnswered, HasDone, moment}
use Rattle.live_session.specs.State.{SessionState}
use Rattle.live_session.specs.Turned.{seens_of}
use Rattle.outer_io.proofs.ToldLaws.{Told-some}
use Rattle.outer_io.specs.Bytes.{Gains}
use Rattle.outer_io.specs.Cutting.{lines_left}
use Rattle.outer_io.specs.Files.{Files}
use Rattle.outer_io.specs.Lines.{lines}
use Rattle.query_syntax.specs.declared.query.Parsed.{Parsed}
use Rattle.reply_json.specs.declared.reply.Reply.{Reply}
use Rattle.run_files.proofs.Lists.{no_more}
use Rattle.run_files.specs.Outside.{SinkSeen, SourceSeen}
use Rattle.run_files.specs.Scripted.{IsOutput, IsScript}
use Rattle.session_core.specs.Asked.{asked}
use Rattle.session_core.specs.Scripts.{is_script_refused}
use Rattle.session_core.specs.Transcript.{AllAnswered, IsTranscript, replies_text}
use Rattle.session_core.specs.declared.fault.SessionFault.{SessionFault}
use Rattle.plan_run.specs.Completed.{reply_counts}
use Rattle.plan_run.specs.Parts.{ends_seen}
use Rattle.plan_run.specs.Counted.{script_counts}

-- as many replies answer as were asked for
pub answered_length : (schema : Schema) (is_stat : Stat → Type 0) (final : Bool) (l : List Point) (u : ℕ) (lacks : Bool) (ps : List Parsed) (replies : List Reply) → AllAnswered schema is_stat final l u lacks ps replies → length replies ≡ length ps
answered_length schema is_stat final l u lacks [] [] all = refl
answered_length schema is_stat final l u lacks [] (reply ∷ replies) all = absurd all
answered_length schema is_stat final l u lacks (p ∷ ps) [] all = absurd all
answered_length schema is_stat final l u lacks (p ∷ ps) (reply ∷ replies) all = ap suc (answered_length schema is_stat final l u lacks ps replies all.1)

-- what is said of an end without a fault, of one that has none
unfaulted_is : {X : Type 0} (end : Result (Unit {0}) SessionFault) → ending_fault end ≡ None → OnOk end X → X
unfaulted_is (Ok x) none said = said
unfaulted_is (Err f) none said = absurd (cc none)

-- The replies to a script with these bytes are what the sink of that name gained
pub record IsReplied {I O : Type 0} (s : SinkSeen O) (is_stat : Stat → Type 0) (schema : Schema) (final : Bool) (points : List Point) (script name : List ℕ) (done : SessionDone I O) : Type 0 where
  pub replies : List Reply
  pub transcript : IsTranscript schema is_stat final points (length points) false (asked schema (lines script)) replies
  pub held : s.held done.sink ≡ Some (replies_text replies)
  pub counts : script_counts done ≡ reply_counts replies
  pub named : s.name done.sink ≡ name
  pub taken : is_script_refused schema script ≡ false

module _ {I O : Type 0} (i : SourceSeen I) (s : SinkSeen O) (is_stat : Stat → Type 0) (schema : Schema) (final : Bool) where
  -- a session that ended without a fault answered all that its script asks
  ended_well : (news : News) (before after : SessionState I O) (end : Result (Unit {0}) SessionFault) → ending_fault end ≡ None → HasDone (ends_seen i s) schema is_stat final 0 before (moment news after) end → OnOk end (AnswersAll i.left schema before after)
      → HasAnswered (ends_seen i s) schema is_stat final 0 before (moment news after) × AnswersAll i.left schema before after
  ended_well news before after (Ok x) none done all = (done, all)
  ended_well news before after (Err f) none done all = absurd (cc none)

  -- all that was asked was asked by the lines that were answered
  all_asked : (before after : SessionState I O) (news : News) (script : List ℕ) → lines_left i.left before.source ≡ Some (lines script) → (h : HasAnswered (ends_seen i s) schema is_stat final 0 before (moment news after)) → AnswersAll i.left schema before after → asked schema (lines script) ≡ asked schema h.lines
  all_asked before after news script has h all =
      let first : AsksFirst schema h.lines (lines script) = Told-some (lines_left i.left before.source) (lines script) (AsksFirst schema h.lines) has h.first in
      let count = Told-some (lines_left i.left before.source) (lines script) (λ all. after.replies ≡ before.replies + length (asked schema all)) has all in
      let each = answered_length schema is_stat final news.shown (length news.told) after.lacked (asked schema h.lines) h.replies h.transcript.each in
      no_more (asked schema (lines script)) (asked schema h.lines) first.0 first.1 (omega (arith, count, h.counted, each))

  pub is_replied : (closed starved : Bool) (points : List Point) (files : Files) (script name : List ℕ) (before : SessionState I O) (done : SessionDone I O) → closed ≡ true → starved ≡ false → done.fault ≡ None
      → HadNoTurn before → IsScript i.left i.faults (Some script) before.source → IsOutput s (Some files) name before.sink → LeavesTranscript (ends_seen i s) is_stat schema final (closing closed starved points) before done
      → IsReplied s is_stat schema final points script name done
  is_replied closed starved points files script name before done shut fed none unturned is_script output leaves =
      let unfaulted : ending_fault leaves.end ≡ None = sym leaves.numbers.2 ∙ none in
      let news : News = record { shown = points; told = points; takes = done.mail.takes } in
      let over : HasDone (ends_seen i s) schema is_stat final 0 before (moment news leaves.after) leaves.end =
      subst (λ (l : List Point). HasDone (ends_seen i s) schema is_stat final 0 before (moment (record { shown = l; told = l; takes = done.mail.takes }) leaves.after) leaves.end) (leaves.whole shut) leaves.replied in
      let both = ended_well news before leaves.after leaves.end unfaulted over (leaves.all shut) in
      let h = both.0 in
      let has = new_lines i.left before.source before.source.source script is_script.is_new is_script.left_is in
      let all = all_asked before leaves.after news script has h both.1 in
      let found = (leaves.found fed).0 in
      let start : before.replies ≡ 0 = ap (λ (b : SessionState I O). b.replies) unturned in
      let seens : before.seens ≡ [] = ap (λ (b : SessionState I O). b.seens) unturned in
      let text : s.held leaves.after.sink ≡ Some (replies_text h.replies) = subst (λ o. Gains o (s.held leaves.after.sink) (replies_text h.replies)) output.holds_nothing h.gained in
      record {
        replies = h.replies;
        transcript = subst (λ ps. IsTranscript schema is_stat final points (length points) false ps h.replies) (sym all) (subst (λ (b : Bool). IsTranscript schema is_stat final points (length points) b (asked schema h.lines) h.replies) found h.transcript);
        held = ap s.held leaves.parts.1 ∙ text;
        counts = λ i. record {
          replies = (leaves.numbers.0 ∙ h.counted ∙ ap (λ (n : ℕ). n + length h.replies) start ∙ zero-add (length h.replies)) i;
          seen = (leaves.numbers.1 ∙ ap last_number (h.noted ∙ ap (λ ns. ns ++ seens_of h.replies) seens)) i;
          fault = none i;
        };
        named = leaves.named ∙ output.name_is;
        taken = Told-some (i.left before.source.source) script (λ bytes. is_script_refused schema bytes ≡ false) is_script.left_is (unfaulted_is leaves.end unfaulted (leaves.taken shut) is_script.is_new);
      }
