-- A turn: nothing at the end, or a line and what was done with what it means.
use Rattle.std.proofs.Common.{◌≡◌, ℕ, ◌+◌, ◌≤◌, Bool, true, ◌||◌, List, [], ◌∷◌, ◌++◌, length, Option, Some, None, inl, inr, refl, sym, ap, ◌∙◌, subst, arith, Result, Ok, Err, IfOk}
use Rattle.std.proofs.lemmas.Bool.{false≢true}
use Rattle.cube_view.specs.declared.schema.Schema.{Schema}
use Rattle.cube_view.specs.declared.stat.Stat.{Stat}
use Rattle.live_session.specs.Answered.{Answered, IsAnswer, IsBroken}
use Rattle.live_session.specs.News.{HasNews, News}
use Rattle.live_session.specs.State.{SessionEnds, SessionState}
use Rattle.live_session.specs.Turned.{BreaksOff, AreNext, IsTurn, Turned, seens_of}
use Rattle.live_session.specs.declared.turn.Turn.{Turn}
use Rattle.live_session.specs.declared.turn.Turn.TheVariants as turn
use Rattle.outer_io.specs.Bytes.{Gains, GainsPart}
use Rattle.outer_io.specs.Cutting.{Cutter, lines_left}
use Rattle.outer_io.specs.Lines.{Line, input_limit}
use Rattle.outer_io.specs.Progress.{Passes, PassesAll}
use Rattle.outer_io.specs.Told.{Told}
use Rattle.query_syntax.specs.declared.query.Parsed.{Parsed}
use Rattle.reply_json.specs.declared.reply.Reply.{Reply}
use Rattle.session_core.specs.Asked.{asked_then, asks_to_end, line_meaning, reply_line}
use Rattle.session_core.specs.Transcript.{has_lack, is_lack, replies_text}
use Rattle.session_core.specs.Turns.{PassesLine}
use Rattle.session_core.proofs.Transcripts.{transcript_none}
use Rattle.std.specs.Prelude.{IsSomeAnd}
use Rattle.live_session.proofs.NextReply.{put_none}

module _ (schema : Schema) where
  -- what is told of lines that are passed
  abbrev pub Front : List Line → List Line → Type 0
  Front lines all = (later : List Line) × (all ≡ lines ++ later)

  pub front_of : (a b : Option (List Line)) (lines : List Line) → Told a (λ all. IsSomeAnd b (λ rest. all ≡ lines ++ rest)) → Told a (Front lines)
  front_of None b lines p = tt
  front_of (Some all) None lines p = absurd p
  front_of (Some all) (Some rest) lines p = (rest, p)

  pub front_none : (a : Option (List Line)) → Told a (Front [])
  front_none None = tt
  front_none (Some all) = (all, refl)

-- what was read of the script
abbrev pub Reads : {I O : Type 0} → (I → Option (List ℕ)) → (I → ℕ) → Schema → SessionState I O → SessionState I O → Parsed → Type 0
Reads left faults schema before mid p = (line : Line) × PassesLine left faults schema before.source mid.source line × (p ≡ line_meaning schema line)

-- what reading leaves as it was
abbrev pub Keeps : {I O : Type 0} → SessionState I O → SessionState I O → Type 0
Keeps before mid = (mid.sink ≡ before.sink) × (mid.seens ≡ before.seens) × (mid.replies ≡ before.replies) × (mid.lacked ≡ before.lacked)

module _ {I O : Type 0} (ends : SessionEnds I O) (schema : Schema) (is_stat : Stat → Type 0) (a b : News) where
  -- a turn that reads no line
  turned_none : (before after : SessionState I O) → b ≡ a → after.source.given ≡ before.source.given → after.ended ≡ true → after.sink ≡ before.sink → after.seens ≡ before.seens → after.replies ≡ before.replies → after.lacked ≡ before.lacked → IsTurn ends schema before after [] [] turn.Ended → Turned ends schema is_stat a b before after turn.Ended
  turned_none before after same given ended sink seens replies lacked answer =
      record {
        lines = [];
        replies = [];
        read = front_none schema (lines_left ends.left before.source);
        given = omega (arith, given);
        passed = λ going. absurd (false≢true (sym going ∙ ended));
        news = same;
        next = record { transcript = transcript_none schema is_stat after.lacked true b.shown (length b.told); follows = tt };
        put = put_none ends.held before after sink replies seens lacked;
        answer = answer;
      }

  -- one of a session at its end
  pub turned_ended : (before : SessionState I O) → b ≡ a → before.ended ≡ true → Turned ends schema is_stat a b before before turn.Ended
  turned_ended before same e = turned_none before before same refl e refl refl refl refl (e, refl, inl (e, refl, refl))

  -- one at the script's end
  pub turned_end : (before after : SessionState I O) → b ≡ a → PassesAll ends.left ends.faults before.source after.source [] → after.source.given ≡ before.source.given → after.ended ≡ true → after.sink ≡ before.sink → after.seens ≡ before.seens → after.replies ≡ before.replies → after.lacked ≡ before.lacked → Turned ends schema is_stat a b before after turn.Ended
  turned_end before after same all given ended sink seens replies lacked = turned_none before after same given ended sink seens replies lacked (ended, refl, inr (inl (all, refl)))

  is_turn : (before after : SessionState I O) (line : Line) (p : Parsed) (replies : List Reply) (t : Turn) → p ≡ line_meaning schema line → IsAnswer ends.held schema is_stat a b before after p replies t → ((s : SessionState I O) → IsTurn ends schema s after (line ∷ []) replies t)
  is_turn before after line p replies turn.Skipped means (skip, none, going) s = (line, refl, sym means ∙ skip, none, going)
  is_turn before after line p replies turn.Replied means (reply, one, goes, going) s = (line, reply, refl, one, ap asks_to_end (sym means) ∙ goes, going)
  is_turn before after line p replies turn.Ended means (quit, none, ended) s = (ended, none, inr (inr (line, refl, ap asks_to_end (sym means) ∙ quit)))

  -- a turn that reads a line
  turned_line : (before mid after : SessionState I O) (p : Parsed) (t : Turn) → Reads ends.left ends.faults schema before mid p → Keeps before mid → after.source ≡ mid.source → HasNews p a b → Answered ends.held schema is_stat a b mid after p t → Turned ends schema is_stat a b before after t
  turned_line before mid after p t (line, passes, means) (sink, seens, replies, lacked) source news done =
      let passed : Passes ends.left ends.faults before.source after.source (line ∷ []) = subst (λ s. Passes ends.left ends.faults before.source s (line ∷ [])) (sym source) passes.passed in
      record {
        lines = line ∷ [];
        replies = done.replies;
        read = front_of schema (lines_left ends.left before.source) (lines_left ends.left after.source) (line ∷ []) passed.covers;
        given = ap (λ s. s.given) source ∙ passes.further.0;
        passed = λ going. (passed, subst (λ (s : Cutter I). s.given ≤ input_limit) (sym source) passes.further.1);
        news = (b, subst (λ (m : Parsed). HasNews m a b) means news, refl);
        next = subst (λ (m : Parsed). AreNext schema is_stat a b after.lacked (asked_then m []) done.replies) means done.next;
        put = record {
          gained = subst (λ o. Gains (ends.held o) (ends.held after.sink) (replies_text done.replies)) sink done.put.gained;
          counted = done.put.counted ∙ ap (λ n. n + length done.replies) replies;
          noted = done.put.noted ∙ ap (λ ns. ns ++ seens_of done.replies) seens;
          lacks = done.put.lacks ∙ ap (λ (x : Bool). x || has_lack done.replies) lacked;
        };
        answer = is_turn mid after line p done.replies t means done.answer before;
      }

  pub turned_answered : {E : Type 0} (r : Result Turn E) (before mid after : SessionState I O) (p : Parsed) → Reads ends.left ends.faults schema before mid p → Keeps before mid → after.source ≡ mid.source → HasNews p a b → IfOk r (Answered ends.held schema is_stat a b mid after p) → IfOk r (Turned ends schema is_stat a b before after)
  turned_answered (Ok t) before mid after p reads keeps source news done = turned_line before mid after p t reads keeps source news done
  turned_answered (Err e) before mid after p reads keeps source news done = tt

  pub breaks_off : (before mid after : SessionState I O) (p : Parsed) → Reads ends.left ends.faults schema before mid p → Keeps before mid → after.source ≡ mid.source → HasNews p a b → (after.replies ≡ mid.replies) × (after.seens ≡ mid.seens) → IsBroken ends.held schema is_stat a b mid after p → BreaksOff ends schema is_stat a b before after
  breaks_off before mid after p (line, passes, means) (sink, seens, replies, lacked) source news uncounted broken =
      record {
        line = line;
        reply = broken.reply;
        passed = subst (λ s. Passes ends.left ends.faults before.source s (line ∷ [])) (sym source) passes.passed;
        given = ap (λ s. s.given) source ∙ passes.further.0;
        no_quit = ap asks_to_end (sym means) ∙ broken.no_quit;
        news = subst (λ (m : Parsed). HasNews m a b) means news;
        next = subst (λ (m : Parsed). AreNext schema is_stat a b after.lacked (asked_then m []) (broken.reply ∷ [])) means broken.next;
        gained = subst (λ (o : O). GainsPart (ends.held o) (ends.held after.sink) (reply_line broken.reply)) sink broken.gained;
        uncounted = (uncounted.0 ∙ replies, uncounted.1 ∙ seens);
        lacks = broken.lacks ∙ ap (λ (x : Bool). x || is_lack broken.reply) lacked;
      }
