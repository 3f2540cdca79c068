-- A session turn by turn.
use Rattle.std.proofs.Common.{◌≡◌, ℕ, suc, ◌+◌, ◌≤◌, Bool, true, false, ◌||◌, if◌then◌else◌, List, [], ◌∷◌, ◌++◌, length, length-append, Option, Some, None, Result, Ok, Err, IfOk, IsErrOf, inl, inr, refl, sym, ap, ◌∙◌, subst, arith, append-nil, append_assoc}
use Rattle.std.specs.Prelude.{IsSomeAnd}
use Rattle.std.proofs.lemmas.Bool.{false≢true, or_left}
use Rattle.std.proofs.lemmas.Grind.{flat_map-append}
use Rattle.cube_view.specs.Points.{Point}
use Rattle.cube_view.specs.declared.schema.Schema.{Schema}
use Rattle.cube_view.specs.declared.stat.Stat.{Stat}
use Rattle.live_session.specs.News.{News, NewsFor, asks_news, news_of, takes_after, takes_for}
use Rattle.live_session.specs.SoFar.{AnswersAll, AsksFirst, HasAnswered, HasBroken, HasDone, moment}
use Rattle.live_session.specs.State.{SessionEnds, SessionState}
use Rattle.live_session.specs.Turned.{BreaksOff, ComesToEnd, HasFaults, IsTurn, Turned, listed, seens_of, is_no_memory}
use Rattle.live_session.specs.declared.turn.Turn.{Turn}
use Rattle.live_session.specs.declared.turn.Turn.TheVariants as turn
use Rattle.mailbox.specs.Ends.{OutEnd}
use Rattle.texts.specs.Counts.{next_count}
use Rattle.outer_io.specs.Bytes.{Gains, GainsPart}
use Rattle.outer_io.specs.Cuts.{IsTooMuch}
use Rattle.outer_io.specs.Cutting.{lines_left}
use Rattle.outer_io.specs.Lines.{Line}
use Rattle.outer_io.specs.Told.{Told}
use Rattle.outer_io.proofs.GainedLaws.{gains_none, gains_on, part_on}
use Rattle.outer_io.proofs.ProgressLaws.{passes_none, passes_on}
use Rattle.outer_io.proofs.ToldLaws.{Told-each}
use Rattle.published_pair.specs.Rules.{Known}
use Rattle.query_syntax.proofs.ReadBack.{or_rest}
use Rattle.query_syntax.specs.declared.query.Parsed.{Parsed}
use Rattle.reply_json.specs.Printed.{seen_of}
use Rattle.reply_json.specs.declared.reply.Reply.{Reply}
use Rattle.session_core.specs.Asked.{asked, asked_then, asks_to_end, line_meaning, reply_line}
use Rattle.session_core.specs.Scripts.{has_quit, is_quit}
use Rattle.session_core.specs.Transcript.{AllAnswered, has_lack, IsTranscript, is_lack, NeverFalls, replies_text}
use Rattle.session_core.specs.declared.fault.SessionFault.{SessionFault}
use Rattle.session_core.specs.declared.fault.SessionFault.TheVariants as fault
use Rattle.session_core.proofs.AskedLaws.{asked_then-end, asked-append}
use Rattle.session_core.proofs.Transcripts.{final_append, replies_text-append, transcript_append, transcript_lacking, transcript_none, transcript_weaker, transcript_within}
use Rattle.world_core.specs.PairFact.{IsPrefix}
use Rattle.live_session.proofs.TurnLaws.{Front}

module _ (schema : Schema) where
  -- what comes after a `quit` is not asked
  past_quit : (xs ys : List Line) → has_quit schema xs ≡ true → asked schema (xs ++ ys) ≡ asked schema xs
  past_quit [] ys e = absurd (false≢true e)
  past_quit (x ∷ xs) ys e = here (is_quit schema x) refl (λ goes. past_quit xs ys (or_rest (is_quit schema x) (has_quit schema xs) e goes))
    where
      here : (b : Bool) → is_quit schema x ≡ b → (is_quit schema x ≡ false → asked schema (xs ++ ys) ≡ asked schema xs) → asked_then (line_meaning schema x) (asked schema (xs ++ ys)) ≡ asked_then (line_meaning schema x) (asked schema xs)
      here true quit later = asked_then-end (line_meaning schema x) (asked schema (xs ++ ys)) quit ∙ sym (asked_then-end (line_meaning schema x) (asked schema xs) quit)
      here false goes later = ap (asked_then (line_meaning schema x)) (later goes)

  no_quit-append : (xs ys : List Line) → has_quit schema xs ≡ false → has_quit schema ys ≡ false → has_quit schema (xs ++ ys) ≡ false
  no_quit-append [] ys none more = more
  no_quit-append (x ∷ xs) ys none more = here (is_quit schema x) refl (λ goes. no_quit-append xs ys (ap (λ b. b || has_quit schema xs) (sym goes) ∙ none) more)
    where
      here : (b : Bool) → is_quit schema x ≡ b → (is_quit schema x ≡ false → has_quit schema (xs ++ ys) ≡ false) → is_quit schema x || has_quit schema (xs ++ ys) ≡ false
      here true quit later = absurd (false≢true (sym none ∙ or_left (is_quit schema x) (has_quit schema xs) quit))
      here false goes later = ap (λ b. b || has_quit schema (xs ++ ys)) goes ∙ later goes

  -- what the first lines ask is the first of what all ask
  asks_first : (lines all later : List Line) → all ≡ lines ++ later → AsksFirst schema lines all
  asks_first lines all later is = here (has_quit schema lines) refl
    where
      here : (b : Bool) → has_quit schema lines ≡ b → AsksFirst schema lines all
      here true quit = ([], ap (asked schema) is ∙ past_quit lines later quit ∙ sym (append-nil (asked schema lines)))
      here false goes = (asked schema later, ap (asked schema) is ∙ asked-append schema lines later goes)

  first_none : (o : Option (List Line)) → Told o (AsksFirst schema [])
  first_none None = tt
  first_none (Some all) = (asked schema all, refl)

  first_on : (a b : Option (List Line)) (xs ys : List Line) → Told a (λ all. IsSomeAnd b (λ rest. all ≡ xs ++ rest)) → Told b (Front schema ys) → Told a (AsksFirst schema (xs ++ ys))
  first_on None b xs ys p q = tt
  first_on (Some all) None xs ys p q = absurd p
  first_on (Some all) (Some rest) xs ys p (later, is) = asks_first (xs ++ ys) all later (p ∙ ap (λ ls. xs ++ ls) is ∙ sym (append_assoc xs ys later))

  first_passed : (a b : Option (List Line)) (xs : List Line) → Told a (λ all. IsSomeAnd b (λ rest. all ≡ xs ++ rest)) → Told a (AsksFirst schema xs)
  first_passed None b xs p = tt
  first_passed (Some all) None xs p = absurd p
  first_passed (Some all) (Some rest) xs p = asks_first xs all rest p

  -- all that is asked, where nothing is left after the first lines, or `quit` comes
  all_asked : (a b : Option (List Line)) (xs : List Line) → has_quit schema xs ≡ false → Told a (λ all. IsSomeAnd b (λ rest. all ≡ xs ++ rest)) → Told b (λ rest. asked schema rest ≡ []) → Told a (λ all. asked schema all ≡ asked schema xs)
  all_asked None b xs none p q = tt
  all_asked (Some all) None xs none p q = absurd p
  all_asked (Some all) (Some rest) xs none p q = ap (asked schema) p ∙ asked-append schema xs rest none ∙ ap (λ ps. asked schema xs ++ ps) q ∙ append-nil (asked schema xs)

  rest_none : (o : Option (List Line)) → Told o (λ all. all ≡ []) → Told o (λ rest. asked schema rest ≡ [])
  rest_none None e = tt
  rest_none (Some all) e = ap (asked schema) e

  rest_quit : (o : Option (List Line)) (line : Line) → is_quit schema line ≡ true → Told o (Front schema (line ∷ [])) → Told o (λ rest. asked schema rest ≡ [])
  rest_quit None line quit e = tt
  rest_quit (Some all) line quit (later, e) = ap (asked schema) e ∙ asked_then-end (line_meaning schema line) (asked schema later) quit

  -- ---- how often the mailbox was asked

  takes_for-more : (p : Parsed) (m n : ℕ) → m ≤ n → takes_for p m ≤ takes_for p n
  takes_for-more p m n e = here (asks_news p)
    where
      here : (b : Bool) → (if b then next_count m else m) ≤ (if b then next_count n else n)
      here true = omega (arith, e)
      here false = e

  takes_after-more : (xs : List Line) (m n : ℕ) → m ≤ n → takes_after schema xs m ≤ takes_after schema xs n
  takes_after-more [] m n e = e
  takes_after-more (x ∷ xs) m n e = takes_after-more xs (takes_for (line_meaning schema x) m) (takes_for (line_meaning schema x) n) (takes_for-more (line_meaning schema x) m n e)

  takes_after-append : (xs ys : List Line) (n : ℕ) → takes_after schema (xs ++ ys) n ≡ takes_after schema ys (takes_after schema xs n)
  takes_after-append [] ys n = refl
  takes_after-append (x ∷ xs) ys n = takes_after-append xs ys (takes_for (line_meaning schema x) n)

  takes_of : (xs : List Line) (a b : News) → NewsFor schema xs a b → b.takes ≡ takes_after schema xs a.takes
  takes_of [] a b e = ap (λ (n : News). n.takes) e
  takes_of (x ∷ xs) a b (mid, one, rest) = takes_of xs mid b rest ∙ ap (takes_after schema xs) one.takes

  takes_on : (xs ys : List Line) (n : ℕ) (a b : News) → takes_after schema xs n ≤ a.takes → NewsFor schema ys a b → takes_after schema (xs ++ ys) n ≤ b.takes
  takes_on xs ys n a b few news = omega (arith, takes_after-append xs ys n, takes_after-more ys (takes_after schema xs n) a.takes few, takes_of ys a b news)

module _ (schema : Schema) (is_stat : Stat → Type 0) where
  -- there are as many replies as what they answer
  all_length : (final may_lack : Bool) (l : List Point) (u : ℕ) (ps : List Parsed) (replies : List Reply) → AllAnswered schema is_stat final l u may_lack ps replies → length replies ≡ length ps
  all_length final may_lack l u [] [] all = refl
  all_length final may_lack l u [] (reply ∷ replies) all = absurd all
  all_length final may_lack l u (p ∷ ps) [] all = absurd all
  all_length final may_lack l u (p ∷ ps) (reply ∷ replies) all = ap suc (all_length final may_lack l u ps replies all.1)

seens_on : (rs ss : List Reply) → seens_of (rs ++ ss) ≡ seens_of rs ++ seens_of ss
seens_on rs ss = flat_map-append (λ (reply : Reply). listed (seen_of reply)) rs ss

-- How a transcript within the one news goes on within the other: where memory lacks since, and with more final replies
-- to more that is asked
pub record GoesOn (schema : Schema) (is_stat : Stat → Type 0) (final : Bool) (a b : News) : Type 0 where
  pub keeps : (lacks lacks' : Bool) (ps : List Parsed) (replies : List Reply) → (lacks ≡ true → lacks' ≡ true) → IsTranscript schema is_stat final a.shown (length a.told) lacks ps replies → IsTranscript schema is_stat final b.shown (length b.told) lacks' ps replies
  pub joins : (lacks lacks' : Bool) (ps qs : List Parsed) (replies others : List Reply) → (lacks ≡ true → lacks' ≡ true) → IsTranscript schema is_stat final a.shown (length a.told) lacks ps replies → IsTranscript schema is_stat true b.shown (length b.told) lacks' qs others → NeverFalls (length a.shown) (length a.told) others → IsTranscript schema is_stat final b.shown (length b.told) lacks' (ps ++ qs) (replies ++ others)

-- where what is shown and told goes on, one that is not final does
pub goes_within : (schema : Schema) (is_stat : Stat → Type 0) (a b : News) → IsPrefix a.shown b.shown → IsPrefix a.told b.told → GoesOn schema is_stat false a b
goes_within schema is_stat a b shown told =
    let more : length a.told ≤ length b.told = omega (arith, ap length told.1, length-append a.told told.0) in
    record {
      keeps = λ lacks lacks' ps replies may t. transcript_within schema is_stat lacks lacks' false a.shown b.shown (length a.told) (length b.told) ps replies may (shown.0, sym shown.1) more t;
      joins = λ lacks lacks' ps qs replies others may t next follows. transcript_append schema is_stat lacks lacks' false true a.shown b.shown (length a.told) (length b.told) ps qs replies others may (shown.0, sym shown.1) more t next follows;
    }

-- and a final one over the ended list does
pub goes_final : (schema : Schema) (is_stat : Stat → Type 0) (whole : Known) (m n : OutEnd) → GoesOn schema is_stat true (news_of whole whole m) (news_of whole whole n)
goes_final schema is_stat whole m n =
    record {
      keeps = λ lacks lacks' ps replies may t. transcript_lacking schema is_stat lacks lacks' true whole.points (length whole.points) ps replies may t;
      joins = λ lacks lacks' ps qs replies others may t next follows. final_append schema is_stat lacks lacks' whole.points (length whole.points) ps qs replies others may t next follows;
    }

module _ {I O : Type 0} (ends : SessionEnds I O) (schema : Schema) (is_stat : Stat → Type 0) (taken : ℕ) (final : Bool) where
  -- a session that has answered nothing
  pub answered_nothing : (news : News) (start : SessionState I O) → taken ≤ news.takes → HasAnswered ends schema is_stat final taken start (moment news start)
  answered_nothing news start few =
      record {
        lines = [];
        replies = [];
        first = first_none schema (lines_left ends.left start.source);
        transcript = transcript_none schema is_stat start.lacked final news.shown (length news.told);
        gained = gains_none (ends.held start.sink);
        counted = omega arith;
        noted = sym (append-nil start.seens);
        takes = few;
        goes_on = λ going. (passes_none ends.left ends.faults start.source, refl);
      }

  module _ (A : Stat → Type 0) (weaker : (stat : Stat) → A stat → is_stat stat) (a b : News) (start before after : SessionState I O) where
    -- no `quit` was read in a turn after which the session goes on
    turn_no_quit : (lines : List Line) (replies : List Reply) (t : Turn) → IsTurn ends schema before after lines replies t → after.ended ≡ false → has_quit schema lines ≡ false
    turn_no_quit lines replies turn.Skipped (line, one, skip, none, going) open_now = ap (has_quit schema) one ∙ ap (λ p. asks_to_end p || false) skip
    turn_no_quit lines replies turn.Replied (line, reply, one, is, goes, going) open_now = ap (has_quit schema) one ∙ ap (λ b. b || false) goes
    turn_no_quit lines replies turn.Ended (ended, none, rest) open_now = absurd (false≢true (sym open_now ∙ ended))

    -- what was answered so far, and a turn
    pub answered_turn : GoesOn schema is_stat final a b → (t : Turn) → before.ended ≡ false → HasAnswered ends schema is_stat final taken start (moment a before) → Turned ends schema A a b before after t → HasAnswered ends schema is_stat final taken start (moment b after)
    answered_turn goes t open_before s d =
        let on = s.goes_on open_before in
        let asks : asked schema (s.lines ++ d.lines) ≡ asked schema s.lines ++ asked schema d.lines = asked-append schema s.lines d.lines on.1 in
        let may : before.lacked ≡ true → after.lacked ≡ true = λ e. d.put.lacks ∙ or_left before.lacked (has_lack d.replies) e in
        let next : IsTranscript schema is_stat true b.shown (length b.told) after.lacked (asked schema d.lines) d.replies = transcript_weaker schema A is_stat weaker after.lacked true b.shown (length b.told) (asked schema d.lines) d.replies d.next.transcript in
        let all : IsTranscript schema is_stat final b.shown (length b.told) after.lacked (asked schema s.lines ++ asked schema d.lines) (s.replies ++ d.replies) = goes.joins before.lacked after.lacked (asked schema s.lines) (asked schema d.lines) s.replies d.replies may s.transcript next d.next.follows in
        record {
          lines = s.lines ++ d.lines;
          replies = s.replies ++ d.replies;
          first = first_on schema (lines_left ends.left start.source) (lines_left ends.left before.source) s.lines d.lines on.0.covers d.read;
          transcript = subst (λ (ps : List Parsed). IsTranscript schema is_stat final b.shown (length b.told) after.lacked ps (s.replies ++ d.replies)) (sym asks) all;
          gained = subst (Gains (ends.held start.sink) (ends.held after.sink)) (sym (replies_text-append s.replies d.replies)) (gains_on (ends.held start.sink) (ends.held before.sink) (ends.held after.sink) (replies_text s.replies) (replies_text d.replies) s.gained d.put.gained);
          counted = omega (arith, s.counted, d.put.counted, length-append s.replies d.replies);
          noted = d.put.noted ∙ ap (λ ns. ns ++ seens_of d.replies) s.noted ∙ append_assoc start.seens (seens_of s.replies) (seens_of d.replies) ∙ ap (λ ns. start.seens ++ ns) (sym (seens_on s.replies d.replies));
          takes = takes_on schema s.lines d.lines taken a b s.takes d.news;
          goes_on = λ going. (passes_on ends.left ends.faults start.source before.source after.source s.lines d.lines on.0 (d.passed going).0, no_quit-append schema s.lines d.lines on.1 (turn_no_quit d.lines d.replies t d.answer going));
        }

    -- what was answered so far, and a fault that left the sink as it was
    pub answered_fault : GoesOn schema is_stat final a b → HasAnswered ends schema is_stat final taken start (moment a before) → (before.lacked ≡ true → after.lacked ≡ true) → after.ended ≡ true → ends.held after.sink ≡ ends.held before.sink → after.replies ≡ before.replies → after.seens ≡ before.seens → a.takes ≤ b.takes → HasAnswered ends schema is_stat final taken start (moment b after)
    answered_fault goes s may ended sink replies seens more =
        record {
          lines = s.lines;
          replies = s.replies;
          first = s.first;
          transcript = goes.keeps before.lacked after.lacked (asked schema s.lines) s.replies may s.transcript;
          gained = subst (λ (o : Option (List ℕ)). Gains (ends.held start.sink) o (replies_text s.replies)) (sym sink) s.gained;
          counted = replies ∙ s.counted;
          noted = seens ∙ s.noted;
          takes = omega (arith, s.takes, more);
          goes_on = λ going. absurd (false≢true (sym going ∙ ended));
        }

    by_fault : GoesOn schema is_stat final a b → (f : SessionFault) → a.takes ≤ b.takes → HasAnswered ends schema is_stat final taken start (moment a before) → (ends.held after.sink ≡ ends.held before.sink) × (after.lacked ≡ before.lacked || is_no_memory f) → (after.ended ≡ true) × (after.replies ≡ before.replies) × (after.seens ≡ before.seens) → HasAnswered ends schema is_stat final taken start (moment b after)
    by_fault goes f more s (sink, lacked) (ended, replies, seens) = answered_fault goes s (λ e. lacked ∙ or_left before.lacked (is_no_memory f) e) ended sink replies seens more

    -- what was answered so far, and a put that failed
    pub answered_broken : GoesOn schema is_stat final a b → before.ended ≡ false → HasAnswered ends schema is_stat final taken start (moment a before) → BreaksOff ends schema A a b before after → HasBroken ends schema is_stat final taken start (moment b after)
    answered_broken goes open_before s d =
        let on = s.goes_on open_before in
        let one : List Line = d.line ∷ [] in
        let asks : asked schema (s.lines ++ one) ≡ asked schema s.lines ++ asked schema one = asked-append schema s.lines one on.1 in
        let may : before.lacked ≡ true → after.lacked ≡ true = λ e. d.lacks ∙ or_left before.lacked (is_lack d.reply) e in
        let next : IsTranscript schema is_stat true b.shown (length b.told) after.lacked (asked schema one) (d.reply ∷ []) = transcript_weaker schema A is_stat weaker after.lacked true b.shown (length b.told) (asked schema one) (d.reply ∷ []) d.next.transcript in
        let all : IsTranscript schema is_stat final b.shown (length b.told) after.lacked (asked schema s.lines ++ asked schema one) (s.replies ++ d.reply ∷ []) = goes.joins before.lacked after.lacked (asked schema s.lines) (asked schema one) s.replies (d.reply ∷ []) may s.transcript next d.next.follows in
        let both = passes_on ends.left ends.faults start.source before.source after.source s.lines one on.0 d.passed in
        record {
          lines = s.lines ++ one;
          replies = s.replies;
          reply = d.reply;
          first = first_passed schema (lines_left ends.left start.source) (lines_left ends.left after.source) (s.lines ++ one) both.covers;
          transcript = subst (λ (ps : List Parsed). IsTranscript schema is_stat final b.shown (length b.told) after.lacked ps (s.replies ++ d.reply ∷ [])) (sym asks) all;
          gained = subst (GainsPart (ends.held start.sink) (ends.held after.sink)) (sym (replies_text-append s.replies (d.reply ∷ []))) (part_on (ends.held start.sink) (ends.held before.sink) (ends.held after.sink) (replies_text s.replies) (reply_line d.reply) [] s.gained d.gained);
          counted = d.uncounted.0 ∙ s.counted;
          noted = d.uncounted.1 ∙ s.noted;
          takes = takes_on schema s.lines one taken a b s.takes (b, d.news, refl);
        }

    -- all was answered where no line is left
    all_replied : HasAnswered ends schema is_stat final taken start (moment a before) → before.ended ≡ false → after.replies ≡ before.replies → Told (lines_left ends.left before.source) (λ rest. asked schema rest ≡ []) → AnswersAll ends.left schema start after
    all_replied s open_before same none =
        let on = s.goes_on open_before in
        let count : length s.replies ≡ length (asked schema s.lines) = all_length schema is_stat final before.lacked a.shown (length a.told) (asked schema s.lines) s.replies s.transcript.each in
        Told-each (lines_left ends.left start.source) (λ all. asked schema all ≡ asked schema s.lines) (λ all. after.replies ≡ start.replies + length (asked schema all))
        (λ all e. omega (arith, same, s.counted, count, ap length e))
        (all_asked schema (lines_left ends.left start.source) (lines_left ends.left before.source) s.lines on.1 on.0.covers none)

    none_left : (lines : List Line) → before.ended ≡ false → Told (lines_left ends.left before.source) (Front schema lines) → ComesToEnd ends schema before after lines → Told (lines_left ends.left before.source) (λ rest. asked schema rest ≡ [])
    none_left lines open_before read (inl was) = absurd (false≢true (sym open_before ∙ was.0))
    none_left lines open_before read (inr (inl all)) = rest_none schema (lines_left ends.left before.source) all.0.covers
    none_left lines open_before read (inr (inr (line, one, quit))) = rest_quit schema (lines_left ends.left before.source) line quit (subst (λ (ls : List Line). Told (lines_left ends.left before.source) (Front schema ls)) one read)

    pub all_at_end : (t : Turn) → t ≡ turn.Ended → before.ended ≡ false → HasAnswered ends schema is_stat final taken start (moment a before) → Turned ends schema A a b before after t → AnswersAll ends.left schema start after
    all_at_end t is open_before s d =
        let answer : IsTurn ends schema before after d.lines d.replies turn.Ended = subst (IsTurn ends schema before after d.lines d.replies) is d.answer in
        let same : after.replies ≡ before.replies = omega (arith, d.put.counted, ap length answer.1) in
        all_replied s open_before same (none_left d.lines open_before d.read answer.2)

    pub all_at_too_much : before.ended ≡ false → HasAnswered ends schema is_stat final taken start (moment a before) → IsTooMuch ends.left before.source → after.replies ≡ before.replies → AnswersAll ends.left schema start after
    all_at_too_much open_before s large same = all_replied s open_before same (rest_none schema (lines_left ends.left before.source) large.1)

    -- what was answered so far, and a turn with any answer
    pub done_turn : GoesOn schema is_stat final a b → (r : Result Turn SessionFault) → before.ended ≡ false → a.takes ≤ b.takes → HasAnswered ends schema is_stat final taken start (moment a before) → IfOk r (Turned ends schema A a b before after) → (IsErrOf r fault.Write → BreaksOff ends schema A a b before after) → HasFaults ends.left ends.faults ends.held ends.put_faults before after r → HasDone ends schema is_stat final taken start (moment b after) r
    done_turn goes (Ok t) open_before more s turned broken fs = answered_turn goes t open_before s turned
    done_turn goes (Err fault.NoMemory) open_before more s turned broken fs = by_fault goes fault.NoMemory more s (fs.nothing fault.NoMemory refl (λ e. cc)) fs.ended
    done_turn goes (Err fault.Read) open_before more s turned broken fs = by_fault goes fault.Read more s (fs.nothing fault.Read refl (λ e. cc)) fs.ended
    done_turn goes (Err fault.TooMuch) open_before more s turned broken fs = by_fault goes fault.TooMuch more s (fs.nothing fault.TooMuch refl (λ e. cc)) fs.ended
    done_turn goes (Err fault.Write) open_before more s turned broken fs = answered_broken goes open_before s (broken refl)
