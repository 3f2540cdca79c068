-- A reply that was put, or a part of it, is the next one of the session.
use Rattle.std.proofs.Common.{◌≡◌, ℕ, ◌≤◌, Bool, true, false, ◌||◌, if◌then◌else◌, List, [], ◌∷◌, ◌++◌, length, Option, Some, None, inl, inr, refl, sym, ap, ◌∙◌, subst, arith, append-nil, Result, Ok, Err, IfOk}
use Rattle.std.proofs.Math.Bool.{or-true}
use Rattle.cube_view.specs.Points.{Point}
use Rattle.cube_view.specs.declared.schema.Schema.{Schema}
use Rattle.cube_view.specs.declared.stat.Stat.{Stat}
use Rattle.live_session.specs.Answered.{Answered, IsAnswer, IsBroken, PutsLine}
use Rattle.live_session.specs.News.{News, seen_asked}
use Rattle.live_session.specs.Saying.{Says}
use Rattle.live_session.specs.State.{SessionState}
use Rattle.live_session.specs.Turned.{AreNext, HasPut, listed, seens_of}
use Rattle.live_session.specs.declared.turn.Turn.{Turn}
use Rattle.live_session.specs.declared.turn.Turn.TheVariants as turn
use Rattle.outer_io.specs.Bytes.{Gains, GainsPart}
use Rattle.outer_io.proofs.GainedLaws.{gains_none}
use Rattle.query_syntax.specs.declared.query.Parsed.{Parsed}
use Rattle.query_syntax.specs.declared.query.Parsed.TheVariants as parsed
use Rattle.reply_json.specs.Printed.{reply_text, seen_of}
use Rattle.reply_json.specs.declared.reply.Reply.{Reply}
use Rattle.session_core.specs.Asked.{asked_then, asks_look, asks_reply, asks_to_end, reply_line}
use Rattle.session_core.specs.Transcript.{is_lack, MayCome, MayPrint, IsReply, Answers, AllAnswered, replies_text}
use Rattle.session_core.specs.declared.serving.Served.{Served}
use Rattle.session_core.specs.declared.serving.Served.TheVariants as served
use Rattle.session_core.proofs.AskedLaws.{asked_then-end, asked_then-reply, reply-goes_on}
use Rattle.session_core.proofs.Lacks.{no_lack}
use Rattle.session_core.proofs.Transcripts.{may_come_less, transcript_none}
use Rattle.world_core.specs.PairFact.{IsPrefix}
use Rattle.world_core.proofs.Prefixes.{IsPrefix-length}

-- a reply whose numbers are all there is may come after all that was seen and told, where one that prints how many it
-- has seen has seen no less than was told
may_come_final : (schema : Schema) (is_stat : Stat → Type 0) (l h : List Point) (u v : ℕ) (reply : Reply) → length l ≤ length h → u ≤ v → ((n : ℕ) → seen_of reply ≡ Some n → u ≤ length h) → MayPrint schema is_stat true h v reply → MayCome (length l) u reply
may_come_final schema is_stat l h u v (Reply.Table table) p q f m = (omega (arith, p, m), omega (arith, f table.seen refl, m))
may_come_final schema is_stat l h u v (Reply.Stat stat seen) p q f m = (omega (arith, p, m.0), omega (arith, f seen refl, m.0))
may_come_final schema is_stat l h u v (Reply.Told told) p q f m = omega (arith, q, m)
may_come_final schema is_stat l h u v (Reply.Fault fault word) p q f m = tt
may_come_final schema is_stat l h u v Reply.NoMemory p q f m = tt

one_text : (reply : Reply) → replies_text (reply ∷ []) ≡ reply_line reply
one_text reply = append-nil (reply_line reply)

one_seen : (reply : Reply) → seens_of (reply ∷ []) ≡ listed (seen_of reply)
one_seen reply = append-nil (listed (seen_of reply))

lack_line : reply_line Reply.NoMemory ≡ reply_text Reply.NoMemory ++ 10 ∷ []
unfolding reply_line
lack_line = refl

pub or-false : (b : Bool) → b || false ≡ b
or-false true = refl
or-false false = refl

-- nothing was put
pub put_none : {I O : Type 0} (held : O → Option (List ℕ)) (before after : SessionState I O) → after.sink ≡ before.sink → after.replies ≡ before.replies → after.seens ≡ before.seens → after.lacked ≡ before.lacked → HasPut held before after []
put_none {O = O} held before after sink replies seens lacked =
    record {
      gained = subst (λ (o : O). Gains (held before.sink) (held o) []) (sym sink) (gains_none (held before.sink));
      counted = omega (arith, replies);
      noted = seens ∙ sym (append-nil before.seens);
      lacks = lacked ∙ sym (or-false before.lacked);
    }

-- where the number is printed, a look was asked for
seen_looks : (n m : ℕ) (b : Bool) → (if b then Some n else None) ≡ Some m → b ≡ true
seen_looks n m true e = refl
seen_looks n m false e = absurd (let f : None ≡ Some m = e in cc)

module _ {I O : Type 0} (held : O → Option (List ℕ)) (schema : Schema) (is_stat : Stat → Type 0) (a b : News) (before after : SessionState I O) (p : Parsed) where
  -- one reply to what is asked
  next_one : (lacks : Bool) (reply : Reply) → asks_reply p ≡ true → MayCome (length a.shown) (length a.told) reply → Answers schema is_stat true b.shown (length b.told) lacks p reply → AreNext schema is_stat a b lacks (asked_then p []) (reply ∷ [])
  next_one lacks reply asks comes answers =
      record {
        transcript = record {
          each = subst (λ (ps : List Parsed). AllAnswered schema is_stat true b.shown (length b.told) lacks ps (reply ∷ [])) (sym (asked_then-reply p asks)) (answers, tt);
          order = (may_come_less 0 (length a.shown) 0 (length a.told) reply (omega arith) (omega arith) comes, tt);
        };
        follows = (comes, tt);
      }

  -- nothing is asked, and nothing answered
  next_none : (lacks : Bool) (ps : List Parsed) → ps ≡ [] → AreNext schema is_stat a b lacks ps []
  next_none lacks ps none = subst (λ (qs : List Parsed). AreNext schema is_stat a b lacks qs []) (sym none) (record { transcript = transcript_none schema is_stat lacks true b.shown (length b.told); follows = tt })

  answered_none : (t : Turn) → asked_then p [] ≡ [] → after.sink ≡ before.sink → after.replies ≡ before.replies → after.seens ≡ before.seens → after.lacked ≡ before.lacked → IsAnswer held schema is_stat a b before after p [] t → Answered held schema is_stat a b before after p t
  answered_none t none sink replies seens lacked answer =
      record {
        replies = [];
        next = next_none after.lacked (asked_then p []) none;
        put = put_none held before after sink replies seens lacked;
        answer = answer;
      }

  -- a line that asks nothing
  pub answered_skip : (s : Served) → s ≡ served.Skipped → Says schema is_stat b.shown (length b.told) p s → after ≡ before → before.ended ≡ false → Answered held schema is_stat a b before after p turn.Skipped
  answered_skip s is says same going =
      let skip : p ≡ parsed.Skip = subst (Says schema is_stat b.shown (length b.told) p) is says in
      answered_none turn.Skipped (ap (λ (q : Parsed). asked_then q []) skip) (ap (λ s. s.sink) same) (ap (λ s. s.replies) same) (ap (λ s. s.seens) same) (ap (λ s. s.lacked) same) (skip, refl, ap (λ s. s.ended) same ∙ going)

  -- `quit`
  pub answered_quit : (s : Served) → s ≡ served.Quit → Says schema is_stat b.shown (length b.told) p s → after.sink ≡ before.sink → after.replies ≡ before.replies → after.seens ≡ before.seens → after.lacked ≡ before.lacked → after.ended ≡ true → Answered held schema is_stat a b before after p turn.Ended
  answered_quit s is says sink replies seens lacked ended =
      let quit : asks_to_end p ≡ true = subst (Says schema is_stat b.shown (length b.told) p) is says in
      answered_none turn.Ended (asked_then-end p [] quit) sink replies seens lacked (quit, refl, ended)

  -- one line was put from a state that may differ in that want of memory is noted
  answered_one : (was : Bool) (line : List ℕ) (seen : Option ℕ) (reply : Reply) (t : Turn) → asks_reply p ≡ true → line ≡ reply_line reply → seen ≡ seen_of reply → was ≡ before.lacked || is_lack reply → AreNext schema is_stat a b after.lacked (asked_then p []) (reply ∷ []) → PutsLine held (record before { lacked = was }) after line seen t → Answered held schema is_stat a b before after p t
  answered_one was line seen reply t asks text number wants next puts =
      subst (Answered held schema is_stat a b before after p) (sym puts.replied)
      (record {
        replies = reply ∷ [];
        next = next;
        put = record {
          gained = subst (Gains (held before.sink) (held after.sink)) (text ∙ sym (one_text reply)) puts.gained;
          counted = puts.counted;
          noted = puts.noted ∙ ap (λ ns. before.seens ++ ns) (ap listed number ∙ sym (one_seen reply));
          lacks = puts.lacks ∙ wants ∙ ap (λ lack. before.lacked || lack) (sym (or-false (is_lack reply)));
        };
        answer = (reply, refl, reply-goes_on p asks, puts.going);
      })

  -- what is said is a reply
  abbrev pub SaysReply : List ℕ → Type 0
  SaysReply line = (reply : Reply) × IsReply schema is_stat true b.shown (length b.told) p reply × (line ≡ reply_line reply) × (seen_of reply ≡ seen_asked (length b.shown) p) × (asks_reply p ≡ true)

  module _ (front : IsPrefix a.shown b.shown) (more : length a.told ≤ length b.told) (fresh : asks_look p ≡ true → length a.told ≤ length b.shown) where
    comes_of : (reply : Reply) → seen_of reply ≡ seen_asked (length b.shown) p → IsReply schema is_stat true b.shown (length b.told) p reply → MayCome (length a.shown) (length a.told) reply
    comes_of reply number r = may_come_final schema is_stat a.shown b.shown (length a.told) (length b.told) reply (IsPrefix-length a.shown b.shown front) more (λ n e. fresh (seen_looks (length b.shown) n (asks_look p) (sym number ∙ e))) r.numbers

    pub answered_reply : {E : Type 0} (r : Result Turn E) (s : Served) (bytes line : List ℕ) (seen : Option ℕ) → s ≡ served.Reply line → bytes ≡ line → seen ≡ seen_asked (length b.shown) p → Says schema is_stat b.shown (length b.told) p s → IfOk r (PutsLine held before after bytes seen) → IfOk r (Answered held schema is_stat a b before after p)
    answered_reply (Ok t) s bytes line seen is same shown says puts =
        let said : SaysReply line = subst (Says schema is_stat b.shown (length b.told) p) is says in
        answered_one before.lacked bytes seen said.0 t said.4 (same ∙ said.2) (shown ∙ sym said.3) (sym (ap (λ lack. before.lacked || lack) (no_lack _ _ _ _ p said.0 said.1.meant) ∙ or-false before.lacked)) (next_one after.lacked said.0 said.4 (comes_of said.0 said.3 said.1) (inl said.1)) puts
    answered_reply (Err e) s bytes line seen is same shown says puts = tt

    pub broken_reply : (s : Served) (bytes line : List ℕ) → s ≡ served.Reply line → bytes ≡ line → Says schema is_stat b.shown (length b.told) p s → GainsPart (held before.sink) (held after.sink) bytes → after.lacked ≡ before.lacked → IsBroken held schema is_stat a b before after p
    broken_reply s bytes line is same says part lacked =
        let said : SaysReply line = subst (Says schema is_stat b.shown (length b.told) p) is says in
        record {
          reply = said.0;
          next = next_one after.lacked said.0 said.4 (comes_of said.0 said.3 said.1) (inl said.1);
          no_quit = reply-goes_on p said.4;
          gained = subst (GainsPart (held before.sink) (held after.sink)) (same ∙ said.2) part;
          lacks = lacked ∙ sym (ap (λ lack. before.lacked || lack) (no_lack _ _ _ _ p said.0 said.1.meant) ∙ or-false before.lacked);
        }

  -- the line for want of memory, which is noted before it is put
  pub answered_lack : {E : Type 0} (r : Result Turn E) (bytes line : List ℕ) → bytes ≡ line → line ≡ reply_text Reply.NoMemory ++ 10 ∷ [] → asks_reply p ≡ true → IfOk r (PutsLine held (record before { lacked = true }) after bytes None) → IfOk r (Answered held schema is_stat a b before after p)
  answered_lack (Ok t) bytes line same text asks puts =
      answered_one true bytes None Reply.NoMemory t asks (same ∙ text ∙ sym lack_line) refl (sym (or-true before.lacked)) (next_one after.lacked Reply.NoMemory asks tt (inr (puts.lacks, refl))) puts
  answered_lack (Err e) bytes line same text asks puts = tt

  pub broken_lack : (bytes line : List ℕ) → bytes ≡ line → line ≡ reply_text Reply.NoMemory ++ 10 ∷ [] → asks_reply p ≡ true → GainsPart (held before.sink) (held after.sink) bytes → after.lacked ≡ true → IsBroken held schema is_stat a b before after p
  broken_lack bytes line same text asks part lacked =
      record {
        reply = Reply.NoMemory;
        next = next_one after.lacked Reply.NoMemory asks tt (inr (lacked, refl));
        no_quit = reply-goes_on p asks;
        gained = subst (GainsPart (held before.sink) (held after.sink)) (same ∙ text ∙ sym lack_line) part;
        lacks = lacked ∙ sym (or-true before.lacked);
      }
