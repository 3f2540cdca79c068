-- Laws of transcripts: within longer lists, where memory may lack, and one after another.
use Rattle.std.proofs.Common.{◌≡◌, ℕ, ◌≤◌, max, inl, inr, Bool, true, false, List, [], ◌∷◌, ◌++◌, length, take, ap, ◌∙◌, arith, length-append, sym, append-nil}
use Rattle.std.proofs.lemmas.Grind.{flat_map-append}
use Rattle.std.proofs.lemmas.List.{take-append-le}
use mathlib.Core.List.{IsPrefix}
use Rattle.cube_view.specs.Points.{Point}
use Rattle.cube_view.specs.declared.schema.Schema.{Schema}
use Rattle.cube_view.specs.declared.stat.Stat.{Stat}
use Rattle.query_syntax.specs.declared.query.Parsed.{Parsed}
use Rattle.session_core.specs.Asked.{asked_reply, reply_line}
use Rattle.reply_json.specs.declared.reply.Reply.{Reply}
use Rattle.session_core.specs.Transcript.{seen_in, told_in, stat_in, IsUpTo, MayCome, NeverFalls, MayPrint, IsReply, Answers, AllAnswered, IsTranscript, replies_text}

up_to_weaker : (final : Bool) (most n : ℕ) → IsUpTo final most n → n ≤ most
up_to_weaker false most n e = e
up_to_weaker true most n e = omega (arith, e)

longer : (l h : List Point) → IsPrefix l h → length l ≤ length h
longer l h g = omega (arith, ap length g.1, length-append l g.0)

firsts_same : (l h : List Point) (n : ℕ) → IsPrefix l h → n ≤ length l → take n h ≡ take n l
firsts_same l h n g e = ap (take n) (sym g.1) ∙ take-append-le n l g.0 e

pub may_come_less : (m n t u : ℕ) (reply : Reply) → m ≤ n → t ≤ u → MayCome n u reply → MayCome m t reply
may_come_less m n t u (Reply.Table table) p q c = (omega (arith, p, c.0), omega (arith, q, c.1))
may_come_less m n t u (Reply.Stat stat seen) p q c = (omega (arith, p, c.0), omega (arith, q, c.1))
may_come_less m n t u (Reply.Told told) p q c = omega (arith, q, c)
may_come_less m n t u (Reply.Fault fault word) p q c = tt
may_come_less m n t u Reply.NoMemory p q c = tt

falls_less : (m n t u : ℕ) (replies : List Reply) → m ≤ n → t ≤ u → NeverFalls n u replies → NeverFalls m t replies
falls_less m n t u [] p q order = tt
falls_less m n t u (r ∷ replies) p q order =
    (may_come_less m n t u r p q order.0, falls_less (max m (seen_in r)) (max n (seen_in r)) (max t (told_in r)) (max u (told_in r)) replies (omega (arith, p)) (omega (arith, q)) order.1)

prefix_same : (l : List Point) → IsPrefix l l
prefix_same l = ([], append-nil l)

module _ (schema : Schema) (is_stat : Stat → Type 0) where
  -- what a reply has seen is no more than the list
  seen_within : (final : Bool) (l : List Point) (u : ℕ) (reply : Reply) → MayPrint schema is_stat final l u reply → seen_in reply ≤ length l
  seen_within final l u (Reply.Table table) m = up_to_weaker final (length l) table.seen m
  seen_within final l u (Reply.Stat stat seen) m = up_to_weaker final (length l) seen m.0
  seen_within final l u (Reply.Told told) m = omega arith
  seen_within final l u (Reply.Fault fault word) m = omega arith
  seen_within final l u Reply.NoMemory m = omega arith

  told_within : (final : Bool) (l : List Point) (u : ℕ) (reply : Reply) → MayPrint schema is_stat final l u reply → told_in reply ≤ u
  told_within final l u (Reply.Table table) m = omega arith
  told_within final l u (Reply.Stat stat seen) m = omega arith
  told_within final l u (Reply.Told told) m = up_to_weaker final u told m
  told_within final l u (Reply.Fault fault word) m = omega arith
  told_within final l u Reply.NoMemory m = omega arith

  may_print_within : (final : Bool) (l h : List Point) (u v : ℕ) (reply : Reply) → length l ≤ length h → u ≤ v → MayPrint schema is_stat final l u reply → MayPrint schema is_stat false h v reply
  may_print_within final l h u v (Reply.Table table) p q m = omega (arith, p, up_to_weaker final (length l) table.seen m)
  may_print_within final l h u v (Reply.Stat stat seen) p q m = (omega (arith, p, up_to_weaker final (length l) seen m.0), m.1)
  may_print_within final l h u v (Reply.Told told) p q m = omega (arith, q, up_to_weaker final u told m)
  may_print_within final l h u v (Reply.Fault fault word) p q m = tt
  may_print_within final l h u v Reply.NoMemory p q m = tt

  reply_within : (final : Bool) (l h : List Point) (u v : ℕ) (p : Parsed) (reply : Reply) → IsPrefix l h → u ≤ v → IsReply schema is_stat final l u p reply → IsReply schema is_stat false h v p reply
  reply_within final l h u v p reply g q r =
      record {
        meant = ap (λ ps. asked_reply (stat_in reply) schema ps (told_in reply) p) (firsts_same l h (seen_in reply) g (seen_within final l u reply r.numbers)) ∙ r.meant;
        numbers = may_print_within final l h u v reply (longer l h g) q r.numbers;
        fits = r.fits;
      }

  answers_within : (lacks lacks' final : Bool) (l h : List Point) (u v : ℕ) (p : Parsed) (reply : Reply) → (lacks ≡ true → lacks' ≡ true) → IsPrefix l h → u ≤ v → Answers schema is_stat final l u lacks p reply → Answers schema is_stat false h v lacks' p reply
  answers_within lacks lacks' final l h u v p reply may g q (inl r) = inl (reply_within final l h u v p reply g q r)
  answers_within lacks lacks' final l h u v p reply may g q (inr r) = inr (may r.0, r.1)

  all_within : (lacks lacks' final : Bool) (l h : List Point) (u v : ℕ) (ps : List Parsed) (replies : List Reply) → (lacks ≡ true → lacks' ≡ true) → IsPrefix l h → u ≤ v → AllAnswered schema is_stat final l u lacks ps replies → AllAnswered schema is_stat false h v lacks' ps replies
  all_within lacks lacks' final l h u v [] [] may g q all = tt
  all_within lacks lacks' final l h u v [] (reply ∷ replies) may g q all = absurd all
  all_within lacks lacks' final l h u v (p ∷ ps) [] may g q all = absurd all
  all_within lacks lacks' final l h u v (p ∷ ps) (reply ∷ replies) may g q all =
      (answers_within lacks lacks' final l h u v p reply may g q all.0, all_within lacks lacks' final l h u v ps replies may g q all.1)

  -- within a list and a number it is within each longer list and each greater number; a final one is one that is not,
  -- and one without the line for want of memory is one with it
  pub transcript_within : (lacks lacks' final : Bool) (l h : List Point) (u v : ℕ) (ps : List Parsed) (replies : List Reply) → (lacks ≡ true → lacks' ≡ true) → IsPrefix l h → u ≤ v → IsTranscript schema is_stat final l u lacks ps replies → IsTranscript schema is_stat false h v lacks' ps replies
  transcript_within lacks lacks' final l h u v ps replies may g q t =
      record { each = all_within lacks lacks' final l h u v ps replies may g q t.each; order = t.order }

  -- no answer prints more than there is
  pub answer_seen : (lacks final : Bool) (l : List Point) (u : ℕ) (p : Parsed) (reply : Reply) → Answers schema is_stat final l u lacks p reply → (seen_in reply ≤ length l) × (told_in reply ≤ u)
  answer_seen lacks final l u p reply (inl r) = (seen_within final l u reply r.numbers, told_within final l u reply r.numbers)
  answer_seen lacks final l u p reply (inr r) = (omega (arith, ap seen_in r.1), omega (arith, ap told_in r.1))

  -- what is answered, one after another
  pub all_append : (lacks final : Bool) (l : List Point) (u : ℕ) (ps qs : List Parsed) (replies others : List Reply) → AllAnswered schema is_stat final l u lacks ps replies → AllAnswered schema is_stat final l u lacks qs others → AllAnswered schema is_stat final l u lacks (ps ++ qs) (replies ++ others)
  all_append lacks final l u [] qs [] others all more = more
  all_append lacks final l u [] qs (r ∷ replies) others all more = absurd all
  all_append lacks final l u (p ∷ ps) qs [] others all more = absurd all
  all_append lacks final l u (p ∷ ps) qs (r ∷ replies) others all more = (all.0, all_append lacks final l u ps qs replies others all.1 more)

  falls_append : (lacks final : Bool) (l : List Point) (u : ℕ) (ps : List Parsed) (replies others : List Reply) (seen told : ℕ) → seen ≤ length l → told ≤ u → AllAnswered schema is_stat final l u lacks ps replies → NeverFalls (length l) u others → NeverFalls seen told replies → NeverFalls seen told (replies ++ others)
  falls_append lacks final l u [] [] others seen told s t all next order = falls_less seen (length l) told u others s t next
  falls_append lacks final l u [] (r ∷ replies) others seen told s t all next order = absurd all
  falls_append lacks final l u (p ∷ ps) [] others seen told s t all next order = absurd all
  falls_append lacks final l u (p ∷ ps) (r ∷ replies) others seen told s t all next order =
      let in_reply = answer_seen lacks final l u p r all.0 in
      (order.0, falls_append lacks final l u ps replies others (max seen (seen_in r)) (max told (told_in r)) (omega (arith, s, in_reply.0)) (omega (arith, t, in_reply.1)) all.1 next order.1)

  -- more replies at the end, to a list that goes on, which may come after all that was seen and told
  pub transcript_append : (lacks lacks' final last : Bool) (l h : List Point) (u v : ℕ) (ps qs : List Parsed) (replies others : List Reply) → (lacks ≡ true → lacks' ≡ true) → IsPrefix l h → u ≤ v → IsTranscript schema is_stat final l u lacks ps replies → IsTranscript schema is_stat last h v lacks' qs others → NeverFalls (length l) u others → IsTranscript schema is_stat false h v lacks' (ps ++ qs) (replies ++ others)
  transcript_append lacks lacks' final last l h u v ps qs replies others may g q t more follows =
      record {
        each = all_append lacks' false h v ps qs replies others (all_within lacks lacks' final l h u v ps replies may g q t.each) (all_within lacks' lacks' last h h v v qs others (λ e. e) (prefix_same h) (omega arith) more.each);
        order = falls_append lacks final l u ps replies others 0 0 (omega arith) (omega arith) t.each follows t.order;
      }

  all_lacking : (lacks lacks' final : Bool) (l : List Point) (u : ℕ) (ps : List Parsed) (replies : List Reply) → (lacks ≡ true → lacks' ≡ true) → AllAnswered schema is_stat final l u lacks ps replies → AllAnswered schema is_stat final l u lacks' ps replies
  all_lacking lacks lacks' final l u [] [] may all = tt
  all_lacking lacks lacks' final l u [] (reply ∷ replies) may all = absurd all
  all_lacking lacks lacks' final l u (p ∷ ps) [] may all = absurd all
  all_lacking lacks lacks' final l u (p ∷ ps) (reply ∷ replies) may all = (here all.0, all_lacking lacks lacks' final l u ps replies may all.1)
    where
      here : Answers schema is_stat final l u lacks p reply → Answers schema is_stat final l u lacks' p reply
      here (inl r) = inl r
      here (inr r) = inr (may r.0, r.1)

  -- where memory may lack it is a transcript as where it may not
  pub transcript_lacking : (lacks lacks' final : Bool) (l : List Point) (u : ℕ) (ps : List Parsed) (replies : List Reply) → (lacks ≡ true → lacks' ≡ true) → IsTranscript schema is_stat final l u lacks ps replies → IsTranscript schema is_stat final l u lacks' ps replies
  transcript_lacking lacks lacks' final l u ps replies may t = record { each = all_lacking lacks lacks' final l u ps replies may t.each; order = t.order }

  -- the same of final ones, over one list
  pub final_append : (lacks lacks' : Bool) (l : List Point) (u : ℕ) (ps qs : List Parsed) (replies others : List Reply) → (lacks ≡ true → lacks' ≡ true) → IsTranscript schema is_stat true l u lacks ps replies → IsTranscript schema is_stat true l u lacks' qs others → NeverFalls (length l) u others → IsTranscript schema is_stat true l u lacks' (ps ++ qs) (replies ++ others)
  final_append lacks lacks' l u ps qs replies others may t more follows =
      record {
        each = all_append lacks' true l u ps qs replies others (all_lacking lacks lacks' true l u ps replies may t.each) more.each;
        order = falls_append lacks true l u ps replies others 0 0 (omega arith) (omega arith) t.each follows t.order;
      }

  -- where nothing was asked, no replies are a transcript
  pub transcript_none : (lacks final : Bool) (l : List Point) (u : ℕ) → IsTranscript schema is_stat final l u lacks [] []
  transcript_none lacks final l u = record { each = tt; order = tt }

-- the text of replies and more replies
pub replies_text-append : (rs ss : List Reply) → replies_text (rs ++ ss) ≡ replies_text rs ++ replies_text ss
replies_text-append rs ss = flat_map-append reply_line rs ss

-- numbers that meet one test meet another
module _ (schema : Schema) (A B : Stat → Type 0) (weaker : (stat : Stat) → A stat → B stat) where
  may_print_weaker : (final : Bool) (l : List Point) (u : ℕ) (reply : Reply) → MayPrint schema A final l u reply → MayPrint schema B final l u reply
  may_print_weaker final l u (Reply.Table table) m = m
  may_print_weaker final l u (Reply.Stat stat seen) m = (m.0, weaker stat m.1)
  may_print_weaker final l u (Reply.Told told) m = m
  may_print_weaker final l u (Reply.Fault fault word) m = tt
  may_print_weaker final l u Reply.NoMemory m = tt

  answers_weaker : (lacks final : Bool) (l : List Point) (u : ℕ) (p : Parsed) (reply : Reply) → Answers schema A final l u lacks p reply → Answers schema B final l u lacks p reply
  answers_weaker lacks final l u p reply (inl r) = inl (record { meant = r.meant; numbers = may_print_weaker final l u reply r.numbers; fits = r.fits })
  answers_weaker lacks final l u p reply (inr r) = inr r

  all_weaker : (lacks final : Bool) (l : List Point) (u : ℕ) (ps : List Parsed) (replies : List Reply) → AllAnswered schema A final l u lacks ps replies → AllAnswered schema B final l u lacks ps replies
  all_weaker lacks final l u [] [] all = tt
  all_weaker lacks final l u [] (reply ∷ replies) all = absurd all
  all_weaker lacks final l u (p ∷ ps) [] all = absurd all
  all_weaker lacks final l u (p ∷ ps) (reply ∷ replies) all = (answers_weaker lacks final l u p reply all.0, all_weaker lacks final l u ps replies all.1)

  -- a transcript whose numbers meet one test is one whose numbers meet a weaker one
  pub transcript_weaker : (lacks final : Bool) (l : List Point) (u : ℕ) (ps : List Parsed) (replies : List Reply) → IsTranscript schema A final l u lacks ps replies → IsTranscript schema B final l u lacks ps replies
  transcript_weaker lacks final l u ps replies t = record { each = all_weaker lacks final l u ps replies t.each; order = t.order }
