-- The mailbox is asked for each reply that prints a number.
use Rattle.std.proofs.Common.{◌≡◌, ℕ, ◌+◌, ◌≤◌, min, Bool, true, false, not, cond, if◌then◌else◌, List, [], ◌∷◌, inl, inr, refl, sym, ap, ◌∙◌, arith, count_by, zero-add}
use Rattle.std.proofs.lemmas.List.Sums.{sum_by-cons}
use Rattle.live_session.specs.Takes.{prints_number}
use Rattle.cube_view.specs.Points.{Point}
use Rattle.cube_view.specs.declared.schema.Schema.{Schema}
use Rattle.cube_view.specs.declared.stat.Stat.{Stat}
use Rattle.live_session.specs.News.{takes_after, takes_for}
use Rattle.texts.specs.Counts.{next_count}
use Rattle.outer_io.specs.Faults.{RoseBy}
use Rattle.texts.specs.Counts.{last_count}
use Rattle.outer_io.specs.Lines.{Line}
use Rattle.query_syntax.specs.declared.fault.QueryFault.{QueryFault}
use Rattle.query_syntax.specs.declared.query.Parsed.{Parsed}
use Rattle.query_syntax.specs.declared.query.Parsed.TheVariants as parsed
use Rattle.query_syntax.specs.declared.query.Query.{Query}
use Rattle.reply_json.specs.declared.reply.Reply.{Reply}
use Rattle.session_core.specs.Asked.{asked, asked_then, ends, line_meaning}
use Rattle.session_core.specs.Transcript.{AllAnswered, Answers}
use Rattle.reply_json.proofs.RepliesRead.{one_reply}

-- how many of the replies print a number
abbrev numbers_in : List Reply → ℕ
numbers_in replies = count_by prints_number replies

first_number : (reply : Reply) (replies : List Reply) → numbers_in (reply ∷ replies) ≡ cond (prints_number reply) 1 0 + numbers_in replies
first_number reply replies = sum_by-cons (λ (r : Reply). cond (prints_number r) 1 0) reply replies

module _ (schema : Schema) where
  -- the count never falls
  takes_grow-line : (p : Parsed) (m n : ℕ) → min m last_count ≤ n → min m last_count ≤ takes_for p n
  takes_grow-line parsed.Skip m n few = few
  takes_grow-line (parsed.Ask q) m n few = here (not (ends q.verb))
    where
      here : (b : Bool) → min m last_count ≤ (if b then next_count n else n)
      here true = omega (arith, few)
      here false = few
  takes_grow-line (parsed.Fault fault word) m n few = few

  takes_grow : (lines : List Line) (m n : ℕ) → min m last_count ≤ n → min m last_count ≤ takes_after schema lines n
  takes_grow [] m n few = few
  takes_grow (line ∷ lines) m n few = takes_grow lines m (takes_for (line_meaning schema line) n) (takes_grow-line (line_meaning schema line) m n few)

module _ (schema : Schema) (is_stat : Stat → Type 0) (final may_lack : Bool) (l : List Point) (u : ℕ) where
  none_answered : (replies : List Reply) → AllAnswered schema is_stat final l u may_lack [] replies → numbers_in replies ≡ 0
  none_answered [] all = refl
  none_answered (reply ∷ replies) all = absurd all

  -- the reply to a fault prints no number
  fault_prints : (fault : QueryFault) (word : ℕ) (reply : Reply) → Answers schema is_stat final l u may_lack (parsed.Fault fault word) reply → prints_number reply ≡ false
  fault_prints fault word reply (inl r) = ap prints_number (sym (one_reply (Reply.Fault fault word) reply r.meant))
  fault_prints fault word reply (inr r) = ap prints_number r.1

  -- what is to be shown of some lines
  abbrev pub CoversNumbers : List Line → Type 0
  CoversNumbers lines = (replies : List Reply) (n : ℕ) → AllAnswered schema is_stat final l u may_lack (asked schema lines) replies → min (n + numbers_in replies) last_count ≤ takes_after schema lines n

  asked_query : (q : Query) (lines : List Line) (replies : List Reply) (n : ℕ) → CoversNumbers lines → (b : Bool) → AllAnswered schema is_stat final l u may_lack (if b then [] else (parsed.Ask q ∷ asked schema lines)) replies → min (n + numbers_in replies) last_count ≤ takes_after schema lines (if not b then next_count n else n)
  asked_query q lines replies n covers true all = omega (arith, none_answered replies all, takes_grow schema lines n n (omega arith))
  asked_query q lines [] n covers false all = absurd all
  asked_query q lines (reply ∷ replies) n covers false all = here (prints_number reply) (first_number reply replies) (covers replies (next_count n) all.1)
    where
      here : (b : Bool) → numbers_in (reply ∷ replies) ≡ cond b 1 0 + numbers_in replies → min (next_count n + numbers_in replies) last_count ≤ takes_after schema lines (next_count n) → min (n + numbers_in (reply ∷ replies)) last_count ≤ takes_after schema lines (next_count n)
      here true one few = omega (arith, one, few)
      here false one few = omega (arith, one, few)

  covers_line : (p : Parsed) (lines : List Line) (replies : List Reply) (n : ℕ) → CoversNumbers lines → AllAnswered schema is_stat final l u may_lack (asked_then p (asked schema lines)) replies → min (n + numbers_in replies) last_count ≤ takes_after schema lines (takes_for p n)
  covers_line parsed.Skip lines replies n covers all = covers replies n all
  covers_line (parsed.Ask q) lines replies n covers all = asked_query q lines replies n covers (ends q.verb) all
  covers_line (parsed.Fault fault word) lines [] n covers all = absurd all
  covers_line (parsed.Fault fault word) lines (reply ∷ replies) n covers all =
      let none : numbers_in (reply ∷ replies) ≡ numbers_in replies = first_number reply replies ∙ ap (λ (b : Bool). cond b 1 0 + numbers_in replies) (fault_prints fault word reply all.0) ∙ zero-add (numbers_in replies) in
      omega (arith, none, covers replies n all.1)

  -- the mailbox is asked at least once for each number that is printed
  pub covers_numbers : (lines : List Line) → CoversNumbers lines
  covers_numbers [] replies n all = omega (arith, none_answered replies all)
  covers_numbers (line ∷ lines) replies n all = covers_line (line_meaning schema line) lines replies n (covers_numbers lines) all

  pub rose_by_numbers : (lines : List Line) (replies : List Reply) (n : ℕ) → n ≤ last_count → AllAnswered schema is_stat final l u may_lack (asked schema lines) replies → RoseBy (numbers_in replies) n (takes_after schema lines n)
  rose_by_numbers lines replies n few all = (omega (arith, few, takes_grow schema lines n n (omega arith)), covers_numbers lines replies n all)
