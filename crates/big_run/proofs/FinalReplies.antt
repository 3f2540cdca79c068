-- What the session after the feeds has put where memory was found.
use Rattle.std.proofs.Common.{◌≡◌, ◌≢◌, ℕ, suc, ◌+◌, Bool, true, false, List, [], ◌∷◌, ◌++◌, length, take, Some, Result, Ok, Err, refl, ap, sym, ◌∙◌, subst, arith, inl, inr}
use Rattle.std.specs.Prelude.{IsErrOf, OnOk}
use Rattle.std.specs.List.{filter_map, list_all}
use Rattle.std.proofs.lemmas.Bool.{and_parts, false≢true}
use Rattle.std.proofs.Math.Seq.{take-length}
use Rattle.live_session.specs.declared.done.SessionDone.{SessionDone}
use Rattle.cube_crew.specs.Crewed.{LeavesTranscript, closing}
use Rattle.cube_view.specs.Points.{Point}
use Rattle.cube_view.specs.declared.schema.Schema.{Schema}
use Rattle.cube_view.specs.declared.stat.Stat.{Stat}
use Rattle.live_session.specs.News.{News}
use Rattle.live_session.specs.SoFar.{AnswersAll, HasAnswered, HasDone, moment}
use Rattle.live_session.specs.State.{SessionState}
use Rattle.outer_io.specs.Faults.{HasCause}
use Rattle.outer_io.specs.Lines.{lines}
use Rattle.outer_io.specs.Memory.{StillOutput}
use Rattle.outer_io.specs.Progress.{IsTooLarge}
use Rattle.query_syntax.specs.Tables.{has_table, table}
use Rattle.query_syntax.specs.declared.query.Parsed.{Parsed}
use Rattle.query_syntax.specs.declared.query.Parsed.TheVariants.{Skip, Ask, Fault}
use Rattle.query_syntax.specs.declared.query.Query.{Query}
use Rattle.query_syntax.specs.declared.query.Verb.{Verb}
use Rattle.query_syntax.specs.declared.query.Verb.TheVariants.{Count, Hist, Map, Series, Window, Cross, Best, Stat as StatVerb, Told, Quit}
use Rattle.query_syntax.specs.declared.table.Table.{Table}
use Rattle.reply_json.specs.declared.reply.Reply.{Reply}
use Rattle.run_files.proofs.Lists.{no_more}
use Rattle.session_core.specs.Asked.{asked, asked_reply, query_reply}
use Rattle.session_core.specs.Transcript.{AllAnswered, Answers, MayPrint, replies_text, seen_in, stat_in, told_in}
use Rattle.session_core.specs.declared.fault.SessionFault.{SessionFault}
use Rattle.session_core.specs.declared.fault.SessionFault.TheVariants as fault
use Rattle.big_run.proofs.FinalQueries.{asks_table, final_asks_tables}
use Rattle.big_run.specs.BuiltIn.{big_schema, final_script}
use Rattle.big_run.specs.Parts.{script_session}
use Rattle.big_run.specs.Sources.{left_in, still_ends}
use Rattle.big_run.specs.Text.{final_asked, final_replies, no_stat}
use Rattle.big_run.specs.declared.source.RunSource.{RunSource}

-- two lists of points have the same tables
abbrev pub SameTables : List Point → List Point → Type 0
SameTables l h = (q : Query) → table big_schema q l ≡ table big_schema q h

-- the reply to a query of a table is the table
table_reply : (stat : Stat) (schema : Schema) (h : List Point) (told : ℕ) (q : Query) (verb : Verb) → has_table verb ≡ true → query_reply stat schema h told q verb ≡ Some (Reply.Table (table schema q h))
table_reply stat schema h told q Count has = refl
table_reply stat schema h told q (Hist k) has = refl
table_reply stat schema h told q (Map down) has = refl
table_reply stat schema h told q (Series from wide rows) has = refl
table_reply stat schema h told q (Window rect) has = refl
table_reply stat schema h told q (Cross k l) has = refl
table_reply stat schema h told q (Best down rows) has = refl
table_reply stat schema h told q StatVerb has = absurd (false≢true has)
table_reply stat schema h told q Told has = absurd (false≢true has)
table_reply stat schema h told q Quit has = absurd (false≢true has)

-- a reply that is a table over as many points as there are is the table over all of them
whole_table : (q : Query) (l h : List Point) (told n : ℕ) (stat : Stat) (reply : Reply) → SameTables l h → has_table q.verb ≡ true → query_reply stat big_schema (take n l) told q q.verb ≡ Some reply → n ≡ length l → Some reply ≡ query_reply no_stat big_schema h (length h) q q.verb
whole_table q l h told n stat reply same has meant all =
    sym meant
    ∙ table_reply stat big_schema (take n l) told q q.verb has
    ∙ ap (λ (points : List Point). Some (Reply.Table (table big_schema q points))) (ap (λ (k : ℕ). take k l) all ∙ take-length l)
    ∙ ap (λ (t : Table). Some (Reply.Table t)) (same q)
    ∙ sym (table_reply no_stat big_schema h (length h) q q.verb has)

-- where such a reply prints how many points it has seen, that is how many there are
seen_all : (is_stat : Stat → Type 0) (l : List Point) (u : ℕ) (schema : Schema) (h : List Point) (q : Query) (reply : Reply) → Some (Reply.Table (table schema q h)) ≡ Some reply → MayPrint schema is_stat true l u reply → seen_in reply ≡ length l
seen_all is_stat l u schema h q (Reply.Table t) is may = may
seen_all is_stat l u schema h q (Reply.Stat stat n) is may = cc
seen_all is_stat l u schema h q (Reply.Told n) is may = cc
seen_all is_stat l u schema h q (Reply.Fault fault word) is may = cc
seen_all is_stat l u schema h q Reply.NoMemory is may = cc

-- what is asked by one line is answered by its reply over all points
one_answered : (is_stat : Stat → Type 0) (l h : List Point) (u : ℕ) (p : Parsed) (reply : Reply) → SameTables l h → asks_table p ≡ true → Answers big_schema is_stat true l u false p reply → asked_reply no_stat big_schema h (length h) p ≡ Some reply
one_answered is_stat l h u Skip reply same has answers = absurd (false≢true has)
one_answered is_stat l h u (Fault f word) reply same has answers = absurd (false≢true has)
one_answered is_stat l h u (Ask q) reply same has answers =
    elim answers [
      | inl is ↦
          let seen = seen_all is_stat l u big_schema (take (seen_in reply) l) q reply (sym (table_reply (stat_in reply) big_schema (take (seen_in reply) l) (told_in reply) q q.verb has) ∙ is.meant) is.numbers in
          sym (whole_table q l h (told_in reply) (seen_in reply) (stat_in reply) reply same has is.meant seen)
      | inr lacks ↦ absurd (false≢true lacks.0)
    ]

-- so the replies to lines that ask for tables are the tables over all points
pub all_answered : (is_stat : Stat → Type 0) (l h : List Point) (u : ℕ) (ps : List Parsed) (replies : List Reply) → SameTables l h → list_all asks_table ps ≡ true → AllAnswered big_schema is_stat true l u false ps replies → replies ≡ filter_map (asked_reply no_stat big_schema h (length h)) ps
all_answered is_stat l h u [] [] same has answers = refl
all_answered is_stat l h u [] (reply ∷ replies) same has answers = absurd answers
all_answered is_stat l h u (p ∷ ps) [] same has answers = absurd answers
all_answered is_stat l h u (p ∷ ps) (reply ∷ replies) same has answers =
    let tables = and_parts (asks_table p) (list_all asks_table ps) has in
    rw (one_answered is_stat l h u p reply same tables.0 answers.0) (ap (λ (rest : List Reply). reply ∷ rest) (all_answered is_stat l h u ps replies same tables.1 answers.1))

-- there is one reply for each line
pub answered-length : (schema : Schema) (is_stat : Stat → Type 0) (l : List Point) (u : ℕ) (ps : List Parsed) (replies : List Reply) → AllAnswered schema is_stat true l u false ps replies → length replies ≡ length ps
answered-length schema is_stat l u [] [] answers = refl
answered-length schema is_stat l u [] (reply ∷ replies) answers = absurd answers
answered-length schema is_stat l u (p ∷ ps) [] answers = absurd answers
answered-length schema is_stat l u (p ∷ ps) (reply ∷ replies) answers = ap suc (answered-length schema is_stat l u ps replies answers.1)

some-same : {A : Type 0} {x y : A} → Some x ≡ Some y → x ≡ y
some-same e = cc

module _ (is_stat : Stat → Type 0) (news : News) (before after : SessionState RunSource StillOutput) where
  -- a session that ended for no want of memory, and with no fault of its parts, has come to the end of its script
  came_to_end : (end : Result (Unit {0}) SessionFault) → HasCause 0 0 end fault.Read → HasCause 0 0 end fault.Write → (IsErrOf end fault.TooMuch → IsTooLarge left_in before.source → ⊥) → (IsErrOf end fault.TooMuch → IsTooLarge left_in before.source) → end ≢ Err fault.NoMemory
      → HasDone still_ends big_schema is_stat true 0 before (moment news after) end → OnOk end (AnswersAll left_in big_schema before after) → HasAnswered still_ends big_schema is_stat true 0 before (moment news after) × AnswersAll left_in big_schema before after
  came_to_end (Ok x) read write small large found done all = (done, all)
  came_to_end (Err fault.Read) read write small large found done all = absurd (omega (arith, (read.rose refl).1))
  came_to_end (Err fault.Write) read write small large found done all = absurd (omega (arith, (write.rose refl).1))
  came_to_end (Err fault.TooMuch) read write small large found done all = absurd (small refl (large refl))
  came_to_end (Err fault.NoMemory) read write small large found done all = absurd (found refl)

-- the session over the final script has put the tables over all points
pub final_put : (is_stat : Stat → Type 0) (starved : Bool) (journal h : List Point) (done : SessionDone RunSource StillOutput) → SameTables journal h → starved ≡ false
    → LeavesTranscript still_ends is_stat big_schema true (closing true starved journal) (script_session final_script) done → done.sink.held ≡ replies_text (final_replies h)
unfolding final_replies final_asked
final_put is_stat starved journal h done same found leaves =
    let before = script_session final_script in
    let news : News = record { shown = journal; told = journal; takes = done.mail.takes } in
    let over : HasDone still_ends big_schema is_stat true 0 before (moment news leaves.after) leaves.end =
    subst (λ (l : List Point). HasDone still_ends big_schema is_stat true 0 before (moment (record { shown = l; told = l; takes = done.mail.takes }) leaves.after) leaves.end) (leaves.whole refl) leaves.replied in
    let well = leaves.found found in
    let ended = came_to_end is_stat news before leaves.after leaves.end leaves.read leaves.write (λ much large. absurd (omega (arith, large))) (λ much. (leaves.too_much much).1) well.1 over (leaves.all refl) in
    let answered = ended.0 in
    let transcript = subst (λ (lacks : Bool). AllAnswered big_schema is_stat true journal (length journal) lacks (asked big_schema answered.lines) answered.replies) well.0 answered.transcript.each in
    let count : length answered.replies ≡ length (asked big_schema answered.lines) = answered-length big_schema is_stat journal (length journal) (asked big_schema answered.lines) answered.replies transcript in
    let all : leaves.after.replies ≡ 0 + length (asked big_schema (lines final_script)) = ended.1 in
    let long : length (asked big_schema (lines final_script)) ≡ length (asked big_schema answered.lines) = omega (arith, all, answered.counted, count) in
    let whole : asked big_schema (lines final_script) ≡ asked big_schema answered.lines = no_more (asked big_schema (lines final_script)) (asked big_schema answered.lines) answered.first.0 answered.first.1 long in
    let over = subst (λ (ps : List Parsed). AllAnswered big_schema is_stat true journal (length journal) false ps answered.replies) (sym whole) transcript in
    let replies = all_answered is_stat journal h (length journal) final_asked answered.replies same final_asks_tables over in
    let held : Some leaves.after.sink.held ≡ Some ([] ++ replies_text answered.replies) = answered.gained in
    ap (λ (sink : StillOutput). sink.held) leaves.parts.1 ∙ some-same held ∙ ap replies_text replies
