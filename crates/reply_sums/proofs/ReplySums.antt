-- Replies to what was asked, over two lists of points, have the reply over both as their sum.
use Rattle.std.proofs.Common.{◌≡◌, ℕ, ◌+◌, true, List, ◌++◌, Some, None, Result, Ok, Err, IfOk, refl, sym, ◌∙◌, ap, subst}
use Rattle.std.specs.Prelude.{option_map}
use Rattle.std.specs.Result.{IsErrAnd}
use Rattle.std.proofs.lemmas.Bool.{false≢true}
use Rattle.cube_view.specs.Points.{Point}
use Rattle.cube_view.specs.declared.schema.Schema.{Schema}
use Rattle.cube_view.specs.declared.stat.Stat.{Stat}
use Rattle.query_syntax.specs.Tables.{has_table, table}
use Rattle.query_syntax.specs.declared.query.Parsed.{Parsed}
use Rattle.query_syntax.specs.declared.query.Parsed.TheVariants as parsed
use Rattle.query_syntax.specs.declared.query.Query.{Query}
use Rattle.query_syntax.specs.declared.query.Verb.{Verb}
use Rattle.query_syntax.specs.declared.query.Verb.TheVariants as verb
use Rattle.query_syntax.specs.declared.table.RowOut.{RowOut}
use Rattle.query_syntax.specs.declared.table.Table.{Table}
use Rattle.reply_json.specs.declared.reply.Reply.{Reply}
use Rattle.session_core.specs.Asked.{asked_reply, query_reply}
use Rattle.reply_json.proofs.RepliesRead.{one_reply}
use Rattle.reply_sums.specs.AddingUp.{AddsUp}
use Rattle.reply_sums.specs.Additive.{adds_up, verb_adds_up}
use Rattle.reply_sums.specs.Sums.{HaveNoSum, IsSum, sum_of_query, sum_of_rows, sum_tables, sum_told}
use Rattle.reply_sums.specs.declared.fault.SumFault.{SumFault}
use Rattle.reply_sums.specs.declared.fault.SumFault.TheVariants as fault
use Rattle.reply_sums.proofs.TableSums.{tables_sum}

-- two sums of the same replies are one
pub one_sum : (p : Parsed) (a b s r : Reply) → IsSum p a b s → IsSum p a b r → s ≡ r
one_sum parsed.Skip a b s r first second = absurd first
one_sum (parsed.Ask q) a b s r first second = one_reply s r (sym first ∙ second)
one_sum (parsed.Fault fault word) a b s r first second = first.2 ∙ sym second.2

module _ (schema : Schema) (stat : Stat) (g h : List Point) (told more : ℕ) where
  -- the reply over both lists is the sum
  abbrev Adds : Parsed → Reply → Reply → Type 0
  Adds p a b = (s : Reply) × (asked_reply stat schema (g ++ h) (told + more) p ≡ Some s) × IsSum p a b s

  table_adds : (q : Query) (a b : Reply) → has_table q.verb ≡ true → verb_adds_up q.verb ≡ true → Some (Reply.Table (table schema q g)) ≡ Some a → Some (Reply.Table (table schema q h)) ≡ Some b → sum_of_query q a b ≡ Some (Reply.Table (table schema q (g ++ h)))
  table_adds q a b asks adds first second =
      (λ i. sum_of_query q (sym (one_reply (Reply.Table (table schema q g)) a first) i) (sym (one_reply (Reply.Table (table schema q h)) b second) i))
      ∙ tables_sum schema q g h asks adds

  verb_adds : (q : Query) (v : Verb) (a b : Reply) → q.verb ≡ v → verb_adds_up v ≡ true → query_reply stat schema g told q v ≡ Some a → query_reply stat schema h more q v ≡ Some b → (s : Reply) × (query_reply stat schema (g ++ h) (told + more) q v ≡ Some s) × (sum_of_query q a b ≡ Some s)
  verb_adds q verb.Count a b is adds first second = (Reply.Table (table schema q (g ++ h)), refl, table_adds q a b (ap has_table is) (ap verb_adds_up is) first second)
  verb_adds q (verb.Hist k) a b is adds first second = (Reply.Table (table schema q (g ++ h)), refl, table_adds q a b (ap has_table is) (ap verb_adds_up is) first second)
  verb_adds q (verb.Map down) a b is adds first second = (Reply.Table (table schema q (g ++ h)), refl, table_adds q a b (ap has_table is) (ap verb_adds_up is) first second)
  verb_adds q (verb.Series from wide rows) a b is adds first second = (Reply.Table (table schema q (g ++ h)), refl, table_adds q a b (ap has_table is) (ap verb_adds_up is) first second)
  verb_adds q (verb.Window rect) a b is adds first second = (Reply.Table (table schema q (g ++ h)), refl, table_adds q a b (ap has_table is) (ap verb_adds_up is) first second)
  verb_adds q (verb.Cross k l) a b is adds first second = (Reply.Table (table schema q (g ++ h)), refl, table_adds q a b (ap has_table is) (ap verb_adds_up is) first second)
  verb_adds q (verb.Best down rows) a b is adds first second = absurd (false≢true adds)
  verb_adds q verb.Stat a b is adds first second = absurd (false≢true adds)
  verb_adds q verb.Told a b is adds first second =
      (Reply.Told (told + more), refl, (λ i. sum_of_query q (sym (one_reply (Reply.Told told) a first) i) (sym (one_reply (Reply.Told more) b second) i)) ∙ ap (λ v. sum_told v told more) is)
  verb_adds q verb.Quit a b is adds first second = absurd (false≢true adds)

  pub asked_adds : (p : Parsed) (a b : Reply) → adds_up p ≡ true → asked_reply stat schema g told p ≡ Some a → asked_reply stat schema h more p ≡ Some b → Adds p a b
  asked_adds parsed.Skip a b adds first second = absurd (false≢true adds)
  asked_adds (parsed.Ask q) a b adds first second = verb_adds q q.verb a b refl adds first second
  asked_adds (parsed.Fault fault word) a b adds first second =
      let one = one_reply (Reply.Fault fault word) a first in
      let two = one_reply (Reply.Fault fault word) b second in
      (Reply.Fault fault word, refl, (sym one, sym two, refl))

-- so an answer that is the sum, or that says there is none, obeys the law
pub adds_by : (p : Parsed) (a b : Reply) (result : Result Reply SumFault) → adds_up p ≡ true → IfOk result (IsSum p a b) → (result ≡ Err fault.OtherRows → HaveNoSum p a b) → AddsUp p a b result
adds_by p a b (Ok sum) adds is none = λ schema stat g h told more first second.
    let found = asked_adds schema stat g h told more p a b adds first second in
    (subst (λ (s : Reply). asked_reply stat schema (g ++ h) (told + more) p ≡ Some s) (one_sum p a b found.0 sum found.2 is) found.1, (λ e. cc))
adds_by p a b (Err why) adds is none = λ schema stat g h told more first second.
    let found = asked_adds schema stat g h told more p a b adds first second in
    (tt, (λ e. none e found.0 found.2))

-- the sum of two tables, by the sum of their rows
module _ (q : Query) (t u : Table) (rows others : List RowOut) (first : rows ≡ t.rows) (second : others ≡ u.rows) where
  pub table_found : (sums : List RowOut) (seen : ℕ) → sum_of_rows q q.verb rows others ≡ Some sums → seen ≡ t.seen + u.seen → sum_tables q t u ≡ Some (Reply.Table (record { rows = sums; seen = seen }))
  unfolding sum_tables
  table_found sums seen found is =
      ap (option_map (λ (rs : List RowOut). Reply.Table (record { rows = rs; seen = t.seen + u.seen }))) ((λ i. sum_of_rows q q.verb (sym first i) (sym second i)) ∙ found)
      ∙ ap (λ n. Some (Reply.Table (record { rows = sums; seen = n }))) (sym is)

  pub table_none : sum_of_rows q q.verb rows others ≡ None → sum_tables q t u ≡ None
  unfolding sum_tables
  table_none none = ap (option_map (λ (rs : List RowOut). Reply.Table (record { rows = rs; seen = t.seen + u.seen }))) ((λ i. sum_of_rows q q.verb (sym first i) (sym second i)) ∙ none)

-- a fault that was handed on is the one that came
abbrev failed : (T : Type 0) → SumFault → Result T SumFault
failed T fault = Err fault

pub fault_is : {T U : Type 0} (r : Result T SumFault) (came fault : SumFault) → IsErrAnd r (λ f. f ≡ came) → r ≡ failed T fault → failed U came ≡ failed U fault
fault_is (Ok x) came fault bad is = absurd bad
fault_is (Err f) came fault same is = let here : f ≡ fault = cc in ap (λ k. Err k) (sym same ∙ here)
