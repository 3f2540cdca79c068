-- When the line of a table is the reply to what was asked.
use Rattle.std.proofs.Common.{◌≡◌, ℕ, Bool, true, false, IsTrue, List, [], ◌∷◌, ◌++◌, length, take, Some, All, ◌<◌, ◌^◌, arith, refl, sym, ap, ◌∙◌, subst}
use Rattle.std.proofs.lemmas.Bool.{false≢true}
use Rattle.std.specs.Prelude.{◌↔◌}
use Rattle.cube_view.proofs.Amounts.{amount-take}
use Rattle.cube_view.proofs.PointWeights.{amount-most}
use Rattle.cube_view.specs.Bag.{amount, anywhere, most_points}
use Rattle.cube_view.specs.Points.{Point}
use Rattle.cube_view.specs.Validity.{sound}
use Rattle.cube_view.specs.declared.schema.Schema.{Schema}
use Rattle.query_syntax.specs.Tables.{has_table, table, table_rows}
use Rattle.query_syntax.specs.declared.query.Parsed.{Parsed}
use Rattle.query_syntax.specs.declared.query.Query.{Query}
use Rattle.query_syntax.specs.declared.query.Verb.{Verb}
use Rattle.query_syntax.specs.declared.query.Verb.TheVariants as verb
use Rattle.query_syntax.specs.declared.table.RowOut.{RowOut}
use Rattle.query_syntax.specs.declared.table.Table.{Table}
use Rattle.reply_json.specs.Printed.{reply_text}
use Rattle.reply_json.specs.Types.{ReplyFits}
use Rattle.reply_json.specs.declared.reply.Reply.{Reply}
use Rattle.session_core.specs.Asked.{query_reply, reply_line}
use Rattle.session_core.specs.Transcript.{stat_in}
use Rattle.recount.specs.Comparing.{IsLineOf, IsTableReply}
use Rattle.recount.proofs.ReplyTexts.{same_line}

-- the first of sound points weigh little
pub front_light : (z : Schema) (h : List Point) (n : ℕ) → All (λ p. IsTrue (sound z p)) h → length h < most_points → amount anywhere (take n h) < 2 ^ 64
front_light z h n all few = let part = amount-take anywhere h n in let most = amount-most z h all in omega (arith, part, most, few)

-- the table of a reply that has one
table_or : Table → Reply → Table
table_or t (Reply.Table own) = own
table_or t (Reply.Stat stat seen) = t
table_or t (Reply.Told told) = t
table_or t (Reply.Fault fault word) = t
table_or t Reply.NoMemory = t

-- the rows and their number of points are the table's
pub table_of_rows : (schema : Schema) (q : Query) (h : List Point) (rows : List RowOut) (seen : ℕ) → rows ≡ table_rows schema q h → seen ≡ length h → record { rows = rows; seen = seen } ≡ table schema q h
unfolding table
table_of_rows schema q h rows seen same count = λ i. record { rows = same i; seen = count i }

-- the text of a reply with a line feed is its line
pub line_of_text : (reply : Reply) (text line : List ℕ) → text ≡ reply_text reply → line ≡ text ++ 10 ∷ [] → line ≡ reply_line reply
unfolding reply_line
line_of_text reply text line is more = more ∙ ap (λ (t : List ℕ). t ++ 10 ∷ []) is

-- the line that was printed of a table is the line of another exactly where the two tables are one
pub same_table : (own t whole : Table) (bytes line : List ℕ) (same : Bool) → own ≡ whole → ReplyFits (Reply.Table own) → bytes ≡ reply_line (Reply.Table own) → IsLineOf t line → (IsTrue same ↔ (bytes ≡ line)) → (IsTrue same ↔ (t ≡ whole))
unfolding table_or
same_table own t whole bytes line same is own_fits text of decides = (
  λ s. sym (ap (table_or t) (same_line (Reply.Table own) (Reply.Table t) own_fits of.0 (sym text ∙ decides.0 s ∙ of.1))) ∙ is,
  λ e. decides.1 (text ∙ ap (λ (x : Table). reply_line (Reply.Table x)) (is ∙ sym e) ∙ sym of.1),
)

module _ (schema : Schema) (h : List Point) (t : Table) where
  -- a verb that has a table asks for that one
  asks_table : (q : Query) (v : Verb) → has_table v ≡ true → query_reply (stat_in (Reply.Table t)) schema h 0 q v ≡ Some (Reply.Table (table schema q h))
  asks_table q verb.Count e = refl
  asks_table q (verb.Hist k) e = refl
  asks_table q (verb.Map down) e = refl
  asks_table q (verb.Series from wide rows) e = refl
  asks_table q (verb.Window rect) e = refl
  asks_table q (verb.Cross k l) e = refl
  asks_table q (verb.Best down rows) e = refl
  asks_table q verb.Stat e = absurd (false≢true e)
  asks_table q verb.Told e = absurd (false≢true e)
  asks_table q verb.Quit e = absurd (false≢true e)

  pub is_reply : (p : Parsed) (q : Query) (same : Bool) → p ≡ Parsed.Ask q → has_table q.verb ≡ true → (IsTrue same ↔ (t ≡ table schema q h)) → (IsTrue same ↔ IsTableReply schema h p t)
  is_reply p q same is asks decides = subst (λ (x : Parsed). IsTrue same ↔ IsTableReply schema h x t) (sym is) (
    λ s. asks_table q q.verb asks ∙ ap (λ (x : Table). Some (Reply.Table x)) (sym (decides.0 s)),
    λ e. decides.1 (let both : Some (Reply.Table (table schema q h)) ≡ Some (Reply.Table t) = sym (asks_table q q.verb asks) ∙ e in cc),
  )

  -- no other verb does
  no_table : (q : Query) (v : Verb) → has_table v ≡ false → query_reply (stat_in (Reply.Table t)) schema h 0 q v ≡ Some (Reply.Table t) → ⊥
  no_table q verb.Count e is = false≢true (sym e)
  no_table q (verb.Hist k) e is = false≢true (sym e)
  no_table q (verb.Map down) e is = false≢true (sym e)
  no_table q (verb.Series from wide rows) e is = false≢true (sym e)
  no_table q (verb.Window rect) e is = false≢true (sym e)
  no_table q (verb.Cross k l) e is = false≢true (sym e)
  no_table q (verb.Best down rows) e is = false≢true (sym e)
  no_table q verb.Stat e is = cc
  no_table q verb.Told e is = cc
  no_table q verb.Quit e is = cc

  pub is_no_reply : (p : Parsed) (q : Query) → p ≡ Parsed.Ask q → has_table q.verb ≡ false → IsTableReply schema h p t → ⊥
  is_no_reply p q is none reply = no_table q q.verb none (subst (λ (x : Parsed). IsTableReply schema h x t) is reply)

  -- nor does a line that is no query
  pub no_query : (p : Parsed) → ((q : Query) → p ≡ Parsed.Ask q → ⊥) → IsTableReply schema h p t → ⊥
  no_query Parsed.Skip other is = cc
  no_query (Parsed.Ask q) other is = absurd (other q refl)
  no_query (Parsed.Fault fault word) other is = cc
