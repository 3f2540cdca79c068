-- What is served to a line, from its reply.
use Rattle.std.proofs.Common.{◌≡◌, ℕ, true, List, Some, Result, Ok, Err, IfOk, OnOk, refl, sym, ◌∙◌, ap, subst}
use Rattle.std.proofs.lemmas.Bool.{false≢true}
use Rattle.cube_view.specs.Points.{Point}
use Rattle.cube_view.specs.declared.schema.Schema.{Schema}
use Rattle.cube_view.specs.declared.stat.Stat.{Stat}
use Rattle.query_syntax.specs.Tables.{has_table, table}
use Rattle.query_syntax.specs.declared.query.Parsed.{Parsed}
use Rattle.query_syntax.specs.declared.query.Query.{Query}
use Rattle.query_syntax.specs.declared.query.Verb.{Verb}
use Rattle.query_syntax.specs.declared.query.Verb.TheVariants as verb
use Rattle.reply_json.specs.Types.{ReplyFits}
use Rattle.reply_json.specs.declared.reply.Reply.{Reply}
use Rattle.session_core.specs.Asked.{asked_reply, query_reply, reply_line}
use Rattle.session_core.specs.Serving.{Serves}
use Rattle.session_core.specs.declared.serving.Served.{Served}
use Rattle.session_core.specs.declared.serving.Served.TheVariants as served

module _ (stat : Stat) (schema : Schema) (h : List Point) (told : ℕ) where
  table_of_verb : (q : Query) (v : Verb) → has_table v ≡ true → query_reply stat schema h told q v ≡ Some (Reply.Table (table schema q h))
  table_of_verb q verb.Count e = refl
  table_of_verb q (verb.Hist k) e = refl
  table_of_verb q (verb.Map down) e = refl
  table_of_verb q (verb.Series from wide rows) e = refl
  table_of_verb q (verb.Window rect) e = refl
  table_of_verb q (verb.Cross k l) e = refl
  table_of_verb q (verb.Best down rows) e = refl
  table_of_verb q verb.Stat e = absurd (false≢true e)
  table_of_verb q verb.Told e = absurd (false≢true e)
  table_of_verb q verb.Quit e = absurd (false≢true e)

  -- the line of the reply to what was asked is served
  pub serves_reply : {E : Type 0} (p : Parsed) (reply : Reply) (r : Result Served E) → asked_reply stat schema h told p ≡ Some reply → OnOk r (ReplyFits reply) → IfOk r (λ s. s ≡ served.Reply (reply_line reply)) → IfOk r (Serves stat schema h told p)
  serves_reply p reply (Ok s) asked fits is = subst (Serves stat schema h told p) (sym is) (reply, asked, fits, refl)
  serves_reply p reply (Err e) asked fits is = tt

  -- and so is the line of the table of a query that asks for one
  pub serves_table : {E : Type 0} (q : Query) (reply : Reply) (r : Result Served E) → has_table q.verb ≡ true → reply ≡ Reply.Table (table schema q h) → OnOk r (ReplyFits reply) → IfOk r (λ s. s ≡ served.Reply (reply_line reply)) → IfOk r (Serves stat schema h told (Parsed.Ask q))
  serves_table q reply r asks is fits line = serves_reply (Parsed.Ask q) reply r (table_of_verb q q.verb asks ∙ ap (λ (t : Reply). Some t) (sym is)) fits line
