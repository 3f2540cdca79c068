-- The reply over a list of points is one with the numbers that it prints.
use Rattle.std.proofs.Common.{◌≡◌, ℕ, true, List, length, take, take_all, Some, refl, ap, subst, arith}
use Rattle.cube_view.specs.Points.{Point}
use Rattle.cube_view.specs.declared.schema.Schema.{Schema}
use Rattle.cube_view.specs.declared.stat.Stat.{Stat}
use Rattle.query_syntax.specs.Tables.{table}
use Rattle.query_syntax.specs.declared.query.Parsed.{Parsed}
use Rattle.query_syntax.specs.declared.query.Parsed.TheVariants as parsed
use Rattle.query_syntax.specs.declared.query.Query.{Query}
use Rattle.query_syntax.specs.declared.query.Verb.{Verb}
use Rattle.query_syntax.specs.declared.query.Verb.TheVariants as verb
use Rattle.session_core.specs.Asked.{asked_reply, query_reply}
use Rattle.reply_json.specs.Types.{ReplyFits}
use Rattle.reply_json.specs.declared.reply.Reply.{Reply}
use Rattle.reply_json.proofs.RepliesRead.{one_reply, some_reply}
use Rattle.session_core.specs.Transcript.{seen_in, told_in, stat_in, MayPrint, IsReply}

module _ (schema : Schema) (is_stat : Stat → Type 0) (h : List Point) (told : ℕ) where
  -- the reply has its own numbers, and they are all there is
  abbrev IsOwn : Query → Verb → Reply → Type 0
  IsOwn q v reply = (query_reply (stat_in reply) schema (take (seen_in reply) h) (told_in reply) q v ≡ Some reply) × MayPrint schema is_stat true h told reply

  -- a table over the list is one over as many of its points as it has seen
  whole_table : (q : Query) → (some_reply (Reply.Table (table schema q (take ((table schema q h).seen) h))) ≡ Some (Reply.Table (table schema q h))) × ((table schema q h).seen ≡ length h)
  unfolding table
  whole_table q = (ap (λ ps. some_reply (Reply.Table (table schema q ps))) (take_all (length h) h (omega arith)), refl)

  verb_own : (stat : Stat) (q : Query) (v : Verb) (reply : Reply) → is_stat stat → query_reply stat schema h told q v ≡ Some reply → IsOwn q v reply
  verb_own stat q verb.Count reply met e = subst (IsOwn q verb.Count) (one_reply (Reply.Table (table schema q h)) reply e) (whole_table q)
  verb_own stat q (verb.Hist k) reply met e = subst (IsOwn q (verb.Hist k)) (one_reply (Reply.Table (table schema q h)) reply e) (whole_table q)
  verb_own stat q (verb.Map down) reply met e = subst (IsOwn q (verb.Map down)) (one_reply (Reply.Table (table schema q h)) reply e) (whole_table q)
  verb_own stat q (verb.Series from wide rows) reply met e = subst (IsOwn q (verb.Series from wide rows)) (one_reply (Reply.Table (table schema q h)) reply e) (whole_table q)
  verb_own stat q (verb.Window rect) reply met e = subst (IsOwn q (verb.Window rect)) (one_reply (Reply.Table (table schema q h)) reply e) (whole_table q)
  verb_own stat q (verb.Cross k l) reply met e = subst (IsOwn q (verb.Cross k l)) (one_reply (Reply.Table (table schema q h)) reply e) (whole_table q)
  verb_own stat q (verb.Best down rows) reply met e = subst (IsOwn q (verb.Best down rows)) (one_reply (Reply.Table (table schema q h)) reply e) (whole_table q)
  verb_own stat q verb.Stat reply met e =
      subst (IsOwn q verb.Stat) (one_reply (Reply.Stat stat (length h)) reply e)
      (ap (λ (ps : List Point). some_reply (Reply.Stat stat (length ps))) (take_all (length h) h (omega arith)), (refl, met))
  verb_own stat q verb.Told reply met e = subst (IsOwn q verb.Told) (one_reply (Reply.Told told) reply e) (refl, refl)
  verb_own stat q verb.Quit reply met e = cc

  -- the reply over the list is final, under numbers that meet the test
  pub reply_own : (stat : Stat) (p : Parsed) (reply : Reply) → is_stat stat → asked_reply stat schema h told p ≡ Some reply → ReplyFits reply → IsReply schema is_stat true h told p reply
  reply_own stat parsed.Skip reply met e fits = cc
  reply_own stat (parsed.Ask q) reply met e fits = let own = verb_own stat q q.verb reply met e in record { meant = own.0; numbers = own.1; fits = fits }
  reply_own stat (parsed.Fault fault word) reply met e fits =
      subst (λ (r : Reply). ReplyFits r → IsReply schema is_stat true h told (parsed.Fault fault word) r) (one_reply (Reply.Fault fault word) reply e)
      (λ f. record { meant = refl; numbers = tt; fits = f }) fits
