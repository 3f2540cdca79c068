-- What is served to a line that asks for no look at a view.
use Rattle.std.proofs.Common.{◌≡◌, ℕ, true, false, not, List, length, Some, Result, Ok, Err, IfOk, refl, sym, ◌∙◌, ap}
use Rattle.std.proofs.lemmas.Bool.{false≢true}
use Rattle.query_syntax.specs.declared.query.Parsed.{Parsed}
use Rattle.query_syntax.specs.declared.query.Parsed.TheVariants as parsed
use Rattle.query_syntax.specs.declared.query.Query.{Query}
use Rattle.query_syntax.specs.declared.query.Verb.{Verb}
use Rattle.query_syntax.specs.declared.query.Verb.TheVariants as verb
use Rattle.reply_json.specs.declared.reply.Reply.{Reply}
use Rattle.session_core.specs.Asked.{asked_reply, asks_look, asks_reply, ends, is_look, query_reply, reply_line}
use Rattle.session_core.specs.Serving.{Serves}
use Rattle.session_core.specs.declared.serving.Served.{Served}
use Rattle.session_core.specs.declared.serving.Served.TheVariants as served
use Rattle.flat_session.specs.Answers.{answer_line, FlatBasis, line_without_cube, no_numbers, ServesFlat}

module _ (of : FlatBasis) where
  abbrev told : ℕ
  told = length of.points

  -- the line that answers a query of a verb
  abbrev verb_line : Query → Verb → List ℕ
  verb_line q v = line_without_cube (query_reply no_numbers of.schema of.points told q v)

  verb_unseen : (q : Query) (v : Verb) (reply : Reply) → is_look v ≡ false → query_reply no_numbers of.schema of.points told q v ≡ Some reply → (ends v ≡ false) × (reply_line reply ≡ verb_line q v)
  verb_unseen q verb.Count reply unseen e = absurd (false≢true (sym unseen))
  verb_unseen q (verb.Hist k) reply unseen e = absurd (false≢true (sym unseen))
  verb_unseen q (verb.Map down) reply unseen e = absurd (false≢true (sym unseen))
  verb_unseen q (verb.Series from wide rows) reply unseen e = absurd (false≢true (sym unseen))
  verb_unseen q (verb.Window rect) reply unseen e = absurd (false≢true (sym unseen))
  verb_unseen q (verb.Cross k l) reply unseen e = absurd (false≢true (sym unseen))
  verb_unseen q (verb.Best down rows) reply unseen e = absurd (false≢true (sym unseen))
  verb_unseen q verb.Stat reply unseen e = absurd (false≢true (sym unseen))
  verb_unseen q verb.Told reply unseen e = let is : reply ≡ Reply.Told told = cc in (refl, ap reply_line is)
  verb_unseen q verb.Quit reply unseen e = cc

  unseen_line : (p : Parsed) (reply : Reply) → asks_look p ≡ false → asked_reply no_numbers of.schema of.points told p ≡ Some reply → (asks_reply p ≡ true) × (reply_line reply ≡ answer_line of p)
  unseen_line parsed.Skip reply unseen e = cc
  unseen_line (parsed.Ask q) reply unseen e = let line = verb_unseen q q.verb reply unseen e in (ap not line.0, line.1)
  unseen_line (parsed.Fault fault word) reply unseen e = let is : reply ≡ Reply.Fault fault word = cc in (refl, ap reply_line is)

  served_unseen : (p : Parsed) (s : Served) → asks_look p ≡ false → Serves no_numbers of.schema of.points told p s → ServesFlat of p s
  served_unseen p served.Skipped unseen it = it
  served_unseen p (served.Reply bytes) unseen it = let line = unseen_line p it.0 unseen it.1 in (line.0, it.3 ∙ line.1)
  served_unseen p served.Quit unseen it = it

  -- what is served over any list of points is served over this one
  pub serves_unseen : {E : Type 0} (p : Parsed) (r : Result Served E) → asks_look p ≡ false → IfOk r (Serves no_numbers of.schema of.points told p) → IfOk r (ServesFlat of p)
  serves_unseen p (Ok s) unseen it = served_unseen p s unseen it
  serves_unseen p (Err e) unseen it = tt
