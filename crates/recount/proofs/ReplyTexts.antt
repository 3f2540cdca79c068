-- The lines of replies, and which replies can be printed.
use Rattle.std.proofs.Common.{◌≡◌, ℕ, List, [], ◌∷◌, ◌++◌, length, Some, inl, inr, refl, sym, ap, ◌∙◌, subst, append_assoc, IsTrue}
use Rattle.cube_view.specs.Points.{Point}
use Rattle.cube_view.specs.declared.schema.Schema.{Schema}
use Rattle.cube_view.specs.declared.stat.Stat.{Stat}
use Rattle.texts.specs.LineFeeds.{NoFeed}
use Rattle.query_syntax.specs.Tables.{has_table}
use Rattle.query_syntax.specs.declared.query.Parsed.{Parsed}
use Rattle.query_syntax.specs.declared.query.Parsed.TheVariants as parsed
use Rattle.query_syntax.specs.declared.query.Query.{Query}
use Rattle.query_syntax.specs.declared.query.Verb.{Verb}
use Rattle.query_syntax.specs.declared.query.Verb.TheVariants as verb
use Rattle.reply_json.specs.Meaning.{IsNoReply}
use Rattle.reply_json.specs.Printed.{reply_text}
use Rattle.reply_json.specs.Types.{ReplyFits}
use Rattle.reply_json.specs.ValidTables.{is_valid_reply-table}
use Rattle.reply_json.specs.Validity.{is_valid_reply}
use Rattle.reply_json.specs.declared.reply.Reply.{Reply}
use Rattle.reply_json.proofs.OneLine.{reply_one_line}
use Rattle.session_core.specs.Asked.{asked_reply, query_reply, reply_line}
use Rattle.reply_json.proofs.RepliesRead.{one_reply}
use Rattle.session_core.proofs.Texts.{reply_text-same}
use Rattle.recount.specs.Agreement.{MayAnswer}
use Rattle.recount.specs.Faults.{IsPrintableReply, BeginsWithReply}
use Rattle.recount.proofs.LinesApart.{same_first, no_line, not_empty}

-- a line with its line feed, and what follows
pub line_split : (reply : Reply) (x : List ℕ) → reply_line reply ++ x ≡ reply_text reply ++ (10 ∷ x)
unfolding reply_line
line_split reply x = append_assoc (reply_text reply) (10 ∷ []) x

pub line_is : (reply : Reply) (line : List ℕ) → line ≡ reply_text reply → line ++ (10 ∷ []) ≡ reply_line reply
unfolding reply_line
line_is reply line is = ap (λ l. l ++ (10 ∷ [])) is

-- replies whose lines begin one text are one, and what follows is the same
pub one_line : (a b : Reply) (x y : List ℕ) → ReplyFits a → ReplyFits b → reply_line a ++ x ≡ reply_line b ++ y → (a ≡ b) × (x ≡ y)
one_line a b x y fa fb e =
    let both = same_first (reply_text a) (reply_text b) x y (reply_one_line a fa) (reply_one_line b fb) (sym (line_split a x) ∙ e ∙ line_split b y) in
    (reply_text-same a b fa fb both.0, both.1)

-- replies of one line are one
pub same_line : (a b : Reply) → ReplyFits a → ReplyFits b → reply_line a ≡ reply_line b → a ≡ b
same_line a b fa fb e = (one_line a b [] [] fa fb (ap (λ l. l ++ []) e)).0

-- a text that begins with a reply's line is not empty
pub line_there : (reply : Reply) (x text : List ℕ) → text ≡ reply_line reply ++ x → text ≡ [] → ⊥
line_there reply x text is none = not_empty (reply_text reply) x text (is ∙ line_split reply x) none

-- the line that was read is the reply's
pub begins : (reply : Reply) (text line rest : List ℕ) → text ≡ line ++ (10 ∷ rest) → line ≡ reply_text reply → text ≡ reply_line reply ++ rest
begins reply text line rest split is = split ∙ ap (λ l. l ++ (10 ∷ rest)) is ∙ sym (line_split reply rest)

-- a text without a line feed begins with no reply's line
pub begins_none : (reply : Reply) (text : List ℕ) → NoFeed text → BeginsWithReply text reply → ⊥
begins_none reply text none (printable, (more, same)) = no_line (reply_text reply) more (subst NoFeed (same ∙ line_split reply more) none)

-- nor does one whose first line is no reply's
pub begins_other : (reply : Reply) (text line rest : List ℕ) → text ≡ line ++ (10 ∷ rest) → NoFeed line → IsNoReply line → BeginsWithReply text reply → ⊥
unfolding IsNoReply
begins_other reply text line rest split none never (printable, (more, same)) =
    let both = same_first line (reply_text reply) rest more none (reply_one_line reply printable.1) (sym split ∙ same ∙ line_split reply more) in
    never reply (printable.0, printable.1, both.0)

module _ (schema : Schema) (stat : Stat) (h : List Point) (told : ℕ) where
  told_valid : (n : ℕ) → IsTrue (is_valid_reply (Reply.Told n))
  unfolding is_valid_reply
  told_valid n = refl

  stat_valid : (s : Stat) (n : ℕ) → IsTrue (is_valid_reply (Reply.Stat s n))
  unfolding is_valid_reply
  stat_valid s n = refl

  verb_valid : (q : Query) (v : Verb) (reply : Reply) → q.verb ≡ v → query_reply stat schema h told q v ≡ Some reply → IsTrue (is_valid_reply reply)
  verb_valid q verb.Count reply is e = subst (λ (r : Reply). IsTrue (is_valid_reply r)) (one_reply _ reply e) (is_valid_reply-table schema q h (ap has_table is))
  verb_valid q (verb.Hist k) reply is e = subst (λ (r : Reply). IsTrue (is_valid_reply r)) (one_reply _ reply e) (is_valid_reply-table schema q h (ap has_table is))
  verb_valid q (verb.Map down) reply is e = subst (λ (r : Reply). IsTrue (is_valid_reply r)) (one_reply _ reply e) (is_valid_reply-table schema q h (ap has_table is))
  verb_valid q (verb.Series from wide rows) reply is e = subst (λ (r : Reply). IsTrue (is_valid_reply r)) (one_reply _ reply e) (is_valid_reply-table schema q h (ap has_table is))
  verb_valid q (verb.Window rect) reply is e = subst (λ (r : Reply). IsTrue (is_valid_reply r)) (one_reply _ reply e) (is_valid_reply-table schema q h (ap has_table is))
  verb_valid q (verb.Cross k l) reply is e = subst (λ (r : Reply). IsTrue (is_valid_reply r)) (one_reply _ reply e) (is_valid_reply-table schema q h (ap has_table is))
  verb_valid q (verb.Best down rows) reply is e = subst (λ (r : Reply). IsTrue (is_valid_reply r)) (one_reply _ reply e) (is_valid_reply-table schema q h (ap has_table is))
  verb_valid q verb.Stat reply is e = subst (λ (r : Reply). IsTrue (is_valid_reply r)) (one_reply _ reply e) (stat_valid stat (length h))
  verb_valid q verb.Told reply is e = subst (λ (r : Reply). IsTrue (is_valid_reply r)) (one_reply _ reply e) (told_valid told)
  verb_valid q verb.Quit reply is e = cc

  -- the reply to what was asked can be printed
  pub asked_valid : (p : Parsed) (reply : Reply) → asked_reply stat schema h told p ≡ Some reply → IsTrue (is_valid_reply reply)
  unfolding is_valid_reply
  asked_valid parsed.Skip reply e = cc
  asked_valid (parsed.Ask q) reply e = verb_valid q q.verb reply refl e
  asked_valid (parsed.Fault fault word) reply e = subst (λ (r : Reply). IsTrue (is_valid_reply r)) (one_reply _ reply e) refl

no_memory_printable : IsPrintableReply Reply.NoMemory
unfolding is_valid_reply ReplyFits
no_memory_printable = (refl, tt)

-- and so can every answer
pub answer_printable : (schema : Schema) (points : List Point) (p : Parsed) (reply : Reply) → MayAnswer schema points p reply → IsPrintableReply reply
answer_printable schema points p reply (inl r) = (asked_valid schema _ _ _ p reply r.meant, r.fits)
answer_printable schema points p reply (inr r) = subst IsPrintableReply (sym r.1) no_memory_printable
