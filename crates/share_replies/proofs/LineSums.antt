-- The first line of a share's text is that of its first reply.
use Rattle.std.proofs.Common.{◌≡◌, ℕ, length, arith, Bool, true, false, List, [], ◌∷◌, ◌++◌, Result, Ok, Err, IfOk, IfErr, inl, inr, refl, sym, ◌∙◌, ap, subst}
use Rattle.std.specs.Prelude.{◌==◌}
use Rattle.std.specs.Result.{IsErrAnd}
use Rattle.std.proofs.lemmas.Bool.{eqb-true, false≢true}
use Rattle.cube_view.specs.declared.schema.Schema.{Schema}
use Rattle.query_syntax.specs.declared.query.Parsed.{Parsed}
use Rattle.reply_json.specs.declared.reply.Reply.{Reply}
use Rattle.recount.specs.Comparing.{ReadsReply}
use Rattle.recount.specs.Faults.{BeginsWithReply, IsPrintableReply}
use Rattle.recount.proofs.ReplyTexts.{asked_valid, line_there, one_line}
use Rattle.session_core.specs.Asked.{reply_line}
use Rattle.session_core.specs.Transcript.{Answers, IsReply}
use Rattle.share_replies.specs.Shares.{AnyStat, Share}
use Rattle.share_replies.specs.Sums.{AnswersText, IsInnocentLine}
use Rattle.share_replies.specs.declared.fault.LineFault.{LineFault}
use Rattle.share_replies.specs.declared.line.Added.{Added}

module _ (schema : Schema) (s : Share) (p : Parsed) (later : List Parsed) where
  -- The text is the line of a reply and then those of the others
  pub record BeginsSo (text : List ℕ) : Type 0 where
    pub reply : Reply
    pub rest : List ℕ
    pub is : IsReply schema AnyStat true s.points s.told p reply
    pub answers : AnswersText schema s later rest
    pub split : text ≡ reply_line reply ++ rest

  answered : (reply : Reply) → Answers schema AnyStat true s.points s.told false p reply → IsReply schema AnyStat true s.points s.told p reply
  answered reply (inl r) = r
  answered reply (inr r) = absurd (false≢true r.0)

  pub begins_so : (text : List ℕ) → AnswersText schema s (p ∷ later) text → BeginsSo text
  begins_so text ([], all, is) = absurd all
  begins_so text (reply ∷ replies, all, is) = record { reply = reply; rest = _; is = answered reply all.0; answers = (replies, all.1, refl); split = is }

  printable : (reply : Reply) → IsReply schema AnyStat true s.points s.told p reply → IsPrintableReply reply
  printable reply r = (asked_valid schema _ _ _ p reply r.meant, r.fits)

  -- so it is not empty
  pub not_few : (text : List ℕ) → AnswersText schema s (p ∷ later) text → text ≡ [] → ⊥
  not_few text a none = let b = begins_so text a in line_there b.reply b.rest text b.split none

  -- it begins with a reply
  pub not_none : (text : List ℕ) → AnswersText schema s (p ∷ later) text → ((reply : Reply) → ¬ BeginsWithReply text reply) → ⊥
  not_none text a none = let b = begins_so text a in none b.reply (printable b.reply b.is, (b.rest, b.split))

  -- and the reply that was read is this one
  pub next_is : (text : List ℕ) (reply : Reply) (line rest : List ℕ) → AnswersText schema s (p ∷ later) text → ReadsReply text reply line rest → IsReply schema AnyStat true s.points s.told p reply × AnswersText schema s later rest
  next_is text reply line rest a (read, is, split) =
      let b = begins_so text a in
      let same = one_line b.reply reply b.rest rest b.is.fits read.1 (sym b.split ∙ split) in
      (subst (IsReply schema AnyStat true s.points s.told p) same.0 b.is, subst (AnswersText schema s later) same.1 b.answers)

-- a list without length has no items
pub no_items : (xs : List ℕ) (b : Bool) → b ≡ (length xs == 0) → b ≡ true → xs ≡ []
no_items [] b is empty = refl
no_items (x ∷ xs) b is empty = let none = eqb-true (length (x ∷ xs)) 0 (sym is ∙ empty) in absurd (omega (arith, none))

-- and one with a length has some
pub some_items : (xs : List ℕ) (b : Bool) → b ≡ (length xs == 0) → b ≡ false → xs ≡ [] → ⊥
some_items xs b is not none = false≢true (sym not ∙ (is ∙ ap (λ ys. length ys == 0) none))

-- a fault that was handed on is the one that came
pub handed_on : (r : Result Added LineFault) (P : Added → Type 0) (fault : LineFault) → IsErrAnd r (λ f. f ≡ fault) → IsInnocentLine fault → IfOk r P × IfErr r IsInnocentLine
handed_on (Ok added) P fault bad innocent = absurd bad
handed_on (Err f) P fault is innocent = (tt, subst IsInnocentLine (sym is) innocent)
