-- What is wrong with one line.
use Rattle.std.proofs.Common.{◌≡◌, ℕ, true, List, [], ◌++◌, Some, Option, Result, Ok, Err, sym, ◌∙◌, ap, subst}
use Rattle.std.specs.Result.{IsErrAnd}
use Rattle.query_syntax.specs.declared.query.Parsed.{Parsed}
use Rattle.recount.specs.Comparing.{ReadsReply}
use Rattle.recount.specs.Faults.{BeginsWithReply}
use Rattle.reply_json.specs.declared.reply.Reply.{Reply}
use Rattle.reply_sums.specs.Additive.{adds_up}
use Rattle.reply_sums.specs.Sums.{HaveGreatSum, HaveNoSum}
use Rattle.session_core.specs.Asked.{reply_line}
use Rattle.share_replies.specs.Refusals.{AddsBy, HasOtherRows, IsTooGreat, IsLineWrong, IsLineRight, IsReplyWrong, total_of_sum}
use Rattle.share_replies.specs.declared.fault.LineFault.{LineFault}
use Rattle.share_replies.specs.declared.fault.LineFault.TheVariants as line
use Rattle.share_replies.specs.declared.fault.WrongReply.{WrongReply}
use Rattle.share_replies.specs.declared.fault.WrongReply.TheVariants as why
use Rattle.share_replies.specs.declared.line.Added.{Added}

-- the answer that a line is wrong
abbrev pub wrong : (T : Type 0) → WrongReply → Result T LineFault
wrong T w = Err (line.Wrong w)

pub wrong_is : {T : Type 0} (a b : WrongReply) → wrong T a ≡ wrong T b → a ≡ b
wrong_is a b e = cc

module _ (p : Parsed) (adds : adds_up p ≡ true) (total reply : Reply) where
  -- two replies without a sum, and two of which it is too great
  pub no_sum : {T : Type 0} (w : WrongReply) → wrong T why.OtherRows ≡ wrong T w → HaveNoSum p total reply → IsReplyWrong p (Some total) reply w
  no_sum w e none = subst (IsReplyWrong p (Some total) reply) (wrong_is why.OtherRows w e) (subst (λ b. HasOtherRows b p (Some total) reply) (sym adds) none)

  pub great_sum : {T : Type 0} (w : WrongReply) → wrong T why.TooGreat ≡ wrong T w → HaveGreatSum p total reply → IsReplyWrong p (Some total) reply w
  great_sum w e great = subst (IsReplyWrong p (Some total) reply) (wrong_is why.TooGreat w e) (subst (λ b. IsTooGreat b p (Some total) reply) (sym adds) great)

module _ (p : Parsed) (total : Option Reply) (text : List ℕ) where
  pub is_few : (w : WrongReply) → wrong Added why.TooFew ≡ wrong Added w → text ≡ [] → IsLineWrong p total text w
  is_few w e none = subst (IsLineWrong p total text) (wrong_is why.TooFew w e) none

  pub is_none : (w : WrongReply) → wrong Added why.NotReply ≡ wrong Added w → (text ≡ [] → ⊥) → ((reply : Reply) → ¬ BeginsWithReply text reply) → IsLineWrong p total text w
  is_none w e some none = subst (IsLineWrong p total text) (wrong_is why.NotReply w e) (some, none)

  fails_line : (w : WrongReply) (reply : Reply) → BeginsWithReply text reply → IsReplyWrong p total reply w → IsLineWrong p total text w
  fails_line why.TooFew reply begins fails = absurd fails
  fails_line why.TooMany reply begins fails = absurd fails
  fails_line why.NotReply reply begins fails = absurd fails
  fails_line why.OtherRows reply begins fails = (reply, begins, fails)
  fails_line why.TooGreat reply begins fails = (reply, begins, fails)

  module _ (reply : Reply) (own rest : List ℕ) (reads : ReadsReply text reply own rest) where
    -- a fault of the sum that was handed on
    pub is_handed : (w : WrongReply) (r : Result Added LineFault) (fault : LineFault) → IsErrAnd r (λ f. f ≡ fault) → r ≡ wrong Added w → (fault ≡ line.Wrong w → IsReplyWrong p total reply w) → IsLineWrong p total text w
    is_handed w (Ok added) fault bad e fails = absurd bad
    is_handed w (Err f) fault is e fails = let here : f ≡ line.Wrong w = cc in fails_line w reply (reads.0, (rest, reads.2)) (fails (sym is ∙ here))

    -- a line that is right
    pub passes : (added : Added) → added.rest.now ≡ rest → AddsBy (adds_up p) p total reply (total_of_sum added.sum) → IsLineRight p total text added
    passes added is adds = (reply, reads.0, reads.2 ∙ ap (λ x. reply_line reply ++ x) (sym is), adds)
