-- The refusal of shares is one: no other line is the first that is wrong, and none is where all are right.
use Rattle.std.proofs.Common.{◌≡◌, ℕ, zero, suc, ◌+◌, Bool, true, false, List, [], ◌∷◌, ◌++◌, length, take, drop, Option, Some, None, refl, sym, ◌∙◌, ap, subst, arith, append_assoc}
use Rattle.std.proofs.lemmas.Bool.{false≢true}
use Rattle.query_syntax.specs.declared.query.Parsed.{Parsed}
use Rattle.recount.specs.Faults.{BeginsWithReply, IsPrintableReply}
use Rattle.recount.proofs.ReplyTexts.{line_there, one_line}
use Rattle.reply_json.specs.declared.reply.Reply.{Reply}
use Rattle.reply_sums.specs.Additive.{adds_up}
use Rattle.reply_sums.specs.Numbers.{is_reply_great}
use Rattle.reply_sums.proofs.ReplySums.{one_sum}
use Rattle.session_core.specs.Asked.{reply_line}
use Rattle.session_core.specs.Transcript.{replies_text}
use Rattle.share_replies.specs.Refusals.{AddsBy, AllAdd, AreRight, HasOtherRows, IsFirstWrong, IsRight, IsTooGreat, IsWrongAt, IsLineWrong, IsReplyWrong, IsTextWrong}
use Rattle.share_replies.specs.declared.fault.WrongReply.{WrongReply}
use Rattle.share_replies.specs.declared.fault.WrongReply.TheVariants as why

-- a reply makes one total of the one before
next_one : (b : Bool) (p : Parsed) (total : Option Reply) (reply : Reply) (n m : Option Reply) → AddsBy b p total reply n → AddsBy b p total reply m → n ≡ m
next_one false p total reply n m one two = one.1 ∙ sym two.1
next_one true p (Some total) reply (Some n) (Some m) one two = ap (λ r. Some r) (one_sum p total reply n m one.0 two.0)
next_one true p (Some total) reply (Some n) None one two = absurd two
next_one true p (Some total) reply None m one two = absurd one
next_one true p None reply n m one two = absurd one

-- and then it is neither of other rows nor too great
not_other : (b : Bool) (p : Parsed) (total : Option Reply) (reply : Reply) (next : Option Reply) → AddsBy b p total reply next → HasOtherRows b p total reply → ⊥
not_other false p total reply next adds other = false≢true (sym other ∙ adds.0)
not_other true p (Some total) reply (Some next) adds other = other next adds.0
not_other true p (Some total) reply None adds other = absurd adds
not_other true p None reply next adds other = absurd adds

not_great : (b : Bool) (p : Parsed) (total : Option Reply) (reply : Reply) (next : Option Reply) → AddsBy b p total reply next → IsTooGreat b p total reply → ⊥
not_great false p total reply next adds great = absurd great
not_great true p (Some total) reply (Some next) adds (sum, is, great) = false≢true (sym adds.1 ∙ (ap is_reply_great (one_sum p total reply next sum adds.0 is) ∙ great))
not_great true p (Some total) reply None adds great = absurd adds
not_great true p None reply next adds great = absurd adds

-- nor is it both
not_both : (b : Bool) (p : Parsed) (total : Option Reply) (reply : Reply) → HasOtherRows b p total reply → IsTooGreat b p total reply → ⊥
not_both false p total reply other great = absurd great
not_both true p (Some total) reply other (sum, is, great) = other sum is
not_both true p None reply other great = absurd great

module _ (p : Parsed) (total : Option Reply) where
  reply_adds : (reply : Reply) (next : Option Reply) (w : WrongReply) → AddsBy (adds_up p) p total reply next → IsReplyWrong p total reply w → ⊥
  reply_adds reply next why.OtherRows adds fails = not_other (adds_up p) p total reply next adds fails
  reply_adds reply next why.TooGreat adds fails = not_great (adds_up p) p total reply next adds fails
  reply_adds reply next why.TooFew adds fails = absurd fails
  reply_adds reply next why.TooMany adds fails = absurd fails
  reply_adds reply next why.NotReply adds fails = absurd fails

  reply_one : (reply : Reply) (a b : WrongReply) → IsReplyWrong p total reply a → IsReplyWrong p total reply b → a ≡ b
  reply_one reply why.OtherRows why.OtherRows h k = refl
  reply_one reply why.OtherRows why.TooGreat h k = absurd (not_both (adds_up p) p total reply h k)
  reply_one reply why.OtherRows _ h k = absurd k
  reply_one reply why.TooGreat why.OtherRows h k = absurd (not_both (adds_up p) p total reply k h)
  reply_one reply why.TooGreat why.TooGreat h k = refl
  reply_one reply why.TooGreat _ h k = absurd k
  reply_one reply why.TooFew b h k = absurd h
  reply_one reply why.TooMany b h k = absurd h
  reply_one reply why.NotReply b h k = absurd h

  module _ (text : List ℕ) where
    -- the line is a reply's at which a test holds
    abbrev HasFault : WrongReply → Type 0
    HasFault w = (reply : Reply) × BeginsWithReply text reply × IsReplyWrong p total reply w

    fault_passes : (reply : Reply) (later : List ℕ) (next : Option Reply) (w : WrongReply) → IsPrintableReply reply → text ≡ reply_line reply ++ later → AddsBy (adds_up p) p total reply next → HasFault w → ⊥
    fault_passes reply later next w printable is adds (s, (own, (x, begins)), fails) =
        let same : reply ≡ s = (one_line reply s later x printable.1 own.1 (sym is ∙ begins)).0 in
        reply_adds reply next w adds (subst (λ (r : Reply). IsReplyWrong p total r w) (sym same) fails)

    -- a line that is right is not wrong
    line_passes : (reply : Reply) (later : List ℕ) (next : Option Reply) (w : WrongReply) → IsPrintableReply reply → text ≡ reply_line reply ++ later → AddsBy (adds_up p) p total reply next → IsLineWrong p total text w → ⊥
    line_passes reply later next why.TooFew printable is adds none = line_there reply later text is none
    line_passes reply later next why.NotReply printable is adds fails = fails.1 reply (printable, (later, is))
    line_passes reply later next why.TooMany printable is adds fails = fault_passes reply later next why.TooMany printable is adds fails
    line_passes reply later next why.OtherRows printable is adds fails = fault_passes reply later next why.OtherRows printable is adds fails
    line_passes reply later next why.TooGreat printable is adds fails = fault_passes reply later next why.TooGreat printable is adds fails

    fault_some : (w : WrongReply) → HasFault w → text ≡ [] → ⊥
    fault_some w (s, (own, (x, begins)), fails) none = line_there s x text begins none

    same_fault : (a b : WrongReply) → HasFault a → HasFault b → a ≡ b
    same_fault a b (r, (pr, (x, ex)), h) (s, (ps, (y, ey)), k) =
        let same : r ≡ s = (one_line r s x y pr.1 ps.1 (sym ex ∙ ey)).0 in
        reply_one s a b (subst (λ (q : Reply). IsReplyWrong p total q a) same h) k

    -- one thing is wrong with a line
    line_one : (a b : WrongReply) → IsLineWrong p total text a → IsLineWrong p total text b → a ≡ b
    line_one why.TooFew why.TooFew h k = refl
    line_one why.TooFew why.NotReply h k = absurd (k.0 h)
    line_one why.TooFew b h k = absurd (fault_some b k h)
    line_one why.NotReply why.TooFew h k = absurd (h.0 k)
    line_one why.NotReply why.NotReply h k = refl
    line_one why.NotReply b h k = absurd (h.1 k.0 k.1)
    line_one why.TooMany why.TooFew h k = absurd (fault_some why.TooMany h k)
    line_one why.TooMany why.NotReply h k = absurd (k.1 h.0 h.1)
    line_one why.TooMany b h k = same_fault why.TooMany b h k
    line_one why.OtherRows why.TooFew h k = absurd (fault_some why.OtherRows h k)
    line_one why.OtherRows why.NotReply h k = absurd (k.1 h.0 h.1)
    line_one why.OtherRows b h k = same_fault why.OtherRows b h k
    line_one why.TooGreat why.TooFew h k = absurd (fault_some why.TooGreat h k)
    line_one why.TooGreat why.NotReply h k = absurd (k.1 h.0 h.1)
    line_one why.TooGreat b h k = same_fault why.TooGreat b h k

text_one : (ps : List Parsed) (totals : List (Option Reply)) (text : List ℕ) (a b : WrongReply) → IsTextWrong ps totals text a → IsTextWrong ps totals text b → a ≡ b
text_one [] totals text a b h k = h.1 ∙ sym k.1
text_one (p ∷ ps) (total ∷ totals) text a b h k = line_one p total text a b h k
text_one (p ∷ ps) [] text a b h k = absurd h

-- two ways to come to a wrong line are one
wrong_one : (ps : List Parsed) (totals : List (Option Reply)) (rs qs : List Reply) (ns ms : List (Option Reply)) (x y : List ℕ) (v w : WrongReply) → replies_text rs ++ x ≡ replies_text qs ++ y
    → AllAdd (take (length rs) ps) totals rs ns → AllAdd (take (length qs) ps) totals qs ms
    → IsTextWrong (drop (length rs) ps) (drop (length rs) totals) x v → IsTextWrong (drop (length qs) ps) (drop (length qs) totals) y w → (length rs ≡ length qs) × (v ≡ w)
wrong_one ps totals [] [] ns ms x y v w e one two h k = (refl, text_one ps totals y v w (subst (λ (t : List ℕ). IsTextWrong ps totals t v) e h) k)
wrong_one [] totals [] (b ∷ qs) ns ms x y v w e one two h k = absurd two
wrong_one (p ∷ ps) [] [] (b ∷ qs) ns ms x y v w e one two h k = absurd h
wrong_one (p ∷ ps) (t ∷ totals) [] (b ∷ qs) ns [] x y v w e one two h k = absurd two
wrong_one (p ∷ ps) (t ∷ totals) [] (b ∷ qs) ns (m ∷ ms) x y v w e one two h k =
    absurd (line_passes p t x b (replies_text qs ++ y) m v two.0 (e ∙ append_assoc (reply_line b) (replies_text qs) y) two.1 h)
wrong_one [] totals (a ∷ rs) qs ns ms x y v w e one two h k = absurd one
wrong_one (p ∷ ps) [] (a ∷ rs) qs ns ms x y v w e one two h k = absurd one
wrong_one (p ∷ ps) (t ∷ totals) (a ∷ rs) qs [] ms x y v w e one two h k = absurd one
wrong_one (p ∷ ps) (t ∷ totals) (a ∷ rs) [] (n ∷ ns) ms x y v w e one two h k =
    absurd (line_passes p t y a (replies_text rs ++ x) n w one.0 (sym e ∙ append_assoc (reply_line a) (replies_text rs) x) one.1 k)
wrong_one (p ∷ ps) (t ∷ totals) (a ∷ rs) (b ∷ qs) (n ∷ ns) [] x y v w e one two h k = absurd two
wrong_one (p ∷ ps) (t ∷ totals) (a ∷ rs) (b ∷ qs) (n ∷ ns) (m ∷ ms) x y v w e one two h k =
    let both = one_line a b (replies_text rs ++ x) (replies_text qs ++ y) one.0.1 two.0.1 (sym (append_assoc (reply_line a) (replies_text rs) x) ∙ e ∙ append_assoc (reply_line b) (replies_text qs) y) in
    let rest = wrong_one ps totals rs qs ns ms x y v w both.1 one.2 two.2 h k in
    (ap suc rest.0, rest.1)

-- a text that is right has no wrong line
right_wrong : (ps : List Parsed) (totals : List (Option Reply)) (rs qs : List Reply) (ns ms : List (Option Reply)) (y : List ℕ) (w : WrongReply) → replies_text rs ≡ replies_text qs ++ y
    → AllAdd ps totals rs ns → AllAdd (take (length qs) ps) totals qs ms → IsTextWrong (drop (length qs) ps) (drop (length qs) totals) y w → ⊥
right_wrong [] totals [] [] ns ms y w e one two k = k.0 (sym e)
right_wrong [] totals [] (b ∷ qs) ns ms y w e one two k = absurd two
right_wrong [] totals (a ∷ rs) qs ns ms y w e one two k = absurd one
right_wrong (p ∷ ps) [] rs qs ns ms y w e one two k = absurd one
right_wrong (p ∷ ps) (t ∷ totals) [] qs ns ms y w e one two k = absurd one
right_wrong (p ∷ ps) (t ∷ totals) (a ∷ rs) qs [] ms y w e one two k = absurd one
right_wrong (p ∷ ps) (t ∷ totals) (a ∷ rs) [] (n ∷ ns) ms y w e one two k = line_passes p t y a (replies_text rs) n w one.0 (sym e) one.1 k
right_wrong (p ∷ ps) (t ∷ totals) (a ∷ rs) (b ∷ qs) (n ∷ ns) [] y w e one two k = absurd two
right_wrong (p ∷ ps) (t ∷ totals) (a ∷ rs) (b ∷ qs) (n ∷ ns) (m ∷ ms) y w e one two k =
    let both = one_line a b (replies_text rs) (replies_text qs ++ y) one.0.1 two.0.1 (e ∙ append_assoc (reply_line b) (replies_text qs) y) in
    right_wrong ps totals rs qs ns ms y w both.1 one.2 two.2 k

-- and makes one list of totals
nexts_one : (ps : List Parsed) (totals : List (Option Reply)) (rs qs : List Reply) (ns ms : List (Option Reply)) → replies_text rs ≡ replies_text qs → AllAdd ps totals rs ns → AllAdd ps totals qs ms → ns ≡ ms
nexts_one [] totals [] [] [] [] e one two = refl
nexts_one [] totals [] [] [] (m ∷ ms) e one two = absurd two
nexts_one [] totals [] [] (n ∷ ns) ms e one two = absurd one
nexts_one [] totals [] (b ∷ qs) ns ms e one two = absurd two
nexts_one [] totals (a ∷ rs) qs ns ms e one two = absurd one
nexts_one (p ∷ ps) [] rs qs ns ms e one two = absurd one
nexts_one (p ∷ ps) (t ∷ totals) [] qs ns ms e one two = absurd one
nexts_one (p ∷ ps) (t ∷ totals) (a ∷ rs) qs [] ms e one two = absurd one
nexts_one (p ∷ ps) (t ∷ totals) (a ∷ rs) [] (n ∷ ns) ms e one two = absurd two
nexts_one (p ∷ ps) (t ∷ totals) (a ∷ rs) (b ∷ qs) (n ∷ ns) [] e one two = absurd two
nexts_one (p ∷ ps) (t ∷ totals) (a ∷ rs) (b ∷ qs) (n ∷ ns) (m ∷ ms) e one two =
    let both = one_line a b (replies_text rs) (replies_text qs) one.0.1 two.0.1 e in
    let here = next_one (adds_up p) p t b n m (subst (λ (r : Reply). AddsBy (adds_up p) p t r n) both.0 one.1) two.1 in
    let later = nexts_one ps totals rs qs ns ms both.1 one.2 two.2 in
    λ i. here i ∷ later i

module _ (ps : List Parsed) where
  text_wrong_one : (totals : List (Option Reply)) (text : List ℕ) (line other : ℕ) (v w : WrongReply) → IsWrongAt ps totals text line v → IsWrongAt ps totals text other w → (line ≡ other) × (v ≡ w)
  text_wrong_one totals text line other v w a b =
      let both = wrong_one ps totals a.before b.before a.nexts b.nexts a.rest b.rest v w (sym a.front ∙ b.front) a.right b.right a.fails b.fails in
      (a.counted ∙ (ap (λ n. n + 1) both.0 ∙ sym b.counted), both.1)

  text_right : (totals nexts : List (Option Reply)) (text : List ℕ) (line : ℕ) (w : WrongReply) → IsRight ps totals text nexts → IsWrongAt ps totals text line w → ⊥
  text_right totals nexts text line w (replies, all, is) b = right_wrong ps totals replies b.before nexts b.nexts b.rest w (sym is ∙ b.front) all b.right b.fails

  text_nexts : (totals n m : List (Option Reply)) (text : List ℕ) → IsRight ps totals text n → IsRight ps totals text m → n ≡ m
  text_nexts totals n m text (rs, one, is) (qs, two, so) = nexts_one ps totals rs qs n m (sym is ∙ so) one two

  -- the first text is not the one that is wrong
  later : (t : List ℕ) (texts : List (List ℕ)) (first : List (Option Reply)) (k line : ℕ) (w : WrongReply) → (a : IsFirstWrong ps first (t ∷ texts) (suc k) line w) → IsFirstWrong ps a.right.0 texts k line w
  later t texts first k line w a = record { totals = a.totals; right = a.right.2; within = (let lt = a.within in omega (arith, lt)); wrong = a.wrong }

  -- or it is
  here : (t : List ℕ) (texts : List (List ℕ)) (first : List (Option Reply)) (line : ℕ) (w : WrongReply) → IsFirstWrong ps first (t ∷ texts) zero line w → IsWrongAt ps first t line w
  here t texts first line w a = subst (λ (ts : List (Option Reply)). IsWrongAt ps ts t line w) a.right a.wrong

  -- no other line of a text is the first that is wrong
  pub first_one : (texts : List (List ℕ)) (first : List (Option Reply)) (k m line other : ℕ) (v w : WrongReply) → IsFirstWrong ps first texts k line v → IsFirstWrong ps first texts m other w → (k ≡ m) × (line ≡ other) × (v ≡ w)
  first_one [] first k m line other v w a b = let lt = a.within in absurd (omega (arith, lt))
  first_one (t ∷ texts) first zero zero line other v w a b = let both = text_wrong_one first t line other v w (here t texts first line v a) (here t texts first other w b) in (refl, both.0, both.1)
  first_one (t ∷ texts) first zero (suc m) line other v w a b = absurd (text_right first b.right.0 t line v b.right.1 (here t texts first line v a))
  first_one (t ∷ texts) first (suc k) zero line other v w a b = absurd (text_right first a.right.0 t other w a.right.1 (here t texts first other w b))
  first_one (t ∷ texts) first (suc k) (suc m) line other v w a b =
      let same : a.right.0 ≡ b.right.0 = text_nexts first a.right.0 b.right.0 t a.right.1 b.right.1 in
      let rest = first_one texts b.right.0 k m line other v w (subst (λ (ts : List (Option Reply)). IsFirstWrong ps ts texts k line v) same (later t texts first k line v a)) (later t texts first m other w b) in
      (ap suc rest.0, rest.1, rest.2)

  -- and none is where all texts are right
  pub right_none : (texts : List (List ℕ)) (first last : List (Option Reply)) (k line : ℕ) (w : WrongReply) → AreRight ps first texts last → IsFirstWrong ps first texts k line w → ⊥
  right_none [] first last k line w are a = let lt = a.within in omega (arith, lt)
  right_none (t ∷ texts) first last zero line w are a = text_right first are.0 t line w are.1 (here t texts first line w a)
  right_none (t ∷ texts) first last (suc k) line w are a =
      let same : a.right.0 ≡ are.0 = text_nexts first a.right.0 are.0 t a.right.1 are.1 in
      right_none texts are.0 last k line w are.2 (subst (λ (ts : List (Option Reply)). IsFirstWrong ps ts texts k line w) same (later t texts first k line w a))
