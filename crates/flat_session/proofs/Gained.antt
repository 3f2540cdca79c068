-- Answers that a sink gains, one after another.
use Rattle.std.proofs.Common.{◌≡◌, ℕ, Bool, true, List, [], ◌∷◌, ◌++◌, Option, Result, Ok, Err, IsErrOf, inl, inr, refl, sym, ◌∙◌, ap, subst, append-nil}
use Rattle.std.specs.List.{AllZip, flat_map}
use Rattle.std.specs.Result.{IsErrAnd}
use Rattle.std.proofs.lemmas.Grind.{flat_map-append}
use Rattle.outer_io.proofs.GainedLaws.{gains_none, gains_on, part_on, part_whole}
use Rattle.outer_io.specs.Bytes.{Gains, GainsPart}
use Rattle.query_syntax.specs.declared.query.Parsed.{Parsed}
use Rattle.reply_json.specs.Printed.{reply_text}
use Rattle.reply_json.specs.declared.reply.Reply.{Reply}
use Rattle.session_core.proofs.AskedLaws.{asked_then-reply, reply-goes_on}
use Rattle.session_core.specs.Asked.{asked_then, asks_reply, asks_to_end, reply_line}
use Rattle.session_core.specs.declared.fault.SessionFault.{SessionFault}
use Rattle.session_core.specs.declared.fault.SessionFault.TheVariants as fault
use Rattle.session_core.specs.declared.serving.Served.{Served}
use Rattle.session_core.specs.declared.serving.Served.TheVariants as served
use Rattle.flat_session.specs.Answers.{FlatBasis, ServesFlat}
use Rattle.flat_session.specs.Putting.{IsAnswerLine, PutsAnswers, PutsAnswersPart, PutsOneAnswer, PutsOnePart}

-- a write fault that is passed on was one
pub wrote : {T U : Type 0} (f : SessionFault) (r : Result T SessionFault) → IsErrOf r fault.Write → IsErrAnd r (λ e. e ≡ f) → IsErrOf {T = U} {E = SessionFault} (Err f) fault.Write
wrote f (Ok x) bad is = absurd is
wrote f (Err e) bad is = cc

lack_line : reply_line Reply.NoMemory ≡ reply_text Reply.NoMemory ++ 10 ∷ []
unfolding reply_line
lack_line = refl

zip_append : {A B : Type 0} (R : A → B → Type 0) (xs ys : List A) (us vs : List B) → AllZip R xs us → AllZip R ys vs → AllZip R (xs ++ ys) (us ++ vs)
zip_append R [] ys [] vs p q = q
zip_append R [] ys (u ∷ us) vs p q = absurd p
zip_append R (x ∷ xs) ys [] vs p q = absurd p
zip_append R (x ∷ xs) ys (u ∷ us) vs p q = (p.0, zip_append R xs ys us vs p.1 q)

pub zip_weaker : {A B : Type 0} (R Q : A → B → Type 0) → ((x : A) (y : B) → R x y → Q x y) → (xs : List A) (ys : List B) → AllZip R xs ys → AllZip Q xs ys
zip_weaker R Q f [] [] p = tt
zip_weaker R Q f [] (y ∷ ys) p = absurd p
zip_weaker R Q f (x ∷ xs) [] p = absurd p
zip_weaker R Q f (x ∷ xs) (y ∷ ys) p = (f x y p.0, zip_weaker R Q f xs ys p.1)

-- the bytes of lines
abbrev joined : List (List ℕ) → List ℕ
joined answers = flat_map (λ line. line) answers

module _ (of : FlatBasis) where
  -- where no answer may be the line for want of memory, one may be
  module _ (l m : Bool) (may : l ≡ true → m ≡ true) (a b : Option (List ℕ)) (ps : List Parsed) where
    weaker : (p : Parsed) (line : List ℕ) → IsAnswerLine of l p line → IsAnswerLine of m p line
    weaker p line (inl is) = inl is
    weaker p line (inr lacks) = inr (may lacks.0, lacks.1)

    pub puts_lacking : PutsAnswers of l a b ps → PutsAnswers of m a b ps
    puts_lacking (answers, each, gained) = (answers, zip_weaker (IsAnswerLine of l) (IsAnswerLine of m) weaker ps answers each, gained)

    pub part_lacking : PutsAnswersPart of l a b ps → PutsAnswersPart of m a b ps
    part_lacking (answers, each, gained) = (answers, zip_weaker (IsAnswerLine of l) (IsAnswerLine of m) weaker ps answers each, gained)

  module _ (m : Bool) where
    -- no answers
    pub puts_none : (a : Option (List ℕ)) → PutsAnswers of m a a []
    puts_none a = ([], tt, gains_none a)

    -- answers, and further ones
    pub puts_on : (a b c : Option (List ℕ)) (ps qs : List Parsed) → PutsAnswers of m a b ps → PutsAnswers of m b c qs → PutsAnswers of m a c (ps ++ qs)
    puts_on a b c ps qs (xs, first, gained) (ys, next, more) =
        (xs ++ ys, zip_append (IsAnswerLine of m) ps qs xs ys first next, subst (Gains a c) (sym (flat_map-append (λ line. line) xs ys)) (gains_on a b c (joined xs) (joined ys) gained more))

    -- answers, and a part of further ones
    pub part_more : (a b c : Option (List ℕ)) (ps qs : List Parsed) → PutsAnswers of m a b ps → PutsAnswersPart of m b c qs → PutsAnswersPart of m a c (ps ++ qs)
    part_more a b c ps qs (xs, first, gained) (ys, next, some) =
        (xs ++ ys, zip_append (IsAnswerLine of m) ps qs xs ys first next, subst (GainsPart a c) (ap (λ t. joined xs ++ t) (append-nil (joined ys)) ∙ sym (flat_map-append (λ line. line) xs ys)) (part_on a b c (joined xs) (joined ys) [] gained some))

    -- all of them are a part
    pub part_all : (a b : Option (List ℕ)) (ps : List Parsed) → PutsAnswers of m a b ps → PutsAnswersPart of m a b ps
    part_all a b ps (xs, each, gained) = (xs, each, subst (GainsPart a b) (append-nil (joined xs)) (part_whole a b (joined xs) [] gained))

    -- the answer to one line that asks for a reply
    one_line : (p : Parsed) (line : List ℕ) → asks_reply p ≡ true → IsAnswerLine of m p line → AllZip (IsAnswerLine of m) (asked_then p []) (line ∷ [])
    one_line p line asks is = subst (λ (ps : List Parsed). AllZip (IsAnswerLine of m) ps (line ∷ [])) (sym (asked_then-reply p asks)) (is, tt)

    puts_one : (a b : Option (List ℕ)) (p : Parsed) (line text : List ℕ) → asks_reply p ≡ true → IsAnswerLine of m p line → text ≡ line → Gains a b text → PutsOneAnswer of m a b p
    puts_one a b p line text asks is same gained = (reply-goes_on p asks, (line ∷ [], one_line p line asks is, subst (Gains a b) (same ∙ sym (append-nil line)) gained))

    part_one : (a b : Option (List ℕ)) (p : Parsed) (line text : List ℕ) → asks_reply p ≡ true → IsAnswerLine of m p line → text ≡ line → GainsPart a b text → PutsOnePart of m a b p
    part_one a b p line text asks is same gained = (reply-goes_on p asks, (line ∷ [], one_line p line asks is, subst (GainsPart a b) (same ∙ sym (append-nil line)) gained))

    -- what is put for a line that is served
    pub skipped_puts : (a : Option (List ℕ)) (p : Parsed) (s : Served) → s ≡ served.Skipped → ServesFlat of p s → PutsOneAnswer of m a a p
    skipped_puts a p s is serves = subst (PutsOneAnswer of m a a) (sym (subst (ServesFlat of p) is serves)) (refl, puts_none a)

    pub reply_puts : (a b : Option (List ℕ)) (p : Parsed) (s : Served) (line text : List ℕ) → s ≡ served.Reply line → ServesFlat of p s → text ≡ line → Gains a b text → PutsOneAnswer of m a b p
    reply_puts a b p s line text is serves same gained = let it = subst (ServesFlat of p) is serves in puts_one a b p line text it.0 (inl it.1) same gained

    pub reply_part : (a b : Option (List ℕ)) (p : Parsed) (s : Served) (line text : List ℕ) → s ≡ served.Reply line → ServesFlat of p s → text ≡ line → GainsPart a b text → PutsOnePart of m a b p
    reply_part a b p s line text is serves same gained = let it = subst (ServesFlat of p) is serves in part_one a b p line text it.0 (inl it.1) same gained

  pub quit_served : (p : Parsed) (s : Served) → s ≡ served.Quit → ServesFlat of p s → asks_to_end p ≡ true
  quit_served p s is serves = subst (ServesFlat of p) is serves

  -- where a reply may lack memory, the line that says so answers what asks for one
  module _ (p : Parsed) (asks : asks_reply p ≡ true) (a b : Option (List ℕ)) (text bytes : List ℕ) (same : text ≡ bytes) (is : bytes ≡ reply_text Reply.NoMemory ++ 10 ∷ []) where
    pub lack_puts : Gains a b text → PutsOneAnswer of true a b p
    lack_puts gained = puts_one true a b p (reply_line Reply.NoMemory) text asks (inr (refl, refl)) (same ∙ is ∙ sym lack_line) gained

    pub lack_part : GainsPart a b text → PutsOnePart of true a b p
    lack_part gained = part_one true a b p (reply_line Reply.NoMemory) text asks (inr (refl, refl)) (same ∙ is ∙ sym lack_line) gained
