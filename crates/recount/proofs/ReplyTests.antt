-- Replies, tested one after another.
use Rattle.std.proofs.Common.{◌≡◌, ◌≢◌, ℕ, suc, ◌+◌, ◌≤◌, ◌<◌, max, List, [], ◌∷◌, ◌++◌, length, get_or, take, drop, refl, sym, ap, ◌∙◌, subst, append-nil, append_assoc, length-append, arith}
use Rattle.std.proofs.Math.Seq.{take-length, drop-cons}
use Rattle.std.proofs.lemmas.Grind.{flat_map-append}
use Rattle.std.proofs.lemmas.List.{take_more}
use Rattle.cube_view.specs.Points.{Point}
use Rattle.cube_view.specs.declared.schema.Schema.{Schema}
use Rattle.query_syntax.specs.declared.query.Parsed.{Parsed}
use Rattle.reply_json.specs.declared.reply.Reply.{Reply}
use Rattle.session_core.specs.Asked.{reply_line}
use Rattle.session_core.specs.Transcript.{MayCome, seen_in, told_in, replies_text}
use Rattle.recount.specs.Agreement.{MayAnswer, AreAnswers}
use Rattle.recount.specs.Comparing.{ReplyPasses}
use Rattle.recount.specs.Counting.{lacking, count_lacking}
use Rattle.recount.specs.Faults.{most_seen, most_told, LineFails, RepliesFail, RepliesDiffer}
use Rattle.recount.specs.Verdicts.{RepliesAgree}
use Rattle.recount.specs.declared.testing.Marks.{Marks}
use Rattle.recount.specs.declared.verdict.Why.{Why}
use Rattle.recount.specs.declared.verdict.Why.TheVariants.{TooMany}
use Rattle.recount.proofs.Fronts.{answers_none, answers_push, most_seen-push, most_told-push, count_lacking-push}

one_at_most : (r : Reply) → lacking r ≤ 1
one_at_most (Reply.Table table) = omega arith
one_at_most (Reply.Stat stat seen) = omega arith
one_at_most (Reply.Told told) = omega arith
one_at_most (Reply.Fault fault word) = omega arith
one_at_most Reply.NoMemory = omega arith

module _ (schema : Schema) (points : List Point) (seen told : ℕ) where
  -- the next line decides where something is left to answer
  fails_next : (left : List Parsed) (p : Parsed) (later : List Parsed) (rest : List ℕ) (why : Why) → left ≡ p ∷ later → rest ≢ [] → LineFails schema points seen told p rest why → RepliesFail schema points seen told left rest why
  fails_next [] p later rest why is some fails = cc
  fails_next (q ∷ left) p later [] why is some fails = absurd (some refl)
  fails_next (q ∷ left) p later (byte ∷ rest) why is some fails = let same : p ≡ q = cc in subst (λ (x : Parsed). LineFails schema points seen told x (byte ∷ rest) why) same fails

  fails_many : (left : List Parsed) (rest : List ℕ) → left ≡ [] → rest ≢ [] → RepliesFail schema points seen told left rest TooMany
  fails_many [] [] is some = absurd (some refl)
  fails_many [] (byte ∷ rest) is some = refl
  fails_many (q ∷ left) rest is some = cc

drop_whole : {A : Type 0} (l : List A) → drop (length l) l ≡ []
drop_whole [] = refl
drop_whole (x ∷ l) = drop_whole l

module _ (schema : Schema) (points : List Point) (ps : List Parsed) (text : List ℕ) where
  -- What was tested so far
  pub record Audited (marks : Marks) (rest : List ℕ) (without i : ℕ) : Type 0 where
    pub before : List Reply
    pub many : length before ≡ i
    pub answers : AreAnswers schema points (take i ps) before
    pub front : text ≡ replies_text before ++ rest
    pub seen : marks.seen ≡ most_seen 0 before
    pub told : marks.told ≡ most_told 0 before
    pub lacks : without ≡ count_lacking before
    pub few : without ≤ i

  pub audited_none : (marks : Marks) → marks.seen ≡ 0 → marks.told ≡ 0 → Audited marks text 0 0
  audited_none marks seen told = record {
    before = [];
    many = refl;
    answers = answers_none schema points;
    front = refl;
    seen = seen;
    told = told;
    lacks = refl;
    few = omega arith;
  }

  pub audited_next : (marks after : Marks) (rest later : List ℕ) (without lacks i : ℕ) (p : Parsed) (r : Reply) → Audited marks rest without i → i < length ps → p ≡ get_or ps i p → rest ≡ reply_line r ++ later → ReplyPasses schema points marks after p r → lacks ≡ lacking r → Audited after later (without + lacks) (i + 1)
  audited_next marks after rest later without lacks i p r a within is begins passes lack =
      let answer : MayAnswer schema points p r = passes.answer in
      let comes : MayCome (most_seen 0 a.before) (most_told 0 a.before) r = subst (λ s. MayCome s (most_told 0 a.before) r) a.seen (subst (λ t. MayCome marks.seen t r) a.told passes.comes.1) in
      let more : take (i + 1) ps ≡ take i ps ++ p ∷ [] = take_more ps i p within ∙ ap (λ (x : Parsed). take i ps ++ x ∷ []) (sym is) in
      record {
        before = a.before ++ r ∷ [];
        many = let l = length-append a.before (r ∷ []) in let m = a.many in omega (arith, l, m);
        answers = subst (λ (l : List Parsed). AreAnswers schema points l (a.before ++ r ∷ [])) (sym more) (answers_push schema points (take i ps) p a.before r a.answers answer comes);
        front =
            a.front ∙ ap (λ t. replies_text a.before ++ t) begins
            ∙ sym (append_assoc (replies_text a.before) (reply_line r) later)
            ∙ ap (λ t. t ++ later) (ap (λ t. replies_text a.before ++ t) (sym (append-nil (reply_line r))) ∙ sym (flat_map-append reply_line a.before (r ∷ [])));
        seen = passes.seen ∙ ap (λ s. max s (seen_in r)) a.seen ∙ sym (most_seen-push 0 a.before r);
        told = passes.told ∙ ap (λ t. max t (told_in r)) a.told ∙ sym (most_told-push 0 a.before r);
        lacks = (λ j. a.lacks j + lack j) ∙ sym (count_lacking-push a.before r);
        few = let f = a.few in let o = one_at_most r in omega (arith, f, o, lack);
      }

  left_is : (i n : ℕ) (p : Parsed) → i < length ps → p ≡ get_or ps i p → n ≡ i → drop n ps ≡ p ∷ drop (suc i) ps
  left_is i n p within is same = ap (λ k. drop k ps) same ∙ drop-cons ps i p within ∙ ap (λ (x : Parsed). x ∷ drop (suc i) ps) (sym is)

  differs : (marks : Marks) (rest : List ℕ) (without i : ℕ) (why : Why) → (a : Audited marks rest without i) → RepliesFail schema points (most_seen 0 a.before) (most_told 0 a.before) (drop (length a.before) ps) rest why → RepliesDiffer schema points ps text (i + 1) why
  differs marks rest without i why a fails = record {
    before = a.before;
    rest = rest;
    front = a.front;
    agrees = subst (λ n. AreAnswers schema points (take n ps) a.before) (sym a.many) a.answers;
    counted = ap (λ n. n + 1) (sym a.many);
    fails = fails;
  }

  pub audited_fails : (marks : Marks) (rest : List ℕ) (without i : ℕ) (p : Parsed) (why : Why) → Audited marks rest without i → i < length ps → p ≡ get_or ps i p → rest ≢ [] → LineFails schema points marks.seen marks.told p rest why → RepliesDiffer schema points ps text (i + 1) why
  audited_fails marks rest without i p why a within is some fails =
      let moved : LineFails schema points (most_seen 0 a.before) (most_told 0 a.before) p rest why =
      subst (λ s. LineFails schema points s (most_told 0 a.before) p rest why) a.seen (subst (λ t. LineFails schema points marks.seen t p rest why) a.told fails) in
      differs marks rest without i why a
      (fails_next schema points (most_seen 0 a.before) (most_told 0 a.before) (drop (length a.before) ps) p (drop (suc i) ps) rest why (left_is i (length a.before) p within is a.many) some moved)

  pub audited_many : (marks : Marks) (rest : List ℕ) (without i : ℕ) → Audited marks rest without i → i ≡ length ps → rest ≢ [] → RepliesDiffer schema points ps text (i + 1) TooMany
  audited_many marks rest without i a all some = differs marks rest without i TooMany a
      (fails_many schema points (most_seen 0 a.before) (most_told 0 a.before) (drop (length a.before) ps) rest (ap (λ n. drop n ps) (a.many ∙ all) ∙ drop_whole ps) some)

  pub audited_all : (marks : Marks) (rest : List ℕ) (without i : ℕ) → Audited marks rest without i → i ≡ length ps → rest ≡ [] → RepliesAgree schema points ps text i without
  audited_all marks rest without i a all none = record {
    replies = a.before;
    answers = subst (λ (l : List Parsed). AreAnswers schema points l a.before) (ap (λ n. take n ps) all ∙ take-length ps) a.answers;
    text = a.front ∙ ap (λ t. replies_text a.before ++ t) none ∙ append-nil (replies_text a.before);
    counted = sym a.many;
    lacked = a.lacks;
  }
