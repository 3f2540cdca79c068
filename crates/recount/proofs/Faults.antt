-- Replies agree with what was asked, or their first fault is one.
use Rattle.std.proofs.Common.{◌≡◌, ℕ, List, [], ◌∷◌, ◌++◌, length, take, drop, inl, inr, refl, sym, ap, ◌∙◌, subst, append-nil, arith}
use Rattle.std.proofs.Math.Seq.{take-length}
use Rattle.cube_view.specs.Points.{Point}
use Rattle.cube_view.specs.declared.schema.Schema.{Schema}
use Rattle.query_syntax.specs.declared.query.Parsed.{Parsed}
use Rattle.reply_json.specs.Types.{ReplyFits}
use Rattle.reply_json.specs.declared.reply.Reply.{Reply}
use Rattle.session_core.specs.Asked.{reply_line}
use Rattle.session_core.specs.Transcript.{MayCome, replies_text}
use Rattle.recount.specs.Agreement.{MayAnswer, AreAnswers}
use Rattle.recount.specs.Faults.{most_seen, most_told, StaysWithin, BeginsWithReply, ReplyFails, LineFails, RepliesFail, RepliesDiffer}
use Rattle.recount.specs.Verdicts.{RepliesAgree}
use Rattle.recount.specs.declared.verdict.Why.{Why}
use Rattle.recount.specs.declared.verdict.Why.TheVariants.{NotEntry, WrongNumber, TooFew, TooMany, NotReply, PastEnd, Fell, Wrong}
use Rattle.recount.proofs.Fronts.{length_same, all_fit, IsNext, next_is}
use Rattle.recount.proofs.ReplyTexts.{one_line, line_there, answer_printable}
use Rattle.recount.proofs.TwoFronts.{meet}

module _ (schema : Schema) (points : List Point) (seen told : ℕ) where
  -- where something is left to answer and of the text, the next line decides
  line_decides : (left : List Parsed) (p : Parsed) (later : List Parsed) (text : List ℕ) (why : Why) → left ≡ p ∷ later → (text ≡ [] → ⊥) → RepliesFail schema points seen told left text why → LineFails schema points seen told p text why
  line_decides [] p later text why is some fails = cc
  line_decides (q ∷ left) p later [] why is some fails = absurd (some refl)
  line_decides (q ∷ left) p later (byte ∷ text) why is some fails = let same : q ≡ p = cc in subst (λ (x : Parsed). LineFails schema points seen told x (byte ∷ text) why) same fails

  reply_one : (p : Parsed) (r : Reply) (a b : Why) → ReplyFails schema points seen told p r a → ReplyFails schema points seen told p r b → a ≡ b
  reply_one p r PastEnd PastEnd h k = refl
  reply_one p r PastEnd Fell h k = absurd (h k.0)
  reply_one p r PastEnd Wrong h k = absurd (h k.0)
  reply_one p r PastEnd _ h k = absurd k
  reply_one p r Fell PastEnd h k = absurd (k h.0)
  reply_one p r Fell Fell h k = refl
  reply_one p r Fell Wrong h k = absurd (h.1 k.1)
  reply_one p r Fell _ h k = absurd k
  reply_one p r Wrong PastEnd h k = absurd (k h.0)
  reply_one p r Wrong Fell h k = absurd (k.1 h.1)
  reply_one p r Wrong Wrong h k = refl
  reply_one p r Wrong _ h k = absurd k
  reply_one p r NotEntry b h k = absurd h
  reply_one p r WrongNumber b h k = absurd h
  reply_one p r TooFew b h k = absurd h
  reply_one p r TooMany b h k = absurd h
  reply_one p r NotReply b h k = absurd h

  -- a line is no reply's, or is one's of which a test holds
  abbrev HasFault : Parsed → List ℕ → Why → Type 0
  HasFault p text why = (r : Reply) × BeginsWithReply text r × ReplyFails schema points seen told p r why

  same_fault : (p : Parsed) (text : List ℕ) (a b : Why) → HasFault p text a → HasFault p text b → a ≡ b
  same_fault p text a b (r, (pr, (x, ex)), h) (s, (ps, (y, ey)), k) =
      let same : r ≡ s = (one_line r s x y pr.1 ps.1 (sym ex ∙ ey)).0 in
      reply_one p s a b (subst (λ (q : Reply). ReplyFails schema points seen told p q a) same h) k

  line_one : (p : Parsed) (text : List ℕ) (a b : Why) → LineFails schema points seen told p text a → LineFails schema points seen told p text b → a ≡ b
  line_one p text NotReply NotReply h k = refl
  line_one p text NotReply _ h k = absurd (h k.0 k.1)
  line_one p text NotEntry b h k = absurd h.2
  line_one p text WrongNumber b h k = absurd h.2
  line_one p text TooFew b h k = absurd h.2
  line_one p text TooMany b h k = absurd h.2
  line_one p text PastEnd NotReply h k = absurd (k h.0 h.1)
  line_one p text PastEnd b h k = same_fault p text PastEnd b h k
  line_one p text Fell NotReply h k = absurd (k h.0 h.1)
  line_one p text Fell b h k = same_fault p text Fell b h k
  line_one p text Wrong NotReply h k = absurd (k h.0 h.1)
  line_one p text Wrong b h k = same_fault p text Wrong b h k

  one_why : (left : List Parsed) (text : List ℕ) (a b : Why) → RepliesFail schema points seen told left text a → RepliesFail schema points seen told left text b → a ≡ b
  one_why [] [] a b h k = absurd h
  one_why (p ∷ left) [] a b h k = h ∙ sym k
  one_why [] (byte ∷ text) a b h k = h ∙ sym k
  one_why (p ∷ left) (byte ∷ text) a b h k = line_one p (byte ∷ text) a b h k

  -- where nothing is left, no test holds
  none_left : (left : List Parsed) (text : List ℕ) (why : Why) → left ≡ [] → text ≡ [] → RepliesFail schema points seen told left text why → ⊥
  none_left [] [] why is none fails = fails
  none_left (p ∷ left) text why is none fails = cc
  none_left [] (byte ∷ text) why is none fails = cc

module _ (schema : Schema) (points : List Point) where
  line_agrees : (ps : List Parsed) (before : List Reply) (r : Reply) (later text : List ℕ) (why : Why) → (next : IsNext schema points ps before r) → text ≡ reply_line r ++ later → LineFails schema points (most_seen 0 before) (most_told 0 before) next.asks.asked text why → ⊥
  line_agrees ps before r later text NotReply next is none = none r (answer_printable schema points next.asks.asked r next.asks.answer, (later, is))
  line_agrees ps before r later text NotEntry next is fails = fails.2
  line_agrees ps before r later text WrongNumber next is fails = fails.2
  line_agrees ps before r later text TooFew next is fails = fails.2
  line_agrees ps before r later text TooMany next is fails = fails.2
  line_agrees ps before r later text PastEnd next is (s, (printable, (x, begins)), never) =
      let same = (one_line r s later x (answer_printable schema points next.asks.asked r next.asks.answer).1 printable.1 (sym is ∙ begins)).0 in
      never (subst (StaysWithin (length points)) same next.within)
  line_agrees ps before r later text Fell next is (s, (printable, (x, begins)), (within, never)) =
      let same = (one_line r s later x (answer_printable schema points next.asks.asked r next.asks.answer).1 printable.1 (sym is ∙ begins)).0 in
      never (subst (MayCome (most_seen 0 before) (most_told 0 before)) same next.comes)
  line_agrees ps before r later text Wrong next is (s, (printable, (x, begins)), (within, comes, never)) =
      let same = (one_line r s later x (answer_printable schema points next.asks.asked r next.asks.answer).1 printable.1 (sym is ∙ begins)).0 in
      never (subst (MayAnswer schema points next.asks.asked) same next.asks.answer)

  -- a line after which the replies go on to answer is at no fault
  next_agrees : (ps : List Parsed) (before : List Reply) (r : Reply) (more : List Reply) (later text : List ℕ) (why : Why) → AreAnswers schema points (take (length (before ++ r ∷ more)) ps) (before ++ r ∷ more) → text ≡ reply_line r ++ later
      → RepliesFail schema points (most_seen 0 before) (most_told 0 before) (drop (length before) ps) text why → ⊥
  next_agrees ps before r more later text why t is fails =
      let next = next_is schema points ps before r more t in
      line_agrees ps before r later text why next is (line_decides schema points (most_seen 0 before) (most_told 0 before) (drop (length before) ps) next.asks.asked next.asks.later text why next.asks.left (line_there r later text is) fails)

  abbrev Answers : List Parsed → List Reply → Type 0
  Answers ps replies = AreAnswers schema points (take (length replies) ps) replies

  -- all replies answer as many as they are
  all_answer : (ps : List Parsed) (replies : List Reply) → AreAnswers schema points ps replies → Answers ps replies
  all_answer ps replies t =
      let n = length_same schema points ps replies t.each in
      subst (λ (qs : List Parsed). AreAnswers schema points qs replies) (sym (ap (λ k. take k ps) n ∙ take-length ps)) t

  none_after : (ps : List Parsed) (n : ℕ) → n ≡ length ps → drop n ps ≡ []
  none_after [] n is = ap (λ k. drop k []) is
  none_after (p ∷ ps) n is = ap (λ k. drop k (p ∷ ps)) is ∙ none_after ps (length ps) refl

  -- replies that agree are at no fault
  pub agree_or_differ : (ps : List Parsed) (text : List ℕ) (number without place : ℕ) (why : Why) → RepliesAgree schema points ps text number without → RepliesDiffer schema points ps text place why → ⊥
  agree_or_differ ps text number without place why a d =
      elim (meet reply_line ReplyFits one_line d.before a.replies d.rest [] (all_fit schema points (take (length d.before) ps) d.before d.agrees.each) (all_fit schema points ps a.replies a.answers.each) (sym d.front ∙ a.text ∙ sym (append-nil (replies_text a.replies)))) [
        | inl (same, none) ↦
            let n : length d.before ≡ length ps = ap length same ∙ length_same schema points ps a.replies a.answers.each in
            none_left schema points (most_seen 0 d.before) (most_told 0 d.before) (drop (length d.before) ps) d.rest why (none_after ps (length d.before) n) none d.fails
        | inr (inl g) ↦ next_agrees ps d.before g.item g.more g.later d.rest why (subst (Answers ps) g.list (all_answer ps a.replies a.answers)) g.text d.fails
        | inr (inr g) ↦ line_there g.item g.later [] g.text refl
      ]

  -- replies are at one first fault
  pub one_difference : (ps : List Parsed) (text : List ℕ) (place other : ℕ) (why cause : Why) → RepliesDiffer schema points ps text place why → RepliesDiffer schema points ps text other cause → (place ≡ other) × (why ≡ cause)
  one_difference ps text place other why cause d c =
      elim (meet reply_line ReplyFits one_line d.before c.before d.rest c.rest (all_fit schema points (take (length d.before) ps) d.before d.agrees.each) (all_fit schema points (take (length c.before) ps) c.before c.agrees.each) (sym d.front ∙ c.front)) [
        | inl (same, rest) ↦
            let k : length d.before ≡ length c.before = ap length same in
            let moved : RepliesFail schema points (most_seen 0 c.before) (most_told 0 c.before) (drop (length c.before) ps) d.rest why = subst (λ (l : List Reply). RepliesFail schema points (most_seen 0 l) (most_told 0 l) (drop (length l) ps) d.rest why) same d.fails in
            let again : RepliesFail schema points (most_seen 0 c.before) (most_told 0 c.before) (drop (length c.before) ps) c.rest why = subst (λ (t : List ℕ). RepliesFail schema points (most_seen 0 c.before) (most_told 0 c.before) (drop (length c.before) ps) t why) rest moved in
            (let l = d.counted in let m = c.counted in omega (arith, k, l, m), one_why schema points (most_seen 0 c.before) (most_told 0 c.before) (drop (length c.before) ps) c.rest why cause again c.fails)
        | inr (inl g) ↦ absurd (next_agrees ps d.before g.item g.more g.later d.rest why (subst (Answers ps) g.list c.agrees) g.text d.fails)
        | inr (inr g) ↦ absurd (next_agrees ps c.before g.item g.more g.later c.rest cause (subst (Answers ps) g.list d.agrees) g.text c.fails)
      ]

  -- replies that agree are one list
  pub one_list : (ps : List Parsed) (text : List ℕ) (number without other lacks : ℕ) → (a : RepliesAgree schema points ps text number without) → (b : RepliesAgree schema points ps text other lacks) → a.replies ≡ b.replies
  one_list ps text number without other lacks a b =
      elim (meet reply_line ReplyFits one_line a.replies b.replies [] [] (all_fit schema points ps a.replies a.answers.each) (all_fit schema points ps b.replies b.answers.each) (ap (λ t. t ++ []) (sym a.text ∙ b.text))) [
        | inl (same, none) ↦ same
        | inr (inl g) ↦ absurd (line_there g.item g.later [] g.text refl)
        | inr (inr g) ↦ absurd (line_there g.item g.later [] g.text refl)
      ]
