-- Replies that answer the first of what was asked, one after another.
use Rattle.std.proofs.Common.{◌≡◌, ℕ, suc, ◌+◌, max, true, false, List, [], ◌∷◌, ◌++◌, length, take, drop, refl, ap, arith}
use Rattle.cube_view.specs.Points.{Point}
use Rattle.cube_view.specs.declared.schema.Schema.{Schema}
use Rattle.query_syntax.specs.declared.query.Parsed.{Parsed}
use Rattle.reply_json.specs.Types.{ReplyFits}
use Rattle.reply_json.specs.declared.reply.Reply.{Reply}
use Rattle.session_core.specs.Transcript.{seen_in, told_in, MayCome, NeverFalls, AllAnswered}
use Rattle.session_core.proofs.Transcripts.{all_append, answer_seen}
use Rattle.recount.specs.Agreement.{IsCubeStat, MayAnswer, AreAnswers}
use Rattle.recount.specs.Counting.{lacking, count_lacking}
use Rattle.recount.specs.Faults.{most_seen, most_told, StaysWithin}
use Rattle.recount.proofs.ReplyTexts.{answer_printable}
use Rattle.recount.proofs.TwoFronts.{Each}

-- the greatest numbers, with one reply more
pub most_seen-push : (s : ℕ) (before : List Reply) (r : Reply) → most_seen s (before ++ r ∷ []) ≡ max (most_seen s before) (seen_in r)
most_seen-push s [] r = refl
most_seen-push s (b ∷ before) r = most_seen-push (max s (seen_in b)) before r

pub most_told-push : (t : ℕ) (before : List Reply) (r : Reply) → most_told t (before ++ r ∷ []) ≡ max (most_told t before) (told_in r)
most_told-push t [] r = refl
most_told-push t (b ∷ before) r = most_told-push (max t (told_in b)) before r

pub count_lacking-push : (before : List Reply) (r : Reply) → count_lacking (before ++ r ∷ []) ≡ count_lacking before + lacking r
count_lacking-push [] r = omega arith
count_lacking-push (b ∷ before) r = let h = count_lacking-push before r in omega (arith, h)

-- no number falls with one reply more that may come
falls_push : (s t : ℕ) (before : List Reply) (r : Reply) → NeverFalls s t before → MayCome (most_seen s before) (most_told t before) r → NeverFalls s t (before ++ r ∷ [])
falls_push s t [] r order next = (next, tt)
falls_push s t (b ∷ before) r order next = (order.0, falls_push (max s (seen_in b)) (max t (told_in b)) before r order.1 next)

-- each reply came after those before it
comes_at : (s t : ℕ) (before : List Reply) (r : Reply) (more : List Reply) → NeverFalls s t (before ++ r ∷ more) → MayCome (most_seen s before) (most_told t before) r
comes_at s t [] r more order = order.0
comes_at s t (b ∷ before) r more order = comes_at (max s (seen_in b)) (max t (told_in b)) before r more order.1

module _ (schema : Schema) (points : List Point) where
  abbrev pub AllAnswer : List Parsed → List Reply → Type 0
  AllAnswer ps replies = AllAnswered schema IsCubeStat false points (length points) true ps replies

  -- there are as many as were asked
  pub length_same : (ps : List Parsed) (replies : List Reply) → AllAnswer ps replies → length replies ≡ length ps
  length_same [] [] all = refl
  length_same [] (r ∷ replies) all = absurd all
  length_same (p ∷ ps) [] all = absurd all
  length_same (p ∷ ps) (r ∷ replies) all = ap suc (length_same ps replies all.1)

  -- and each is a reply of a program
  pub all_fit : (ps : List Parsed) (replies : List Reply) → AllAnswer ps replies → Each ReplyFits replies
  all_fit [] [] all = tt
  all_fit [] (r ∷ replies) all = absurd all
  all_fit (p ∷ ps) [] all = absurd all
  all_fit (p ∷ ps) (r ∷ replies) all = ((answer_printable schema points p r all.0).1, all_fit ps replies all.1)

  -- what is left to answer where these replies came before and one more comes
  pub record AsksNext (ps : List Parsed) (before : List Reply) (r : Reply) : Type 0 where
    pub asked : Parsed
    pub later : List Parsed
    pub left : drop (length before) ps ≡ asked ∷ later
    pub answer : MayAnswer schema points asked r

  -- each reply answers what was asked in its place
  answered_at : (ps : List Parsed) (before : List Reply) (r : Reply) (more : List Reply) → AllAnswer (take (length (before ++ r ∷ more)) ps) (before ++ r ∷ more) → AsksNext ps before r
  answered_at [] [] r more all = absurd all
  answered_at (p ∷ ps) [] r more all = record { asked = p; later = ps; left = refl; answer = all.0 }
  answered_at [] (b ∷ before) r more all = absurd all
  answered_at (p ∷ ps) (b ∷ before) r more all =
      let next = answered_at ps before r more all.1 in
      record { asked = next.asked; later = next.later; left = next.left; answer = next.answer }

  -- what holds of a reply after others, with more to come
  pub record IsNext (ps : List Parsed) (before : List Reply) (r : Reply) : Type 0 where
    pub asks : AsksNext ps before r
    pub comes : MayCome (most_seen 0 before) (most_told 0 before) r
    pub within : StaysWithin (length points) r

  pub next_is : (ps : List Parsed) (before : List Reply) (r : Reply) (more : List Reply) → AreAnswers schema points (take (length (before ++ r ∷ more)) ps) (before ++ r ∷ more) → IsNext ps before r
  next_is ps before r more t =
      let asks = answered_at ps before r more t.each in
      record { asks = asks; comes = comes_at 0 0 before r more t.order; within = answer_seen schema IsCubeStat true false points (length points) asks.asked r asks.answer }

  -- no replies answer nothing
  pub answers_none : AreAnswers schema points [] []
  answers_none = record { each = tt; order = tt }

  -- one more reply that answers what is asked in its place
  pub answers_push : (ps : List Parsed) (p : Parsed) (before : List Reply) (r : Reply) → AreAnswers schema points ps before → MayAnswer schema points p r → MayCome (most_seen 0 before) (most_told 0 before) r → AreAnswers schema points (ps ++ p ∷ []) (before ++ r ∷ [])
  answers_push ps p before r t answer comes = record {
    each = all_append schema IsCubeStat true false points (length points) ps (p ∷ []) before (r ∷ []) t.each (answer, tt);
    order = falls_push 0 0 before r t.order comes;
  }
