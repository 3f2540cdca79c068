-- Homes that lie in one list of steps.
use Rattle.std.proofs.Common.{◌≡◌, ℕ, suc, ◌-◌, ◌<◌, ◌≤◌, List, [], ◌∷◌, ◌++◌, length, get_or, take, drop, All, refl, sym, ap, ap₂, subst, ◌∙◌, length-append, length-drop, arith}
use Rattle.std.proofs.Math.Seq.{drop-append_seam}
use Rattle.std.proofs.lemmas.List.{drop-append-le, take-append-le, take_at, append-nil, append_assoc, map-append, get_or-map}
use Rattle.std.proofs.lemmas.List.Elements.{All-push}
use Rattle.shape_test.specs.Spans.{span_moves, spanned, IsSpan, AreSpans}
use Rattle.shape_test.specs.declared.home.Move.{Move}
use Rattle.shape_test.specs.declared.home_list.Span.{Span}

-- a home is the same where more steps lie behind all
span_more : (moves more : List Move) (s : Span) → IsSpan (length moves) s → span_moves (moves ++ more) s ≡ span_moves moves s
span_more moves more s I =
    let low : s.start ≤ length moves = let a = I.0 in let b = I.1 in omega (arith, a, b) in
    let len = length-drop s.start moves in
    let fit : s.end - s.start ≤ length (drop s.start moves) = let b = I.1 in omega (arith, b, len) in
    ap (take (s.end - s.start)) (drop-append-le s.start moves more low) ∙ take-append-le (s.end - s.start) (drop s.start moves) more fit

-- and so are all
spanned_more : (moves more : List Move) (spans : List Span) → All (IsSpan (length moves)) spans → spanned (moves ++ more) spans ≡ spanned moves spans
spanned_more moves more [] A = refl
spanned_more moves more (s ∷ spans) A =
    ap₂ (λ (h : List Move) (hs : List (List Move)). h ∷ hs) (span_more moves more s (A 0 s (omega arith))) (spanned_more moves more spans (λ k d l. A (suc k) d (omega (arith, l))))

-- more steps behind all change nothing
pub spans_more : (moves more : List Move) (spans : List Span) → AreSpans moves spans → AreSpans (moves ++ more) spans
spans_more moves more spans A = λ k d l. let a = A k d l in let n = length-append moves more in (a.0, let b = a.1 in omega (arith, b, n))

-- the home that was put at the end
last_span : (moves home : List Move) (s : Span) → s.start ≡ length moves → s.end ≡ length (moves ++ home) → span_moves (moves ++ home) s ≡ home
last_span moves home s a b =
    let n = length-append moves home in
    let d : drop s.start (moves ++ home) ≡ home = ap (λ (k : ℕ). drop k (moves ++ home)) a ∙ drop-append_seam moves home in
    let k : length home ≡ s.end - s.start = omega (arith, n, a, b) in
    ap (take (s.end - s.start)) d ∙ (ap (take (s.end - s.start)) (sym (append-nil home)) ∙ take_at home [] (s.end - s.start) k)

module _ (moves home : List Move) (spans : List Span) (s : Span) (A : AreSpans moves spans) (start : s.start ≡ length moves) (end : s.end ≡ length (moves ++ home)) where
  -- a home more
  spanned_push : spanned (moves ++ home) (spans ++ s ∷ []) ≡ spanned moves spans ++ home ∷ []
  spanned_push = map-append (span_moves (moves ++ home)) spans (s ∷ []) ∙ ap₂ (λ (hs : List (List Move)) (h : List Move). hs ++ h ∷ []) (spanned_more moves home spans A) (last_span moves home s start end)

  spans_push : AreSpans (moves ++ home) (spans ++ s ∷ [])
  spans_push = All-push (IsSpan (length (moves ++ home))) spans s (spans_more moves home spans A) (let n = length-append moves home in omega (arith, n, start, end), let e = end in omega (arith, e))

-- Homes lie in steps as they did in fewer, with one more behind them.
pub record HasHomeMore (moves : List Move) (spans : List Span) (home now : List Move) (all : List Span) : Type 0 where
  pub fit : AreSpans now all
  pub put : spanned now all ≡ spanned moves spans ++ home ∷ []

-- a home whose steps and place were put behind all others
pub home_put : (moves home now : List Move) (spans all : List Span) (s : Span) → AreSpans moves spans → now ≡ moves ++ home → all ≡ spans ++ s ∷ [] → s.start ≡ length moves → s.end ≡ length now → HasHomeMore moves spans home now all
home_put moves home now spans all s A steps places start end =
    let past : s.end ≡ length (moves ++ home) = end ∙ ap length steps in
    rw (steps, places) (record { fit = spans_push moves home spans s A start past; put = spanned_push moves home spans s A start past })

-- a home that is there, by its place
span_there : (moves : List Move) (spans : List Span) (i : ℕ) (s : Span) → i < length spans → s ≡ get_or spans i s → span_moves moves s ≡ get_or (spanned moves spans) i []
span_there moves spans i s lt e = ap (span_moves moves) e ∙ sym (get_or-map (span_moves moves) spans i s [] lt)

-- a step and then the steps of a home that is there, behind all
module _ (moves : List Move) (spans : List Span) (i : ℕ) (s : Span) (A : AreSpans moves spans) (lt : i < length spans) (e : s ≡ get_or spans i s) where
  pub lies_there : IsSpan (length moves) s
  lies_there = subst (IsSpan (length moves)) (sym e) (A i s lt)

  pub step_put : (m : Move) → (moves ++ m ∷ []) ++ span_moves (moves ++ m ∷ []) s ≡ moves ++ m ∷ get_or (spanned moves spans) i []
  step_put m = ap (λ (h : List Move). (moves ++ m ∷ []) ++ h) (span_more moves (m ∷ []) s lies_there ∙ span_there moves spans i s lt e) ∙ append_assoc moves (m ∷ []) (get_or (spanned moves spans) i [])
