-- The exchange that adds a note keeps the rule of the book.
use Rattle.std.proofs.Common.{◌≡◌, ℕ, ◌+◌, ◌<◌, ◌==◌, Bool, true, false, List, [], ◌∷◌, ◌++◌, length, refl, ap, sym, ◌∙◌, subst, MatchBool, arith, inl, length-append, None}
use Rattle.std.proofs.lemmas.List.{append-nil}
use Rattle.std.proofs.lemmas.Bool.Decides.{nat_tests}
use mathlib.Core.List.{IsPrefix as IsFront}
use prog.Atomic.{either}
use Rattle.logbook.specs.Pages.{Cell, cell, keeps, no_nib, step, Moves, Goes}
use Rattle.cube_view.specs.Points.{Point}
use Rattle.published_pair.specs.declared.note.Note.{Note}
use Rattle.published_pair.specs.Notes.{open_of, EndsOnce}
use Rattle.published_pair.specs.Rules.{IsKept, AddsNote}
use Rattle.published_pair.proofs.Prefixes.{prefix_of, prefix_whole}
use Rattle.published_pair.proofs.Histories.{ends_once}

abbrev shown : List Note → List Note
shown log = []

abbrev moved : List Note → List Note → ℕ → Type 0
moved xs ys n = Unit {0}

adds_goes : (log v : List Note) (e : Note) (bs : List (List Point)) (old : ℕ) → v ≡ open_of bs → EndsOnce log → length v ≡ old → IsFront v log → (b : Bool) → (length log == old) ≡ b
    → Goes IsKept shown moved 0 (v, (no_nib, None)) (λ n. either (n == old) (old + 1) n) (AddsNote (step 0 old (old + 1) e) (v, (no_nib, None))) ((length log, true) ∷ (0, true) ∷ []) log
adds_goes log v e bs old opens once len pre true is =
    let here : length log ≡ old = grind (arith, nat_tests) in
    let same : v ≡ log = prefix_whole v log (prefix_of v log pre) (omega arith) in
    let last : EndsOnce (log ++ e ∷ []) = subst (λ (w : List Note). EndsOnce (w ++ e ∷ [])) (sym opens ∙ same) (ends_once bs e) in
    let n : either (length log == old) (old + 1) (length log) ≡ length (log ++ e ∷ []) = rw is (omega (arith, length-append log (e ∷ []))) in (
      keeps,
      e ∷ [],
      None,
      tt,
      record { words = ap (λ (k : ℕ). (k, true) ∷ (0, true) ∷ []) n; ends = last },
      inl (refl, refl),
      rw is (ap (λ w. w ++ e ∷ []) (sym same)),
    )
adds_goes log v e bs old opens once len pre false is =
    let all : log ++ [] ≡ log = append-nil log in
    let n : either (length log == old) (old + 1) (length log) ≡ length (log ++ []) = rw is (ap length (sym all)) in (
      keeps,
      [],
      None,
      tt,
      record { words = ap (λ (k : ℕ). (k, true) ∷ (0, true) ∷ []) n; ends = subst EndsOnce (sym all) once },
      inl (refl, refl),
      rw is (ap length all),
    )

-- whatever the book is, the exchange adds the note to all that was seen, or finds that the history is longer
pub adds_moves : (v : List Note) (e : Note) (bs : List (List Point)) (old : ℕ) → v ≡ open_of bs → length v ≡ old
    → Moves IsKept shown moved 0 (v, (no_nib, None)) (λ n. either (n == old) (old + 1) n) (AddsNote (step 0 old (old + 1) e) (v, (no_nib, None)))
adds_moves v e bs old opens len cs log kept pre away =
    let P : List Cell → Type 0 = λ c. (0 < length c) × ((cell c 0).1 ≡ true) × Goes IsKept shown moved 0 (v, (no_nib, None)) (λ n. either (n == old) (old + 1) n) (AddsNote (step 0 old (old + 1) e) (v, (no_nib, None))) c log in
    subst P (sym kept.words) (omega arith, refl, adds_goes log v e bs old opens kept.ends len pre (length log == old) refl)

-- the exchange that found the length that it expected added the note
pub was_added : (found old : ℕ) (log v : List Note) (e : Note) → found ≡ old → MatchBool (found == old) (log ≡ v ++ e ∷ []) (length log ≡ found) → log ≡ v ++ e ∷ []
was_added found old log v e same told = subst (λ (b : Bool). MatchBool b (log ≡ v ++ e ∷ []) (length log ≡ found)) (let t : (found == old) ≡ true = grind (arith, nat_tests) in t) told
