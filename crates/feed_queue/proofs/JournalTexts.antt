-- Texts of journals: their lines, one after the other.
use Rattle.std.proofs.Common.{◌≡◌, ℕ, List, [], ◌∷◌, ◌++◌, Some, None, sym, refl, ap, ◌∙◌, append_assoc, arith}
use Rattle.std.proofs.lemmas.List.{append-nil}
use Rattle.std.proofs.lemmas.List.Elements.{All-tail}
use Rattle.std.proofs.lemmas.Option.{same_Some}
use Rattle.cube_view.specs.declared.schema.Schema.{Schema}
use Rattle.feed_queue.specs.Journal.{entry_text, entry_line, journal_text, IsEntryOf, LinesArePrefixFree, JournalsAreOfOne}
use Rattle.feed_queue.specs.NumberReading.{ReadSoFar, after_byte, read_on, numbers_read, line_numbers, entry_of_numbers}
use Rattle.feed_queue.proofs.EntryNumbers.{entry_again}
use Rattle.feed_queue.proofs.JournalLines.{line_is}
use Rattle.feed_queue.proofs.NumberLines.{read_none, none_some}
use Rattle.world_core.specs.declared.entry.Entry.{Entry}
use Rattle.world_core.proofs.Lists.{cons-parts}

-- no line of numbers goes on over a line feed
feed_stops : (s : ReadSoFar) (b : ℕ) (line : List ℕ) → 10 ≡ b → read_on s (b ∷ line) ≡ None
feed_stops None b line is = refl
feed_stops (Some (numbers, None)) b line is = ap (λ x. read_on (Some (numbers, None)) (x ∷ line)) (sym is) ∙ read_none line
feed_stops (Some (numbers, Some n)) b line is = ap (λ x. read_on (Some (numbers, Some n)) (x ∷ line)) (sym is) ∙ read_none line

-- where a text begins with two lines of numbers, each with its line feed, they are one
first_line : (s : ReadSoFar) (a b x y : List ℕ) → (read_on s a ≡ None → ⊥) → (read_on s b ≡ None → ⊥) → a ++ (10 ∷ x) ≡ b ++ (10 ∷ y) → (a ≡ b) × (x ≡ y)
first_line s [] [] x y whole other e = (refl, (cons-parts 10 10 x y e).1)
first_line s [] (c ∷ b) x y whole other e = absurd (other (feed_stops s c b (cons-parts 10 c x (b ++ (10 ∷ y)) e).0))
first_line s (c ∷ a) [] x y whole other e = absurd (whole (feed_stops s c a (sym (cons-parts c 10 (a ++ (10 ∷ x)) y e).0)))
first_line None (c ∷ a) (d ∷ b) x y whole other e = absurd (whole refl)
first_line (Some (numbers, number)) (c ∷ a) (d ∷ b) x y whole other e =
    let heads = cons-parts c d (a ++ (10 ∷ x)) (b ++ (10 ∷ y)) e in
    let rest = first_line (after_byte numbers number c) a b x y whole (λ none. other (ap (λ k. read_on (Some (numbers, number)) (k ∷ b)) (sym heads.0) ∙ none)) heads.1 in
    ((λ i. heads.0 i ∷ rest.0 i), rest.1)

not_none : (line numbers : List ℕ) → line_numbers line ≡ Some numbers → read_on (Some ([], None)) line ≡ None → ⊥
not_none line numbers read none = none_some numbers (sym (ap numbers_read none) ∙ read)

module _ (schema : Schema) where
  -- entries of one line are one
  same_text : (a b : Entry) → IsEntryOf schema a → IsEntryOf schema b → entry_text schema a ≡ entry_text schema b → a ≡ b
  same_text a b is isb e =
      let left = line_is schema (entry_text schema a) a is refl in
      let right = line_is schema (entry_text schema a) b isb e in
      sym (entry_again schema a is) ∙ ap (entry_of_numbers schema) (same_Some _ _ (sym left ∙ right)) ∙ entry_again schema b isb

  -- so are entries whose lines stand at the front of one text, and what follows is the same
  fronts : (a b : Entry) (x y : List ℕ) → IsEntryOf schema a → IsEntryOf schema b → entry_line schema a ++ x ≡ entry_line schema b ++ y → (a ≡ b) × (x ≡ y)
  fronts a b x y is isb e =
      let left = line_is schema (entry_text schema a) a is refl in
      let right = line_is schema (entry_text schema b) b isb refl in
      let split = sym (append_assoc (entry_text schema a) (10 ∷ []) x) ∙ e ∙ append_assoc (entry_text schema b) (10 ∷ []) y in
      let both = first_line (Some ([], None)) (entry_text schema a) (entry_text schema b) x y (not_none (entry_text schema a) _ left) (not_none (entry_text schema b) _ right) split in
      (same_text a b is isb both.0, both.1)

no_text : (a x y : List ℕ) → [] ≡ (a ++ (10 ∷ x)) ++ y → ⊥
no_text [] x y e = cc
no_text (b ∷ a) x y e = cc

pub lines_are_prefix_free : LinesArePrefixFree
lines_are_prefix_free schema a b is isb prefix = (fronts schema a b prefix.0 [] is isb (sym prefix.1 ∙ sym (append-nil (entry_line schema b)))).0

pub journals_are_of_one : JournalsAreOfOne
journals_are_of_one schema [] [] all others e = refl
journals_are_of_one schema [] (b ∷ ys) all others e = absurd (no_text (entry_text schema b) [] (journal_text schema ys) e)
journals_are_of_one schema (a ∷ xs) [] all others e = absurd (no_text (entry_text schema a) [] (journal_text schema xs) (sym e))
journals_are_of_one schema (a ∷ xs) (b ∷ ys) all others e =
    let both = fronts schema a b (journal_text schema xs) (journal_text schema ys) (all 0 a (omega arith)) (others 0 b (omega arith)) e in
    let rest = journals_are_of_one schema xs ys (All-tail (IsEntryOf schema) a xs all) (All-tail (IsEntryOf schema) b ys others) both.1 in
    λ i. both.0 i ∷ rest i
