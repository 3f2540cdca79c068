-- Lines of the journal: each is read as its entry, and none is a prefix of another.
use Rattle.std.proofs.Common.{◌≡◌, ℕ, ◌<◌, List, [], ◌∷◌, ◌++◌, Some, length, sym, ap, ◌∙◌, take, append_assoc, arith}
use Rattle.std.proofs.lemmas.Grind.{flat_map-append}
use Rattle.std.proofs.lemmas.List.{append-nil}
use Rattle.std.specs.Fmt.{decimal}
use Rattle.std.specs.List.{flat_map}
use Rattle.std.proofs.lemmas.Option.{same_Some}
use Rattle.cube_view.specs.declared.schema.Schema.{Schema}
use Rattle.feed_queue.specs.Journal.{number_text, told_weight, entry_numbers, entry_text, IsEntryOf}
use Rattle.feed_queue.specs.NumberReading.{line_numbers, spaced_number, entry_of_numbers, HasNumbersOf}
use Rattle.feed_queue.proofs.EntryNumbers.{numbers_again, entry_again, numbers_few, numbers_small}
use Rattle.feed_queue.proofs.NumberLines.{numbers_of_text, text_of_numbers}
use Rattle.world_core.specs.declared.entry.Entry.{Entry}

-- a line of numbers, as the first and the others after spaces
pub spaced_text : (n : ℕ) (numbers : List ℕ) → decimal n ++ flat_map spaced_number numbers ≡ number_text (n ∷ numbers)
spaced_text n [] = append-nil (decimal n)
spaced_text n (m ∷ numbers) = ap (λ l. decimal n ++ (32 ∷ l)) (spaced_text m numbers)

module _ (schema : Schema) (line : List ℕ) where
  -- the line of an entry has its numbers
  pub line_is : (e : Entry) → IsEntryOf schema e → line ≡ entry_text schema e → line_numbers line ≡ Some (entry_numbers schema e)
  unfolding entry_text
  line_is e is same = ap line_numbers same ∙ numbers_of_text e.feeder _ (numbers_small schema e is)

  -- a line that was refused is no entry's
  pub not_refused : {A : Type 0} (e : Entry) → IsEntryOf schema e → line ≡ entry_text schema e → ((numbers : List ℕ) → line_numbers line ≡ Some numbers → 10 < length numbers) → A
  not_refused e is same refused = let many = refused (entry_numbers schema e) (line_is e is same) in let few = numbers_few schema e is in absurd (omega (arith, many, few))

  module _ (numbers : List ℕ) (read : line_numbers line ≡ Some numbers) where
    -- its numbers are the entry's
    pub numbers_are : (e : Entry) → IsEntryOf schema e → line ≡ entry_text schema e → entry_numbers schema e ≡ numbers
    numbers_are e is same = same_Some _ _ (sym (line_is e is same) ∙ read)

    -- the entry that has them is the entry
    pub entry_is : (found e : Entry) → HasNumbersOf schema numbers found → IsEntryOf schema e → line ≡ entry_text schema e → found ≡ e
    entry_is found e has is same = has.1 ∙ ap (entry_of_numbers schema) (sym (numbers_are e is same)) ∙ entry_again schema e is

    -- and its line is this one
    pub line_of_found : (found : Entry) → HasNumbersOf schema numbers found → line ≡ entry_text schema found
    unfolding entry_text
    line_of_found found has = (text_of_numbers line numbers read).0 ∙ ap number_text (sym (ap (entry_numbers schema) has.1 ∙ numbers_again schema numbers has.0))

-- what is written one after the other, as one list
regroup : (first : List ℕ) (n x y bin : ℕ) (v w : List ℕ)
    → ((((((first ++ spaced_number n) ++ spaced_number x) ++ spaced_number y) ++ flat_map spaced_number v) ++ spaced_number bin) ++ flat_map spaced_number w) ≡ first ++ flat_map spaced_number (n ∷ x ∷ y ∷ (v ++ (bin ∷ w)))
regroup first n x y bin v w =
    append_assoc _ (spaced_number bin) (flat_map spaced_number w)
    ∙ append_assoc _ (flat_map spaced_number v) (flat_map spaced_number (bin ∷ w))
    ∙ ap (λ l. (((first ++ spaced_number n) ++ spaced_number x) ++ spaced_number y) ++ l) (sym (flat_map-append spaced_number v (bin ∷ w)))
    ∙ append_assoc _ (spaced_number y) (flat_map spaced_number (v ++ (bin ∷ w)))
    ∙ append_assoc _ (spaced_number x) (flat_map spaced_number (y ∷ (v ++ (bin ∷ w))))
    ∙ append_assoc first (spaced_number n) (flat_map spaced_number (x ∷ y ∷ (v ++ (bin ∷ w))))

-- the texts that are written one after the other make the line
pub line_written : (schema : Schema) (e : Entry) (a b c d f g h : List ℕ) → a ≡ decimal e.feeder → b ≡ a ++ spaced_number e.number → c ≡ b ++ spaced_number e.point.spot.x → d ≡ c ++ spaced_number e.point.spot.y
    → f ≡ d ++ flat_map spaced_number (take (length schema.categories) e.point.spot.values) → g ≡ f ++ spaced_number e.point.spot.bin → h ≡ g ++ flat_map spaced_number (told_weight schema.weight e.point) → h ≡ entry_text schema e
unfolding entry_text
line_written schema e a b c d f g h first second third fourth values bin weight =
    let v = take (length schema.categories) e.point.spot.values in
    let w = told_weight schema.weight e.point in
    let S : List ℕ → List ℕ = flat_map spaced_number in
    let numbers = e.number ∷ e.point.spot.x ∷ e.point.spot.y ∷ (v ++ (e.point.spot.bin ∷ w)) in
    let all : h ≡ ((((((decimal e.feeder ++ spaced_number e.number) ++ spaced_number e.point.spot.x) ++ spaced_number e.point.spot.y) ++ S v) ++ spaced_number e.point.spot.bin) ++ S w) =
    weight ∙ ap (λ l. l ++ S w) (bin ∙ ap (λ l. l ++ spaced_number e.point.spot.bin) (values ∙ ap (λ l. l ++ S v) (fourth ∙ ap (λ l. l ++ spaced_number e.point.spot.y) (third ∙ ap (λ l. l ++ spaced_number e.point.spot.x) (second ∙ ap (λ l. l ++ spaced_number e.number) first))))) in
    all ∙ regroup (decimal e.feeder) e.number e.point.spot.x e.point.spot.y e.point.spot.bin v w ∙ spaced_text e.feeder numbers
