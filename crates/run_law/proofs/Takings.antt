-- What a builder's take leaves of its journal.
use Rattle.std.proofs.Common.{◌≡◌, ℕ, Bool, true, false, true≢false, not, ◌&&◌, ltb, if◌then◌else◌, List, [], ◌∷◌, ◌++◌, length, refl, sym, ap, ◌∙◌, arith, ⊎_elim}
use Rattle.std.specs.Prelude.{Result, Ok, Err}
use Rattle.std.proofs.lemmas.Bool.{and_parts, not-true}
use Rattle.std.proofs.lemmas.Bool.Decides.{nat_tests}
use Rattle.std.proofs.lemmas.List.{append-nil, nil_from_length}
use Rattle.builder_core.specs.Builder.{BuilderState, KeepsJournal}
use Rattle.builder_core.specs.Taking.{having_appended, having_published, having_spent, having_taken, fills_batch, is_last_end, IsUnpublished, IsTaking}
use Rattle.builder_core.specs.declared.taken.Taken.{Taken}
use Rattle.feed_queue.specs.Items.{entries_in}
use Rattle.feed_queue.specs.declared.item.Item.{Item}
use Rattle.feed_queue.specs.declared.item.Item.TheVariants.{One, End}
use Rattle.world_core.specs.declared.entry.Entry.{Entry}
use Rattle.run_law.specs.Moves.{may_publish, publishes}

-- a builder that has taken the item, with these lists
abbrev counting : BuilderState → BuilderState → Item → BuilderState
counting lists b i = record lists { taken = b.taken ++ i ∷ [] }

-- the two cases of a test, with what it gave
by_test : (t : Bool) (P : Type 0) → (t ≡ true → P) → (t ≡ false → P) → P
by_test t P yes_then no_then = elim t as (λ b. t ≡ b → P) [ true ↦ yes_then | false ↦ no_then ] refl

-- a builder that is not spent with nothing pending has published all that it has taken
all_is_journal : (left : BuilderState) → KeepsJournal left → left.spent ≡ false → left.pending ≡ [] → left.journal ≡ entries_in left.taken
all_is_journal left keeps found none = sym (append-nil left.journal) ∙ ap (λ l. left.journal ++ l) (sym none) ∙ keeps.whole found

-- what taking leaves where an entry fills the batch
entry_filled : (b : BuilderState) (e : Entry) → fills_batch b ≡ true → having_taken b (One e) ≡ counting (having_published (having_appended b e)) b (One e)
entry_filled b e fills = ap (λ (t : Bool). counting (if t then having_published (having_appended b e) else having_appended b e) b (One e)) fills

entry_kept : (b : BuilderState) (e : Entry) → fills_batch b ≡ false → having_taken b (One e) ≡ counting (having_appended b e) b (One e)
entry_kept b e fills = ap (λ (t : Bool). counting (if t then having_published (having_appended b e) else having_appended b e) b (One e)) fills

-- the last End is taken by a builder that is not spent
abbrev ends_unspent : BuilderState → ℕ → ℕ → Bool
ends_unspent b f n = not b.spent && is_last_end b (End f n)

end_published : (b : BuilderState) (f n : ℕ) → ends_unspent b f n ≡ true → having_taken b (End f n) ≡ counting (having_published b) b (End f n)
end_published b f n last = ap (λ (t : Bool). counting (if t then having_published b else b) b (End f n)) last

end_kept : (b : BuilderState) (f n : ℕ) → ends_unspent b f n ≡ false → having_taken b (End f n) ≡ counting b b (End f n)
end_kept b f n last = ap (λ (t : Bool). counting (if t then having_published b else b) b (End f n)) last

-- where the item is taken and published, the journal is all that is taken
published_taken : (b left : BuilderState) (i : Item) → left ≡ having_taken b i → KeepsJournal left → may_publish b i ≡ true → left.journal ≡ entries_in left.taken
published_taken b left (One e) is keeps fills =
    let to = is ∙ entry_filled b e fills in
    let open_ = not-true b.spent (and_parts (not b.spent) _ fills).0 in
    all_is_journal left keeps (ap (λ (s : BuilderState). s.spent) to ∙ open_) (ap (λ (s : BuilderState). s.pending) to)
published_taken b left (End f n) is keeps wants =
    let last = (and_parts (ends_unspent b f n) _ wants).0 in
    let to = is ∙ end_published b f n last in
    let open_ = not-true b.spent (and_parts (not b.spent) _ last).0 in
    all_is_journal left keeps (ap (λ (s : BuilderState). s.spent) to ∙ open_) (ap (λ (s : BuilderState). s.pending) to)

-- nothing is pending where memory is not wanted for the last End
none_pending : (xs : List Entry) (last : Bool) → last ≡ true → (last && ltb 0 (length xs)) ≡ false → xs ≡ []
none_pending xs last is wants =
    let none : ltb 0 (length xs) ≡ false = sym (ap (λ b. b && ltb 0 (length xs)) is) ∙ wants in
    nil_from_length xs (grind (arith, nat_tests, none))

-- where the item is taken and nothing is published, the journal stays
kept_taken : (b left : BuilderState) (i : Item) → left ≡ having_taken b i → may_publish b i ≡ false → left.journal ≡ b.journal
kept_taken b left (One e) is fills = ap (λ (s : BuilderState). s.journal) (is ∙ entry_kept b e fills)
kept_taken b left (End f n) is wants =
    by_test (ends_unspent b f n) (left.journal ≡ b.journal)
    (λ last.
    let none = none_pending b.pending (ends_unspent b f n) last wants in
    ap (λ (s : BuilderState). s.journal) (is ∙ end_published b f n last) ∙ ap (λ l. b.journal ++ l) none ∙ append-nil b.journal)
    (λ last. ap (λ (s : BuilderState). s.journal) (is ∙ end_kept b f n last))

-- and so where memory was wanted
kept_unpublished : (b left : BuilderState) (i : Item) → IsUnpublished b i left → left.journal ≡ b.journal
kept_unpublished b left (One e) is = ap (λ (s : BuilderState). s.journal) is.1
kept_unpublished b left (End f n) is = absurd is

-- a take that has published leaves a journal of all that is taken
pub take_publishes : {E : Type 0} (b left : BuilderState) (i : Item) (r : Result Taken E) → IsTaking b i r left → KeepsJournal left → publishes b i r ≡ true → left.journal ≡ entries_in left.taken
take_publishes b left i (Ok t) taking keeps is = published_taken b left i taking.took.1 keeps is
take_publishes b left i (Err e) taking keeps is = absurd (true≢false (sym is))

-- one that has not leaves the journal
pub take_keeps : {E : Type 0} (b left : BuilderState) (i : Item) (r : Result Taken E) → IsTaking b i r left → publishes b i r ≡ false → left.journal ≡ b.journal
take_keeps b left i (Ok t) taking is = kept_taken b left i taking.took.1 is
take_keeps b left i (Err e) taking is =
    ⊎_elim
    (λ (spent : left ≡ having_spent b i). ap (λ (s : BuilderState). s.journal) spent)
    (λ (unpublished : IsUnpublished b i left). kept_unpublished b left i unpublished)
    taking.refused.left
