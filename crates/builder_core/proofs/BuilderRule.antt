-- What the type of a builder keeps is kept by each item that it takes.
use Rattle.std.proofs.Common.{◌≡◌, ℕ, ◌+◌, ◌^◌, ◌≤◌, ◌<◌, true, false, true≢false, List, [], ◌∷◌, ◌++◌, length, length-append, append_assoc, append-nil, sym, refl, ap, ◌∙◌, subst, arith}
use Rattle.std.specs.Prelude.{IsTrue}
use Rattle.std.proofs.lemmas.List.Elements.{All-push}
use Rattle.cube_view.specs.Bag.{most_points}
use Rattle.published_pair.specs.Rules.{known}
use Rattle.world_core.specs.Interleaving.{entry_points}
use Rattle.world_core.specs.PairFact.{IsPrefix}
use Rattle.world_core.specs.declared.entry.Entry.{Entry}
use Rattle.world_core.proofs.Entries.{entry_points-append}
use Rattle.world_core.proofs.Prefixes.{IsPrefix-then}
use Rattle.feed_queue.specs.Items.{feeder_of, entries_in, count_entries, valid_item, ComesNext}
use Rattle.feed_queue.specs.declared.item.Item.{Item}
use Rattle.feed_queue.specs.declared.item.Item.TheVariants.{One, End}
use Rattle.feed_queue.proofs.ItemOrder.{entries_append, has_end_entry}
use Rattle.builder_core.specs.Builder.{BuilderState, MayBeTaken, KeepsJournal, IsBuilder}
use Rattle.builder_core.specs.Endings.{all_ended, count_ended}
use Rattle.builder_core.specs.Numbering.{AreOf}
use Rattle.builder_core.specs.Taking.{having_appended, having_published, having_spent}
use Rattle.builder_core.proofs.EntryCounts.{numbers-entry, numbers-end, entries_few}
use Rattle.builder_core.proofs.FeederEnds.{count_ended-entry, count_ended-end, count_ended-most, all_ended-open, all_ended-whole, all_ended-part}

-- What is known of an item that may be taken
pub record IsNext (b : BuilderState) (i : Item) : Type 0 where
  -- it is of one of the feeders
  pub from : (1 ≤ feeder_of i) × (feeder_of i ≤ b.feeders)
  -- its point is valid
  pub valid : IsTrue (valid_item b.schema i)
  -- it comes next after the items taken
  pub next : ComesNext b.taken i

pub is_next : (b : BuilderState) (i : Item) → MayBeTaken b i → IsNext b i
is_next b i may = record {
  from = (may.told.from.0, subst (λ n. feeder_of i ≤ n) may.feeders may.told.from.1);
  valid = subst (λ z. IsTrue (valid_item z i)) may.schema may.told.valid;
  next = subst (λ items. ComesNext items i) may.drawn may.told.next;
}

-- the builder with the item counted as taken
abbrev pub counting : BuilderState → Item → BuilderState
counting b i = record b { taken = b.taken ++ i ∷ [] }

from-push : (b : BuilderState) (i : Item) → AreOf b.feeders b.taken → IsNext b i → AreOf b.feeders (b.taken ++ i ∷ [])
from-push b i from next = All-push (λ (x : Item). (1 ≤ feeder_of x) × (feeder_of x ≤ b.feeders)) b.taken i from next.from

entries-more : (items : List Item) (e : Entry) → entries_in (items ++ One e ∷ []) ≡ entries_in items ++ e ∷ []
entries-more items e = entries_append items (One e ∷ [])

entries-same : (items : List Item) (f n : ℕ) → entries_in (items ++ End f n ∷ []) ≡ entries_in items
entries-same items f n = entries_append items (End f n ∷ []) ∙ append-nil (entries_in items)

not_spent : {A : Type 0} → true ≡ false → A
not_spent e = absurd (true≢false e)

module _ (b : BuilderState) (n : ℕ) (e : Entry) (keeps : IsBuilder b n) (next : IsNext b (One e)) (small : e.number < 2 ^ 32) where
  -- what an entry that is taken leaves, whatever becomes of its point
  with_entry : (after : BuilderState) → after.feeders ≡ b.feeders → after.taken ≡ b.taken ++ One e ∷ [] → KeepsJournal after → IsBuilder after n
  with_entry after feeders taken journal = record {
    journal = journal;
    feeders = subst (λ k. (1 ≤ k) × (k ≤ 8)) (sym feeders) keeps.feeders;
    from = subst (λ k. AreOf k after.taken) (sym feeders) (subst (AreOf b.feeders) (sym taken) (from-push b (One e) keeps.from next));
    numbers = subst (λ (items : List Item). (f : ℕ) → count_entries f items ≤ 2 ^ 32) (sym taken) (numbers-entry b.taken e keeps.numbers small next.next.0);
    ends = keeps.ends ∙ (sym (count_ended-entry b.feeders b.taken e) ∙ (ap (count_ended b.feeders) (sym taken) ∙ ap (λ k. count_ended k after.taken) (sym feeders)));
  }

  not_all_ended : {A : Type 0} → all_ended b.feeders (b.taken ++ One e ∷ []) ≡ true → A
  not_all_ended all = absurd (true≢false (sym all ∙ all_ended-open b.feeders e.feeder (b.taken ++ One e ∷ []) next.from.0 next.from.1 (has_end_entry e.feeder b.taken e ∙ next.next.1)))

  longer : IsPrefix (entries_in b.taken) (entries_in (b.taken ++ One e ∷ []))
  longer = (e ∷ [], entries-more b.taken e)

  appended_more : b.appended ++ e.point ∷ [] ≡ entry_points (b.journal ++ (b.pending ++ e ∷ []))
  appended_more =
      ap (λ points. points ++ e.point ∷ []) keeps.journal.appended
      ∙ (sym (entry_points-append (b.journal ++ b.pending) (e ∷ [])) ∙ ap entry_points (append_assoc b.journal b.pending (e ∷ [])))

  whole_more : b.spent ≡ false → b.journal ++ (b.pending ++ e ∷ []) ≡ entries_in (b.taken ++ One e ∷ [])
  whole_more open_ = sym (append_assoc b.journal b.pending (e ∷ [])) ∙ (ap (λ es. es ++ e ∷ []) (keeps.journal.whole open_) ∙ sym (entries-more b.taken e))

  -- a builder that is spent, or is spent by it, leaves the entry
  pub keeps-left : IsBuilder (having_spent b (One e)) n
  keeps-left = with_entry (having_spent b (One e)) refl refl (record {
    published = keeps.journal.published;
    appended = keeps.journal.appended;
    whole = not_spent;
    prefix = IsPrefix-then _ _ _ keeps.journal.prefix longer;
    few = not_spent;
    settled = λ open_ all. not_spent open_;
  })

  -- the entry is pending, and its publication was refused
  pub keeps-unpublished : b.spent ≡ false → IsBuilder (having_spent (having_appended b e) (One e)) n
  keeps-unpublished open_ = with_entry (having_spent (having_appended b e) (One e)) refl refl (record {
    published = keeps.journal.published;
    appended = appended_more;
    whole = not_spent;
    prefix = ([], sym (whole_more open_) ∙ sym (append-nil (b.journal ++ (b.pending ++ e ∷ []))));
    few = not_spent;
    settled = λ opened all. not_spent opened;
  })

  -- the entry is pending
  pub keeps-appended : b.spent ≡ false → length b.pending + 1 < b.batch → IsBuilder (counting (having_appended b e) (One e)) n
  keeps-appended open_ few = with_entry (counting (having_appended b e) (One e)) refl refl (record {
    published = keeps.journal.published;
    appended = appended_more;
    whole = whole_more;
    prefix = ([], sym (whole_more open_) ∙ sym (append-nil (b.journal ++ (b.pending ++ e ∷ []))));
    few = λ opened. (let l = length-append b.pending (e ∷ []) in omega arith);
    settled = λ opened all. not_all_ended all;
  })

  -- the entry is published with all that were pending
  pub keeps-published : b.spent ≡ false → IsBuilder (counting (having_published (having_appended b e)) (One e)) n
  keeps-published open_ = with_entry (counting (having_published (having_appended b e)) (One e)) refl refl (record {
    published = appended_more;
    appended = appended_more ∙ ap entry_points (sym (append-nil (b.journal ++ (b.pending ++ e ∷ []))));
    whole = λ opened. append-nil (b.journal ++ (b.pending ++ e ∷ [])) ∙ whole_more opened;
    prefix = ([], sym (whole_more open_) ∙ (sym (append-nil (b.journal ++ (b.pending ++ e ∷ []))) ∙ sym (append-nil ((b.journal ++ (b.pending ++ e ∷ [])) ++ []))));
    few = λ opened. (let few = keeps.journal.few opened in omega (arith, few));
    settled = λ opened all. refl;
  })

module _ (b : BuilderState) (n g m : ℕ) (keeps : IsBuilder b n) (next : IsNext b (End g m)) where
  -- it is one End more
  ends_more : n + 1 ≡ count_ended b.feeders (b.taken ++ End g m ∷ [])
  ends_more = let more = count_ended-end b.feeders g m b.taken next.from.0 next.from.1 next.next.1 in let so_far = keeps.ends in omega (arith, more, so_far)

  -- what an End that is taken leaves
  with_end : (after : BuilderState) → after.feeders ≡ b.feeders → after.taken ≡ b.taken ++ End g m ∷ [] → KeepsJournal after → IsBuilder after (n + 1)
  with_end after feeders taken journal = record {
    journal = journal;
    feeders = subst (λ k. (1 ≤ k) × (k ≤ 8)) (sym feeders) keeps.feeders;
    from = subst (λ k. AreOf k after.taken) (sym feeders) (subst (AreOf b.feeders) (sym taken) (from-push b (End g m) keeps.from next));
    numbers = subst (λ (items : List Item). (f : ℕ) → count_entries f items ≤ 2 ^ 32) (sym taken) (numbers-end b.taken g m keeps.numbers);
    ends = ends_more ∙ (ap (count_ended b.feeders) (sym taken) ∙ ap (λ k. count_ended k after.taken) (sym feeders));
  }

  -- it is the last End where the Ends are as many as the feeders
  pub ended-last : b.feeders ≤ n + 1 → all_ended b.feeders (b.taken ++ End g m ∷ []) ≡ true
  ended-last enough = all_ended-whole b.feeders (b.taken ++ End g m ∷ []) (let most = count_ended-most b.feeders (b.taken ++ End g m ∷ []) in omega (arith, most, ends_more, enough))

  -- and where they are fewer it is not
  pub ended-part : n + 1 < b.feeders → all_ended b.feeders (b.taken ++ End g m ∷ []) ≡ false
  ended-part less = all_ended-part b.feeders (b.taken ++ End g m ∷ []) (omega (arith, ends_more, less))

  whole_still : b.spent ≡ false → b.journal ++ b.pending ≡ entries_in (b.taken ++ End g m ∷ [])
  whole_still open_ = keeps.journal.whole open_ ∙ sym (entries-same b.taken g m)

  prefix_still : IsPrefix (b.journal ++ b.pending) (entries_in (b.taken ++ End g m ∷ []))
  prefix_still = subst (IsPrefix (b.journal ++ b.pending)) (sym (entries-same b.taken g m)) keeps.journal.prefix

  -- it is counted, and nothing is pending where it was the last
  pub keeps-ended : (b.spent ≡ false → all_ended b.feeders (b.taken ++ End g m ∷ []) ≡ true → b.pending ≡ []) → IsBuilder (counting b (End g m)) (n + 1)
  keeps-ended settled = with_end (counting b (End g m)) refl refl (record {
    published = keeps.journal.published;
    appended = keeps.journal.appended;
    whole = whole_still;
    prefix = prefix_still;
    few = keeps.journal.few;
    settled = settled;
  })

  -- what was pending is published with it
  pub keeps-ended_published : b.spent ≡ false → IsBuilder (counting (having_published b) (End g m)) (n + 1)
  keeps-ended_published open_ = with_end (counting (having_published b) (End g m)) refl refl (record {
    published = keeps.journal.appended;
    appended = keeps.journal.appended ∙ ap entry_points (sym (append-nil (b.journal ++ b.pending)));
    whole = λ opened. append-nil (b.journal ++ b.pending) ∙ whole_still opened;
    prefix = subst (λ (es : List Entry). IsPrefix es (entries_in (b.taken ++ End g m ∷ []))) (sym (append-nil (b.journal ++ b.pending))) prefix_still;
    few = λ opened. (let few = keeps.journal.few opened in omega (arith, few));
    settled = λ opened all. refl;
  })

  -- and where that is refused it is counted all the same
  pub keeps-ended_spent : IsBuilder (having_spent b (End g m)) (n + 1)
  keeps-ended_spent = with_end (having_spent b (End g m)) refl refl (record {
    published = keeps.journal.published;
    appended = keeps.journal.appended;
    whole = not_spent;
    prefix = prefix_still;
    few = not_spent;
    settled = λ opened all. not_spent opened;
  })

-- the Ends counted are no more than the feeders
pub ends-few : (b : BuilderState) (n : ℕ) → IsBuilder b n → n ≤ 8
ends-few b n keeps = let most = count_ended-most b.feeders b.taken in let is = keeps.ends in let feeders = keeps.feeders.1 in omega (arith, most, is, feeders)

-- with the next entry taken, no more points are appended than a bag may be of
pub room : (b : BuilderState) (n : ℕ) (e : Entry) → IsBuilder b n → IsNext b (One e) → e.number < 2 ^ 32 → length b.journal + length b.pending < most_points
room b n e keeps next small =
    let after = keeps-left b n e keeps next small in
    let all = entries_few b.feeders (b.taken ++ One e ∷ []) keeps.feeders.1 after.from after.numbers in
    let more = ap length (entries-more b.taken e) in
    let one = length-append (entries_in b.taken) (e ∷ []) in
    let prefix = ap length keeps.journal.prefix.1 in
    let parts = length-append (b.journal ++ b.pending) keeps.journal.prefix.0 in
    let both = length-append b.journal b.pending in
    omega (arith, all, more, one, prefix, parts, both)

-- where nothing is pending, publishing changes nothing
pub having_published-none : (b : BuilderState) (n : ℕ) → IsBuilder b n → b.pending ≡ [] → having_published b ≡ b
having_published-none b n keeps none =
    let journal : b.journal ++ b.pending ≡ b.journal = ap (λ es. b.journal ++ es) none ∙ append-nil b.journal in
    let points : b.appended ≡ b.published.points = keeps.journal.appended ∙ (ap entry_points journal ∙ sym keeps.journal.published) in
    λ i. record b { journal = journal i; pending = sym none i; published = known b.published.book (points i) }
