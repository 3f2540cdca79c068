-- What a builder that is not spent has taken, and what is told of it.
use Rattle.std.proofs.Common.{◌≡◌, ◌≢◌, ℕ, ◌+◌, ◌*◌, ◌<◌, eqb, Bool, true, false, true≢false, not, ◌&&◌, cond, List, [], ◌∷◌, ◌++◌, All, map, length, length-append, sym, refl, ap, ◌∙◌, subst, ⊎_elim, arith}
use Rattle.std.specs.Prelude.{Result, Ok, Err}
use Rattle.std.proofs.lemmas.List.{length-map}
use Rattle.std.proofs.lemmas.Bool.{and_parts}
use Rattle.std.proofs.lemmas.Bool.Decides.{eqb_tells}
use Rattle.builder_core.specs.Builder.{BuilderState, KeepsJournal}
use Rattle.builder_core.specs.Endings.{all_ended}
use Rattle.builder_core.specs.Taking.{having_appended, having_published, having_taken, answer_of, fills_batch, IsTaking, IsRefused, IsUnpublished}
use Rattle.builder_core.specs.declared.taken.Taken.{Taken}
use Rattle.builder_core.specs.declared.taken.Taken.TheVariants.{Kept, Published, LastEnd}
use Rattle.feed_queue.specs.Ends.{DrawState}
use Rattle.feed_queue.specs.declared.item.Item.{Item}
use Rattle.feed_queue.specs.declared.item.Item.TheVariants.{One, End}
use Rattle.mailbox.specs.Ends.{InEnd}
use Rattle.texts.specs.declared.no_memory.NoMemory.{NoMemory}
use Rattle.world_core.specs.declared.entry.Entry.{Entry}
use Rattle.builder_core.specs.Telling.{HasMultiples, multiples_up_to, told_lengths, having_put, having_answered}
use Rattle.builder_core.specs.Work.{BuilderWorkState, work_state}
use Rattle.builder_core.proofs.Lengths.{multiples-rest, multiples-more, batch_more, All-having_put}

spent_either : (t : Bool) (x y : BuilderState) (s : Bool) → x.spent ≡ s → y.spent ≡ s → (cond t x y).spent ≡ s
spent_either true x y s e f = e
spent_either false x y s e f = f

-- taking spends no builder
spent-taken : (b : BuilderState) (i : Item) → (having_taken b i).spent ≡ b.spent
spent-taken b (One e) = spent_either (fills_batch b) (having_published (having_appended b e)) (having_appended b e) b.spent refl refl
spent-taken b (End f n) = spent_either (not b.spent && all_ended b.feeders (b.taken ++ End f n ∷ [])) (having_published b) b b.spent refl refl

spent_unpublished : (b : BuilderState) (i : Item) (after : BuilderState) → IsUnpublished b i after → after.spent ≡ true
spent_unpublished b (One e) after is = ap (λ (s : BuilderState). s.spent) is.1
spent_unpublished b (End f n) after is = absurd is

spent_refused : (b : BuilderState) (i : Item) (after : BuilderState) → IsRefused b i after → after.spent ≡ true
spent_refused b i after is = ⊎_elim (λ e. ap (λ (s : BuilderState). s.spent) e) (λ u. spent_unpublished b i after u) is.left

-- What a builder that is not spent has done: it was not, and has answered and left what it should
pub record Took {E : Type 0} (b : BuilderState) (i : Item) (r : Result Taken E) (after : BuilderState) : Type 0 where
  pub open_ : b.spent ≡ false
  pub answer : r ≡ Ok (answer_of b i)
  pub left : after ≡ having_taken b i

pub took_open : {E : Type 0} (b : BuilderState) (i : Item) (r : Result Taken E) (after : BuilderState) → IsTaking b i r after → after.spent ≡ false → Took b i r after
took_open b i (Ok t) after is open_ = record {
  open_ = sym (spent-taken b i) ∙ (sym (ap (λ (s : BuilderState). s.spent) is.took.1) ∙ open_);
  answer = ap (λ (x : Taken). Ok x) is.took.0;
  left = is.took.1;
}
took_open b i (Err e) after is open_ = absurd (true≢false (sym (spent_refused b i after is.refused) ∙ open_))

-- the lengths that are told of the journal were put into each mailbox
abbrev pub HasTold : BuilderState → List InEnd → Type 0
HasTold b mails = All (λ (m : InEnd). m.lengths ≡ told_lengths b.batch (length b.journal)) mails

-- a builder whose batch an entry fills
filled : (b : BuilderState) → fills_batch b ≡ true → length b.pending + 1 ≡ b.batch
filled b fills = ⊎_elim (λ (t : (eqb (length b.pending + 1) b.batch ≡ true) × (length b.pending + 1 ≡ b.batch)). t.1) (λ (t : (eqb (length b.pending + 1) b.batch ≡ false) × (length b.pending + 1 ≢ b.batch)). absurd (true≢false (sym (and_parts (not b.spent) (eqb (length b.pending + 1) b.batch) fills).1 ∙ t.0))) (eqb_tells (length b.pending + 1) b.batch)

-- how many points were appended
length-appended : (b : BuilderState) → KeepsJournal b → length b.appended ≡ length b.journal + length b.pending
length-appended b keeps = ap length keeps.appended ∙ (length-map (b.journal ++ b.pending) (λ (e : Entry). e.point) ∙ length-append b.journal b.pending)

module _ (b : BuilderState) (mails : List InEnd) (end : DrawState) (keeps : KeepsJournal b) (open_ : b.spent ≡ false) (has : HasMultiples b mails) where
  -- what is so of the builder and the mailboxes once that was answered and told
  abbrev After : (BuilderState → List InEnd → Type 0) → Taken → BuilderState → Type 0
  After P t left = let w : BuilderWorkState = having_answered {E = NoMemory} (Ok t) (work_state end left mails) in P w.builder w.mails

  some : 0 < b.batch
  some = let few = keeps.few open_ in omega (arith, few)

  -- an entry that was taken, published or not
  with_entry : (e : Entry) (t : Bool) → fills_batch b ≡ t → (n : ℕ) → After HasMultiples (cond t (Published n) Kept) (record (cond t (having_published (having_appended b e)) (having_appended b e)) { taken = b.taken ++ One e ∷ [] })
  with_entry e true fills n =
      let size : length b.pending + 1 ≡ b.batch = filled b fills in
      let front : length (b.journal ++ (b.pending ++ e ∷ [])) ≡ length b.journal + (length b.pending + 1) = length-append b.journal (b.pending ++ e ∷ []) ∙ ap (λ (k : ℕ). length b.journal + k) (length-append b.pending (e ∷ [])) in
      let journal : length (b.journal ++ (b.pending ++ e ∷ [])) ≡ length b.journal + b.batch = front ∙ ap (λ (k : ℕ). length b.journal + k) size in
      let all = length-appended b keeps in
      let more = length-append b.appended (e.point ∷ []) in
      let points : length (b.appended ++ e.point ∷ []) ≡ length b.journal + b.batch = omega (arith, size, all, more) in
      record {
        batches = has.batches + 1;
        whole = journal ∙ batch_more b.batch (length b.journal) has.batches has.whole;
        put = subst (λ (lengths : List ℕ). All (λ (m : InEnd). m.lengths ≡ lengths) (map (having_put (length (b.appended ++ e.point ∷ []))) mails))
            (ap (λ (k : ℕ). multiples_up_to b.batch (length b.journal) ++ k ∷ []) points ∙ (multiples-more b.batch (length b.journal) has.batches some has.whole ∙ ap (multiples_up_to b.batch) (sym journal)))
            (All-having_put (length (b.appended ++ e.point ∷ [])) (multiples_up_to b.batch (length b.journal)) mails has.put);
      }
  with_entry e false fills n = record { batches = has.batches; whole = has.whole; put = has.put }

  -- an End after which others are missing
  with_end : (f m n : ℕ) (s t : Bool) → t ≡ false → After HasMultiples (cond t (LastEnd n) Kept) (record (cond (not s && t) (having_published b) b) { taken = b.taken ++ End f m ∷ [] })
  with_end f m n s true missing = absurd (true≢false missing)
  with_end f m n true false missing = record { batches = has.batches; whole = has.whole; put = has.put }
  with_end f m n false false missing = record { batches = has.batches; whole = has.whole; put = has.put }

  -- the last End
  with_last : (f m n : ℕ) (s t : Bool) → s ≡ false → t ≡ true → After HasTold (cond t (LastEnd n) Kept) (record (cond (not s && t) (having_published b) b) { taken = b.taken ++ End f m ∷ [] })
  with_last f m n true t unspent all = absurd (true≢false unspent)
  with_last f m n false false unspent all = absurd (true≢false (sym all))
  with_last f m n false true unspent all =
      let few = keeps.few open_ in
      let journal = length-append b.journal b.pending in
      let points : length b.appended ≡ length (b.journal ++ b.pending) = length-appended b keeps ∙ sym journal in
      subst (λ (lengths : List ℕ). All (λ (m : InEnd). m.lengths ≡ lengths) (map (having_put (length b.appended)) mails))
      (ap (λ (k : ℕ). multiples_up_to b.batch (length b.journal) ++ k ∷ []) points
      ∙ ap (λ (lengths : List ℕ). lengths ++ length (b.journal ++ b.pending) ∷ []) (multiples-rest b.batch (length b.journal) has.batches (length b.pending) has.whole few ∙ ap (multiples_up_to b.batch) (sym journal)))
      (All-having_put (length b.appended) (multiples_up_to b.batch (length b.journal)) mails has.put)

  -- while Ends are missing
  pub goes_on : (i : Item) → all_ended b.feeders (b.taken ++ i ∷ []) ≡ false → After HasMultiples (answer_of b i) (having_taken b i)
  goes_on (One e) missing = with_entry e (fills_batch b) refl (length (having_taken b (One e)).journal)
  goes_on (End f m) missing = with_end f m (length (having_taken b (End f m)).journal) b.spent (all_ended b.feeders (b.taken ++ End f m ∷ [])) missing

  -- once they are all there
  pub ends : (i : Item) → ((e : Entry) → i ≡ One e → ⊥) → all_ended b.feeders (b.taken ++ i ∷ []) ≡ true → After HasTold (answer_of b i) (having_taken b i)
  ends (One e) other all = absurd (other e refl)
  ends (End f m) other all = with_last f m (length (having_taken b (End f m)).journal) b.spent (all_ended b.feeders (b.taken ++ End f m ∷ [])) open_ all
