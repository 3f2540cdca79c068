-- What taking an item answers and leaves.
use Rattle.std.specs.Prelude.{◌≡◌, ◌+◌, ◌==◌, Bool, true, false, not, ◌&&◌, nat_lt, if◌then◌else◌, IsTrue, [], ◌∷◌, ◌++◌, length, Result, IfOk, OnErr, IsErr, ◌⊎◌}
use Rattle.feed_queue.specs.declared.item.Item.{Item}
use Rattle.feed_queue.specs.declared.item.Item.TheVariants.{One, End}
use Rattle.published_pair.specs.Rules.{known}
use Rattle.world_core.specs.declared.entry.Entry.{Entry}
use Rattle.builder_core.specs.Builder.{BuilderState}
use Rattle.builder_core.specs.Endings.{all_ended}
use Rattle.builder_core.specs.declared.taken.Taken.{Taken}
use Rattle.builder_core.specs.declared.taken.Taken.TheVariants.{Kept, Published, LastEnd}

-- the builder with one entry more that is pending
abbrev pub having_appended : BuilderState → Entry → BuilderState
having_appended b e = record b { pending = b.pending ++ e ∷ []; appended = b.appended ++ e.point ∷ [] }

-- the builder once what was pending is published
abbrev pub having_published : BuilderState → BuilderState
having_published b = record b { journal = b.journal ++ b.pending; pending = []; published = known b.published.book b.appended }

-- the builder isn't spent, and with one entry more pending reaches the batch
abbrev pub fills_batch : BuilderState → Bool
fills_batch b = not b.spent && (length b.pending + 1 == b.batch)

-- the item is the last feeder's End
abbrev pub is_last_end : BuilderState → Item → Bool
is_last_end b (One e) = false
is_last_end b (End f n) = all_ended b.feeders (b.taken ++ End f n ∷ [])

-- the lists once the item was taken: an entry is pending, or published with all that were pending where it fills the
-- batch; the last End publishes what is pending, unless the builder is spent
abbrev pub having_lists : BuilderState → Item → BuilderState
having_lists b (One e) = if fills_batch b then having_published (having_appended b e) else having_appended b e
having_lists b (End f n) = if not b.spent && is_last_end b (End f n) then having_published b else b

-- the builder once it has taken the item
abbrev pub having_taken : BuilderState → Item → BuilderState
having_taken b i = record (having_lists b i) { taken = b.taken ++ i ∷ [] }

-- what it answers: how many entries are published is told of each publication of a batch, and of the last End
abbrev pub answer_of : BuilderState → Item → Taken
answer_of b (One e) = if fills_batch b then Published (length (having_taken b (One e)).journal) else Kept
answer_of b (End f n) = if is_last_end b (End f n) then LastEnd (length (having_taken b (End f n)).journal) else Kept

-- memory may be wanted for the item: for any entry, and for the last End where a builder that isn't spent has something
-- pending
abbrev pub wants_memory : BuilderState → Item → Bool
wants_memory b (One e) = true
wants_memory b (End f n) = not b.spent && is_last_end b (End f n) && nat_lt 0 (length b.pending)

-- the builder has counted the item as taken, and is spent
abbrev pub having_spent : BuilderState → Item → BuilderState
having_spent b i = record b { taken = b.taken ++ i ∷ []; spent = true }

-- an entry that fills the batch was appended, and its publication was refused
abbrev pub IsUnpublished : BuilderState → Item → BuilderState → Type 0
IsUnpublished b (One e) after = IsTrue (fills_batch b) × (after ≡ having_spent (having_appended b e) (One e))
IsUnpublished b (End f n) after = ⊥

-- What is left where want of memory is answered
pub record IsRefused (b : BuilderState) (i : Item) (after : BuilderState) : Type 0 where
  -- memory may be wanted for the item
  pub wanted : IsTrue (wants_memory b i)
  -- journal and pending are as they were; or the entry is pending, and its publication was refused
  pub left : (after ≡ having_spent b i) ⊎ IsUnpublished b i after

-- the item is an entry
abbrev pub is_entry : Item → Bool
is_entry (One e) = true
is_entry (End f n) = false

-- What taking an item never changes: feeders, batch and pair
pub record IsSameRun (b after : BuilderState) : Type 0 where
  -- there are as many feeders
  pub feeders : after.feeders ≡ b.feeders
  -- as many entries are published at once
  pub batch : after.batch ≡ b.batch
  -- it is the same pair
  pub book : after.published.book ≡ b.published.book
  -- of that schema
  pub schema : after.schema ≡ b.schema
  -- and with as many viewers
  pub viewers : after.viewers ≡ b.viewers

-- What taking an item answers and leaves
pub record IsTaking {E : Type 0} (b : BuilderState) (i : Item) (r : Result Taken E) (after : BuilderState) : Type 0 where
  -- the item counts as taken, whatever is answered
  pub counted : after.taken ≡ b.taken ++ i ∷ []
  -- feeders, batch and pair stay
  pub same : IsSameRun b after
  -- the answer, and what is left
  pub took : IfOk r (λ t. (t ≡ answer_of b i) × (after ≡ having_taken b i))
  -- the same after want of memory
  pub refused : OnErr r (IsRefused b i after)
  -- a spent builder answers it for each entry, which it drops
  pub dropped : IsTrue (b.spent && is_entry i) → IsErr r
