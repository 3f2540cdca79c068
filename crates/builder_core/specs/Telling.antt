-- What is told, and to whom.
use Rattle.std.specs.Prelude.{◌≡◌, ℕ, ◌*◌, ◌/◌, List, [], ◌∷◌, ◌++◌, All, length, map, Result, Ok, Err}
use Rattle.std.specs.List.{range_with_len}
use Rattle.builder_core.specs.declared.taken.Taken.{Taken}
use Rattle.builder_core.specs.declared.taken.Taken.TheVariants.{Kept, Published, LastEnd}
use Rattle.mailbox.specs.Ends.{InEnd, mail_in}
use Rattle.builder_core.specs.Builder.{BuilderState}
use Rattle.builder_core.specs.Work.{BuilderWorkState}

-- the multiples of the batch that are at most the length, from the batch on
abbrev pub multiples_up_to : ℕ → ℕ → List ℕ
multiples_up_to batch n = map (λ (k : ℕ). k * batch) (range_with_len 1 (n / batch))

-- the lengths that are told of a journal of that length: the multiples of the batch up to it, and then the length once
-- more
abbrev pub told_lengths : ℕ → ℕ → List ℕ
told_lengths batch n = multiples_up_to batch n ++ n ∷ []

-- The multiples of the batch up to the journal's length were put into each mailbox
pub record HasMultiples (b : BuilderState) (mails : List InEnd) : Type 0 where
  -- so many batches are published
  pub batches : ℕ
  -- and no more
  pub whole : length b.journal ≡ batches * b.batch
  -- what was put
  pub put : All (λ (m : InEnd). m.lengths ≡ multiples_up_to b.batch (length b.journal)) mails

-- the mailbox with one length more that was put
abbrev pub having_put : ℕ → InEnd → InEnd
having_put n m = mail_in m.mailbox m.pair (m.lengths ++ n ∷ [])

-- the work once the length of its published list was put into each mailbox
abbrev pub having_told : BuilderWorkState → BuilderWorkState
having_told w = record w { mails = map (having_put (length w.builder.published.points)) w.mails }

-- the work once it has told what the builder's answer asks for: the length is told of each publication, and of the last
-- End
abbrev pub having_answered : {E : Type 0} → Result Taken E → BuilderWorkState → BuilderWorkState
having_answered (Ok Kept) w = w
having_answered (Ok (Published n)) w = having_told w
having_answered (Ok (LastEnd n)) w = having_told w
having_answered (Err e) w = w
