-- What a work begins with, and what its run leaves.
use Rattle.std.specs.Prelude.{◌≡◌, false, List, [], All, length, map, MatchBool}
use Rattle.builder_core.specs.Builder.{KeepsJournal}
use Rattle.builder_core.specs.Endings.{EachEnded, all_ended}
use Rattle.builder_core.specs.Taking.{IsSameRun}
use Rattle.feed_queue.specs.Ends.{DrawState}
use Rattle.feed_queue.specs.Items.{entries_in}
use Rattle.mailbox.specs.Ends.{InEnd}
use Rattle.world_core.specs.PairFact.{IsPrefix}
use Rattle.builder_core.specs.Steps.{ComesBySteps}
use Rattle.builder_core.specs.Telling.{HasMultiples, told_lengths}
use Rattle.builder_core.specs.Work.{BuilderWorkState, DrawsFor, AreOfPair}

-- What a work begins with
pub record IsNewWork (w : BuilderWorkState) : Type 0 where
  -- nothing was drawn
  pub drawn : w.draws.drawn ≡ []
  -- the end draws for the builder, which so has taken nothing
  pub draws : DrawsFor w.draws w.builder
  -- the builder is not spent
  pub spent : w.builder.spent ≡ false
  -- its journal is what was published, as with every builder
  pub keeps : KeepsJournal w.builder
  -- each mailbox is of the builder's pair
  pub pair : AreOfPair w.builder w.mails
  -- and nothing was put into it
  pub empty : All (λ (m : InEnd). m.lengths ≡ []) w.mails

-- What drawing never changes of an end
pub record IsSameEnd (end after : DrawState) : Type 0 where
  -- it is of the same lane
  pub lane : after.lane ≡ end.lane
  -- of as many feeders
  pub feeders : after.feeders ≡ end.feeders
  -- of the same schema
  pub schema : after.schema ≡ end.schema
  -- and its queue has as much room
  pub room : after.room ≡ end.room

-- What telling never changes of mailboxes
pub record IsSameMails (mails after : List InEnd) : Type 0 where
  -- they are the same mailboxes, in order
  pub names : map (λ (m : InEnd). m.mailbox) after ≡ map (λ (m : InEnd). m.mailbox) mails
  -- of the same pairs
  pub pairs : map (λ (m : InEnd). m.pair) after ≡ map (λ (m : InEnd). m.pair) mails

-- What every step of a run keeps
pub record KeepsWork (before after : BuilderWorkState) : Type 0 where
  -- what is drawn only grew
  pub grown : IsPrefix before.draws.drawn after.draws.drawn
  -- the builder has taken all that was drawn
  pub draws : DrawsFor after.draws after.builder
  -- the end serves the same lane
  pub end : IsSameEnd before.draws after.draws
  -- the builder the same pair, by the same batch
  pub run : IsSameRun before.builder after.builder
  -- the journal is what was published, as with every builder
  pub keeps : KeepsJournal after.builder
  -- and the mailboxes keep their names and pairs
  pub mails : IsSameMails before.mails after.mails

-- What the steps of a run have left while an End is missing
pub record IsBuilding (before after : BuilderWorkState) : Type 0 where
  -- what every step keeps
  pub goes : KeepsWork before after
  -- they are steps of the work, and nothing else
  pub steps : ComesBySteps before after
  -- unless the builder is spent, the multiples of the batch up to the journal's length were put into each mailbox
  pub put : after.builder.spent ≡ false → HasMultiples after.builder after.mails

-- What the builder leaves
pub record IsBuilt (before after : BuilderWorkState) : Type 0 where
  -- it came there by steps of the work, and nothing else
  pub steps : ComesBySteps before after
  -- what is drawn only grew
  pub grown : IsPrefix before.draws.drawn after.draws.drawn
  -- the End of each feeder was drawn
  pub ended : EachEnded after.draws.feeders after.draws.drawn
  -- the builder has taken all that was drawn
  pub draws : DrawsFor after.draws after.builder
  -- the end serves the same lane
  pub end : IsSameEnd before.draws after.draws
  -- the builder the same pair, by the same batch
  pub run : IsSameRun before.builder after.builder
  -- and the mailboxes keep their names and pairs
  pub mails : IsSameMails before.mails after.mails
  -- the journal is what was published, as with every builder
  pub keeps : KeepsJournal after.builder
  -- it is a prefix of the entries drawn
  pub prefix : IsPrefix after.builder.journal (entries_in after.draws.drawn)
  -- and all of them, unless the builder is spent: unless it found no memory
  pub whole : after.builder.spent ≡ false → after.builder.journal ≡ entries_in after.draws.drawn
  -- then the multiples of the batch up to the journal's length were put into each mailbox, and then that length
  pub lengths : after.builder.spent ≡ false → All (λ (m : InEnd). m.lengths ≡ told_lengths after.builder.batch (length after.builder.journal)) after.mails

-- what the steps of a run have left so far, which is all of it once every End was taken
abbrev pub HasBuilt : BuilderWorkState → BuilderWorkState → Type 0
HasBuilt before after = MatchBool (all_ended after.builder.feeders after.builder.taken) (IsBuilt before after) (IsBuilding before after)
