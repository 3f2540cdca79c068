-- What one step of a work leaves, and what its whole run is.
use Rattle.std.specs.Prelude.{◌≡◌, List, [], ◌∷◌, Result}
use Rattle.builder_core.specs.Builder.{KeepsJournal}
use Rattle.builder_core.specs.Taking.{IsTaking}
use Rattle.builder_core.specs.declared.taken.Taken.{Taken}
use Rattle.feed_queue.specs.Ends.{MayBeDrawn, having_drawn}
use Rattle.feed_queue.specs.declared.item.Item.{Item}
use Rattle.texts.specs.declared.no_memory.NoMemory.{NoMemory}
use Rattle.builder_core.specs.Telling.{having_answered}
use Rattle.builder_core.specs.Work.{BuilderWorkState}

-- What drawing an item and taking it leaves, where the builder gives this answer
pub record TakesNext (before : BuilderWorkState) (answer : Result Taken NoMemory) (after : BuilderWorkState) : Type 0 where
  -- the item
  pub item : Item
  -- what its draw tells of it
  pub told : MayBeDrawn before.draws item
  -- it was drawn
  pub drawn : after.draws ≡ having_drawn before.draws item
  -- and taken
  pub taken : IsTaking before.builder item answer after.builder
  -- the journal is what was published, as with every builder
  pub keeps : KeepsJournal after.builder
  -- the mailboxes are as they were
  pub mails : after.mails ≡ before.mails

-- What a step leaves: an item was drawn and taken, and then told what the builder's answer asks for
pub record IsStep (before after : BuilderWorkState) : Type 0 where
  -- what the builder answered
  pub answer : Result Taken NoMemory
  -- the work once the item was taken
  pub next : BuilderWorkState
  -- how it came there
  pub takes : TakesNext before answer next
  -- and what was told then
  pub tells : after ≡ having_answered answer next

-- steps that leave these works, one after another
abbrev pub AreSteps : BuilderWorkState → List BuilderWorkState → BuilderWorkState → Type 0
AreSteps before [] after = after ≡ before
AreSteps before (next ∷ works) after = IsStep before next × AreSteps next works after

-- A work has come there by steps alone
pub record ComesBySteps (before after : BuilderWorkState) : Type 0 where
  -- what each of them left, in order
  pub works : List BuilderWorkState
  -- they are steps
  pub each : AreSteps before works after
