-- A builder's work as contracts see it.
use Rattle.std.specs.Prelude.{◌≡◌, List, All}
use Rattle.builder_core.specs.Builder.{BuilderState}
use Rattle.feed_queue.specs.Ends.{DrawState}
use Rattle.mailbox.specs.Ends.{InEnd}

-- A builder's work
pub record BuilderWorkState : Type 0 where
  -- the end that draws for the builder
  pub draws : DrawState
  -- the builder
  pub builder : BuilderState
  -- a mailbox for each ask, in the order of the asks
  pub mails : List InEnd

-- the work of these parts
abbrev pub work_state : DrawState → BuilderState → List InEnd → BuilderWorkState
work_state draws builder mails = record { draws = draws; builder = builder; mails = mails }

-- The end draws for the builder
pub record DrawsFor (end : DrawState) (b : BuilderState) : Type 0 where
  -- the builder has taken what was drawn
  pub taken : b.taken ≡ end.drawn
  -- it has as many feeders as the lane
  pub feeders : b.feeders ≡ end.feeders
  -- and the lane's schema
  pub schema : b.schema ≡ end.schema

-- each mailbox is of the builder's pair
abbrev pub AreOfPair : BuilderState → List InEnd → Type 0
AreOfPair b mails = All (λ (m : InEnd). m.pair ≡ b.published.book) mails

-- What the type of a work keeps
pub record IsWork (w : BuilderWorkState) : Type 0 where
  -- its end draws for its builder
  pub draws : DrawsFor w.draws w.builder
  -- each mailbox is of the builder's pair
  pub pair : AreOfPair w.builder w.mails
