-- What is known of slots before they are tested, as those of an image.
use Rattle.std.specs.Prelude.{List}
use Rattle.node_arena.specs.Slots.{Slot}
use Rattle.node_arena.specs.Stats.{AllRising}
use Rattle.shape_test.specs.Laws.{AllTablesCounted}
use Rattle.shape_test.specs.Sharing.{LeadsWithin}
use Rattle.shape_test.specs.Filled.{HasSmallBins}
use Rattle.shape_test.specs.Links.{HasSmallLabels}

-- Slots can be found along links.
pub record AreLinked (slots : List Slot) : Type 0 where
  -- each link leads to a slot
  pub within : LeadsWithin slots
  -- each label is a byte
  pub labels : HasSmallLabels slots

-- Slots can be looked at one by one.
pub record AreReadable (slots : List Slot) : Type 0 where
  pub linked : AreLinked slots
  pub open linked use *
  -- each bin has 32 bits
  pub bins : HasSmallBins slots

-- Slots can be tested one by one.
pub record AreTestable (slots : List Slot) : Type 0 where
  -- the labels of each node's children rise
  pub rising : AllRising slots
  pub readable : AreReadable slots
  pub open readable use *
  -- no row of a time table is without a record
  pub counted : AllTablesCounted slots
