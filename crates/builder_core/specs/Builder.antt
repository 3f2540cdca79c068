-- A builder as contracts see it.
use Rattle.std.specs.Prelude.{◌≡◌, ℕ, ◌^◌, ◌<◌, ◌≤◌, Bool, false, true, List, [], ◌++◌, length, take, drop}
use Rattle.cube_view.specs.Points.{Point}
use Rattle.cube_view.specs.declared.schema.Schema.{Schema}
use Rattle.feed_queue.specs.Ends.{DrawState, MayBeDrawn}
use Rattle.feed_queue.specs.Items.{entries_in, count_entries}
use Rattle.feed_queue.specs.declared.item.Item.{Item}
use Rattle.published_pair.specs.Rules.{Known}
use Rattle.world_core.specs.Interleaving.{entry_points}
use Rattle.world_core.specs.PairFact.{IsPrefix}
use Rattle.world_core.specs.declared.entry.Entry.{Entry}
use Rattle.builder_core.specs.Endings.{all_ended, count_ended}
use Rattle.builder_core.specs.Numbering.{AreOf}

-- A builder
pub record BuilderState : Type 0 where
  -- how many feeders there are
  pub feeders : ℕ
  -- how many entries are published at once
  pub batch : ℕ
  -- the items that it has taken, in order
  pub taken : List Item
  -- the entries that are published, in order
  pub journal : List Entry
  -- the entries that were appended since
  pub pending : List Entry
  -- it has answered want of memory, and publishes no more
  pub spent : Bool
  -- the pair's published list; its book names the pair
  pub published : Known
  -- the points that were appended to the pair
  pub appended : List Point
  -- the pair's schema
  pub schema : Schema
  -- how many viewers the pair has
  pub viewers : ℕ

-- The item may be taken: an end may draw it that serves these feeders and this schema and has drawn what was taken
pub record MayBeTaken (b : BuilderState) (i : Item) : Type 0 where
  -- the end
  pub end : DrawState
  -- it serves as many feeders
  pub feeders : end.feeders ≡ b.feeders
  -- and the pair's schema
  pub schema : end.schema ≡ b.schema
  -- it had drawn what the builder has taken
  pub drawn : end.drawn ≡ b.taken
  -- what its draw told of the item
  pub told : MayBeDrawn end i

-- What every builder keeps: the journal is what was published
pub record KeepsJournal (b : BuilderState) : Type 0 where
  -- the journal is the published list, point for point
  pub published : b.published.points ≡ entry_points b.journal
  -- and with what is pending it is what was appended
  pub appended : b.appended ≡ entry_points (b.journal ++ b.pending)
  -- while the builder isn't spent, journal and pending are the entries taken
  pub whole : b.spent ≡ false → b.journal ++ b.pending ≡ entries_in b.taken
  -- also of a spent builder they are a prefix of the entries taken
  pub prefix : IsPrefix (b.journal ++ b.pending) (entries_in b.taken)
  -- while it isn't spent, fewer are pending than are published at once
  pub few : b.spent ≡ false → length b.pending < b.batch
  -- and none once every feeder's End was taken
  pub settled : b.spent ≡ false → all_ended b.feeders b.taken ≡ true → b.pending ≡ []

-- What a builder sees of its pair
pub record PairState : Type 0 where
  -- the published list
  pub published : Known
  -- the points that were appended
  pub appended : List Point
  -- the schema
  pub schema : Schema
  -- how many viewers there are
  pub viewers : ℕ

-- a pair of these
abbrev pub pair_state : Known → List Point → Schema → ℕ → PairState
pair_state published appended schema viewers = record { published = published; appended = appended; schema = schema; viewers = viewers }

-- the builder of these parts, of whose entries so many are published
abbrev pub builder_state : ℕ → ℕ → List Item → List Entry → ℕ → Bool → PairState → BuilderState
builder_state feeders batch taken entries count spent pair = record {
  feeders = feeders;
  batch = batch;
  taken = taken;
  journal = take count entries;
  pending = drop count entries;
  spent = spent;
  published = pair.published;
  appended = pair.appended;
  schema = pair.schema;
  viewers = pair.viewers;
}

-- What the type of a builder keeps that has counted so many Ends
pub record IsBuilder (b : BuilderState) (counted : ℕ) : Type 0 where
  -- the journal is what was published
  pub journal : KeepsJournal b
  -- there are 1 to 8 feeders
  pub feeders : (1 ≤ b.feeders) × (b.feeders ≤ 8)
  -- each item is of one of them
  pub from : AreOf b.feeders b.taken
  -- each feeder's entries are few
  pub numbers : (f : ℕ) → count_entries f b.taken ≤ 2 ^ 32
  -- the Ends counted are those of so many feeders
  pub ends : counted ≡ count_ended b.feeders b.taken
