-- How many entries there are, by their numbers.
use Rattle.std.specs.Prelude.{◌≡◌, ℕ, ◌^◌, ◌≤◌, ◌<◌, List, ◌∷◌, ◌++◌, All, length}
use Rattle.cube_view.specs.Bag.{most_points}
use Rattle.feed_queue.specs.Items.{feeder_of, entries_in, count_entries}
use Rattle.feed_queue.specs.declared.item.Item.{Item}
use Rattle.feed_queue.specs.declared.item.Item.TheVariants.{One}
use Rattle.world_core.specs.declared.entry.Entry.{Entry}

-- each entry has a number of 32 bits, which is how many entries of its feeder stand before it
abbrev pub AreNumbered : List Item → Type 0
AreNumbered items = (before : List Item) (e : Entry) (after : List Item) → items ≡ before ++ One e ∷ after → (e.number < 2 ^ 32) × (e.number ≡ count_entries e.feeder before)

-- each item is of one of the feeders from 1 to n
abbrev pub AreOf : ℕ → List Item → Type 0
AreOf n items = All (λ (i : Item). (1 ≤ feeder_of i) × (feeder_of i ≤ n)) items

-- the numbered entries of at most eight feeders are no more than the points that a bag may be of
abbrev pub EntriesAreFew : Type 0
EntriesAreFew = (n : ℕ) (items : List Item) → n ≤ 8 → AreOf n items → AreNumbered items → length (entries_in items) ≤ most_points
