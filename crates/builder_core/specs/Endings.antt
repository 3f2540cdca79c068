-- Which feeders' Ends are among some items.
use Rattle.std.specs.Prelude.{◌≡◌, ℕ, zero, suc, ◌+◌, ◌≤◌, Bool, true, ◌&&◌, if◌then◌else◌, List}
use Rattle.feed_queue.specs.Items.{has_end}
use Rattle.feed_queue.specs.declared.item.Item.{Item}

-- the End of each feeder from 1 to n is among the items
abbrev pub all_ended : ℕ → List Item → Bool
all_ended zero items = true
all_ended (suc n) items = has_end (suc n) items && all_ended n items

-- how many of the feeders from 1 to n have their End among the items
abbrev pub count_ended : ℕ → List Item → ℕ
count_ended zero items = 0
count_ended (suc n) items = (if has_end (suc n) items then 1 else 0) + count_ended n items

-- the same as a fact of each feeder
abbrev pub EachEnded : ℕ → List Item → Type 0
EachEnded n items = (f : ℕ) → 1 ≤ f → f ≤ n → has_end f items ≡ true
