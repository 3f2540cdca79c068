-- Lists of items: those of one feeder, and their order.
use Rattle.std.specs.Prelude.{◌≡◌, ℕ, suc, ◌+◌, ◌==◌, Bool, true, false, if◌then◌else◌, List, [], ◌∷◌, length, ⊤}
use Rattle.std.specs.List.{filter}
use Rattle.cube_view.specs.Points.{Point}
use Rattle.cube_view.specs.Validity.{valid}
use Rattle.cube_view.specs.declared.schema.Schema.{Schema}
use Rattle.feed_queue.specs.declared.item.Item.{Item}
use Rattle.feed_queue.specs.declared.item.Item.TheVariants.{One, End}
use Rattle.world_core.specs.Interleaving.{entry}
use Rattle.world_core.specs.declared.entry.Entry.{Entry}

-- the feeder that sent the item
abbrev pub feeder_of : Item → ℕ
feeder_of (One e) = e.feeder
feeder_of (End f n) = f

-- those of the items that are of the feeder
abbrev pub items_of : ℕ → List Item → List Item
items_of f items = filter (λ (i : Item). feeder_of i == f) items

-- the entries among the items
abbrev pub entries_in : List Item → List Entry
entries_in [] = []
entries_in (One e ∷ items) = e ∷ entries_in items
entries_in (End f n ∷ items) = entries_in items

-- an End is among the items
abbrev pub ends_in : List Item → Bool
ends_in [] = false
ends_in (One e ∷ items) = ends_in items
ends_in (End f n ∷ items) = true

-- how many Ends are among the items
abbrev pub count_ends : List Item → ℕ
count_ends [] = 0
count_ends (One e ∷ items) = count_ends items
count_ends (End f n ∷ items) = suc (count_ends items)

-- the feeder's End is among the items
abbrev pub has_end : ℕ → List Item → Bool
has_end f items = ends_in (items_of f items)

-- how many entries of the feeder are among the items
abbrev pub count_entries : ℕ → List Item → ℕ
count_entries f items = length (entries_in (items_of f items))

-- the item's point, if it has one, is valid for the schema
abbrev pub valid_item : Schema → Item → Bool
valid_item schema (One e) = valid schema e.point
valid_item schema (End f n) = true

-- the items that a feeder sends whose points are these, numbered from n on, and its End if it has ended
abbrev pub stream_from : ℕ → ℕ → List Point → Bool → List Item
stream_from f n [] ended = if ended then End f n ∷ [] else []
stream_from f n (p ∷ points) ended = One (entry f n p) ∷ stream_from f (n + 1) points ended

-- what may come after these items: an entry has the number of its feeder's entries before it, an End tells that number,
-- and neither follows an End of its feeder
abbrev pub ComesNext : List Item → Item → Type 0
ComesNext items (One e) = (e.number ≡ count_entries e.feeder items) × (has_end e.feeder items ≡ false)
ComesNext items (End f n) = (n ≡ count_entries f items) × (has_end f items ≡ false)

-- the items of one feeder are in order: its entries have the numbers from n on, an End tells their count, and nothing
-- follows it
abbrev pub IsInOrder : ℕ → List Item → Type 0
IsInOrder n [] = ⊤
IsInOrder n (One e ∷ items) = (e.number ≡ n) × IsInOrder (n + 1) items
IsInOrder n (End g m ∷ items) = (m ≡ n) × (items ≡ [])
