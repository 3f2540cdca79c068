-- What the slots of a cube say to a reader: where a walk stands, the weight at a spot, and what the calls cost.
use Rattle.std.specs.Prelude.{◌≡◌, ℕ, ◌+◌, ◌-◌, ◌≤◌, Bool, ◌&&◌, ◌==◌, nat_lt, eqb, if◌then◌else◌, List, [], length, map, filter, slice_index_or, Option, Some, None}
use Rattle.std.specs.FinMap.{empty, entries}
use Rattle.std.specs.Set.{distinct_count}
use Rattle.probe_core.specs.Bits.{bits}
use Rattle.cube_view.specs.Costs.{ViewCosts}
use Rattle.cube_view.specs.Paths.{spot_path, steps_of, IsOpenBeyond}
use Rattle.cube_view.specs.Places.{IsAddress}
use Rattle.cube_view.specs.Validity.{fits}
use Rattle.cube_view.specs.declared.address.Address.{Address}
use Rattle.cube_view.specs.declared.schema.Schema.{Schema}
use Rattle.cube_view.specs.declared.spot.Spot.{Spot}
use Rattle.time_table.specs.Counts.{BinCounts}
use Rattle.time_table.specs.Series.{each_cost}
use Rattle.node_arena.specs.Reach.{weight_at}
use Rattle.node_arena.specs.Slots.{Children, Slot, child_label, children_of, counts_of, slot_of, walk_end}

-- An address that a walk comes to: it has values only for what the walk went down.
pub record IsWalkAddress (schema : Schema) (address : Address) : Type 0 where
  -- it is one of the schema
  pub placed : IsAddress schema address
  -- it has four values, and those past the categories and the address's own dimension are open
  pub four : length address.values ≡ 4
  pub beyond : IsOpenBeyond schema address
  -- at level 0 of a category the category's value is open too
  pub fresh : 2 ≤ address.dim → address.level ≡ 0 → slice_index_or address.values (address.dim - 2) None ≡ None

-- the slot that the steps of an address lead to from the root, if there is one
abbrev pub slot_under : List Slot → Address → Option ℕ
slot_under slots address = walk_end slots 0 (steps_of address)

-- A cursor stands at a slot and an address: the steps of the address lead to the slot.
pub record StandsAt (schema : Schema) (slots : List Slot) (slot : ℕ) (address : Address) : Type 0 where
  pub walked : IsWalkAddress schema address
  pub reached : slot_under slots address ≡ Some slot

-- a cube of the schema can count at the spot: it is one of the schema, and has four values
abbrev pub is_countable : Schema → Spot → Bool
is_countable schema s = fits schema s && (length s.values == 4)

-- what the slots count at a spot: for one of the schema, what the table at the end of its whole path has in its bin
abbrev pub spot_weight : Schema → List Slot → Spot → ℕ
spot_weight schema slots s = if is_countable schema s then weight_at slots (spot_path schema s) else 0

-- the children of a slot, if there is one
abbrev pub children_in : List Slot → Option ℕ → Children
children_in slots None = []
children_in slots (Some i) = children_of (slot_of slots i)

-- the counts of a slot, if there is one
abbrev pub counts_in : List Slot → Option ℕ → BinCounts
counts_in slots None = empty
counts_in slots (Some i) = counts_of (slot_of slots i)

-- how many labels the children of a slot have
abbrev pub label_count : Children → ℕ
label_count children = distinct_count eqb (map child_label children)

-- how many bins of a table have a record
abbrev pub bin_count : BinCounts → ℕ
bin_count counts = distinct_count eqb (map (λ e. e.0) (filter (λ e. nat_lt 0 e.1) (entries counts)))

-- At most how many steps the calls take: `down` and `next_label` find the node and search its children, `before` finds
-- the table and searches its rows, `before_each` finds it and does so for each end, or looks at each row.
abbrev pub cube_costs : List Slot → ViewCosts
cube_costs slots = record {
  down_cost = λ a. 1 + bits (label_count (children_in slots (slot_under slots a)));
  before_cost = λ a. 2 + bits (bin_count (counts_in slots (slot_under slots a)));
  before_each_cost = λ a n. 1 + each_cost n (bin_count (counts_in slots (slot_under slots a)));
}
