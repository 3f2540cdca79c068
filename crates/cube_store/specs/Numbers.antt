-- The numbers of a cube's slots and links.
use Rattle.std.specs.Prelude.{◌≡◌, ◌+◌, ◌^◌, Bool, ◌&&◌, nat_lt, if◌then◌else◌, List, length}
use Rattle.std.specs.FinMap.Entries.{is_sorted}
use Rattle.std.specs.List.{list_all}
use Rattle.std.specs.Ordering.{nat_cmp}
use Rattle.cube_view.specs.declared.stat.Stat.{Stat}
use Rattle.node_arena.specs.Slots.{Slot, children_of}
use Rattle.node_arena.specs.Stats.{stat_of}

-- the slots are those of an arena in memory: each node's labels rise, and 64 bits count the slots
abbrev pub is_in_memory : List Slot → Bool
is_in_memory slots = list_all (λ s. is_sorted nat_cmp (children_of s)) slots && nat_lt (length slots) (2 ^ 64)

-- the numbers of a root alone
abbrev pub lone_root : Stat
lone_root = record { nodes = 1; tables = 0; proper = 0; shared = 0 }

-- the numbers of a cube are those of its arena, which is one in memory
abbrev pub cube_numbers : List Slot → Stat
cube_numbers slots = if is_in_memory slots then stat_of slots else lone_root

-- each slot but the root has one proper link to it
abbrev pub OwnsAllButRoot : Stat → Type 0
OwnsAllButRoot stat = stat.nodes + stat.tables ≡ stat.proper + 1
