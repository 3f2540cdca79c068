-- The numbers of an arena's slots and links.
use Rattle.std.specs.Prelude.{◌≡◌, ℕ, ◌+◌, Bool, true, false, not, List, sum_by, count_by, if◌then◌else◌, min, ◌-◌, ◌^◌, Option, Some, None, All}
use Rattle.cube_view.specs.declared.stat.Stat.{Stat}
use Rattle.node_arena.specs.declared.link.Link.{Link}
use Rattle.node_arena.specs.declared.link.LinkKind.{LinkKind}
use Rattle.node_arena.specs.declared.link.LinkKind.TheVariants.{Proper, Shared}
use Rattle.cube_view.specs.Walks.{Walk}
use Rattle.node_arena.specs.Amounts.{Weighted}
use Rattle.node_arena.specs.Slots.{Children, IsRising, Slot, children_of, content_of, is_table}
use Rattle.node_arena.specs.Shape.{IsShaped}

-- the link is of the kind Proper
abbrev pub is_proper_kind : LinkKind → Bool
is_proper_kind Proper = true
is_proper_kind Shared = false

-- the link is proper
abbrev pub is_proper : Link → Bool
is_proper l = is_proper_kind l.kind

-- the link is shared
abbrev pub is_shared : Link → Bool
is_shared l = not (is_proper l)

-- how many of the children's links pass a test
abbrev pub children_that : (Link → Bool) → Children → ℕ
children_that p children = count_by (λ (k : ℕ × Link). p k.1) children

-- 1 if there is a content link that passes a test
abbrev pub content_that : (Link → Bool) → Option Link → ℕ
content_that p None = 0
content_that p (Some l) = if p l then 1 else 0

-- how many links of the slot pass a test
abbrev pub links_that : (Link → Bool) → Slot → ℕ
links_that p s = children_that p (children_of s) + content_that p (content_of s)

-- how many slots are nodes
abbrev pub node_count : List Slot → ℕ
node_count slots = count_by (λ s. not (is_table s)) slots

-- how many slots are time tables
abbrev pub table_count : List Slot → ℕ
table_count slots = count_by is_table slots

-- how many links are proper
abbrev pub proper_count : List Slot → ℕ
proper_count slots = sum_by (links_that is_proper) slots

-- how many links are shared
abbrev pub shared_count : List Slot → ℕ
shared_count slots = sum_by (links_that is_shared) slots

-- the children of each slot stand in rising order of label
abbrev pub AllRising : List Slot → Type 0
AllRising slots = All (λ s. IsRising (children_of s)) slots

-- a count of 64 bits, which stands still at its end
abbrev pub capped : ℕ → ℕ
capped n = min n (2 ^ 64 - 1)

-- the numbers of an arena, as far as 64 bits count
abbrev pub stat_of : List Slot → Stat
stat_of slots = record { nodes = capped (node_count slots); tables = capped (table_count slots); proper = capped (proper_count slots); shared = capped (shared_count slots) }

-- the numbers with those of one slot more
abbrev pub with_slot : Stat → Slot → Stat
with_slot stat s = record { nodes = capped (stat.nodes + (if is_table s then 0 else 1)); tables = capped (stat.tables + (if is_table s then 1 else 0)); proper = capped (stat.proper + links_that is_proper s); shared = capped (stat.shared + links_that is_shared s) }

-- in a shape the numbers of nodes and tables together are one more than that of proper links
abbrev pub TellsStat : List Slot → Stat → Type 0
TellsStat slots stat = (dims : ℕ) (homes : List Walk) (h : List Weighted) → IsShaped dims slots homes h → stat.nodes + stat.tables ≡ stat.proper + 1

-- in a shape every slot but the root has its one proper link
abbrev pub TellsLinks : Type 0
TellsLinks = (dims : ℕ) (slots : List Slot) (homes : List Walk) (h : List Weighted) → IsShaped dims slots homes h → AllRising slots → node_count slots + table_count slots ≡ proper_count slots + 1
