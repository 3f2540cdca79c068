-- Slots that an arena builds at its end.
use Rattle.std.proofs.Common.{◌≡◌, ℕ, ◌^◌, ◌≤◌, Bool, true, false, MatchBool, List, [], ◌∷◌, ◌++◌, Option, Some, None, sym, ap, ◌∙◌, arith}
use Rattle.std.specs.FinMap.{from_sorted}
use Rattle.time_table.specs.Counts.{total_count}
use Rattle.time_table.proofs.AddLaws.{total_count-empty}
use Rattle.node_arena.specs.declared.link.Link.{Link}
use Rattle.node_arena.specs.Slots.{Children, Slot, node, table, counts_of}
use Rattle.node_arena.specs.Calls.{with_slot}
use Rattle.time_table.specs.Rows.{AreRows, row_total}
use Rattle.time_table.proofs.RowLists.{total_of_rows}
use Rattle.image_parse.specs.Images.{AllLight}
use Rattle.image_parse.specs.Views.{IsLightTable, KeepsLight, kept_if}

light_more : (slots : List Slot) (s : Slot) → AllLight slots → total_count (counts_of s) ≤ 2 ^ 63 → AllLight (slots ++ s ∷ [])
light_more [] s all light = (light, tt)
light_more (t ∷ slots) s all light = (all.0, light_more slots s all.1 light)

light_front : (slots : List Slot) (s : Slot) → AllLight (slots ++ s ∷ []) → AllLight slots
light_front [] s all = tt
light_front (t ∷ slots) s all = (all.0, light_front slots s all.1)

light_last : (slots : List Slot) (s : Slot) → AllLight (slots ++ s ∷ []) → total_count (counts_of s) ≤ 2 ^ 63
light_last [] s all = all.0
light_last (t ∷ slots) s all = light_last slots s all.1

-- an arena keeps a slot more that is light
pub keeps_light : (arena now slots : List Slot) (s : Slot) → KeepsLight (Some arena) slots → now ≡ with_slot arena s → total_count (counts_of s) ≤ 2 ^ 63 → KeepsLight (Some now) (slots ++ s ∷ [])
keeps_light arena now slots s K e light = (e ∙ ap (λ (base : List Slot). with_slot base s) K.0, light_more slots s K.1 light)

-- a node is
pub node_light : (cs : Children) (content : Option Link) → total_count (counts_of (node cs content)) ≤ 2 ^ 63
node_light cs content = omega (arith, total_count-empty)

-- none keeps more slots than none kept, and none keeps a heavy one
pub keeps_none : (slots : List Slot) (s : Slot) → KeepsLight None slots → KeepsLight None (slots ++ s ∷ [])
keeps_none slots s K = λ all. K (light_front slots s all)

pub keeps_heavy : (slots : List Slot) (s : Slot) → ¬ (total_count (counts_of s) ≤ 2 ^ 63) → KeepsLight None (slots ++ s ∷ [])
keeps_heavy slots s heavy = λ all. heavy (light_last slots s all)

-- a table of rows counts what they do
pub table_weighs : (rows : List (ℕ × ℕ)) (s : Slot) → AreRows 0 rows → table (from_sorted rows) ≡ s → total_count (counts_of s) ≡ row_total rows
table_weighs rows s fit is = ap (λ (t : Slot). total_count (counts_of t)) (sym is) ∙ total_of_rows 0 rows fit

-- what an arena keeps with a table more
pub keeps_table : (arena now slots : List Slot) (rows : List (ℕ × ℕ)) (s : Slot) (added : Bool) → AreRows 0 rows → table (from_sorted rows) ≡ s → KeepsLight (Some arena) slots
    → MatchBool added (IsLightTable arena now rows) (¬ (row_total rows ≤ 2 ^ 63)) → KeepsLight (kept_if added now) (slots ++ s ∷ [])
keeps_table arena now slots rows s true fit is K T =
    let total = table_weighs rows s fit is in
    let light = T.light in
    keeps_light arena now slots s K (T.put ∙ ap (with_slot arena) is) (omega (arith, total, light))
keeps_table arena now slots rows s false fit is K heavy = keeps_heavy slots s (λ le. heavy (let total = table_weighs rows s fit is in omega (arith, total, le)))
