-- The numbers of a cube.
use Rattle.std.proofs.Common.{◌≡◌, ℕ, ◌<◌, ◌^◌, Bool, true, false, cond, ltb, List, length, refl, ap, arith}
use Rattle.std.proofs.Math.Logic.{∥∥₁_elim}
use Rattle.std.proofs.Math.Nat.{ℕ_set}
use Rattle.std.specs.FinMap.Entries.{is_sorted}
use Rattle.std.specs.List.{list_all}
use Rattle.std.specs.Ordering.{nat_cmp}
use Rattle.std.proofs.lemmas.Bool.{and_parts, and_from, lt-ltb, ltb-true}
use Rattle.cube_view.specs.Places.{time_dim}
use Rattle.cube_view.specs.declared.schema.Schema.{Schema}
use Rattle.node_arena.specs.Slots.{Slot, children_of}
use Rattle.node_arena.specs.Stats.{stat_of, AllRising}
use Rattle.node_arena.proofs.LinkCounts.{total_tells}
use Rattle.cube_store.specs.Counted.{HasPoints}
use Rattle.cube_store.specs.Numbers.{is_in_memory, lone_root, cube_numbers, OwnsAllButRoot}
use Rattle.cube_store.proofs.PairOrder.{rises_from_test, test_from_rises, list_all-from, list_all-to}
use Rattle.proper_path.specs.Paths.{paths_of}

abbrev in_order : Slot → Bool
in_order s = is_sorted nat_cmp (children_of s)

-- an arena in memory has the numbers of its slots
pub numbers_in_memory : (slots : List Slot) → AllRising slots → length slots < 2 ^ 64 → cube_numbers slots ≡ stat_of slots
numbers_in_memory slots R few =
    let all : list_all in_order slots ≡ true = list_all-from in_order slots (λ i d lt. test_from_rises _ (R i d lt)) in
    ap (λ b. cond b (stat_of slots) lone_root) (and_from (list_all in_order slots) (ltb (length slots) (2 ^ 64)) all (lt-ltb _ _ few))

-- each slot of a cube but the root has one proper link to it
pub OwnsAllButRoot-cube : (z : Schema) (slots : List Slot) (root size : ℕ) → HasPoints z slots root size → OwnsAllButRoot (cube_numbers slots)
OwnsAllButRoot-cube z slots root size has = ∥∥₁_elim has (ℕ_set _ _) (λ C. elim (is_in_memory slots) as (λ b. is_in_memory slots ≡ b → OwnsAllButRoot (cond b (stat_of slots) lone_root)) [
  | true ↦ λ e.
      let parts = and_parts (list_all in_order slots) (ltb (length slots) (2 ^ 64)) e in
      let all = list_all-to in_order slots parts.0 in
      total_tells slots (stat_of slots) refl (λ i d lt. rises_from_test _ (all i d lt)) (ltb-true _ _ parts.1) (time_dim z) C.1.homes (paths_of z C.0) C.1.shape.shaped
  | false ↦ λ e. omega arith
] refl)
