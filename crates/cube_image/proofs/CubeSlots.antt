-- The slots of a cube can be written, and all are.
use Rattle.std.proofs.Common.{◌≡◌, ℕ, List, length}
use Rattle.std.proofs.Math.Logic.{∥∥₁_elim, ∥∥₁_map}
use Rattle.std.proofs.Math.Nat.{ℕ_set}
use Rattle.cube_view.specs.Points.{Point}
use Rattle.cube_view.specs.declared.schema.Schema.{Schema}
use Rattle.node_arena.specs.Slots.{Slot}
use Rattle.node_arena.specs.Stats.{AllRising}
use Rattle.cube_store.specs.Counted.{HasPoints, CountsPoints}
use Rattle.cube_image.specs.Cubes.{CanWrite}
use Rattle.cube_image.specs.Order.{IsOrder, in_order}
use Rattle.cube_image.proofs.Labels.{label-byte}
use Rattle.cube_image.proofs.WholeOrder.{all_in_order}

pub can_write : (schema : Schema) (slots : List Slot) (root size : ℕ) → HasPoints schema slots root size → CanWrite slots root
can_write schema slots root size has = record {
  at_top = ∥∥₁_elim has (ℕ_set _ _) (λ (s : (h : List Point) × CountsPoints schema slots root size h). s.1.at_top);
  homes = ∥∥₁_map has (λ (s : (h : List Point) × CountsPoints schema slots root size h). record { homes = s.1.homes; has_homes = s.1.shape.shaped.has_homes });
}

pub cube_in_order : (schema : Schema) (slots : List Slot) (root size : ℕ) → HasPoints schema slots root size → AllRising slots → (places : List ℕ) → IsOrder slots places → length (in_order slots places) ≡ length slots
cube_in_order schema slots root size has R places O =
    ∥∥₁_elim has (ℕ_set _ _) (λ (s : (h : List Point) × CountsPoints schema slots root size h). all_in_order slots (record { homes = s.1.homes; has_homes = s.1.shape.shaped.has_homes }) R (λ i label l is. label-byte schema slots root size s.0 s.1 i label l is) places O)
