-- What an insertion does to the slots of a cube.
use Rattle.std.specs.Prelude.{◌<◌, ◌^◌, ℕ, List, ◌∷◌}
use Rattle.cube_view.specs.Walks.{Walk}
use Rattle.node_arena.specs.Amounts.{Weighted, spots_in}
use Rattle.node_arena.specs.Shape.{HasShape}
use Rattle.group_insert.specs.InsertingAll.{HasInserted}
use Rattle.node_arena.specs.Slots.{Slot}
use Rattle.point_insert.specs.Known.{total_weight}
use Rattle.proper_path.specs.Making.{IsSpotOf, AllOfShape}

-- the slots have a cube's shape over the points h, and p may join them
pub record IsInsertable (dims : ℕ) (p : Weighted) (slots : List Slot) (homes : List Walk) (h : List Weighted) : Type 0 where
  pub shape : HasShape dims slots homes h
  pub alike : AllOfShape (spots_in h) p.spot
  pub spot : IsSpotOf dims p.spot
  pub light : total_weight (p ∷ h) < 2 ^ 63

-- homes and points are known for which it is so
pub record CanInsert (dims : ℕ) (p : Weighted) (slots : List Slot) : Type 0 where
  pub homes : List Walk
  pub points : List Weighted
  pub known : IsInsertable dims p slots homes points

-- the new slots have the shape with p, for all homes and points that fitted
abbrev pub Inserts : ℕ → Weighted → List Slot → List Slot → Type 0
Inserts dims p old new = (homes : List Walk) (h : List Weighted) → IsInsertable dims p old homes h → HasInserted dims (p ∷ h) new
