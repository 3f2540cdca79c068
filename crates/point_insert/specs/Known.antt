-- What is known of the arena where a point is added.
use Rattle.std.specs.Prelude.{ℕ, ◌+◌, ◌*◌, ◌<◌, ◌≤◌, ◌^◌, IsTrue, List, ◌∷◌, sum_by}
use Rattle.arena_undo.specs.Worked.{Worked}
use Rattle.cube_view.specs.Places.{time_dim}
use Rattle.cube_view.specs.Points.{Point}
use Rattle.cube_view.specs.Validity.{sound}
use Rattle.cube_view.specs.Walks.{Walk}
use Rattle.cube_view.specs.declared.schema.Schema.{Schema}
use Rattle.node_arena.specs.Slots.{Slot}
use Rattle.node_arena.specs.Shape.{home_of}
use Rattle.proper_path.specs.Midway.{IsContentHome, IsBetween, DoneBefore}
use Rattle.proper_path.specs.Making.{AllOfShape}
use Rattle.proper_path.specs.Paths.{point_path}
use Rattle.proper_path.specs.Rooted.{IsRooted}
use Rattle.point_insert.specs.Room.{visits_from, allowance}
use Rattle.node_arena.specs.Amounts.{Weighted, spots_in}

-- how much the points of a list weigh
abbrev pub total_weight : List Weighted → ℕ
total_weight h = sum_by (λ (q : Weighted). q.amount) h

-- before the first visit at or below slot i, which stands at level 0 of dimension `dim`
pub record IsEnterable (dims : ℕ) (p : Weighted) (slots : List Slot) (updated : List ℕ) (dim i : ℕ) (homes : List Walk) (h : List Weighted) : Type 0 where
  pub rooted : IsRooted dims p slots dim i homes
  pub open rooted use *
  pub between : IsBetween dims slots homes h p (DoneBefore p (home_of homes i)) updated
  pub shape : AllOfShape (spots_in h) p.spot
  pub content : 1 < dim → IsContentHome (home_of homes i)
  pub light : total_weight (p ∷ h) < 2 ^ 63

-- homes and points are known for which it is so
pub record CanEnter (dims : ℕ) (p : Weighted) (slots : List Slot) (updated : List ℕ) (dim i : ℕ) : Type 0 where
  pub homes : List Walk
  pub points : List Weighted
  pub known : IsEnterable dims p slots updated dim i homes points

-- a point can be added at and below slot i, which stands at level 0 of dimension `dim`, by at most so many changes
pub record CanEnterWithin (schema : Schema) (point : Point) (before : Worked) (updated : List ℕ) (dim i most : ℕ) : Type 0 where
  pub is_sound : IsTrue (sound schema point)
  -- the insertion invariant holds of all that comes before the slot
  pub known : ∥ CanEnter (time_dim schema) (point_path schema point) before.slots updated dim i ∥₁
  -- there is room for the changes
  pub room : before.made + most ≤ before.room

-- a point can be added to a dimension before time, from the node `root` on
pub record CanAdd (schema : Schema) (point : Point) (before : Worked) (updated : List ℕ) (dim root : ℕ) : Type 0 where
  pub in_dims : (1 ≤ dim) × (dim < time_dim schema)
  pub within : CanEnterWithin schema point before updated dim root (5 * visits_from schema dim)
  pub open within use *

-- a point can be added to a content, which is slot i and a time table in the last dimension
pub record CanFill (schema : Schema) (point : Point) (before : Worked) (updated : List ℕ) (dim i : ℕ) : Type 0 where
  pub in_dims : (2 ≤ dim) × (dim ≤ time_dim schema)
  pub within : CanEnterWithin schema point before updated dim i (allowance schema dim)
  pub open within use *
