-- The conditions on single slots hold exactly of a schema's cube.
use Rattle.std.proofs.Common.{◌≡◌, ℕ, zero, suc, ◌+◌, ◌-◌, ◌<◌, ◌≤◌, true, List, [], length, get_or, Contains, refl, ap, ◌∙◌, arith}
use Rattle.cube_view.specs.Places.{deepest, time_dim}
use Rattle.cube_view.specs.Walks.{Walk, SpotPath}
use Rattle.cube_view.specs.declared.schema.Schema.{Schema}
use Rattle.cube_view.proofs.FinerWalks.{under-some}
use Rattle.node_arena.specs.Amounts.{Weighted, spots_in}
use Rattle.node_arena.specs.Shape.{home_of}
use Rattle.node_arena.specs.Slots.{Slot, slot_of}
use Rattle.node_arena.specs.Stats.{AllRising}
use Rattle.shape_test.specs.Laws.{AllTablesCounted}
use Rattle.shape_test.specs.Levels.{EndsWithTime}
use Rattle.shape_test.specs.Wholes.{spelled_rows}
use Rattle.shape_test.proofs.Bag.{spelled-spot, tells_cube, tells_local}
use Rattle.shape_test.proofs.BinRows.{rows_at-paths}
use Rattle.shape_test.proofs.ShapeConditions.{under_home}
use Rattle.shape_test.specs.Fits.{IsSchemaCube, IsSchemaLocal, slots_bag}
use Rattle.shape_test.specs.Labels.{levels_from, schema_levels, labels_fit, paths_fit}
use Rattle.shape_test.specs.Laws.{DecidesCube, OwnsBag}
use Rattle.shape_test.proofs.AddressLabels.{used_fit, paths_of_fit}
use Rattle.shape_test.proofs.CategoryWays.{in_time}

length-levels : (schema : Schema) (dim n : ℕ) → length (levels_from schema dim n) ≡ n
length-levels schema dim zero = refl
length-levels schema dim (suc n) = let r = length-levels schema (suc dim) n in omega (arith, r)

level_at : (schema : Schema) (n dim k : ℕ) → k < n → get_or (levels_from schema dim n) k 0 ≡ deepest schema (k + dim)
level_at schema zero dim k l = absurd (omega (arith, l))
level_at schema (suc n) dim zero l = ap (deepest schema) (omega arith)
level_at schema (suc n) dim (suc k) l = level_at schema n (suc dim) k (omega (arith, l)) ∙ ap (deepest schema) (omega arith)

pub ends_with_time : (schema : Schema) → EndsWithTime (time_dim schema) (schema_levels schema)
ends_with_time schema = record {
  size = length-levels schema 1 (time_dim schema);
  some = omega arith;
  last = level_at schema (time_dim schema) 1 (time_dim schema - 1) (omega arith) ∙ (ap (deepest schema) (omega arith) ∙ in_time schema (time_dim schema) (omega arith));
}

labels_at : (schema : Schema) (slots : List Slot) (homes : List Walk) (h : List Weighted) → IsSchemaCube schema slots homes h → (i : ℕ) → i < length slots → labels_fit schema (home_of homes i) ≡ true
labels_at schema slots homes h C zero l = ap (labels_fit schema) C.cube.shape.has_homes.root
labels_at schema slots homes h C (suc i) l =
    let w = under_home (time_dim schema) slots homes h C.cube.shape (suc i) (omega arith) l in
    let s = under-some w.spot (home_of homes (suc i)) w.lies in
    (used_fit schema w.spot (home_of homes (suc i)) s.0 (C.labels w.spot w.is_in) s.1).used

pub cube_is_local : (schema : Schema) (slots : List Slot) (homes : List Walk) (h : List Weighted) → AllRising slots → IsSchemaCube schema slots homes h → IsSchemaLocal schema slots homes
cube_is_local schema slots homes h R C = record {
  local = tells_local (time_dim schema) (schema_levels schema) slots homes h (ends_with_time schema) R C.cube;
  labels = labels_at schema slots homes h C;
}

module _ (schema : Schema) (slots : List Slot) (homes : List Walk) (labels : (i : ℕ) → i < length slots → labels_fit schema (home_of homes i) ≡ true) where
  -- the rows of the first slots have labels of the schema
  bag_labels : (n : ℕ) → n ≤ length slots → (q : SpotPath) → Contains (spots_in (spelled_rows (schema_levels schema) slots homes n)) q → paths_fit schema 1 q.paths ≡ true
  bag_labels n le q c =
      let s = spelled-spot (schema_levels schema) slots homes n q c in
      let p = rows_at-paths (schema_levels schema) (home_of homes s.0) (slot_of slots s.0) q s.2 in
      let lt = s.1 in
      ap (paths_fit schema 1) p.1 ∙ paths_of_fit schema (home_of homes s.0) [] [] (labels s.0 (omega (arith, lt, le))) refl refl

pub local_is_cube : (schema : Schema) (slots : List Slot) (homes : List Walk) → AllTablesCounted slots → IsSchemaLocal schema slots homes → IsSchemaCube schema slots homes (slots_bag schema slots homes)
local_is_cube schema slots homes A L = record {
  cube = tells_cube (time_dim schema) (schema_levels schema) slots homes (ends_with_time schema) A L.local;
  labels = bag_labels schema slots homes L.labels (length slots) (omega arith);
}

pub decides_cube : DecidesCube
decides_cube schema slots homes A R = (cube_is_local schema slots homes (slots_bag schema slots homes) R, local_is_cube schema slots homes A)

pub owns_bag : OwnsBag
owns_bag schema slots homes h A R C = local_is_cube schema slots homes A (cube_is_local schema slots homes h R C)
