-- The stack of a trail, as its nodes are visited.
use Rattle.std.proofs.Common.{◌≡◌, ℕ, ◌+◌, ◌≤◌, List, [], ◌∷◌, ◌++◌, length, ap, ◌∙◌, arith}
use Rattle.std.proofs.lemmas.List.{length-map, length_push}
use Rattle.cube_view.specs.Points.{Point, spot_of}
use Rattle.cube_view.specs.Places.{deepest, time_dim}
use Rattle.cube_view.specs.declared.schema.Schema.{Schema}
use Rattle.node_arena.specs.declared.link.SlotId.{SlotId}
use Rattle.node_arena.specs.Slots.{Slot}
use Rattle.proper_path.specs.Paths.{point_path}
use Rattle.proper_path.specs.Rooted.{places_of, MadeTrail}
use Rattle.proper_path.proofs.Labels.{length-path_of, path_at-point_path}
use Rattle.point_insert.specs.Known.{CanEnter}
use Rattle.point_insert.proofs.TrailVisits.{trail_size}

-- a whole trail has a node for each level and the root
pub stack_size : (z : Schema) (q : Point) (old new : List Slot) (updated : List ℕ) (dim root : ℕ) (stack : List SlotId) → 1 ≤ dim → dim ≤ time_dim z → ∥ CanEnter (time_dim z) (point_path z q) old updated dim root ∥₁ → MadeTrail (time_dim z) (point_path z q) old new dim root (places_of stack) → length stack ≡ deepest z dim + 1
stack_size z q old new updated dim root stack low high C M =
    let s = trail_size (time_dim z) (point_path z q) old new updated dim root (places_of stack) C M in
    let n = length-map stack (λ (id : SlotId). id.0) in
    let p = ap length (path_at-point_path z q dim low high) in
    let l = length-path_of z (spot_of q) dim in
    omega (arith, s, n, p, l)

-- a stack from which a node was taken had one more
pub taken_size : (stack rest : List SlotId) (at : SlotId) → stack ≡ rest ++ at ∷ [] → length stack ≡ length rest + 1
taken_size stack rest at e = ap length e ∙ length_push rest at
