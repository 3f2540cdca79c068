-- What is written of a least cube is the image of every least cube of its points.
use Rattle.std.proofs.Common.{◌≡◌, ℕ, zero, suc, ◌+◌, ◌-◌, ◌≤◌, ◌^◌, ◌==◌, ◌&&◌, nat_lt, if◌then◌else◌, List, [], ◌∷◌, length, Result, Ok, Err, IfOk, refl, sym, ap, ap₂, ◌∙◌, subst}
use Rattle.std.specs.Prelude.{slice_index}
use Rattle.std.specs.List.Sorted.{IsPermutation}
use Rattle.std.proofs.lemmas.List.Sorted.{Contains-permutation, IsPermutation-map, IsPermutation-refl, IsPermutation-sym, length_permutation, sum_by-IsPermutation}
use Rattle.cube_view.specs.Paths.{labels_from, path_of, paths_from}
use Rattle.cube_view.specs.Places.{deepest, label_of, quadrant_at, time_dim}
use Rattle.cube_view.specs.Points.{Point, spot_of, weight_of_point}
use Rattle.cube_view.specs.Walks.{under, Walk}
use Rattle.cube_view.specs.declared.category.Category.{Category}
use Rattle.cube_view.specs.declared.schema.Schema.{Schema}
use Rattle.cube_view.specs.declared.spot.Spot.{Spot}
use Rattle.node_arena.specs.Amounts.{Weighted, spots_in}
use Rattle.node_arena.specs.Slots.{Slot}
use Rattle.node_arena.specs.Stats.{AllRising}
use Rattle.cube_store.specs.Counted.{CountsLeast, CountsPoints}
use Rattle.cube_store.specs.Holding.{IsLeastCubeOf}
use Rattle.cube_store.specs.declared.cube.Cube.{Cube}
use Rattle.cube_image.specs.Cubes.{TellsOneImage}
use Rattle.cube_image.specs.Image.{IsImageOf, IsWritten}
use Rattle.cube_image.specs.declared.fault.SaveFault.{SaveFault}
use Rattle.least_image.specs.OneImage.{AreOneBag, IsLeastCube, TellsSharedImage}
use Rattle.proper_path.specs.Paths.{point_path, paths_of}
use Rattle.shape_test.specs.Laws.{AllTablesCounted}
use Rattle.image_cube.proofs.ImageOfCube.{counted-tables}
use Rattle.image_cube.specs.LeastImages.{HaveSameForm, AreLeastSlots, IsLeastImage, TellsOneFile}

-- ---- schemas that are alike have the same paths

-- a point of these paths
abbrev at_paths : Point → List (List ℕ) → Weighted
at_paths p paths = record { spot = record { paths = paths; bin = (spot_of p).bin }; amount = weight_of_point p }

module _ (z y : Schema) (A : HaveSameForm z y) where
  alike_dims : time_dim y ≡ time_dim z
  alike_dims = ap (λ (cs : List Category). length cs + 2) A.categories

  alike_label : (s : Spot) (dim level : ℕ) → label_of y s dim level ≡ label_of z s dim level
  alike_label s dim level = ap (λ (d : ℕ). if dim == 1 then quadrant_at d level s.x s.y else slice_index s.values (dim - 2)) A.depth

  alike_labels : (s : Spot) (dim level n : ℕ) → labels_from y s dim level n ≡ labels_from z s dim level n
  alike_labels s dim level zero = refl
  alike_labels s dim level (suc n) = ap₂ (λ (l : ℕ) (ls : List ℕ). l ∷ ls) (alike_label s dim level) (alike_labels s dim (level + 1) n)

  alike_deepest : (dim : ℕ) → deepest y dim ≡ deepest z dim
  alike_deepest dim = ap₂ (λ (d n : ℕ). if dim == 1 then d else (if nat_lt dim n then 1 else 0)) A.depth alike_dims

  alike_path : (s : Spot) (dim : ℕ) → path_of y s dim ≡ path_of z s dim
  alike_path s dim = alike_labels s dim 1 (deepest y dim) ∙ ap (labels_from z s dim 1) (alike_deepest dim)

  alike_paths : (s : Spot) (dim n : ℕ) → paths_from y s dim n ≡ paths_from z s dim n
  alike_paths s dim zero = refl
  alike_paths s dim (suc n) = ap₂ (λ (p : List ℕ) (ps : List (List ℕ)). p ∷ ps) (alike_path s dim) (alike_paths s (dim + 1) n)

  alike_point : (p : Point) → point_path y p ≡ point_path z p
  alike_point p = ap (at_paths p) (alike_paths (spot_of p) 1 (time_dim y) ∙ ap (paths_from z (spot_of p) 1) alike_dims)

  alike_points : (h : List Point) → paths_of y h ≡ paths_of z h
  alike_points [] = refl
  alike_points (p ∷ h) = ap₂ (λ (w : Weighted) (ws : List Weighted). w ∷ ws) (alike_point p) (alike_points h)

-- ---- one image

-- what one adds under an address in a bin
abbrev amount_of : Walk → ℕ → Weighted → ℕ
amount_of a bin w = if under w.spot a && (w.spot.bin == bin) then w.amount else 0

-- lists that are the same but for their order are one bag
one_bag : (z : Schema) (h k : List Point) → IsPermutation h k → AreOneBag (paths_of z h) (paths_of z k)
one_bag z h k P =
    let Q : IsPermutation (paths_of z h) (paths_of z k) = IsPermutation-map (λ (p : Point). point_path z p) h k P in
    let S : IsPermutation (spots_in (paths_of z h)) (spots_in (paths_of z k)) = IsPermutation-map (λ (w : Weighted). w.spot) (paths_of z h) (paths_of z k) Q in
    record {
      spots = λ q. (
        λ c. Contains-permutation (spots_in (paths_of z h)) (spots_in (paths_of z k)) q S c,
        λ c. Contains-permutation (spots_in (paths_of z k)) (spots_in (paths_of z h)) q (IsPermutation-sym _ _ S) c,
      );
      weigh = λ a bin. sym (sum_by-IsPermutation (amount_of a bin) (paths_of z h) (paths_of z k) Q);
    }

least_cube : (z : Schema) (slots : List Slot) (h : List Point) (L : AreLeastSlots z slots h) → IsLeastCube (time_dim z) slots L.least.counts.homes (paths_of z h)
least_cube z slots h L = record { shape = L.least.counts.shape; least = L.least.least; rising = L.rising; counted = L.counted }

-- so it is under a schema that is alike
alike_cube : (z y : Schema) (slots : List Slot) (h : List Point) → HaveSameForm z y → (L : AreLeastSlots y slots h) → IsLeastCube (time_dim z) slots L.least.counts.homes (paths_of z h)
alike_cube z y slots h A L =
    subst (λ (n : ℕ). IsLeastCube n slots L.least.counts.homes (paths_of z h)) (alike_dims z y A)
    (subst (λ (l : List Weighted). IsLeastCube (time_dim y) slots L.least.counts.homes l) (alike_points z y A h) (least_cube y slots h L))

module _ (shared : TellsSharedImage) (z : Schema) (slots : List Slot) (h : List Point) (L : AreLeastSlots z slots h) (bytes : List ℕ) (I : IsImageOf slots (length h) bytes) where
  pub least-image : IsLeastImage z bytes h
  least-image = record {
    slots = slots;
    least = L;
    each = λ y again k A P M. subst (λ (n : ℕ). IsImageOf again n bytes) (sym (length_permutation h k P))
        (shared (time_dim z) slots again L.least.counts.homes M.least.counts.homes (paths_of z h) (paths_of z k) (least_cube z slots h L) (alike_cube z y again k A M) (one_bag z h k P) (length h) bytes I);
  }

-- ---- of the one who writes it

module _ (shared : TellsSharedImage) (z : Schema) (slots : List Slot) (root size : ℕ) (R : AllRising slots) (T : (bytes : List ℕ) → IsWritten slots size bytes → (h : List Point) → CountsPoints z slots root size h → AllTablesCounted slots) where
  at-top-least : (h : List Point) → CountsLeast z slots root size h → CountsLeast z slots 0 (length h) h
  at-top-least h C = subst (λ (n : ℕ). CountsLeast z slots 0 n h) C.counts.number (subst (λ (r : ℕ). CountsLeast z slots r size h) C.counts.at_top C)

  each-least : (r : Result (List ℕ) SaveFault) → IfOk r (IsWritten slots size) → IfOk r (λ bytes. (h : List Point) → CountsLeast z slots root size h → IsLeastImage z bytes h)
  each-least (Ok bytes) W = λ h C.
      least-image shared z slots h (record { least = at-top-least h C; rising = R; counted = T bytes W h C.counts }) bytes (subst (λ (n : ℕ). IsImageOf slots n bytes) C.counts.number W.image)
  each-least (Err fault) W = tt

-- a cube
pub saved-least : TellsSharedImage → (cube : Cube) → AllRising cube.arena → (length cube.arena ≤ 2 ^ 32 → AllTablesCounted cube.arena) → (r : Result (List ℕ) SaveFault) → IfOk r (IsWritten cube.arena cube.size)
    → IfOk r (λ bytes. (h : List Point) → IsLeastCubeOf cube h → IsLeastImage cube.schema bytes h)
saved-least shared cube R A r W = each-least shared cube.schema cube.arena cube.root.0 cube.size R (counted-tables cube.schema cube.arena cube.root.0 cube.size cube.bag.few R A) r W

-- ---- two files

pub one_file : TellsOneImage → TellsOneFile
one_file one z y bytes bytes' h k A P I J =
    let C = J.least.least.counts in
    one J.slots (record { homes = C.homes; has_homes = C.shape.has_homes }) J.least.rising (length k) bytes bytes' (I.each y J.slots k A P J.least) (J.each y J.slots k (record { depth = refl; categories = refl }) (IsPermutation-refl k) J.least)
