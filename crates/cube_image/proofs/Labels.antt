-- The labels of a cube are bytes.
use Rattle.std.proofs.Common.{◌≡◌, ℕ, zero, suc, ◌+◌, ◌*◌, ◌/◌, ◌%◌, ◌-◌, ◌^◌, ◌<◌, Bool, true, false, cond, ◌&&◌, ◌⊎◌, inl, inr, eqb, eqb-true, ne_eqb, ltb-true, nat_le, nat_lt, IsTrue, All, List, [], ◌∷◌, length, get_or, Option, Some, None, is_some, ap, arith}
use Rattle.std.specs.List.{list_all}
use Rattle.std.proofs.lemmas.Bool.{and_parts, leb-true, cases_eq}
use Rattle.std.proofs.lemmas.List.Elements.{All-nil, All-cons, All-head, All-tail, All-contains}
use Rattle.cube_view.specs.declared.category.Category.{Category}
use Rattle.cube_view.specs.declared.schema.Schema.{Schema}
use Rattle.cube_view.specs.declared.spot.Spot.{Spot}
use Rattle.cube_view.specs.Limits.{is_between, is_value, is_category_name, category_in_range}
use Rattle.cube_view.specs.Paths.{labels_from, paths_from}
use Rattle.cube_view.specs.Places.{time_dim, deepest, label_of, quadrant_at}
use Rattle.cube_view.specs.Points.{Point, spot_of}
use Rattle.cube_view.specs.Validity.{values_fit, tile_fits, sound}
use Rattle.cube_view.specs.Walks.{Step, down, across, Walk, SpotPath, Cursor, after_down, after_across, then_step, cursor, Under}
use Rattle.node_arena.specs.declared.link.Link.{Link}
use Rattle.node_arena.specs.Amounts.{spots_in}
use Rattle.node_arena.specs.Shape.{home_of}
use Rattle.node_arena.specs.Slots.{Slot, link_of}
use Rattle.cube_store.specs.Counted.{CountsPoints}
use Rattle.cube_view.proofs.SchemaBounds.{each_in_range}
use Rattle.cube_view.proofs.PointWeights.{sound-fits}
use Rattle.proper_path.specs.Paths.{paths_of}

-- all labels are bytes
abbrev Small : List ℕ → Type 0
Small [] = Unit {0}
Small (x ∷ xs) = (x < 256) × Small xs

abbrev AllSmall : List (List ℕ) → Type 0
AllSmall [] = Unit {0}
AllSmall (xs ∷ xss) = Small xs × AllSmall xss

-- and all that a walk has left
abbrev SmallCursor : Option Cursor → Type 0
SmallCursor None = Unit {0}
SmallCursor (Some c) = Small c.rest × AllSmall c.later

across-small : (later : List (List ℕ)) → AllSmall later → SmallCursor (after_across later)
across-small [] L = tt
across-small (path ∷ later) L = (L.0, L.1)

down-small : (l : ℕ) (rest : List ℕ) (later : List (List ℕ)) → Small rest → AllSmall later → SmallCursor (after_down l rest later)
down-small l [] later R L = tt
down-small l (x ∷ rest) later R L = elim (eqb l x) as (λ (b : Bool). SmallCursor (cond b (Some (record { rest = rest; later = later })) None)) [ true ↦ (R.1, L) | false ↦ tt ]

step-small : (e : Step) (o : Option Cursor) → SmallCursor o → SmallCursor (then_step o e)
step-small e None S = tt
step-small (down l) (Some c) S = down-small l c.rest c.later S.0 S.1
step-small across (Some c) S = across-small c.later S.1

cursor-small : (q : SpotPath) (a : Walk) → AllSmall q.paths → SmallCursor (cursor q a)
cursor-small q [] A = across-small q.paths A
cursor-small q (e ∷ a) A = step-small e (cursor q a) (cursor-small q a A)

-- a walk of a spot whose labels are bytes goes down by a byte
under-small : (q : SpotPath) (a : Walk) (l : ℕ) → AllSmall q.paths → Under q (down l ∷ a) → l < 256
under-small q a l A lies = go (cursor q a) (cursor-small q a A) lies
  where
    at : (rest : List ℕ) (later : List (List ℕ)) → Small rest → is_some (after_down l rest later) ≡ true → l < 256
    at [] later R is = absurd cc
    at (x ∷ rest) later R is = same (cases_eq l x)
      where
        same : (l ≡ x) ⊎ (l ≡ x → ⊥) → l < 256
        same (inl e) = let low = R.0 in omega arith
        same (inr n) =
            let none : is_some (cond {A = Option Cursor} (eqb l x) (Some (record { rest = rest; later = later })) None) ≡ false = ap (λ (b : Bool). is_some (cond {A = Option Cursor} b (Some (record { rest = rest; later = later })) None)) (ne_eqb l x n) in
            absurd cc

    go : (o : Option Cursor) → SmallCursor o → is_some (then_step o (down l)) ≡ true → l < 256
    go None S is = absurd cc
    go (Some c) S is = at c.rest c.later S.0 is

-- a value of a schema's category is a byte
values-small : (categories : List Category) (values : List ℕ) → list_all category_in_range categories ≡ true → values_fit categories values ≡ true → (k : ℕ) → get_or values k 0 < 256
values-small categories [] L F k = omega arith
values-small [] (v ∷ values) L F zero = let parts = and_parts (eqb v 0) (values_fit [] values) F in let e = eqb-true v 0 parts.0 in omega arith
values-small [] (v ∷ values) L F (suc k) = values-small [] values L (and_parts (eqb v 0) (values_fit [] values) F).1 k
values-small (c ∷ categories) (v ∷ values) L F zero =
    let less = ltb-true v (length c.values) (and_parts (nat_lt v (length c.values)) (values_fit categories values) F).0 in
    let category = (and_parts (category_in_range c) (list_all category_in_range categories) L).0 in
    let named = (and_parts (is_category_name c.name && is_between 1 256 (length c.values)) (list_all is_value c.values) category).0 in
    let between = (and_parts (is_category_name c.name) (is_between 1 256 (length c.values)) named).1 in
    let few = leb-true (length c.values) 256 (and_parts (nat_le 1 (length c.values)) (nat_le (length c.values) 256) between).1 in
    omega arith
values-small (c ∷ categories) (v ∷ values) L F (suc k) =
    values-small categories values (and_parts (category_in_range c) (list_all category_in_range categories) L).1 (and_parts (nat_lt v (length c.values)) (values_fit categories values) F).1 k

quadrant-small : (a b : ℕ) → 2 * (a % 2) + b % 2 < 256
quadrant-small a b = omega arith

label-small : (z : Schema) (s : Spot) → ((k : ℕ) → get_or s.values k 0 < 256) → (dim level : ℕ) → label_of z s dim level < 256
label-small z s V dim level =
    elim (eqb dim 1) as (λ (b : Bool). cond b (quadrant_at z.depth level s.x s.y) (get_or s.values (dim - 2) 0) < 256) [
      | true ↦ quadrant-small (s.y / 2 ^ (z.depth - level)) (s.x / 2 ^ (z.depth - level))
      | false ↦ V (dim - 2)
    ]

labels-small : (z : Schema) (s : Spot) → ((k : ℕ) → get_or s.values k 0 < 256) → (dim level n : ℕ) → Small (labels_from z s dim level n)
labels-small z s V dim level zero = tt
labels-small z s V dim level (suc n) = (label-small z s V dim level, labels-small z s V dim (level + 1) n)

paths-small : (z : Schema) (s : Spot) → ((k : ℕ) → get_or s.values k 0 < 256) → (dim n : ℕ) → AllSmall (paths_from z s dim n)
paths-small z s V dim zero = tt
paths-small z s V dim (suc n) = (labels-small z s V dim 1 (deepest z dim), paths-small z s V (dim + 1) n)

points-small : (z : Schema) (h : List Point) → All (λ p. IsTrue (sound z p)) h → All (λ (q : SpotPath). AllSmall q.paths) (spots_in (paths_of z h))
points-small z [] S = All-nil (λ (q : SpotPath). AllSmall q.paths)
points-small z (p ∷ h) S =
    let fit = sound-fits z p (All-head (λ r. IsTrue (sound z r)) p h S) in
    let values = (and_parts (tile_fits z.depth (spot_of p)) (values_fit z.categories (spot_of p).values) fit).1 in
    All-cons (λ (q : SpotPath). AllSmall q.paths) _ (spots_in (paths_of z h)) (paths-small z (spot_of p) (values-small z.categories (spot_of p).values (each_in_range z) values) 1 (time_dim z)) (points-small z h (All-tail (λ r. IsTrue (sound z r)) p h S))

-- the labels of a cube's links are bytes
pub label-byte : (z : Schema) (slots : List Slot) (root size : ℕ) (h : List Point) → CountsPoints z slots root size h → (i label : ℕ) (l : Link) → link_of slots i (down label) ≡ Some l → label < 256
label-byte z slots root size h C i label l is =
    let w = C.shape.shaped.holds.wanted i (down label) l is in
    under-small w.spot (home_of C.homes i) label (All-contains (λ (q : SpotPath). AllSmall q.paths) (spots_in (paths_of z h)) w.spot (points-small z h C.all_sound) w.is_in) w.lies
