-- Points that are gathered behind those that a cube counts, and inserted as one group.
use Rattle.std.proofs.Common.{◌≡◌, ◌+◌, ◌<◌, ◌≤◌, ◌&&◌, nat_le, if◌then◌else◌, All, List, Result, Ok, Err, is_ok, [], ◌∷◌, ◌++◌, length, sym, ◌∙◌, ap, subst, arith, append-nil, append_assoc, length-append}
use Rattle.std.proofs.Math.Logic.{∥∥₁_elim}
use Rattle.std.proofs.Math.Nat.{ℕ_set}
use Rattle.std.proofs.lemmas.Bool.{and_parts, leb-true}
use Rattle.std.proofs.lemmas.List.{length_push}
use Rattle.std.proofs.lemmas.List.Elements.{All-push}
use Rattle.cube_store.specs.Counted.{GoAsGroup}
use Rattle.cube_store.specs.Holding.{CubeCounts, IsLeastCubeOf}
use Rattle.cube_store.specs.declared.cube.Cube.{Cube}
use Rattle.cube_view.specs.Bag.{CountsMore}
use Rattle.cube_view.specs.Limits.{is_between, categories_in_range, numbers_in_range, parts_in_range, texts_distinct, weight_in_range}
use Rattle.cube_view.specs.Points.{Point}
use Rattle.cube_view.specs.declared.schema.Schema.{Schema}
use Rattle.save_run.specs.Grouping.{GroupsCount, GroupsTake, HasFront, grouped_size}
use Rattle.save_run.specs.declared.grouped_cube.GroupedCube.{GroupedCube}

-- a batch has a point at least
pub batch_least : (z : Schema) → 1 ≤ z.batch
batch_least z =
    let limits = and_parts (parts_in_range z.depth z.categories z.width z.batch z.weight) (texts_distinct z.categories z.weight) z.limits in
    let parts = and_parts (numbers_in_range z.depth z.width z.batch && categories_in_range z.categories) (weight_in_range z.weight) limits.0 in
    let numbers = and_parts (is_between 1 20 z.depth && nat_le 1 z.width) (is_between 1 65536 z.batch) (and_parts _ _ parts.0).0 in
    let batch = and_parts (nat_le 1 z.batch) (nat_le z.batch 65536) numbers.1 in
    leb-true 1 z.batch batch.0

-- of points behind which one may have been pushed, each is as it was asked, and there is at most one more
module _ {A E : Type 0} (xs : List Point) (p : Point) where
  pub all_pushed : (P : Point → Type 0) (ys : List Point) (r : Result A E) → ys ≡ (if is_ok r then xs ++ p ∷ [] else xs) → All P xs → P p → All P ys
  all_pushed P ys (Ok a) is all here = subst (λ zs. All P zs) (sym is) (All-push P xs p all here)
  all_pushed P ys (Err e) is all here = subst (λ zs. All P zs) (sym is) all

  pub few_pushed : (ys : List Point) (r : Result A E) → ys ≡ (if is_ok r then xs ++ p ∷ [] else xs) → length ys ≤ length xs + 1
  few_pushed ys (Ok a) is = omega (arith, ap length is, length_push xs p)
  few_pushed ys (Err e) is = omega (arith, ap length is)

-- a list that is counted has as many points as there are
pub counted_size : (grouped : GroupedCube) (h : List Point) → GroupsCount grouped h → grouped_size grouped ≡ length h
counted_size grouped h c =
    let all : length h ≡ length c.front + length grouped.gathered.items = ap length c.all ∙ length-append c.front grouped.gathered.items in
    omega (arith, all, c.inserted.number)

-- a cube that counts points more is of so many more
pub more_size : (before after : Cube) (points : List Point) → CountsMore (CubeCounts before) (CubeCounts after) points → after.size ≡ before.size + length points
more_size before after points more = ∥∥₁_elim before.counted (ℕ_set _ _) (λ s.
    let later = more s.0 s.1 in
    let both = length-append s.0 points in
    omega (arith, later.number, s.1.number, both))

-- with a batch of several points all points go as a group
pub as_group : (z : Schema) (points : List Point) → 1 < z.batch → GoAsGroup z points
as_group z points many single one = omega (arith, many, one)

-- ---- whatever is said of the cube and the front of a list

module _ (Says : Cube → List Point → Type 0) where
  none_more : (grouped : GroupedCube) → CountsMore (HasFront Says grouped) (HasFront Says grouped) []
  none_more grouped h has = subst (λ points. HasFront Says grouped points) (sym (append-nil h)) has

  inserted_more : (before after : GroupedCube) (points : List Point) → points ≡ before.gathered.items → CountsMore (Says before.cube) (Says after.cube) points → after.gathered.items ≡ [] → CountsMore (HasFront Says before) (HasFront Says after) []
  inserted_more before after points gathered more none h has =
      let all : h ++ [] ≡ has.front ++ points = append-nil h ∙ has.all ∙ ap (λ g. has.front ++ g) (sym gathered) in
      record {
        front = has.front ++ points;
        inserted = more has.front has.inserted;
        all = all ∙ sym (ap (λ g. (has.front ++ points) ++ g) none ∙ append-nil (has.front ++ points));
      }

  gathered_more : (before after : GroupedCube) (p : Point) → after.cube ≡ before.cube → after.gathered.items ≡ before.gathered.items ++ p ∷ [] → CountsMore (HasFront Says before) (HasFront Says after) (p ∷ [])
  gathered_more before after p same more h has = record {
    front = has.front;
    inserted = subst (λ (cube : Cube). Says cube has.front) (sym same) has.inserted;
    all = ap (λ points. points ++ p ∷ []) has.all ∙ append_assoc has.front before.gathered.items (p ∷ []) ∙ ap (λ points. has.front ++ points) (sym more);
  }

  more_twice : (a b c : GroupedCube) (first second : List Point) → CountsMore (HasFront Says a) (HasFront Says b) first → CountsMore (HasFront Says b) (HasFront Says c) second → CountsMore (HasFront Says a) (HasFront Says c) (first ++ second)
  more_twice a b c first second p q h has = subst (λ points. HasFront Says c points) (append_assoc h first second) (q (h ++ first) (p h has))

  -- where none are gathered it is said of all
  pub said_of_all : (grouped : GroupedCube) (h : List Point) → grouped.gathered.items ≡ [] → HasFront Says grouped h → Says grouped.cube h
  said_of_all grouped h none has = subst (λ points. Says grouped.cube points) (sym (has.all ∙ ap (λ points. has.front ++ points) none ∙ append-nil has.front)) has.inserted

  -- and of all that none more were taken behind
  pub said_at_end : (before after : GroupedCube) (h : List Point) → CountsMore (HasFront Says before) (HasFront Says after) [] → after.gathered.items ≡ [] → HasFront Says before h → Says after.cube h
  said_at_end before after h more none has = said_of_all after h none (subst (λ points. HasFront Says after points) (append-nil h) (more h has))

-- ---- points that are taken

-- no points are taken where all stays as it is
pub takes_none : (grouped : GroupedCube) → GroupsTake grouped grouped []
takes_none grouped = record { counted = none_more CubeCounts grouped; least = λ many. none_more IsLeastCubeOf grouped }

module _ (before after : GroupedCube) where
  -- nor where the gathered points are inserted
  pub inserts : (points : List Point) → points ≡ before.gathered.items → CountsMore (CubeCounts before.cube) (CubeCounts after.cube) points
      → (GoAsGroup before.cube.schema points → CountsMore (IsLeastCubeOf before.cube) (IsLeastCubeOf after.cube) points) → after.gathered.items ≡ [] → GroupsTake before after []
  inserts points gathered more least none = record {
    counted = inserted_more CubeCounts before after points gathered more none;
    least = λ many. inserted_more IsLeastCubeOf before after points gathered (least (as_group before.cube.schema points many)) none;
  }

  -- a point is taken where it is gathered
  pub gathers : (p : Point) → after.cube ≡ before.cube → after.gathered.items ≡ before.gathered.items ++ p ∷ [] → GroupsTake before after (p ∷ [])
  gathers p same more = record { counted = gathered_more CubeCounts before after p same more; least = λ many. gathered_more IsLeastCubeOf before after p same more }

-- points are taken one list after another
pub takes_twice : (a b c : GroupedCube) (first second : List Point) → b.cube.schema ≡ a.cube.schema → GroupsTake a b first → GroupsTake b c second → GroupsTake a c (first ++ second)
takes_twice a b c first second same p q = record {
  counted = more_twice CubeCounts a b c first second p.counted q.counted;
  least = λ many. more_twice IsLeastCubeOf a b c first second (p.least many) (q.least (subst (λ (z : Schema). 1 < z.batch) (sym same) many));
}
