-- From a node's visit to those of its content and its children, and back.
use Rattle.std.proofs.Common.{◌≡◌, ℕ, ◌+◌, ◌<◌, ◌≤◌, Bool, true, false, cond, eqb, ltb, ne_eqb, ◌⊎◌, inl, inr, List, [], ◌∷◌, ◌++◌, Option, Some, None, Contains, length, refl, sym, ap, ◌∙◌, subst, subst₂, arith, true≢false, eq-eqb}
use Rattle.std.proofs.lemmas.List.{length-map}
use Rattle.cube_view.specs.Places.{time_dim, deepest}
use Rattle.cube_view.specs.Points.{Point, spot_of}
use Rattle.cube_view.specs.Walks.{Step, down, across, Walk, SpotPath, Under, HasSpot, dimension}
use Rattle.cube_view.specs.declared.schema.Schema.{Schema}
use Rattle.cube_view.proofs.SchemaBounds.{few_categories}
use Rattle.cube_view.proofs.FinerWalks.{Contains-head, Contains-cons, Contains-cases}
use Rattle.node_arena.specs.Amounts.{Weighted, spots_in}
use Rattle.node_arena.specs.Shape.{home_of}
use Rattle.node_arena.specs.Slots.{Slot, empty_node, slot_of, is_table}
use Rattle.point_insert.specs.Visited.{IsFilled}
use Rattle.point_insert.specs.Visited as visited
use Rattle.proper_path.specs.Making.{IsSpotOf, Makes, has, copies, adds}
use Rattle.proper_path.specs.Order.{shape_of}
use Rattle.proper_path.specs.Paths.{point_path, level_of, paths_of}
use Rattle.proper_path.specs.Rooted.{places_of, state}
use Rattle.proper_path.specs.Stepped.{IsStepped}
use Rattle.proper_path.specs.Stepped as stepped
use Rattle.proper_path.proofs.Dims.{goes_across}
use Rattle.proper_path.proofs.Grow.{node_empty}
use Rattle.proper_path.proofs.Steps.{IsPlaced, makes_placed}
use Rattle.proper_path.proofs.TrailSteps.{node_before}
use Rattle.group_insert.specs.Halfway.{IsHalfwayBefore, IsHalfwayAfter}
use Rattle.group_insert.specs.InsertingAll.{IsInsertableAll, InsertsAll}
use Rattle.group_insert.specs.Labels.{HasLabel, IsLeastFrom, points_at, label_at}
use Rattle.group_insert.specs.Parts.{part_of}
use Rattle.group_insert.specs.Entry.{way_below, way_on}
use Rattle.group_insert.specs.Later.{PutOff}
use Rattle.group_insert.specs.LeastSoFar.{BegunAt, BegunAfter, IsLeastSoFar}
use Rattle.group_insert.specs.Visiting.{root_of, IsOnWay, IsVisitableAt, VisitsAt}
use Rattle.group_insert.specs.declared.way.Way.{Way}
use Rattle.node_arena.specs.declared.link.SlotId.{SlotId}
use Rattle.group_insert.specs.Visits.{ArePoints, IsAmong}
use Rattle.group_insert.proofs.Among.{content_at, among_content, label_at_child}
use Rattle.proper_path.proofs.SpotRemainders.{under-top}
use Rattle.group_insert.proofs.Routes.{on_way_kept, on_way_across, on_way_down}
use Rattle.group_insert.proofs.Ways.{way_in_space}
use Rattle.group_insert.proofs.GroupParts.{part_down, part_across, spot_is_of}
use Rattle.group_insert.proofs.StartEnd.{halfway_starts, shape_with}
use Rattle.group_insert.proofs.PartPoints.{spot_in_part, spot_at_label, none_between}

-- what the calls leave is one of the changes that the invariant knows
pub record IsMadeBy (dims : ℕ) (old new : List Slot) (homes : List Walk) (i : ℕ) (e : Step) (j : ℕ) : Type 0 where
  pub homes' : List Walk
  pub makes : Makes dims (state old homes []) i e j (state new homes' [])

pub stepped_makes : (dims : ℕ) (old new : List Slot) (homes : List Walk) (i l j : ℕ) → (dimension (home_of homes i) ≡ dims → ⊥) → IsStepped old i (down l) j new → IsMadeBy dims old new homes i (down l) j
stepped_makes dims old new homes i l j n (stepped.had is same) = record { homes' = homes; makes = has is (ap (λ z. state z homes []) same) }
stepped_makes dims old new homes i l j n (stepped.copies t is ji G) = record {
  homes' = homes ++ (down l ∷ home_of homes i) ∷ [];
  makes = copies t is (λ x c. let w : ⊥ = cc in w) (record { is = ji; grown = G; homes = refl; updated = refl });
}
stepped_makes dims old new homes i l j n (stepped.adds is ji G) = record {
  homes' = homes ++ (down l ∷ home_of homes i) ∷ [];
  makes = adds empty_node is node_empty.no_link node_empty.no_count (λ x. absurd (true≢false (sym x)), λ d. absurd (n d)) (record { is = ji; grown = G; homes = refl; updated = refl });
}

pub filled_makes : (dims dim : ℕ) (old new : List Slot) (homes : List Walk) (i j : ℕ) → dimension (home_of homes i) ≡ dim → IsFilled dims (dim + 1) [] old i new (Some j) → IsMadeBy dims old new homes i across j
filled_makes dims dim old new homes i j d (visited.had is same) = record { homes' = homes; makes = has is (ap (λ z. state z homes []) same) }
filled_makes dims dim old new homes i j d (visited.copies t is n ji G) = record {
  homes' = homes ++ (across ∷ home_of homes i) ∷ [];
  makes = copies t is (λ x c. n c) (record { is = ji; grown = G; homes = refl; updated = refl });
}
filled_makes dims dim old new homes i j d (visited.adds s is nl nc kind ji G) = record {
  homes' = homes ++ (across ∷ home_of homes i) ∷ [];
  makes = adds s is nl nc (λ x. let e = kind.0 x in omega (arith, d, e), λ x. kind.1 (omega (arith, d, x))) (record { is = ji; grown = G; homes = refl; updated = refl });
}

-- a node before time is no table, and its links lead inside
pub part_node : (z : Schema) (group : List Point) (slots : List Slot) (way : Way) (put : List PutOff) (dim level i : ℕ) (part : List Point) (homes : List Walk) (h : List Weighted) → dim < time_dim z → IsVisitableAt z group slots way put dim level i part homes h → is_table (slot_of slots i) ≡ false
part_node z group slots way put dim level i part homes h lt K = node_before (time_dim z) slots homes i K.halfway.has_tables K.in_range (λ d. let e = K.in_dim in omega (arith, d, e, lt))

pub part_spot : (z : Schema) (group : List Point) (slots : List Slot) (way : Way) (put : List PutOff) (dim level i : ℕ) (part : List Point) (homes : List Walk) (h : List Weighted) → IsVisitableAt z group slots way put dim level i part homes h → HasSpot (spots_in (paths_of z group)) (home_of homes i)
part_spot z group slots way put dim level i part homes h K = spot_in_part z group (home_of homes i) (subst (λ x. 0 < length x) K.part_is K.some)

-- the content that was made can be visited with the same part
pub content_visitable : (z : Schema) (group : List Point) (old mid : List Slot) (way : Way) (put : List PutOff) (dim level i : ℕ) (s : SlotId) (part : List Point) (homes : List Walk) (h : List Weighted) → 1 ≤ dim → dim < time_dim z → (K : IsVisitableAt z group old way put dim level i part homes h) → (m : IsMadeBy (time_dim z) old mid homes i across s.0) → IsVisitableAt z group mid (way_on way dim s) put (dim + 1) 0 s.0 part m.homes' h
content_visitable z group old mid way put dim level i s part homes h one lt K m = record {
  in_range = p.in_range;
  in_dim = let d = ap dimension p.at_home in let e = K.in_dim in omega (arith, d, e);
  at_level = ap level_of p.at_home;
  on_way = λ x. on_way_across mid m.homes' way dim level i s one (let y = few_categories z in omega (arith, x, y)) (ap dimension same ∙ K.in_dim) p.in_range (p.at_home ∙ ap (λ z. across ∷ z) (sym same)) (on_way_kept old mid homes m.homes' way dim level i K.in_range p.keeps.size p.keeps.homes (K.on_way lt));
  halfway = content_at (time_dim z) h (paths_of z group) old mid homes m.homes' put i s.0 K.in_range goes K.halfway m.makes;
  part_is = K.part_is ∙ (part_across z group (home_of homes i) before ∙ ap (part_of z group) (sym p.at_home));
  some = K.some;
  points = K.points;
  light = K.light;
}
  where
    before : dimension (home_of homes i) < time_dim z
    before = let e = K.in_dim in omega (arith, e, lt)

    p : IsPlaced (time_dim z) (state old homes []) i across s.0 (state mid m.homes' [])
    p = makes_placed (time_dim z) (state old homes []) (state mid m.homes' []) i s.0 across K.halfway.has_homes K.halfway.has_tables m.makes

    same : home_of m.homes' i ≡ home_of homes i
    same = p.keeps.homes i K.in_range

    w : HasSpot (spots_in (paths_of z group)) (home_of homes i)
    w = part_spot z group old way put dim level i part homes h K

    goes : HasSpot (spots_in (paths_of z group)) (across ∷ home_of homes i)
    goes = record { spot = w.spot; is_in = w.is_in; lies = goes_across (time_dim z) w.spot (K.points.spots w.spot w.is_in) (home_of homes i) w.lies (λ d. omega (arith, d, before)) }

-- and afterwards the labels begin
pub content_passed : (z : Schema) (old mid new : List Slot) (way : Way) (put after : List PutOff) (dim level i : ℕ) (s : SlotId) (part : List Point) → 1 ≤ dim → dim < time_dim z → IsFilled (time_dim z) (dim + 1) [] old i mid (Some s.0) → VisitsAt z mid new (way_on way dim s) put after (dim + 1) 0 s.0 part → (group : List Point) (homes : List Walk) (h : List Weighted) → IsVisitableAt z group old way put dim level i part homes h → IsAmong (time_dim z) h (paths_of z group) old homes i None 0 new put after
content_passed z old mid new way put after dim level i s part one lt F V group homes h K =
    let m = filled_makes (time_dim z) dim old mid homes i s.0 K.in_dim F in
    among_content (time_dim z) h (paths_of z group) old mid new homes m.homes' put after i s.0 K.in_range K.halfway m.makes (V group m.homes' h (content_visitable z group old mid way put dim level i s part homes h one lt K m))

pub some_kept : (z : Schema) (dim level l : ℕ) (part : List Point) → HasLabel z dim level l part → 0 < length (points_at z dim level l part)
some_kept z dim level l [] L = let x = L.is_in.1 in absurd (omega (arith, x))
some_kept z dim level l (x ∷ part) L = go (λ r. some_kept z dim level l part r) (eqb (label_at z dim level x) l) refl (Contains-cases part x L.point L.is_in)
  where
    go : (HasLabel z dim level l part → 0 < length (points_at z dim level l part)) → (b : Bool) → eqb (label_at z dim level x) l ≡ b → (x ≡ L.point) ⊎ Contains part L.point → 0 < length (cond b (x ∷ points_at z dim level l part) (points_at z dim level l part))
    go rest true e c = omega arith
    go rest false e (inl y) = absurd (true≢false (sym (eq-eqb (label_at z dim level x) l (ap (label_at z dim level) y ∙ L.at)) ∙ e))
    go rest false e (inr c) = rest (record { point = L.point; is_in = c; at = L.at })

-- how many levels the dimensions after space have
pub category_depth : (z : Schema) (dim : ℕ) → (dim ≡ 1 → ⊥) → deepest z dim ≤ 1
category_depth z dim n = subst (λ (b : Bool). cond b z.depth (cond (ltb dim (time_dim z)) 1 0) ≤ 1) (sym (ne_eqb dim 1 n)) (go (ltb dim (time_dim z)))
  where
    go : (b : Bool) → cond b 1 0 ≤ 1
    go true = omega arith
    go false = omega arith

pub first_level : (z : Schema) (dim level : ℕ) → level < deepest z dim → 2 ≤ dim → level ≡ 0
first_level z dim level less two = let d = category_depth z dim (λ e. omega (arith, e, two)) in omega (arith, d, less)

-- the child that was made can be visited with the points of its label
module _ (z : Schema) (group : List Point) (old mid : List Slot) (way : Way) (before put : List PutOff) (dim level i from l : ℕ) (part : List Point) (homes : List Walk) (h : List Weighted) (only : Option ℕ) (lt : level < deepest z dim) (K : IsVisitableAt z group old way before dim level i part homes h) (A : IsAmong (time_dim z) h (paths_of z group) old homes i only from mid before put) (N : IsLeastFrom z dim (level + 1) from l part) where
  lt' : level_of (home_of homes i) < deepest z (dimension (home_of homes i))
  lt' = subst₂ (λ x y. y < deepest z x) (sym K.in_dim) (sym K.at_level) lt

  N' : IsLeastFrom z (dimension (home_of homes i)) (level_of (home_of homes i) + 1) from l (part_of z group (home_of homes i))
  N' = subst (λ x. IsLeastFrom z (dimension (home_of homes i)) (level_of (home_of homes i) + 1) from l x) K.part_is (subst₂ (λ x y. IsLeastFrom z x (y + 1) from l part) (sym K.in_dim) (sym K.at_level) N)

  pub label_goes : HasSpot (spots_in (paths_of z group)) (down l ∷ home_of homes i)
  label_goes = spot_at_label z group (home_of homes i) l lt' N'.there

  pub none_before : (n : ℕ) (q : SpotPath) → from ≤ n → n < l → Contains (spots_in (paths_of z group)) q → Under q (down n ∷ home_of homes i) → ⊥
  none_before = none_between z group (home_of homes i) from l lt' N'

  pub label_part : points_at z dim (level + 1) l part ≡ part_of z group (down l ∷ home_of homes i)
  label_part = ap (points_at z dim (level + 1) l) K.part_is ∙ subst₂ (λ x y. points_at z x (y + 1) l (part_of z group (home_of homes i)) ≡ part_of z group (down l ∷ home_of homes i)) K.in_dim K.at_level (part_down z group (home_of homes i) l lt')

  pub label_some : 0 < length (points_at z dim (level + 1) l part)
  label_some = some_kept z dim (level + 1) l part N.there

  -- the way as it is by then
  pub way_by_then : dim < time_dim z → IsOnWay mid A.homes' way dim level i
  way_by_then x = on_way_kept old mid homes A.homes' way dim level i K.in_range A.keeps.size A.keeps.homes (K.on_way x)

  pub child_visitable : (next : List Slot) (s : SlotId) → 1 ≤ dim → (m : IsMadeBy (time_dim z) mid next A.homes' i (down l) s.0) → IsVisitableAt z group next (way_below way dim (level + 1) l s) put dim (level + 1) s.0 (points_at z dim (level + 1) l part) m.homes' h
  child_visitable next s one m = record {
    in_range = p.in_range;
    in_dim = ap dimension at_home ∙ K.in_dim;
    at_level = ap level_of at_home ∙ (let e = K.at_level in omega (arith, e));
    on_way = λ x. on_way_down next m.homes' way dim level i l s one (let y = few_categories z in omega (arith, x, y)) (first_level z dim level lt) (ap dimension same ∙ K.in_dim) (ap level_of same ∙ K.at_level) p.in_range (at_home ∙ ap (λ z. down l ∷ z) (sym same))
        (on_way_kept mid next A.homes' m.homes' way dim level i lt_mid p.keeps.size p.keeps.homes (way_by_then x));
    halfway = label_at_child (time_dim z) h (paths_of z group) old mid next homes m.homes' before put i s.0 l only from K.in_range A N'.reaches none_before label_goes m.makes;
    part_is = label_part ∙ ap (part_of z group) (sym at_home);
    some = label_some;
    points = K.points;
    light = K.light;
  }
    where
      p : IsPlaced (time_dim z) (state mid A.homes' []) i (down l) s.0 (state next m.homes' [])
      p = makes_placed (time_dim z) (state mid A.homes' []) (state next m.homes' []) i s.0 (down l) A.halfway.has_homes A.halfway.has_tables m.makes

      lt_mid : i < length mid
      lt_mid = let a = A.keeps.size in let b = K.in_range in omega (arith, a, b)

      at_home : home_of m.homes' s.0 ≡ down l ∷ home_of homes i
      at_home = p.at_home ∙ ap (λ x. down l ∷ x) (A.keeps.homes i K.in_range)

      same : home_of m.homes' i ≡ home_of homes i
      same = p.keeps.homes i lt_mid ∙ A.keeps.homes i K.in_range

-- before the visit of the root, all points are its part
all_kept : (z : Schema) (group : List Point) → group ≡ part_of z group []
all_kept z [] = refl
all_kept z (x ∷ group) = ap (λ y. x ∷ y) (all_kept z group) ∙ ap (λ (b : Bool). cond b (x ∷ part_of z group []) (part_of z group [])) (sym (under-top z (spot_of x)))

path_of_point : (z : Schema) (group : List Point) (p : Point) → Contains group p → Contains (paths_of z group) (point_path z p)
path_of_point z [] p c = let l = c.1 in absurd (omega (arith, l))
path_of_point z (x ∷ group) p c = go (λ d. path_of_point z group p d) (Contains-cases group x p c)
  where
    go : (Contains group p → Contains (paths_of z group) (point_path z p)) → (x ≡ p) ⊎ Contains group p → Contains (paths_of z (x ∷ group)) (point_path z p)
    go rest (inl e) = subst (λ (t : Point). Contains (paths_of z (x ∷ group)) (point_path z t)) e (Contains-head (paths_of z group) (point_path z x))
    go rest (inr d) = Contains-cons (paths_of z group) (point_path z x) (point_path z p) (rest d)

are_points : (z : Schema) (group : List Point) (slots : List Slot) (homes : List Walk) (h : List Weighted) → IsInsertableAll (time_dim z) (paths_of z group) slots homes h → ArePoints (time_dim z) h (paths_of z group)
are_points z group slots homes h K = record {
  alike = λ p c. let r = spot_is_of z group p c in subst (λ y. (q : SpotPath) → Contains (spots_in (paths_of z group ++ h)) q → shape_of q ≡ shape_of y) r.2 (K.alike (point_path z r.0) (path_of_point z group r.0 r.1));
  spots = λ p c. let r = spot_is_of z group p c in subst (λ y. IsSpotOf (time_dim z) y) r.2 (K.spots (point_path z r.0) (path_of_point z group r.0 r.1));
}

-- the way begins at the root
root_on_way : (slots : List Slot) (homes : List Walk) (root : SlotId) (end : ℕ) → root.0 < length slots → home_of homes root.0 ≡ [] → IsOnWay slots homes (root_of root end).way 1 0 root.0
root_on_way slots homes root end lt at = record {
  leads = way_in_space slots homes (root_of root end).way.values (places_of (root_of root end).way.roots) 0 root.0 lt (ap dimension at) (ap level_of at) refl;
  fresh = λ a b. absurd (omega (arith, a));
  sized = (refl, refl);
}

pub root_visitable : (z : Schema) (group : List Point) (slots : List Slot) (root : SlotId) (end : ℕ) (homes : List Walk) (h : List Weighted) → root.0 ≡ 0 → 0 < length group → IsInsertableAll (time_dim z) (paths_of z group) slots homes h → IsVisitableAt z group slots (root_of root end).way [] 1 0 root.0 group homes h
root_visitable z group slots root end homes h zero some K = record {
  in_range = lt;
  in_dim = ap dimension at;
  at_level = ap level_of at;
  on_way = λ x. root_on_way slots homes root end lt at;
  halfway = subst (λ x. IsHalfwayBefore (time_dim z) slots homes h (paths_of z group) [] x) (sym at) (halfway_starts (time_dim z) slots homes h (paths_of z group) K.shape);
  part_is = all_kept z group ∙ ap (part_of z group) (sym at);
  some = some;
  points = are_points z group slots homes h K;
  light = K.light;
}
  where
    at : home_of homes root.0 ≡ []
    at = ap (home_of homes) zero ∙ K.shape.has_homes.root

    lt : root.0 < length slots
    lt = let e = K.shape.has_homes.some in omega (arith, e, zero)

no_entry : (after : List PutOff) → length after ≡ 0 → after ≡ []
no_entry [] e = refl
no_entry (k ∷ after) e = absurd (omega (arith, e))

-- after it the slots have the shape with the group
pub inserts_all : (z : Schema) (group : List Point) (old new : List Slot) (root : SlotId) (end : ℕ) (after : List PutOff) → root.0 ≡ 0 → length after ≡ 0 → 0 < length group → VisitsAt z old new (root_of root end).way [] after 1 0 root.0 group → InsertsAll (time_dim z) (paths_of z group) old new
inserts_all z group old new root end after zero none some V homes h K =
    let v = V group homes h (root_visitable z group old root end homes h zero some K) in
    shape_with (time_dim z) old new homes v.homes' h (paths_of z group) (subst (λ n. 0 < n) (sym (length-map group (λ p. point_path z p))) some) K
    (subst₂ (λ x k. IsHalfwayAfter (time_dim z) new v.homes' h (paths_of z group) k x) (ap (home_of homes) zero ∙ K.shape.has_homes.root) (no_entry after none) v.halfway)
    (subst (λ x. IsLeastSoFar old homes h (paths_of z group) (BegunAt x) → IsLeastSoFar new v.homes' h (paths_of z group) (BegunAfter x)) (ap (home_of homes) zero ∙ K.shape.has_homes.root) v.least)
