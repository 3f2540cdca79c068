-- A child that is made at a node of several labels is needed: no walk turns off for its link, so no finer address has
-- all of its spots.
use Rattle.std.proofs.Common.{◌≡◌, ℕ, zero, suc, ◌+◌, ◌-◌, ◌<◌, ◌≤◌, Bool, true, false, cond, eqb, eqb-true, eq-eqb, true≢false, ◌⊎◌, inl, inr, List, [], ◌∷◌, ◌++◌, Option, Some, None, Contains, length, get_or, refl, sym, ap, ◌∙◌, subst, subst₂, arith}
use Rattle.std.proofs.lemmas.Bool.{cases_eq}
use Rattle.std.proofs.lemmas.List.Elements.{All-contains}
use Rattle.cube_view.specs.Paths.{spot_path, value_step}
use Rattle.cube_view.specs.Places.{deepest}
use Rattle.cube_view.specs.Points.{Point, spot_of}
use Rattle.cube_view.specs.Walks.{Step, down, across, Walk, SpotPath, Under, HasSpot, IsCoarser, dimension}
use Rattle.cube_view.specs.declared.schema.Schema.{Schema}
use Rattle.cube_view.proofs.FinerWalks.{step_across_finer, under_before, finer-refl, finer-step, finer-trans}
use Rattle.node_arena.specs.Amounts.{Weighted, spots_in}
use Rattle.node_arena.specs.Shape.{home_of, HasHomes, HoldsSpots, IsLinked}
use Rattle.node_arena.specs.Slots.{shared, target, Slot, link_of, walk_end, follow, reached}
use Rattle.node_arena.specs.declared.link.SlotId.{SlotId}
use Rattle.node_arena.proofs.Walks.{link_coarser, target-lt}
use Rattle.least_cube.specs.Least.{HasFiner, IsFinestOf}
use Rattle.least_cube.proofs.Finest.{tells_one_finest}
use Rattle.proper_path.specs.Order.{IsAbove, itself, further}
use Rattle.proper_path.specs.Paths.{level_of, paths_of}
use Rattle.proper_path.specs.Rooted.{places_of}
use Rattle.proper_path.proofs.Above.{under_above, comes_before}
use Rattle.proper_path.proofs.Homes.{home_free}
use Rattle.proper_path.proofs.Order.{above-step, above-length, above_both, above_last}
use Rattle.proper_path.proofs.SpotRemainders.{under-down}
use Rattle.group_insert.specs.Entry.{root_at, root_level, turn_of, HasNoTurn, closed, parted, elsewhere, HaveNoTurn, TellsShared}
use Rattle.group_insert.specs.FinerWalk.{finer_steps}
use Rattle.group_insert.specs.Labels.{label_at}
use Rattle.group_insert.specs.Later.{PutOff}
use Rattle.group_insert.specs.LeastSoFar.{BegunBefore, IsLeastSoFar}
use Rattle.group_insert.specs.Parts.{part_of}
use Rattle.group_insert.specs.Turns.{crosses}
use Rattle.group_insert.specs.Visiting.{IsOnWay}
use Rattle.group_insert.specs.Ways.{value_gone, way_from, IsOpenIn, IsRootOn, IsWayTo}
use Rattle.group_insert.specs.declared.way.Way.{Way}
use Rattle.group_insert.proofs.Earlier.{earlier-irreflexive, earlier_not_below, earlier_not_before}
use Rattle.group_insert.proofs.FinerEnd.{EndsRight, new_spot}
use Rattle.group_insert.proofs.FinerTurns.{TurnsOff, finer_turns}
use Rattle.group_insert.proofs.FinerWalk.{finer_than_link, under_finer}
use Rattle.group_insert.proofs.GroupParts.{of_part, in_part, spot_is_of, spot_of_point}
use Rattle.group_insert.proofs.NewSlots.{shared_free}
use Rattle.group_insert.proofs.PartPoints.{goes_deep}
use Rattle.group_insert.proofs.StartEnd.{old_spot}
use Rattle.group_insert.proofs.VisitSteps.{category_depth}
use Rattle.group_insert.proofs.Ways.{way_leads}

not_down : {a b : Walk} {l : ℕ} → across ∷ a ≡ down l ∷ b → ⊥
not_down e = let z : ⊥ = cc in z

-- what is finer than an address has its turn later
pub finer_later : (a b : Walk) → IsCoarser a b → (a ≡ b → ⊥) → BegunBefore a b → ⊥
finer_later a b f n (inl r) = earlier_not_before r (comes_before a b f n)
finer_later a b f n (inr o) = earlier_not_below (crosses (comes_before a b f n)) o.0

-- the turn of an address has not come before its own
pub begun_not_itself : (a : Walk) → BegunBefore a a → ⊥
begun_not_itself a (inl r) = earlier-irreflexive r
begun_not_itself a (inr o) = o.1 refl

-- of the addresses whose content stands on the way to one, each has a dimension of its own
above-dimension : {a b : Walk} → IsAbove a b → dimension a ≤ dimension b
above-dimension itself = omega arith
above-dimension (further {e = down l} f) = above-dimension f
above-dimension (further {e = across} f) = let r = above-dimension f in omega (arith, r)

pub one_in_dimension : (a b c : Walk) → IsAbove (across ∷ a) c → IsAbove (across ∷ b) c → dimension a ≡ dimension b → a ≡ b
one_in_dimension a b c f k d = go (above_both f k)
  where
    tail : {x y : Walk} → across ∷ x ≡ across ∷ y → x ≡ y
    tail e = cc

    lower : {x y : Walk} → dimension x ≡ dimension y → IsAbove (across ∷ x) (across ∷ y) → x ≡ y
    lower e itself = refl
    lower e (further r) = let l = above-dimension r in absurd (omega (arith, l, e))

    go : IsAbove (across ∷ a) (across ∷ b) ⊎ IsAbove (across ∷ b) (across ∷ a) → a ≡ b
    go (inl x) = lower d x
    go (inr x) = sym (lower (sym d) x)

-- the way through n dimensions from the content of a slot of dimension f has n dimensions more
way-dimension : (values : List (Option ℕ)) (f n : ℕ) (r : Walk) → dimension (way_from values f n ++ across ∷ r) ≡ dimension r + suc n
way-dimension values f zero r = omega arith
way-dimension values f (suc n) r = go (value_gone values (f + suc n)) (way-dimension values f n r)
  where
    go : (o : Option ℕ) → dimension (way_from values f n ++ across ∷ r) ≡ dimension r + suc n → dimension (across ∷ (value_step o (way_from values f n) ++ across ∷ r)) ≡ dimension r + suc (suc n)
    go None e = omega (arith, e)
    go (Some v) e = omega (arith, e)

way-longer : (values : List (Option ℕ)) (f k n : ℕ) (r : Walk) → k ≤ suc n → (k ≤ n → IsAbove (way_from values f k ++ across ∷ r) (way_from values f n ++ across ∷ r)) → IsAbove (way_from values f k ++ across ∷ r) (way_from values f (suc n) ++ across ∷ r)
way-longer values f k n r le shorter = go (cases_eq k (suc n))
  where
    longer_by : (o : Option ℕ) → IsAbove (way_from values f k ++ across ∷ r) (way_from values f n ++ across ∷ r) → IsAbove (way_from values f k ++ across ∷ r) (across ∷ (value_step o (way_from values f n) ++ across ∷ r))
    longer_by None x = further x
    longer_by (Some v) x = further (further x)

    go : (k ≡ suc n) ⊎ (k ≡ suc n → ⊥) → IsAbove (way_from values f k ++ across ∷ r) (way_from values f (suc n) ++ across ∷ r)
    go (inl e) = subst (λ z. IsAbove (way_from values f k ++ across ∷ r) (way_from values f z ++ across ∷ r)) e itself
    go (inr d) = longer_by (value_gone values (f + suc n)) (shorter (omega (arith, le, d)))

-- a shorter part of the way stands on the way to the whole
way-above : (values : List (Option ℕ)) (f k n : ℕ) (r : Walk) → k ≤ n → IsAbove (way_from values f k ++ across ∷ r) (way_from values f n ++ across ∷ r)
way-above values f k zero r le = subst (λ z. IsAbove (way_from values f z ++ across ∷ r) (across ∷ r)) (let e : 0 ≡ k = omega (arith, le) in e) itself
way-above values f k (suc n) r le = way-longer values f k n r le (λ l. way-above values f k n r l)

-- a dimension of a category that is at level 0 where the way goes across has no value on the way
open_there : (slots : List Slot) (homes : List Walk) (values : List (Option ℕ)) (roots : List ℕ) (level dim i f : ℕ) (b : Walk) → IsWayTo slots homes values roots level dim i → 1 ≤ f → f < dim → dimension b ≡ f → ((f ≡ 1 → ⊥) → level_of b ≡ 0) → IsAbove (across ∷ b) (home_of homes i) → IsOpenIn values f
open_there slots homes values roots level dim i f b W some lt d low above = go (cases_eq f 1)
  where
    n : ℕ
    n = f - 2

    R : IsRootOn slots homes values level 1 (dim - 1) (get_or roots 1 0) i
    R = W 1 (dim - 1) (omega arith) (omega (arith, some, lt)) (inl refl)

    r : Walk
    r = home_of homes (get_or roots 1 0)

    go : (f ≡ 1) ⊎ (f ≡ 1 → ⊥) → IsOpenIn values f
    go (inl e) = inl e
    go (inr e) = pick (value_gone values f) refl
      where
        two : f ≡ 1 + suc n
        two = omega (arith, some, e)

        pick : (o : Option ℕ) → value_gone values f ≡ o → IsOpenIn values f
        pick None x = inr x
        pick (Some v) x = absurd (go_down)
          where
            here : Walk
            here = down v ∷ (way_from values 1 n ++ across ∷ r)

            is : way_from values 1 (suc n) ++ across ∷ r ≡ across ∷ here
            is = ap (λ (o : Option ℕ). across ∷ (value_step o (way_from values 1 n) ++ across ∷ r)) (ap (value_gone values) (sym two) ∙ x)

            there : IsAbove (across ∷ here) (across ∷ home_of homes i)
            there = subst₂ IsAbove is (sym R.leads) (way-above values 1 (suc n) (dim - 1) r (omega (arith, two, lt)))

            same : here ≡ b
            same = one_in_dimension here b (across ∷ home_of homes i) there (further above) (way-dimension values 1 n r ∙ (let s = R.in_dim in omega (arith, s, d, two)))

            go_down : ⊥
            go_down = let l = ap level_of same in let z = low e in omega (arith, l, z)

-- how far down the root of a dimension is
root_is_at : (slots : List Slot) (homes : List Walk) (way : Way) (f n root i : ℕ) → IsRootOn slots homes way.values way.level f n root i → level_of (home_of homes root) ≡ root_level way f
root_is_at slots homes way f n root i R = go (eqb f 1) (λ e. eqb-true f 1 e) (λ e x. true≢false (sym (eq-eqb f 1 x) ∙ e))
  where
    go : (b : Bool) → (b ≡ true → f ≡ 1) → (b ≡ false → f ≡ 1 → ⊥) → level_of (home_of homes root) ≡ cond b way.level 0
    go true y n = R.at_level.0 (y cc)
    go false y n = R.at_level.1 (n cc)

dimension-some : (a : Walk) → 1 ≤ dimension a
dimension-some [] = omega arith
dimension-some (down l ∷ a) = dimension-some a
dimension-some (across ∷ a) = omega arith

-- The state in which the child's turn comes, at node i, whose label is m.
module _ (z : Schema) (group : List Point) (slots : List Slot) (homes : List Walk) (h : List Weighted) (way : Way) (dim level i m : ℕ) (part : List Point) (H : HasHomes slots homes) (S : HoldsSpots slots homes (spots_in h) (spots_in (paths_of z group ++ h))) (lt : i < length slots) (in_dim : dimension (home_of homes i) ≡ dim) (fresh : 2 ≤ dim → value_gone way.values dim ≡ None) (W : IsOnWay slots homes way dim level i) (w : HasSpot (spots_in (paths_of z group)) (down m ∷ home_of homes i)) (part_is : part ≡ part_of z group (down m ∷ home_of homes i)) (L : IsLeastSoFar slots homes h (paths_of z group) (BegunBefore (down m ∷ home_of homes i))) where
  abbrev g : List Weighted
  g = paths_of z group

  abbrev all : List SpotPath
  all = spots_in (g ++ h)

  abbrev x : Walk
  x = down m ∷ home_of homes i

  -- a slot at a finer address is at the finest one for the old spots
  finest : (j : ℕ) → j < length slots → IsCoarser x (home_of homes j) → (x ≡ home_of homes j → ⊥) → HasFiner (spots_in h) (home_of homes j) → ⊥
  finest zero l f n F =
      let k = above-length (comes_before x (home_of homes 0) f n).goes_down in
      let e = ap (λ (y : Walk). length y) H.root in
      absurd (omega (arith, k, e))
  finest (suc j) l f n F =
      let o = H.owner (suc j) (omega arith) l in
      let at = (H.at_home o.by (suc j) o.step o.owns).1 in
      L.needed o.by (suc j) o.step o.owns (λ b. finer_later x (home_of homes (suc j)) f n (subst (BegunBefore x) (sym at) b)) (subst (HasFiner (spots_in h)) at F)

  -- a walk that turns off at the root of dimension f by t, where all old spots go down t
  module _ (f t : ℕ) (some : 1 ≤ f) (early : f < dim) (is_open : IsOpenIn way.values f) (turns : (q : SpotPath) → Contains (spots_in h) q → Under q x → Under q (down t ∷ home_of homes (root_at way f))) where
    abbrev k : PutOff
    k = turn_of way i m dim f t

    abbrev b : Walk
    b = home_of homes (root_at way f)

    leads : home_of homes i ≡ k.way ++ across ∷ b
    leads = way_leads slots homes way.values (places_of way.roots) way.level dim i f (dim - f - 1) (fresh (omega (arith, some, early))) W.leads some (omega (arith, early)) is_open

    root_in : root_at way f < length slots
    root_in = (W.leads f (dim - f) some (omega (arith, early)) is_open).in_range

    under_walk : (q : SpotPath) → Contains (spots_in h) q → Under q x → Under q (finer_steps k ++ b)
    under_walk q c u = under_finer homes k leads q (turns q c u) u

    module _ (v : HasSpot (spots_in h) x) where
      next : (e : Step) (y : Walk) → IsAbove (e ∷ (y ++ b)) (finer_steps k ++ b) → EndsRight slots homes (spots_in h) k.base y → EndsRight slots homes (spots_in h) k.base (e ∷ y)
      next e y above E = record {
        slot = target l.link;
        is = ap (λ (o : Option ℕ). follow slots o e) E.is ∙ ap reached l.is;
        holds = record {
          in_range = target-lt slots homes H E.slot e l.link l.is;
          coarser = finer-trans (finer-step E.holds.coarser e) (link_coarser slots homes H E.slot e l.link l.is);
          agrees = λ q c u. S.agrees E.slot e l.link l.is q c (on q c u);
        };
      }
        where
          on : (q : SpotPath) → Contains (spots_in h) q → Under q (e ∷ (y ++ b)) → Under q (e ∷ home_of homes E.slot)
          on q c u = sym (step_across_finer E.holds.coarser q e (E.holds.agrees q c (under_before q e (y ++ b) u))) ∙ u

          l : IsLinked slots E.slot e
          l = S.needed E.slot e E.holds.in_range (record { spot = v.spot; is_in = v.is_in; lies = on v.spot v.is_in (under_above above v.spot (under_walk v.spot v.is_in v.lies)) })

      ends : (y : Walk) → IsAbove (y ++ b) (finer_steps k ++ b) → EndsRight slots homes (spots_in h) k.base y
      ends [] above = record { slot = k.base; is = refl; holds = record { in_range = root_in; coarser = finer-refl false b; agrees = λ q c u. u } }
      ends (e ∷ y) above = next e y above (ends y (above-step above))

      -- it leads where the old link does
      leads_there : (to : ℕ) → link_of slots i (down m) ≡ Some (shared to) → walk_end slots k.base (finer_steps k) ≡ Some to
      leads_there to is = E.is ∙ ap Some (H.distinct E.slot to E.holds.in_range r.0 (tells_one_finest (spots_in h) x (home_of homes E.slot) (home_of homes to) v here there))
        where
          E : EndsRight slots homes (spots_in h) k.base (finer_steps k)
          E = ends (finer_steps k) itself

          r : (to < length slots) × IsCoarser x (home_of homes to)
          r = H.finer i to (down m) is

          apart : (j : ℕ) → j < length slots → x ≡ home_of homes j → ⊥
          apart j l e = home_free slots homes H i (down m) lt (shared_free slots i to (down m) is) j l (sym e)

          finer : IsCoarser x (home_of homes E.slot)
          finer = finer-trans (finer_than_link homes k leads) E.holds.coarser

          here : IsFinestOf (spots_in h) x (home_of homes E.slot)
          here = record { finer = finer; all = λ q c u. E.holds.agrees q c (under_walk q c u); none = finest E.slot E.holds.in_range finer (apart E.slot E.holds.in_range) }

          there : IsFinestOf (spots_in h) x (home_of homes to)
          there = record { finer = r.1; all = S.agrees i (down m) (shared to) is; none = finest to r.0 r.1 (apart to r.0) }

  -- a finer address with all the spots turns off somewhere, so a turn would have been found
  module _ (to : Walk) (serves : (q : SpotPath) → Contains all q → Under q x → Under q to) (T : TurnsOff x to) (old : Option SlotId) (held : TellsShared slots i m old) (N : HaveNoTurn z slots part way i m dim old) where
    abbrev f : ℕ
    f = dimension T.base

    above : IsAbove (across ∷ T.base) (home_of homes i)
    above = go (above_last T.above)
      where
        go : (across ∷ T.base ≡ x) ⊎ IsAbove (across ∷ T.base) (home_of homes i) → IsAbove (across ∷ T.base) (home_of homes i)
        go (inl e) = absurd (not_down e)
        go (inr y) = y

    goes : (q : SpotPath) → Contains all q → Under q x → Under q (down T.turn ∷ T.base)
    goes q c u = T.goes q (serves q c u)

    some : 1 ≤ f
    some = dimension-some T.base

    early : f < dim
    early = let l = above-dimension above in omega (arith, l, in_dim)

    deep : level_of T.base < deepest z f
    deep = goes_deep z group w.spot T.base T.turn w.is_in (goes w.spot (new_spot g h w.spot w.is_in) w.lies)

    is_open : IsOpenIn way.values f
    is_open = open_there slots homes way.values (places_of way.roots) way.level dim i f T.base W.leads some early refl (λ n. let d = category_depth z f n in omega (arith, d, deep)) above

    R : IsRootOn slots homes way.values way.level f (dim - f) (root_at way f) i
    R = W.leads f (dim - f) some (omega (arith, early)) is_open

    base : home_of homes (root_at way f) ≡ T.base
    base = one_in_dimension (home_of homes (root_at way f)) T.base (across ∷ home_of homes i) (subst (IsAbove (across ∷ home_of homes (root_at way f))) (sym R.leads) (way-above way.values f 0 (dim - f) (home_of homes (root_at way f)) (omega arith))) (further above) R.in_dim

    at_level : level_of T.base ≡ root_level way f
    at_level = sym (ap level_of base) ∙ root_is_at slots homes way f (dim - f) (root_at way f) i R

    -- all points of the part have the label of the turn
    has_label : (p : Point) → Contains part p → label_at z f (root_level way f + 1) p ≡ T.turn
    has_label p c =
        let r = of_part z group x p (subst (λ y. Contains y p) part_is c) in
        let u = goes (spot_path z (spot_of p)) (new_spot g h (spot_path z (spot_of p)) (spot_of_point z group p r.0)) r.1 in
        let v = under_before (spot_path z (spot_of p)) (down T.turn) T.base u in
        subst (λ y. label_at z f (y + 1) p ≡ T.turn) at_level (eqb-true (label_at z f (level_of T.base + 1) p) T.turn (sym (under-down z (spot_of p) T.base T.turn v deep) ∙ u))

    none : HasNoTurn z slots part way i m dim f old → ⊥
    none (closed n) = n is_open (subst (λ y. y < deepest z f) at_level deep)
    none (parted (p, q, cp, cq, n)) = n (has_label p cp ∙ sym (has_label q cq))
    none (elsewhere t s O e other) = other (subst (λ y. walk_end slots (root_at way f) (finer_steps (turn_of way i m dim f y)) ≡ Some s.0) same (leads_there f T.turn some early is_open turns v s.0 is))
      where
        is : link_of slots i (down m) ≡ Some (shared s.0)
        is = subst (TellsShared slots i m) e held

        v : HasSpot (spots_in h) x
        v = L.wanted i (down m) (shared s.0) is (λ y. begun_not_itself x y)

        turns : (q : SpotPath) → Contains (spots_in h) q → Under q x → Under q (down T.turn ∷ home_of homes (root_at way f))
        turns q c u = subst (λ y. Under q (down T.turn ∷ y)) (sym base) (goes q (old_spot g h q c) u)

        same : T.turn ≡ t
        same =
            let r = spot_is_of z group w.spot w.is_in in
            let c = subst (λ y. Contains y r.0) (sym part_is) (in_part z group x r.0 r.1 (subst (λ y. Under y x) (sym r.2) w.lies)) in
            sym (has_label r.0 c) ∙ All-contains (λ p. label_at z f (root_level way f + 1) p ≡ t) part r.0 O c

    turned : ⊥
    turned = none (N f some early)

  pub label_needed : (old : Option SlotId) → TellsShared slots i m old → HaveNoTurn z slots part way i m dim old → HasFiner all x → ⊥
  label_needed old held N F = go (finer_turns F.finer)
    where
      go : (x ≡ F.to) ⊎ TurnsOff x F.to → ⊥
      go (inl e) = F.differs e
      go (inr T) = turned F.to F.all T old held N
