-- The links of a cube's slot tell what the cube counts under the addresses of the slot.
use Rattle.std.proofs.Common.{◌≡◌, ◌≢◌, ℕ, ◌+◌, ◌<◌, ◌≤◌, Bool, true, false, ◌&&◌, eqb, IsTrue, All, List, [], ◌∷◌, length, Option, Some, None, Contains, refl, sym, ◌∙◌, ap, ap₂, subst, arith, true≢false}
use Rattle.std.proofs.lemmas.Bool.{and_parts, and_from, eq-eqb, leb-true, false_from_ne_true}
use Rattle.cube_view.specs.Bag.{amount, anywhere, Counts}
use Rattle.cube_view.specs.Found.{IsNextLabel}
use Rattle.cube_view.specs.Paths.{spot_path, steps_of}
use Rattle.cube_view.specs.Places.{time_dim, deepest, is_under, is_below, is_below_from, label_of}
use Rattle.cube_view.specs.Points.{Point, spot_of, weight_of_point}
use Rattle.cube_view.specs.Validity.{fits, sound}
use Rattle.cube_view.specs.Walks.{Step, down, across, Walk, under, Under, dimension}
use Rattle.cube_view.specs.declared.address.Address.{Address}
use Rattle.cube_view.specs.declared.schema.Schema.{Schema}
use Rattle.cube_view.specs.declared.spot.Spot.{Spot}
use Rattle.cube_view.proofs.Alike.{Counts-same}
use Rattle.cube_view.proofs.AddressSpots.{steps_tell_spots}
use Rattle.cube_view.proofs.FinerWalks.{under_before, dimension-finer}
use Rattle.cube_view.proofs.PointWeights.{sound-weighs}
use Rattle.node_arena.specs.Amounts.{amount_under}
use Rattle.node_arena.specs.Shape.{IsShaped, home_of}
use Rattle.node_arena.specs.Slots.{Slot, children_of, count, is_table, link_of, reached, follow, slot_of, target, walk_end}
use Rattle.node_arena.specs.Calls.{child_from}
use Rattle.node_arena.specs.declared.link.Link.{Link}
use Rattle.node_arena.proofs.Walks.{walk_coarser, walk-lt, walk_counts, walk_reaches, walk_only}
use Rattle.cube_store.specs.Counted.{CountsPoints}
use Rattle.cube_store.specs.Reading.{IsWalkAddress, StandsAt, spot_weight}
use Rattle.cube_store.proofs.CubeBags.{points_of_schema, Counts-points}
use Rattle.node_arena.proofs.Labels.{link_down, IsFirstFrom, child_from-none}
use Rattle.proper_path.proofs.SpotRemainders.{under-down, under-across, under-top}
use Rattle.group_insert.proofs.GroupParts.{spot_is_of, spot_of_point}
use Rattle.cube_store.proofs.ListAmounts.{amount-contained, amount-failing, All-contained}
use Rattle.cube_store.proofs.AddressSteps.{dimension-steps_of, level-steps_of}
use Rattle.cube_store.proofs.SpotPaths.{IsOfSchema}
use Rattle.proper_path.specs.Paths.{level_of, paths_of}

-- a step from an address that is reached
pub step_on : (slots : List Slot) (w : Walk) (i : ℕ) (e : Step) (o : Option Link) → walk_end slots 0 w ≡ Some i → link_of slots i e ≡ o → walk_end slots 0 (e ∷ w) ≡ reached o
step_on slots w i e o at is = ap (λ (r : Option ℕ). follow slots r e) at ∙ ap reached is

-- which spots lie under an address, and under the one that is longer by a label
module _ (z : Schema) (a : Address) (W : IsWalkAddress z a) (s : Spot) (fit : IsTrue (fits z s)) where
  pub under-steps : under (spot_path z s) (steps_of a) ≡ is_under z a s
  under-steps = steps_tell_spots z a s W.placed W.beyond fit

  pub under-below : (l : ℕ) → a.level < deepest z a.dim → under (spot_path z s) (down l ∷ steps_of a) ≡ is_below z a l s
  under-below l above = elim (is_under z a s) as (λ b. is_under z a s ≡ b → under (spot_path z s) (down l ∷ steps_of a) ≡ (b && eqb (label_of z s a.dim (a.level + 1)) l)) [
    | true ↦ λ e.
        let d = dimension-steps_of z a W in
        let n = level-steps_of z a W above in
        let lt : level_of (steps_of a) < deepest z (dimension (steps_of a)) = subst (λ (k : ℕ). level_of (steps_of a) < deepest z k) (sym d) (subst (λ (k : ℕ). k < deepest z a.dim) (sym n) above) in
        under-down z s (steps_of a) l (under-steps ∙ e) lt ∙ ap₂ (λ (j k : ℕ). eqb (label_of z s j (k + 1)) l) d n
    | false ↦ λ e. false_from_ne_true _ (λ u. true≢false (sym (under_before (spot_path z s) (down l) (steps_of a) u) ∙ (under-steps ∙ e)))
  ] refl

-- What links tell of the list that is counted

module _ (z : Schema) (slots : List Slot) (root size : ℕ) (k : List Point) (C : CountsPoints z slots root size k) where
  abbrev shaped : IsShaped (time_dim z) slots C.homes (paths_of z k)
  shaped = C.shape.shaped

  abbrev of_schema_all : All (λ p. IsOfSchema z (spot_of p)) k
  of_schema_all = points_of_schema z slots root size k C

  pub fits-contained : (p : Point) → Contains k p → IsTrue (fits z (spot_of p))
  fits-contained p c = (All-contained (λ r. IsOfSchema z (spot_of r)) k p of_schema_all c).fits

  pub weighs-contained : (p : Point) → Contains k p → 0 < weight_of_point p
  weighs-contained p c = sound-weighs z p (All-contained (λ r. IsTrue (sound z r)) k p C.all_sound c)

  -- each counted list has the amounts of this one
  pub same_amount : (h : List Point) → Counts (spot_weight z slots) size h → (q : Spot → Bool) → amount q h ≡ amount q k
  same_amount h counts q = Counts-same (spot_weight z slots) size h k counts (Counts-points z slots root size k C) q

  -- where a walk of a step or more is reached a point lies
  pub point_there : (e : Step) (w : Walk) (j : ℕ) → walk_end slots 0 (e ∷ w) ≡ Some j → (p : Point) × Contains k p × Under (spot_path z (spot_of p)) (e ∷ w)
  point_there e w j at =
      let has = walk_only (time_dim z) slots C.homes (paths_of z k) shaped w e j at in
      let p = spot_is_of z k has.spot has.is_in in
      (p.0, p.1, ap (λ q. under q (e ∷ w)) p.2 ∙ has.lies)

  -- where a point lies the walk is reached
  pub reached_there : (w : Walk) (p : Point) → Contains k p → Under (spot_path z (spot_of p)) w → (j : ℕ) × (walk_end slots 0 w ≡ Some j)
  reached_there w p c u = walk_reaches (time_dim z) slots C.homes (paths_of z k) shaped w (record { spot = spot_path z (spot_of p); is_in = spot_of_point z k p c; lies = u })

  -- where a walk is reached and there is a point, a point lies
  pub point_at_walk : (w : Walk) (i : ℕ) → walk_end slots 0 w ≡ Some i → (p : Point) → Contains k p → (r : Point) × Contains k r × Under (spot_path z (spot_of r)) w
  point_at_walk [] i at p c = (p, c, under-top z (spot_of p))
  point_at_walk (e ∷ w) i at p c = point_there e w i at

  module _ (a : Address) (slot : ℕ) (S : StandsAt z slots slot a) where
    pub in_range : slot < length slots
    in_range = walk-lt slots C.homes shaped.has_homes (steps_of a) slot S.reached

    home_dim : dimension (home_of C.homes slot) ≡ a.dim
    home_dim = sym (dimension-finer (walk_coarser slots C.homes shaped.has_homes (steps_of a) slot S.reached)) ∙ dimension-steps_of z a S.walked

    pub node_before_time : a.dim ≢ time_dim z → is_table (slot_of slots slot) ≡ false
    node_before_time other = false_from_ne_true _ (λ t. other (sym home_dim ∙ (shaped.has_tables.tables slot in_range).0 t))

    pub table_at_time : a.dim ≡ time_dim z → is_table (slot_of slots slot) ≡ true
    table_at_time e = (shaped.has_tables.tables slot in_range).1 (home_dim ∙ e)

    -- a time table counts what lies under the steps of the address
    pub counts_here : a.dim ≡ time_dim z → (bin : ℕ) → count (slot_of slots slot) bin ≡ amount_under (paths_of z k) (steps_of a) bin
    counts_here e bin = walk_counts (time_dim z) slots C.homes (paths_of z k) shaped (steps_of a) slot bin in_range S.reached (table_at_time e)

    pub step_some : (e : Step) (l : Link) → link_of slots slot e ≡ Some l → (p : Point) × Contains k p × Under (spot_path z (spot_of p)) (e ∷ steps_of a)
    step_some e l is = point_there e (steps_of a) (target l) (step_on slots (steps_of a) slot e (Some l) S.reached is)

    pub step_none : (e : Step) → link_of slots slot e ≡ None → (p : Point) → Contains k p → Under (spot_path z (spot_of p)) (e ∷ steps_of a) → ⊥
    step_none e is p c u =
        let r = reached_there (e ∷ steps_of a) p c u in
        let x : Some r.0 ≡ None = sym r.1 ∙ step_on slots (steps_of a) slot e None S.reached is in
        cc

    module _ (h : List Point) (counts : Counts (spot_weight z slots) size h) where
      -- down: the label of a child has a spot, and no other label
      pub below_some : a.level < deepest z a.dim → (m : ℕ) (l : Link) → link_of slots slot (down m) ≡ Some l → 0 < amount (is_below z a m) h
      below_some above m l is =
          let p = step_some (down m) l is in
          let e = sym (under-below z a S.walked (spot_of p.0) (fits-contained p.0 p.1) m above) ∙ p.2 in
          subst (λ n. 0 < n) (sym (same_amount h counts (is_below z a m))) (amount-contained (is_below z a m) k p.0 p.1 (weighs-contained p.0 p.1) e)

      pub below_none : a.level < deepest z a.dim → (m : ℕ) → link_of slots slot (down m) ≡ None → amount (is_below z a m) h ≡ 0
      below_none above m is =
          same_amount h counts (is_below z a m)
          ∙ amount-failing (is_below z a m) k (λ p c. false_from_ne_true _ (λ e. step_none (down m) is p c (under-below z a S.walked (spot_of p) (fits-contained p c) m above ∙ e)))

      pub below_from_none : a.level < deepest z a.dim → (from : ℕ) → ((m : ℕ) → from ≤ m → link_of slots slot (down m) ≡ None) → amount (is_below_from z a from) h ≡ 0
      below_from_none above from none =
          same_amount h counts (is_below_from z a from)
          ∙ amount-failing (is_below_from z a from) k (λ p c. false_from_ne_true _ (λ e.
          let parts = and_parts (is_under z a (spot_of p)) _ e in
          let m = label_of z (spot_of p) a.dim (a.level + 1) in
          let below : is_below z a m (spot_of p) ≡ true = and_from _ _ parts.0 (eq-eqb m m refl) in
          step_none (down m) (none m (leb-true from m parts.1)) p c (under-below z a S.walked (spot_of p) (fits-contained p c) m above ∙ below)))

      -- across: there is a content where there is a point
      pub across_some : (l : Link) → link_of slots slot across ≡ Some l → 0 < amount anywhere h
      across_some l is =
          let p = step_some across l is in
          subst (λ n. 0 < n) (sym (same_amount h counts anywhere)) (amount-contained anywhere k p.0 p.1 (weighs-contained p.0 p.1) refl)

      pub across_none : a.dim ≢ time_dim z → link_of slots slot across ≡ None → amount anywhere h ≡ 0
      across_none time is =
          same_amount h counts anywhere
          ∙ amount-failing anywhere k (λ p c.
          let r = point_at_walk (steps_of a) slot S.reached p c in
          let d = dimension-steps_of z a S.walked in
          let high = S.walked.placed.dim.1 in
          let before : dimension (steps_of a) < time_dim z = omega (arith, d, high, time) in
          absurd (step_none across is r.0 r.1 (under-across z (spot_of r.0) (steps_of a) r.2 before)))

      -- the next label: that of the first child from it on
      pub next_some : a.level < deepest z a.dim → (from : ℕ) (x : ℕ × Link) → IsFirstFrom (children_of (slot_of slots slot)) from x → IsNextLabel z a from (Some x.0) h
      next_some above from x F = (
        F.low,
        below_some above x.0 x.1 (link_down (slot_of slots slot) x.0 ∙ F.there),
        λ m low high. below_none above m (link_down (slot_of slots slot) m ∙ F.least m low high),
      )

      pub next_none : a.level < deepest z a.dim → (from : ℕ) → child_from (children_of (slot_of slots slot)) from ≡ None → IsNextLabel z a from None h
      next_none above from is = below_from_none above from (λ m le. link_down (slot_of slots slot) m ∙ child_from-none (children_of (slot_of slots slot)) from is m le)
