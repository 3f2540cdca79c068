-- Of slots that meet the conditions of a cube each one is placed, and what it counts merges.
use Rattle.std.proofs.Common.{◌≡◌, inl, inr, ℕ, zero, suc, ◌+◌, ◌-◌, ◌<◌, ◌≤◌, Bool, true, false, eqb, eq-eqb, List, [], ◌∷◌, length, map, Option, Some, None, is_some, Contains, MatchOption, refl, sym, ap, ap₂, ◌∙◌, subst, arith}
use Rattle.cube_view.specs.Places.{deepest, time_dim}
use Rattle.cube_view.specs.Walks.{down, across, Walk, SpotPath, Cursor, cursor, after_across, then_step, Under, HasSpot, dimension}
use Rattle.cube_view.specs.declared.schema.Schema.{Schema}
use Rattle.cube_view.proofs.FinerWalks.{under-some, Contains-head}
use Rattle.node_arena.specs.declared.link.Link.{Link}
use Rattle.node_arena.specs.Amounts.{Weighted, spots_in}
use Rattle.node_arena.specs.Shape.{home_of, HasShape}
use Rattle.node_arena.specs.Slots.{Slot, IsTable, is_table, slot_of, link_of}
use Rattle.node_arena.proofs.Walks.{link_coarser, target-lt}
use Rattle.shape_test.specs.Laws.{AllTablesCounted}
use Rattle.shape_test.specs.Levels.{Levels, left, label_counts}
use Rattle.shape_test.specs.Ways.{Way, along, count_below, IsFinest, Merges}
use Rattle.shape_test.proofs.Core.{under_along}
use Rattle.shape_test.proofs.Local.{left_spot, own_way, levels_of}
use Rattle.shape_test.proofs.ShapeConditions.{under_home}
use Rattle.shape_test.specs.Agreeing.{IsOver, MergesFrom}
use Rattle.shape_test.specs.Filled.{HasRow, HasChild, IsBare, IsFilledNode}
use Rattle.shape_test.specs.Fits.{IsSchemaCube, IsSchemaLocal, slots_bag}
use Rattle.shape_test.specs.Labels.{levels_from, schema_levels}
use Rattle.shape_test.specs.Links.{LinksFit}
use Rattle.shape_test.specs.Places.{place_at, levels_at, IsPlaceOf, IsOutside}
use Rattle.shape_test.specs.Standing.{SuitsPlace, AllStand, MergesAt, AllMerge}
use Rattle.shape_test.specs.declared.place.Place.{Place}
use Rattle.shape_test.proofs.SchemaConditions.{ends_with_time, local_is_cube}
use Rattle.shape_test.proofs.LocalOfSlots.{told_at}
use Rattle.shape_test.proofs.CategoryWays.{over_none}
use Rattle.shape_test.proofs.AddressPlaces.{place_told}

-- before time there is a dimension left
next_levels : (schema : Schema) (p : Place) → p.dim ≤ time_dim schema → (p.dim ≡ time_dim schema → ⊥) → (m : ℕ) × (later : List ℕ) × ((levels_at schema p).later ≡ m ∷ later)
next_levels schema p le other = go (time_dim schema - p.dim) refl
  where
    go : (n : ℕ) → time_dim schema - p.dim ≡ n → (m : ℕ) × (later : List ℕ) × (levels_from schema (p.dim + 1) (time_dim schema - p.dim) ≡ m ∷ later)
    go zero x = absurd (other (omega (arith, x, le)))
    go (suc n) x = (deepest schema (p.dim + 1), levels_from schema (suc (p.dim + 1)) n, ap (levels_from schema (p.dim + 1)) x)

-- all spots of a schema's levels lie at the top
lies_top : (schema : Schema) (q : SpotPath) → label_counts q ≡ schema_levels schema → Under q []
lies_top schema q e = go q.paths (ap length e)
  where
    go : (paths : List (List ℕ)) → length (map (λ (path : List ℕ). length path) paths) ≡ length (schema_levels schema) → is_some (after_across paths) ≡ true
    go [] x = let t = ends_with_time schema in let s = t.size in let z = t.some in absurd (omega (arith, x, s, z))
    go (path ∷ paths) x = refl

module _ (levels : List ℕ) (h : List Weighted) (spots : (q : SpotPath) → Contains (spots_in h) q → label_counts q ≡ levels) (a : Walk) (c : Levels) (at : left levels a ≡ Some c) (w : HasSpot (spots_in h) a) where
  at_spot : (s : Cursor) × (cursor w.spot a ≡ Some s) × (levels_of s ≡ c)
  at_spot =
      let s = under-some w.spot a w.lies in
      let e : Some (levels_of s.0) ≡ Some c = sym (ap (λ (z : List ℕ). left z a) (sym (spots w.spot w.is_in)) ∙ left_spot w.spot a s.0 s.1) ∙ at in
      (s.0, s.1, cc)

  -- where a dimension is left the spot goes on across
  goes_across : (m : ℕ) (later : List ℕ) → c.later ≡ m ∷ later → HasSpot (spots_in h) (across ∷ a)
  goes_across m later e = record {
    spot = w.spot;
    is_in = w.is_in;
    lies = ap (λ (o : Option Cursor). is_some (then_step o across)) at_spot.1 ∙ go at_spot.0.later (ap (λ (z : Levels). z.later) at_spot.2 ∙ e);
  }
    where
      go : (paths : List (List ℕ)) → map (λ (path : List ℕ). length path) paths ≡ m ∷ later → is_some (after_across paths) ≡ true
      go [] x = absurd cc
      go (path ∷ paths) x = refl

  -- where a level is left it goes on down
  goes_down : (n : ℕ) → c.rest ≡ suc n → (l : ℕ) × HasSpot (spots_in h) (down l ∷ a)
  goes_down n e =
      let s = at_spot in
      let o = own_way w.spot s.0.later s.0.rest a s.1 in
      let r : length s.0.rest ≡ suc n = ap (λ (z : Levels). z.rest) s.2 ∙ e in
      go (map (λ (path : List ℕ). length path) s.0.later) o.0 (subst (λ (k : ℕ). IsFinest k (map (λ (path : List ℕ). length path) s.0.later) o.0) r o.1) o.2
    where
      go : (later : List ℕ) (way : Way) → IsFinest (suc n) later way → Under w.spot (along a way) → (l : ℕ) × HasSpot (spots_in h) (down l ∷ a)
      go later [] f u = let x = f.0 in absurd (omega (arith, x))
      go later (across ∷ way) f u = let x = f.2 in absurd (omega (arith, x))
      go later (down l ∷ way) f u = (l, record { spot = w.spot; is_in = w.is_in; lies = under_along w.spot (down l ∷ a) way u })

module _ (schema : Schema) (slots : List Slot) (homes : List Walk) (A : AllTablesCounted slots) (L : IsSchemaLocal schema slots homes) where
  cube : IsSchemaCube schema slots homes (slots_bag schema slots homes)
  cube = local_is_cube schema slots homes A L

  shape : HasShape (time_dim schema) slots homes (slots_bag schema slots homes)
  shape = cube.cube.shape

  at_place : (i : ℕ) → i < length slots → (p : Place) × (place_at schema (home_of homes i) ≡ Some p)
  at_place i l = go (place_at schema (home_of homes i)) refl (place_told schema (home_of homes i))
    where
      go : (o : Option Place) → place_at schema (home_of homes i) ≡ o → MatchOption o (IsOutside schema (home_of homes i)) (IsPlaceOf schema (home_of homes i)) → (p : Place) × (place_at schema (home_of homes i) ≡ Some p)
      go None e t = absurd (t (L.local.within i l) (L.labels i l))
      go (Some p) e t = (p, e)

  module _ (i : ℕ) (l : i < length slots) (p : Place) (at : place_at schema (home_of homes i) ≡ Some p) where
    told : IsPlaceOf schema (home_of homes i) p
    told = told_at schema (home_of homes i) p at

    -- where a spot lies under the home of a node it has its links
    linked_node : (p.dim ≡ time_dim schema → ⊥) → HasSpot (spots_in (slots_bag schema slots homes)) (home_of homes i) → IsFilledNode slots i (eqb p.level (deepest schema p.dim))
    linked_node before w =
        let m = next_levels schema p told.placed.dim.1 before in
        inr (shape.holds.needed i across l (goes_across (schema_levels schema) (slots_bag schema slots homes) cube.cube.lengths (home_of homes i) (levels_at schema p) told.levels w m.0 m.1 m.2), child)
      where
        above : eqb p.level (deepest schema p.dim) ≡ false → deepest schema p.dim - p.level ≡ suc (deepest schema p.dim - p.level - 1)
        above d = go (eqb p.level (deepest schema p.dim)) d (λ e. eq-eqb p.level (deepest schema p.dim) e)
          where
            go : (b : Bool) → b ≡ false → (p.level ≡ deepest schema p.dim → b ≡ true) → deepest schema p.dim - p.level ≡ suc (deepest schema p.dim - p.level - 1)
            go b d same =
                let le = told.placed.level in
                let other : p.level ≡ deepest schema p.dim → ⊥ = λ e. let x = same e in let y : false ≡ true = sym d ∙ x in absurd cc in
                omega (arith, le, other)

        child : eqb p.level (deepest schema p.dim) ≡ false → HasChild slots i
        child d =
            let g = goes_down (schema_levels schema) (slots_bag schema slots homes) cube.cube.lengths (home_of homes i) (levels_at schema p) told.levels w (deepest schema p.dim - p.level - 1) (above d) in
            record { label = g.0; linked = shape.holds.needed i (down g.0) l g.1 }

    node_filled : (p.dim ≡ time_dim schema → ⊥) → IsFilledNode slots i (eqb p.level (deepest schema p.dim))
    node_filled before = go i refl
      where
        go : (j : ℕ) → i ≡ j → IsFilledNode slots i (eqb p.level (deepest schema p.dim))
        go (suc j) e = linked_node before (under_home (time_dim schema) slots homes (slots_bag schema slots homes) shape i (omega (arith, e)) l)
        go zero e = pick (slots_bag schema slots homes) refl
          where
            pick : (h : List Weighted) → slots_bag schema slots homes ≡ h → IsFilledNode slots i (eqb p.level (deepest schema p.dim))
            pick [] x = inl (e, bare)
              where
                bare : IsBare slots i
                bare s = out (link_of slots i s) refl
                  where
                    out : (o : Option Link) → link_of slots i s ≡ o → o ≡ None
                    out None y = refl
                    out (Some k) y =
                        let w = shape.holds.wanted i s k y in
                        let n = (subst (λ (h : List Weighted). Contains (spots_in h) w.spot) x w.is_in).1 in
                        absurd (omega (arith, n))
            pick (v ∷ h) x = linked_node before (record {
              spot = v.spot;
              is_in = here;
              lies = subst (Under v.spot) (sym (ap (home_of homes) e ∙ shape.has_homes.root)) (lies_top schema v.spot (cube.cube.lengths v.spot here));
            })
              where
                here : Contains (spots_in (slots_bag schema slots homes)) v.spot
                here = subst (λ (h : List Weighted). Contains (spots_in h) v.spot) (sym x) (Contains-head (spots_in h) v.spot)

    -- a table is no root
    not_first : IsTable (slot_of slots i) → 0 < i
    not_first t = go i refl
      where
        go : (j : ℕ) → i ≡ j → 0 < i
        go (suc j) e = omega (arith, e)
        go zero e =
            let d = (shape.has_tables.tables i l).0 t in
            let z : dimension (home_of homes i) ≡ 1 = ap (λ (k : ℕ). dimension (home_of homes k)) e ∙ ap dimension shape.has_homes.root in
            absurd (omega (arith, d, z))

    table_row : IsTable (slot_of slots i) → HasRow slots i
    table_row t =
        let f = L.local.filled i (not_first t) l in
        let e = over_none f.way (f.finest (record { rest = 0; later = [] }) (L.local.at_time i l t)) in
        record { bin = f.bin; some = subst (λ (w : Way). 0 < count_below slots i w f.bin) e f.some }

    suits : SuitsPlace schema slots i p
    suits = go (is_table (slot_of slots i)) refl
      where
        go : (b : Bool) → is_table (slot_of slots i) ≡ b → SuitsPlace schema slots i p
        go true t = inl (record { table = t; time = sym told.dim ∙ (shape.has_tables.tables i l).0 t; row = table_row t })
        go false n = inr (record { node = n; before = before; filled = node_filled before; shares = L.local.shares i })
          where
            before : p.dim ≡ time_dim schema → ⊥
            before d = let t = (shape.has_tables.tables i l).1 (told.dim ∙ d) in let x : false ≡ true = sym n ∙ t in absurd cc

    links : LinksFit slots homes i
    links e k o = record {
      within = let t = target-lt slots homes L.local.has_homes i e k o in let s = L.local.has_homes.size in omega (arith, t, s);
      coarser = link_coarser slots homes L.local.has_homes i e k o;
    }

    sums : MergesFrom schema slots i p
    sums less way o bin = go (levels_at schema p).later refl o
      where
        go : (later : List ℕ) → (levels_at schema p).later ≡ later → IsOver later way → Merges slots i way bin
        go [] e f = absurd f
        go (m ∷ later) e f =
            let r : deepest schema p.dim - p.level ≡ suc (deepest schema p.dim - p.level - 1) = omega (arith, less) in
            L.local.merges i (deepest schema p.dim - p.level - 1) m later (told.levels ∙ ap₂ (λ (n : ℕ) (ms : List ℕ). Some (record { rest = n; later = ms })) r e) way f bin

  pub all_stand : AllStand schema slots homes
  all_stand i l = let p = at_place i l in record { place = p.0; at = p.1; suits = suits i l p.0 p.1; links = links i l p.0 p.1 }

  pub all_merge : AllMerge schema slots homes
  all_merge i l = let p = at_place i l in subst (MergesAt schema slots i) (sym p.1) (sums i l p.0 p.1)
