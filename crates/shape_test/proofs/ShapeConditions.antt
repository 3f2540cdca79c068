-- The conditions hold exactly of a shape.
use Rattle.std.proofs.Common.{◌≡◌, ◌↔◌, ◌⊎◌, inl, inr, ℕ, zero, suc, ◌<◌, ◌≤◌, List, [], ◌∷◌, length, map, Some, Contains, sum_by, refl, sym, ap, ◌∙◌, subst, arith}
use Rattle.std.proofs.Math.ListN.{get_or-eq_default}
use Rattle.std.proofs.lemmas.Bool.{cases_lt}
use Rattle.cube_view.specs.Walks.{down, across, Walk, SpotPath, Cursor, cursor, Under, dimension, HasSpot}
use Rattle.cube_view.proofs.FinerWalks.{under-some}
use Rattle.node_arena.specs.Amounts.{Weighted, spots_in}
use Rattle.node_arena.specs.Shape.{home_of, HasShape}
use Rattle.node_arena.specs.Slots.{proper, Slot, empty_node, slot_of, children_of, link}
use Rattle.node_arena.specs.Stats.{AllRising}
use Rattle.node_arena.proofs.Walks.{walk_home}
use Rattle.shape_test.specs.Levels.{Levels, left, no_levels, label_counts}
use Rattle.shape_test.specs.Local.{HasLevels, IsLocal, AllHaveLevels, AllHaveCounts, AllContentsMerge}
use Rattle.shape_test.specs.Ways.{Way, along, count_below, IsFinest, Merges}
use Rattle.shape_test.proofs.WholeAddresses.{joined, ListsRows}
use Rattle.shape_test.proofs.Apart.{all_apart}
use Rattle.shape_test.proofs.LocalOfShape.{found_counts, left_along, shape_merges}
use Rattle.shape_test.proofs.Core.{HasAmounts, no_step, counted}
use Rattle.shape_test.proofs.Local.{levels_of, left_spot, own_way, local_shaped}
use Rattle.shape_test.proofs.Root.{root_tells}

-- a spot lies under the home of each slot but the root
pub under_home : (dims : ℕ) (slots : List Slot) (homes : List Walk) (h : List Weighted) → HasShape dims slots homes h → (j : ℕ) → 0 < j → j < length slots → HasSpot (spots_in h) (home_of homes j)
under_home dims slots homes h S j some l =
    let o = S.has_homes.owner j some l in
    let w = S.holds.wanted o.by o.step (proper j) o.owns in
    let e = (S.has_homes.at_home o.by j o.step o.owns).1 in
    subst (HasSpot (spots_in h)) (sym e) w

-- where there is no slot nothing is counted, so it merges
pub merges_past : (slots : List Slot) (i : ℕ) (way : Way) (bin : ℕ) → length slots ≤ i → Merges slots i way bin
merges_past slots i way bin l =
    let e : slot_of slots i ≡ empty_node = get_or-eq_default slots empty_node l in
    no_step slots i across way bin (ap (λ (s : Slot). link s across) e) ∙ sym (ap (λ (s : Slot). sum_by (λ k. count_below slots i (down k.0 ∷ across ∷ way) bin) (children_of s)) e)

module _ (dims : ℕ) (levels : List ℕ) (first : Levels) (begins_at : left levels [] ≡ Some first) (time : (a : Walk) (c : Levels) → left levels a ≡ Some c → (dimension a ≡ dims) ↔ (c ≡ no_levels)) where
  ends : (a : Walk) → left levels a ≡ Some (record { rest = 0; later = [] }) → dimension a ≡ dims
  ends a at = (time a (record { rest = 0; later = [] }) at).1 refl

  -- one way: the list is the rows of the tables at whole addresses
  pub local_is_shape : (slots : List Slot) (homes : List Walk) → IsLocal dims levels slots homes → (rows : ℕ → List Weighted) → ListsRows levels slots homes rows → HasAmounts (joined rows (length slots)) → ((q : SpotPath) → Contains (spots_in (joined rows (length slots))) q → label_counts q ≡ levels) → length levels ≡ dims → HasShape dims slots homes (joined rows (length slots))
  local_is_shape slots homes L rows R heavy spots all = record {
    shaped = local_shaped dims levels slots homes (joined rows (length slots)) L heavy spots (root_tells dims levels slots homes L (λ a at. (time a (record { rest = 0; later = [] }) at).1 refl) rows R);
    shares = L.shares;
    alike = record { lengths = levels; all = all; same = spots };
  }

  -- the other: of any list
  module _ (slots : List Slot) (homes : List Walk) (h : List Weighted) (S : HasShape dims slots homes h) (heavy : HasAmounts h) (spots : (q : SpotPath) → Contains (spots_in h) q → label_counts q ≡ levels) (rising : AllRising slots) where
    spot_left : (a : Walk) (w : HasSpot (spots_in h) a) → HasLevels levels a
    spot_left a w =
        let s = under-some w.spot a w.lies in
        record { levels_left = levels_of s.0; is = ap (λ (z : List ℕ). left z a) (sym (spots w.spot w.is_in)) ∙ left_spot w.spot a s.0 s.1 }

    within : AllHaveLevels levels slots homes
    within zero l = record { levels_left = first; is = ap (left levels) S.has_homes.root ∙ begins_at }
    within (suc i) l = spot_left (home_of homes (suc i)) (under_home dims slots homes h S (suc i) (omega arith) l)

    filled : AllHaveCounts levels slots homes
    filled j some l = record { way = way.0; bin = w.spot.bin; finest = finest; some = count }
      where
        w : HasSpot (spots_in h) (home_of homes j)
        w = under_home dims slots homes h S j some l

        s : (c : Cursor) × (cursor w.spot (home_of homes j) ≡ Some c)
        s = under-some w.spot (home_of homes j) w.lies

        way : (way : Way) × IsFinest (length s.0.rest) (map length s.0.later) way × Under w.spot (along (home_of homes j) way)
        way = own_way w.spot s.0.later s.0.rest (home_of homes j) s.1

        at : left levels (home_of homes j) ≡ Some (levels_of s.0)
        at = ap (λ (z : List ℕ). left z (home_of homes j)) (sym (spots w.spot w.is_in)) ∙ left_spot w.spot (home_of homes j) s.0 s.1

        finest : (c : Levels) → left levels (home_of homes j) ≡ Some c → IsFinest c.rest c.later way.0
        finest c e =
            let x : Some (levels_of s.0) ≡ Some c = sym at ∙ e in
            let y : levels_of s.0 ≡ c = cc in
            subst (λ (z : Levels). IsFinest z.rest z.later way.0) y way.1

        count : 0 < count_below slots j way.0 w.spot.bin
        count =
            let f = found_counts dims levels slots homes h S.shaped spots ends (home_of homes j) j way.0 w.spot.bin (walk_home slots homes S.has_homes (home_of homes j) j l refl) (left_along levels (home_of homes j) (length s.0.rest) (map length s.0.later) way.0 way.1 at) in
            let n = counted w.spot (along (home_of homes j) way.0) h heavy w.is_in way.2 in
            omega (arith, f, n)

    merges : AllContentsMerge levels slots homes
    merges i n m later at way f bin = go (cases_lt i (length slots))
      where
        go : (i < length slots) ⊎ (length slots ≤ i) → Merges slots i way bin
        go (inl l) = shape_merges dims levels slots homes h S.shaped spots ends i n m later l at (all_apart slots rising i) way f bin
        go (inr l) = merges_past slots i way bin l

    pub shape_is_local : IsLocal dims levels slots homes
    shape_is_local = record {
      has_homes = S.has_homes;
      has_tables = S.has_tables;
      within = within;
      at_time = λ i l t. let c = within i l in c.is ∙ ap Some ((time (home_of homes i) c.levels_left c.is).0 ((S.has_tables.tables i l).0 t));
      filled = filled;
      shares = S.shares;
      rising = rising;
      merges = merges;
    }
