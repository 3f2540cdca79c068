-- Each spot of a cube lies under one whole home of a time table.
use Rattle.std.proofs.Common.{◌≡◌, ℕ, ◌<◌, Bool, true, ◌&&◌, List, [], ◌∷◌, length, map, Some, Contains, All, refl, sym, ap, ap₂, ◌∙◌, subst, arith}
use Rattle.std.proofs.lemmas.Bool.{and_parts}
use Rattle.std.proofs.lemmas.List.{nil_from_length}
use Rattle.std.proofs.lemmas.List.Elements.{All-nil, All-cons}
use Rattle.cube_view.specs.Walks.{Walk, SpotPath, Cursor, cursor, after_across, under, Under, dimension}
use Rattle.cube_view.proofs.FinerWalks.{under-some, Contains-head, Contains-cons}
use Rattle.node_arena.specs.Amounts.{Weighted, spots_in}
use Rattle.node_arena.specs.Shape.{home_of, HasShape}
use Rattle.node_arena.specs.Slots.{Slot, IsTable, is_table, slot_of, walk_end}
use Rattle.node_arena.proofs.Walks.{walk-lt, walk_coarser, walk_reaches}
use Rattle.shape_test.specs.Levels.{Levels, left, no_levels, label_counts, EndsWithTime}
use Rattle.shape_test.specs.Local.{IsLocal}
use Rattle.shape_test.specs.Ways.{Way, along, IsFinest}
use Rattle.shape_test.specs.Wholes.{is_whole, paths_along}
use Rattle.shape_test.proofs.LocalOfShape.{left_along}
use Rattle.shape_test.proofs.WholeAddresses.{IsWhole}
use Rattle.shape_test.proofs.Local.{left_spot, levels_of, own_way}
use Rattle.shape_test.proofs.BinRows.{whole_from_test, whole_test, labels_are, same_labels}
use Rattle.shape_test.proofs.TimeAddresses.{time_of}
use Rattle.shape_test.proofs.Root.{along_whole, finer_whole}
use Rattle.shape_test.proofs.Bag.{nothing_later}
use Rattle.image_cube.proofs.ListShares.{HasPlace}

-- a spot under a whole address with nothing left has its labels
paths-at : (levels : List ℕ) (q : SpotPath) (b : Walk) → label_counts q ≡ levels → IsWhole levels b → left levels b ≡ Some no_levels → Under q b → q.paths ≡ paths_along b [] []
paths-at levels q b len w at u =
    let s = under-some q b u in
    let e : Some (levels_of s.0) ≡ Some no_levels = sym (ap (λ (z : List ℕ). left z b) (sym len) ∙ left_spot q b s.0 s.1) ∙ at in
    let f : levels_of s.0 ≡ no_levels = cc in
    let none : s.0.rest ≡ [] = nil_from_length s.0.rest (ap (λ (z : Levels). z.rest) f) in
    let later : s.0.later ≡ [] = nothing_later s.0.later (ap (λ (z : Levels). z.later) f) in
    labels_are levels q b s.0 len w s.1 ∙ ap₂ (paths_along b) none later

-- a walk begins with the labels in space
begins-at : (paths : List (List ℕ)) (n : ℕ) → length (map (λ (p : List ℕ). length p) paths) ≡ n → 0 < n → (c : Cursor) × (after_across paths ≡ Some c)
begins-at [] n e some = absurd (omega (arith, e, some))
begins-at (path ∷ paths) n e some = (record { rest = path; later = paths }, refl)

-- the slot is a time table at a whole home over the spot
abbrev pub lies_at : List ℕ → List Slot → List Walk → ℕ → Weighted → Bool
lies_at levels slots homes i w = is_whole levels (home_of homes i) && (is_table (slot_of slots i) && under w.spot (home_of homes i))

module _ (dims : ℕ) (levels : List ℕ) (slots : List Slot) (homes : List Walk) (h : List Weighted) (T : EndsWithTime dims levels) (S : HasShape dims slots homes h) (L : IsLocal dims levels slots homes) (lengths : (q : SpotPath) → Contains (spots_in h) q → label_counts q ≡ levels) where
  module _ (w : Weighted) (c : Contains (spots_in h) w.spot) where
    len : label_counts w.spot ≡ levels
    len = lengths w.spot c

    start : (c : Cursor) × (cursor w.spot [] ≡ Some c)
    start = begins-at w.spot.paths dims (ap length len ∙ T.size) T.some

    own : (way : Way) × IsFinest (length start.0.rest) (map length start.0.later) way × Under w.spot (along [] way)
    own = own_way w.spot start.0.later start.0.rest [] start.1

    abbrev a : Walk
    a = along [] own.0

    begun : left levels [] ≡ Some (levels_of start.0)
    begun = ap (λ (z : List ℕ). left z []) (sym len) ∙ left_spot w.spot [] start.0 start.1

    at-end : left levels a ≡ Some no_levels
    at-end = left_along levels [] (length start.0.rest) (map length start.0.later) own.0 own.1 begun

    wholly : IsWhole levels a
    wholly = along_whole levels [] (length start.0.rest) (map length start.0.later) own.0 tt begun own.1

    reach : (t : ℕ) × (walk_end slots 0 a ≡ Some t)
    reach = walk_reaches dims slots homes h S.shaped a (record { spot = w.spot; is_in = c; lies = own.2 })

    lt : reach.0 < length slots
    lt = walk-lt slots homes S.has_homes a reach.0 reach.1

    same : a ≡ home_of homes reach.0
    same =
        let d = L.within reach.0 lt in
        finer_whole levels (walk_coarser slots homes S.has_homes a reach.0 reach.1) wholly no_levels d.levels_left at-end d.is (λ x. refl)

    table-there : IsTable (slot_of slots reach.0)
    table-there = (S.has_tables.tables reach.0 lt).1 (ap dimension (sym same) ∙ (time_of dims levels T a no_levels at-end).1 refl)

    place-of : HasPlace (lies_at levels slots homes) (length slots) w
    place-of = record {
      place = reach.0;
      within = lt;
      is = ap₂ ◌&&◌ (whole_test levels (home_of homes reach.0) (subst (IsWhole levels) same wholly)) (ap₂ ◌&&◌ table-there (subst (Under w.spot) same own.2));
      only = λ i l e. only i l e;
    }
      where
        only : (i : ℕ) → i < length slots → lies_at levels slots homes i w ≡ true → i ≡ reach.0
        only i l e =
            let p = and_parts (is_whole levels (home_of homes i)) (is_table (slot_of slots i) && under w.spot (home_of homes i)) e in
            let r = and_parts (is_table (slot_of slots i)) (under w.spot (home_of homes i)) p.1 in
            let there = paths-at levels w.spot (home_of homes i) len (whole_from_test levels (home_of homes i) p.0) (L.at_time i l r.0) r.1 in
            let here = paths-at levels w.spot a len wholly at-end own.2 in
            S.has_homes.distinct i reach.0 l lt (same_labels (home_of homes i) a (sym there ∙ here) ∙ same)

  placed : (k : List Weighted) → ((q : SpotPath) → Contains (spots_in k) q → Contains (spots_in h) q) → All (HasPlace (lies_at levels slots homes) (length slots)) k
  placed [] f = All-nil (HasPlace (lies_at levels slots homes) (length slots))
  placed (w ∷ k) f = All-cons (HasPlace (lies_at levels slots homes) (length slots)) w k (place-of w (f w.spot (Contains-head (spots_in k) w.spot))) (placed k (λ q c. f q (Contains-cons (spots_in k) w.spot q c)))

  pub all-placed : All (HasPlace (lies_at levels slots homes) (length slots)) h
  all-placed = placed h (λ q c. c)
