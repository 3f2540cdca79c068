-- Of all shapes with the same spots a least one has the fewest slots: each of its homes is a home of the other.
use Rattle.std.proofs.Common.{◌≡◌, ◌≢◌, ℕ, zero, suc, ◌+◌, ◌<◌, ◌≤◌, Bool, true, false, cond, not, ltb, ◌⊎◌, inl, inr, ◌↔◌, List, [], ◌∷◌, Option, Some, None, Contains, length, count_by, slice_index_or, refl, sym, ap, ◌∙◌, subst, arith, true≢false}
use Rattle.std.proofs.lemmas.Bool.{cases_lt, le-ltb, lt-ltb}
use Rattle.cube_view.specs.Walks.{Step, Walk, SpotPath, Under, HasSpot, IsCoarser, dimension}
use Rattle.node_arena.specs.Amounts.{Weighted, spots_in}
use Rattle.node_arena.specs.Slots.{proper, Slot, empty_node, is_table, slot_of, link_of, walk_end}
use Rattle.node_arena.specs.Stats.{node_count, table_count, proper_count, AllRising}
use Rattle.node_arena.specs.Shape.{home_of, HasShape}
use Rattle.node_arena.specs.Reach.{IsReached, IsWalked}
use Rattle.node_arena.proofs.Walks.{walk-lt, tells_walks}
use Rattle.node_arena.proofs.LinkTotals.{tells_links}
use Rattle.least_cube.specs.Least.{HasFiner, IsLeast, HaveSameSpots, HasNoMore, TellsFewest}
use Rattle.cube_view.proofs.FinerWalks.{iff_same}
use Rattle.least_cube.proofs.Levels.{finer_cases}
use Rattle.least_cube.proofs.Places.{sum_to, sum_to-led, sum_to-ones, count_by-places}

-- the number in an option, or 0
abbrev place_in : Option ℕ → ℕ
place_in None = 0
place_in (Some k) = k

-- where the home of a slot leads among others; past the end of the slots, past the end of these
pub led_place : List Slot → List Walk → List Slot → ℕ → ℕ
led_place slots homes slots' j = cond (ltb j (length slots)) (place_in (walk_end slots' 0 (home_of homes j))) (j + length slots')

pub led_place-past : (slots : List Slot) (homes : List Walk) (slots' : List Slot) (j : ℕ) → length slots ≤ j → led_place slots homes slots' j ≡ j + length slots'
unfolding led_place
led_place-past slots homes slots' j l = ap (λ (b : Bool). cond b (place_in (walk_end slots' 0 (home_of homes j))) (j + length slots')) (le-ltb j (length slots) l)

module _ (dims : ℕ) (slots slots' : List Slot) (homes homes' : List Walk) (h h' : List Weighted) (S : HasShape dims slots homes h) (L : IsLeast slots homes (spots_in h)) (S' : HasShape dims slots' homes' h') (same : HaveSameSpots h h') where
  -- the home of a slot is the home of a slot of the other shape
  record IsHome (a : Walk) : Type 0 where
    pub place : ℕ
    pub below : place < length slots'
    pub is : walk_end slots' 0 a ≡ Some place
    pub home : home_of homes' place ≡ a

  at_top : IsHome []
  at_top = record { place = 0; below = S'.shaped.has_homes.some; is = refl; home = S'.shaped.has_homes.root }

  below_top : (i j : ℕ) (e : Step) → link_of slots i e ≡ Some (proper j) → IsHome (e ∷ home_of homes i)
  below_top i j e owns = go (finer_cases coarser)
    where
      a : Walk
      a = e ∷ home_of homes i

      spot : HasSpot (spots_in h) a
      spot = S.shaped.holds.wanted i e (proper j) owns

      walked : IsWalked slots' homes' h'
      walked = tells_walks dims slots' homes' h' S'.shaped

      found : IsReached slots' a
      found = walked.spots_reached.reached a (record { spot = spot.spot; is_in = (same spot.spot).0 spot.is_in; lies = spot.lies })

      coarser : IsCoarser a (home_of homes' found.slot)
      coarser = walked.homes_reached.coarser a found.slot found.is

      go : (a ≡ home_of homes' found.slot) ⊎ (a ≢ home_of homes' found.slot) → IsHome a
      go (inl x) = record { place = found.slot; below = walk-lt slots' homes' S'.shaped.has_homes a found.slot found.is; is = found.is; home = sym x }
      go (inr d) = absurd (L i j e owns (record {
        to = home_of homes' found.slot;
        finer = coarser;
        differs = d;
        all = λ q c u. walked.homes_reached.agrees a found.slot found.is q ((same q).0 c) u;
      }))

  is_home : (j : ℕ) → j < length slots → IsHome (home_of homes j)
  is_home zero l = subst IsHome (sym S.shaped.has_homes.root) at_top
  is_home (suc j) l =
      let o = S.shaped.has_homes.owner (suc j) (omega arith) l in
      subst IsHome (sym (S.shaped.has_homes.at_home o.by (suc j) o.step o.owns).1) (below_top o.by (suc j) o.step o.owns)

  -- that is the slot with the same home
  abbrev led : ℕ → ℕ
  led j = led_place slots homes slots' j

  led-place : (j : ℕ) (l : j < length slots) → led j ≡ (is_home j l).place
  unfolding led_place
  led-place j l =
      ap (λ (b : Bool). cond b (place_in (walk_end slots' 0 (home_of homes j))) (j + length slots')) (lt-ltb j (length slots) l)
      ∙ ap place_in (is_home j l).is

  pub led_place-below : (j : ℕ) → j < length slots → led j < length slots'
  led_place-below j l = subst (λ k. k < length slots') (sym (led-place j l)) (is_home j l).below

  pub led_place-home : (j : ℕ) → j < length slots → home_of homes' (led j) ≡ home_of homes j
  led_place-home j l = ap (λ (k : ℕ). home_of homes' k) (led-place j l) ∙ (is_home j l).home

  apart_inside : (i j : ℕ) → i < length slots → j < length slots → led i ≡ led j → i ≡ j
  apart_inside i j l m e = S.shaped.has_homes.distinct i j l m (sym (led_place-home i l) ∙ (ap (λ (k : ℕ). home_of homes' k) e ∙ led_place-home j m))

  pub led_place-apart : (i j : ℕ) → led i ≡ led j → i ≡ j
  led_place-apart i j e = go (cases_lt i (length slots)) (cases_lt j (length slots))
    where
      go : (i < length slots) ⊎ (length slots ≤ i) → (j < length slots) ⊎ (length slots ≤ j) → i ≡ j
      go (inl a) (inl b) = apart_inside i j a b e
      go (inl a) (inr b) = let x = led_place-below i a in let y = led_place-past slots homes slots' j b in absurd (omega arith)
      go (inr a) (inl b) = let x = led_place-past slots homes slots' i a in let y = led_place-below j b in absurd (omega arith)
      go (inr a) (inr b) = let x = led_place-past slots homes slots' i a in let y = led_place-past slots homes slots' j b in omega arith

  pub led_place-table : (j : ℕ) → j < length slots → is_table (slot_of slots j) ≡ is_table (slot_of slots' (led j))
  led_place-table j l =
      let here = S.shaped.has_tables.tables j l in
      let there = S'.shaped.has_tables.tables (led j) (led_place-below j l) in
      let d = ap dimension (led_place-home j l) in
      iff_same (is_table (slot_of slots j)) (is_table (slot_of slots' (led j))) (λ t. there.1 (d ∙ here.0 t)) (λ t. here.1 (sym d ∙ there.0 t))

  -- no more of the slots that pass a test of their kind
  no_more : (p : Bool → Bool) → count_by (λ s. p (is_table s)) slots ≤ count_by (λ s. p (is_table s)) slots'
  no_more p =
      let a = count_by-places (λ s. p (is_table s)) slots empty_node in
      let b = count_by-places (λ s. p (is_table s)) slots' empty_node in
      let r = sum_to-led (length slots) (length slots') led (λ j. cond (p (is_table (slot_of slots j))) 1 0) (λ j. cond (p (is_table (slot_of slots' j))) 1 0) led_place-below apart_inside (λ j l. let e = ap (λ (t : Bool). cond {A = ℕ} (p t) 1 0) (led_place-table j l) in omega arith) in
      omega arith

  all_no_more : length slots ≤ length slots'
  all_no_more =
      let a = sum_to-ones (length slots) in
      let b = sum_to-ones (length slots') in
      let r = sum_to-led (length slots) (length slots') led (λ j. 1) (λ j. 1) led_place-below apart_inside (λ j l. omega arith) in
      omega arith

  has_no_more : HasNoMore slots slots'
  has_no_more = record {
    all = all_no_more;
    nodes = no_more not;
    tables = no_more (λ t. t);
    links = λ rising rising'.
        let a = tells_links dims slots homes h S.shaped rising in
        let b = tells_links dims slots' homes' h' S'.shaped rising' in
        let n = no_more not in
        let t = no_more (λ t. t) in
        omega arith;
  }

pub tells_fewest : TellsFewest
tells_fewest dims slots slots' homes homes' h h' S L S' same = has_no_more dims slots slots' homes homes' h h' S L S' same
