-- The shape says what each walk from the root reaches, and what a cube counts.
use Rattle.std.proofs.Common.{◌≡◌, ℕ, zero, suc, ◌+◌, ◌<◌, true, false, List, [], ◌∷◌, Option, Some, None, Contains, length, refl, sym, ap, ◌∙◌, subst, arith, inl, inr, ◌⊎◌}
use Rattle.node_arena.specs.declared.link.Link.{Link}
use Rattle.cube_view.specs.Walks.{Step, down, across, Walk, SpotPath, Under, top, IsCoarser, dimension, HasSpot, down_all, whole_from, whole_of, whole}
use Rattle.node_arena.specs.Slots.{proper, shared, target, Slot, is_table, link_of, slot_of, count, reached, follow, walk_end}
use Rattle.node_arena.specs.Shape.{home_of, HasHomes, IsShaped}
use Rattle.node_arena.specs.Reach.{AreCoarser, IsWalked, count_reached, weight_at, TellsWalks, TellsWeights}
use Rattle.cube_view.proofs.FinerWalks.{finer-refl, finer-step, finer-trans, coarser_under, step_across_finer, under_before, dimension-finer}
use Rattle.node_arena.specs.Amounts.{Weighted, spots_in, amount_under}
use Rattle.node_arena.proofs.AddressAmounts.{amount_along, amount-none}
use Rattle.node_arena.proofs.Links.{linked-lt, link_cases}

-- a link leads to a slot whose home is finer than the link's address
pub link_coarser : (slots : List Slot) (homes : List Walk) → HasHomes slots homes → (i : ℕ) (e : Step) (l : Link) → link_of slots i e ≡ Some l → IsCoarser (e ∷ home_of homes i) (home_of homes (target l))
link_coarser slots homes H i e l h = go (link_cases l)
  where
    go : (l ≡ proper (target l)) ⊎ (l ≡ shared (target l)) → IsCoarser (e ∷ home_of homes i) (home_of homes (target l))
    go (inl p) = subst (λ z. IsCoarser (e ∷ home_of homes i) z) (sym (H.at_home i (target l) e (h ∙ ap Some p)).1) (finer-refl false (e ∷ home_of homes i))
    go (inr s) = (H.finer i (target l) e (h ∙ ap Some s)).1

-- every link leads to a slot
pub target-lt : (slots : List Slot) (homes : List Walk) → HasHomes slots homes → (i : ℕ) (e : Step) (l : Link) → link_of slots i e ≡ Some l → target l < length slots
target-lt slots homes H i e l h = go (link_cases l)
  where
    go : (l ≡ proper (target l)) ⊎ (l ≡ shared (target l)) → target l < length slots
    go (inl p) = (H.at_home i (target l) e (h ∙ ap Some p)).0
    go (inr s) = (H.finer i (target l) e (h ∙ ap Some s)).0

-- the last step of a walk
pub last_step : (slots : List Slot) (o : Option ℕ) (e : Step) (j : ℕ) → follow slots o e ≡ Some j → (i : ℕ) × (l : Link) × (o ≡ Some i) × (link_of slots i e ≡ Some l) × (target l ≡ j)
last_step slots None e j h = absurd cc
last_step slots (Some i) e j h = go (link_of slots i e) refl h
  where
    go : (o : Option Link) → link_of slots i e ≡ o → reached o ≡ Some j → (k : ℕ) × (l : Link) × (Some i ≡ Some k) × (link_of slots k e ≡ Some l) × (target l ≡ j)
    go None x y = absurd cc
    go (Some l) x y = (i, l, refl, x, cc)

step_on : (slots : List Slot) (o : Option ℕ) (e : Step) (i : ℕ) (l : Link) → o ≡ Some i → link_of slots i e ≡ Some l → follow slots o e ≡ Some (target l)
step_on slots o e i l x y = ap (λ (z : Option ℕ). follow slots z e) x ∙ ap reached y

module _ (slots : List Slot) (homes : List Walk) (H : HasHomes slots homes) where
  -- a walk leads to a slot
  pub walk-lt : (a : Walk) (j : ℕ) → walk_end slots 0 a ≡ Some j → j < length slots
  walk-lt [] j h = let e : 0 ≡ j = cc in subst (λ k. k < length slots) e H.some
  walk-lt (e ∷ a) j h =
      let s = last_step slots (walk_end slots 0 a) e j h in
      subst (λ k. k < length slots) s.4 (target-lt slots homes H s.0 e s.1 s.3)

  -- the address is coarser than the home
  pub walk_coarser : AreCoarser slots homes
  walk_coarser [] j h = let e : 0 ≡ j = cc in subst (λ z. IsCoarser [] (home_of homes z)) e (subst (λ z. IsCoarser [] z) (sym H.root) top)
  walk_coarser (e ∷ a) j h =
      let s = last_step slots (walk_end slots 0 a) e j h in
      subst (λ z. IsCoarser (e ∷ a) (home_of homes z)) s.4 (finer-trans (finer-step (walk_coarser a s.0 s.2) e) (link_coarser slots homes H s.0 e s.1 s.3))

  -- a slot's home leads to it
  pub walk_home : (a : Walk) (j : ℕ) → j < length slots → home_of homes j ≡ a → walk_end slots 0 a ≡ Some j
  walk_home [] j l h = ap Some (H.distinct 0 j H.some l (H.root ∙ sym h))
  walk_home (e ∷ a) zero l h = let x : [] ≡ e ∷ a = sym H.root ∙ h in absurd cc
  walk_home (e ∷ a) (suc k) l h =
      let o = H.owner (suc k) (omega arith) l in
      let r = H.at_home o.by (suc k) o.step o.owns in
      let s : o.step ∷ home_of homes o.by ≡ e ∷ a = sym r.1 ∙ h in
      let x : home_of homes o.by ≡ a = cc in
      let y : o.step ≡ e = cc in
      step_on slots (walk_end slots 0 a) e o.by (proper (suc k)) (walk_home a o.by (linked-lt slots o.by o.step (proper (suc k)) o.owns) x) (subst (λ z. link_of slots o.by z ≡ Some (proper (suc k))) y o.owns)

module _ (dims : ℕ) (slots : List Slot) (homes : List Walk) (h : List Weighted) (S : IsShaped dims slots homes h) where
  -- agreement
  pub walk_agrees : (a : Walk) (j : ℕ) → walk_end slots 0 a ≡ Some j → (q : SpotPath) → Contains (spots_in h) q → Under q a → Under q (home_of homes j)
  walk_agrees [] j w q c u = let e : 0 ≡ j = cc in subst (λ z. Under q (home_of homes z)) e (subst (Under q) (sym S.has_homes.root) u)
  walk_agrees (e ∷ a) j w q c u =
      let s = last_step slots (walk_end slots 0 a) e j w in
      let at = walk_agrees a s.0 s.2 q c (under_before q e a u) in
      let v = sym (step_across_finer (walk_coarser slots homes S.has_homes a s.0 s.2) q e at) ∙ u in
      subst (λ z. Under q (home_of homes z)) s.4 (S.holds.agrees s.0 e s.1 s.3 q c v)

  -- where a spot lies a slot is reached
  pub walk_reaches : (a : Walk) → HasSpot (spots_in h) a → (i : ℕ) × (walk_end slots 0 a ≡ Some i)
  walk_reaches [] w = (0, refl)
  walk_reaches (e ∷ a) w =
      let r = walk_reaches a (record { spot = w.spot; is_in = w.is_in; lies = under_before w.spot e a w.lies }) in
      let at = walk_agrees a r.0 r.1 w.spot w.is_in (under_before w.spot e a w.lies) in
      let v = sym (step_across_finer (walk_coarser slots homes S.has_homes a r.0 r.1) w.spot e at) ∙ w.lies in
      let n = S.holds.needed r.0 e (walk-lt slots homes S.has_homes a r.0 r.1) (record { spot = w.spot; is_in = w.is_in; lies = v }) in
      (target n.link, step_on slots (walk_end slots 0 a) e r.0 n.link r.1 n.is)

  pub walk_only : (a : Walk) (e : Step) (j : ℕ) → walk_end slots 0 (e ∷ a) ≡ Some j → HasSpot (spots_in h) (e ∷ a)
  walk_only a e j w =
      let s = last_step slots (walk_end slots 0 a) e j w in
      let r = S.holds.wanted s.0 e s.1 s.3 in
      record { spot = r.spot; is_in = r.is_in; lies = coarser_under (finer-step (walk_coarser slots homes S.has_homes a s.0 s.2) e) r.spot r.lies }

  -- a time table that is reached counts the amounts under the address
  pub walk_counts : (a : Walk) (j bin : ℕ) → j < length slots → walk_end slots 0 a ≡ Some j → is_table (slot_of slots j) ≡ true → count (slot_of slots j) bin ≡ amount_under h a bin
  walk_counts a j bin l w t =
      S.counted.counts j bin l t ∙ amount_along h (home_of homes j) a (λ q c u. coarser_under (walk_coarser slots homes S.has_homes a j w) q u) (λ q c u. walk_agrees a j w q c u) bin

  -- the shape, said of walks
  pub is_walked : IsWalked slots homes h
  is_walked = record {
    homes_reached = record {
      at_home = λ i l. walk_home slots homes S.has_homes (home_of homes i) i l refl;
      coarser = walk_coarser slots homes S.has_homes;
      agrees = walk_agrees;
    };
    spots_reached = record {
      top = refl;
      reached = λ a w. let r = walk_reaches a w in record { slot = r.0; is = r.1 };
      only = λ a e r. walk_only a e r.slot r.is;
    };
    counted = record { counts = λ a i bin w t. walk_counts a i bin (walk-lt slots homes S.has_homes a i w) w t };
  }

-- the whole walk of a spot
dimension-down_all : (path : List ℕ) (a : Walk) → dimension (down_all path a) ≡ dimension a
dimension-down_all [] a = refl
dimension-down_all (l ∷ path) a = dimension-down_all path (down l ∷ a)

dimension-whole_from : (later : List (List ℕ)) (a : Walk) → dimension (whole_from later a) ≡ dimension a + length later
dimension-whole_from [] a = omega arith
dimension-whole_from (path ∷ later) a =
    let r = dimension-whole_from later (down_all path (across ∷ a)) in let s = dimension-down_all path (across ∷ a) in omega arith

pub dimension-whole : (dims : ℕ) (q : SpotPath) → 0 < dims → length q.paths ≡ dims → dimension (whole q) ≡ dims
dimension-whole dims q some P = go q.paths P
  where
    go : (paths : List (List ℕ)) → length paths ≡ dims → dimension (whole_of paths) ≡ dims
    go [] e = absurd (omega arith)
    go (path ∷ later) e = let r = dimension-whole_from later (down_all path []) in let s = dimension-down_all path [] in omega arith

-- what a look-up of a whole spot finds is how much of the list is at that spot
pub weight_counts : (dims : ℕ) (slots : List Slot) (homes : List Walk) (h : List Weighted) → IsShaped dims slots homes h → (q : SpotPath) → 0 < dims → length q.paths ≡ dims → weight_at slots q ≡ amount_under h (whole q) q.bin
weight_counts dims slots homes h S q some P = go (walk_end slots 0 (whole q)) refl
  where
    go : (o : Option ℕ) → walk_end slots 0 (whole q) ≡ o → count_reached slots o q.bin ≡ amount_under h (whole q) q.bin
    go None e = sym (amount-none h (whole q) q.bin (λ w. let r = walk_reaches dims slots homes h S (whole q) w in let x = r.1 in absurd cc))
    go (Some j) e =
        let l = walk-lt slots homes S.has_homes (whole q) j e in
        let d : dimension (home_of homes j) ≡ dims = sym (dimension-finer (walk_coarser slots homes S.has_homes (whole q) j e)) ∙ dimension-whole dims q some P in
        walk_counts dims slots homes h S (whole q) j q.bin l e ((S.has_tables.tables j l).1 d)

pub tells_walks : TellsWalks
tells_walks = is_walked

pub tells_weights : TellsWeights
tells_weights = weight_counts
