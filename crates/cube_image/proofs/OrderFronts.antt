-- The order of an image has no slot twice.
use Rattle.std.proofs.Common.{◌≡◌, ℕ, zero, suc, ◌<◌, ◌≤◌, Bool, cond, eqb, ne_eqb, ◌⊎◌, inl, inr, List, [], ◌∷◌, length, get_or, take, Some, sym, ap, ◌∙◌, subst, arith}
use Rattle.std.specs.Coded.{le_prop}
use Rattle.std.proofs.Math.Logic.{∥∥₁_elim}
use Rattle.std.proofs.lemmas.Bool.{cases_eq, cases_lt}
use Rattle.std.proofs.Math.Seq.{take-length}
use Rattle.std.proofs.lemmas.List.{get_or_past}
use Rattle.std.specs.List.{flat_map}
use Rattle.cube_view.specs.Walks.{Step, Walk}
use Rattle.node_arena.specs.Shape.{home_of, HasHomes}
use Rattle.node_arena.specs.Slots.{proper, Slot, empty_node, IsRising, children_of, slot_of, link_of}
use Rattle.node_arena.specs.Stats.{AllRising}
use Rattle.node_arena.proofs.Links.{linked-lt}
use Rattle.cube_image.specs.Conditions.{HasSomeHomes}
use Rattle.cube_image.specs.Order.{owned_by, IsOrder}
use Rattle.cube_image.proofs.OwnedHits.{hits, hits-take, hits-at, hits-flat_map-none, hits-flat_map-one, slot_hits, StandOnce, few_once}

-- the slots that a slot owns, by its place
abbrev pub owned_at : List Slot → ℕ → List ℕ
owned_at slots i = owned_by (slot_of slots i)

-- the root, and the slots that the first n of the places own
pub record IsFront (slots : List Slot) (places : List ℕ) (n : ℕ) : Type 0 where
  pub within : n ≤ length places
  pub is : places ≡ 0 ∷ flat_map (λ i. owned_by (slot_of slots i)) (take n places)

module _ (slots : List Slot) (homes : List Walk) (H : HasHomes slots homes) (R : AllRising slots) where
  rising_at : (i : ℕ) → IsRising (children_of (slot_of slots i))
  rising_at i = go (cases_lt i (length slots))
    where
      go : (i < length slots) ⊎ (length slots ≤ i) → IsRising (children_of (slot_of slots i))
      go (inl lt) = R i empty_node lt
      go (inr le) = subst (λ (s : Slot). IsRising (children_of s)) (sym (get_or_past slots i empty_node le)) (λ a b d u v. absurd (omega arith))

  one_step : (i j : ℕ) (e f : Step) → link_of slots i e ≡ Some (proper j) → link_of slots i f ≡ Some (proper j) → e ≡ f
  one_step i j e f a b =
      let s : e ∷ home_of homes i ≡ f ∷ home_of homes i = sym (H.at_home i j e a).1 ∙ (H.at_home i j f b).1 in
      cc

  one_owner : (i k j : ℕ) (e f : Step) → link_of slots i e ≡ Some (proper j) → link_of slots k f ≡ Some (proper j) → i ≡ k
  one_owner i k j e f a b =
      let s : e ∷ home_of homes i ≡ f ∷ home_of homes k = sym (H.at_home i j e a).1 ∙ (H.at_home k j f b).1 in
      let h : home_of homes i ≡ home_of homes k = cc in
      H.distinct i k (linked-lt slots i e (proper j) a) (linked-lt slots k f (proper j) b) h

  pub owned : (i j : ℕ) → (hits j (owned_at slots i) ≡ 0) ⊎ ((hits j (owned_at slots i) ≡ 1) × ((e : Step) × (link_of slots i e ≡ Some (proper j))))
  owned i j = slot_hits j (slot_of slots i) (rising_at i) (one_step i j)

  -- no slot owns the number where no proper link leads to it
  unowned : (i j : ℕ) → ((e : Step) → link_of slots i e ≡ Some (proper j) → ⊥) → hits j (owned_at slots i) ≡ 0
  unowned i j none = go (owned i j)
    where
      go : (hits j (owned_at slots i) ≡ 0) ⊎ ((hits j (owned_at slots i) ≡ 1) × ((e : Step) × (link_of slots i e ≡ Some (proper j)))) → hits j (owned_at slots i) ≡ 0
      go (inl a) = a
      go (inr a) = absurd (none a.1.0 a.1.1)

  owned_once : (i j : ℕ) → hits j (owned_at slots i) ≤ 1
  owned_once i j = go (owned i j)
    where
      go : (hits j (owned_at slots i) ≡ 0) ⊎ ((hits j (owned_at slots i) ≡ 1) × ((e : Step) × (link_of slots i e ≡ Some (proper j)))) → hits j (owned_at slots i) ≤ 1
      go (inl a) = omega arith
      go (inr a) = let b = a.0 in omega arith

  -- no slot owns the root, nor a number that no slot has
  root_unowned : (i : ℕ) → hits 0 (owned_at slots i) ≡ 0
  root_unowned i = unowned i 0 (λ e h. let z : [] ≡ e ∷ home_of homes i = sym H.root ∙ (H.at_home i 0 e h).1 in cc)

  past_unowned : (i j : ℕ) → length slots ≤ j → hits j (owned_at slots i) ≡ 0
  past_unowned i j le = unowned i j (λ e h. let lt = (H.at_home i j e h).0 in omega arith)

  module _ (places : List ℕ) (n : ℕ) (F : IsFront slots places n) where
    parts : (j : ℕ) → hits j places ≡ hits j (0 ∷ flat_map (owned_at slots) (take n places))
    parts j = ap (hits j) F.is

    -- by the length of the home
    at_most : (m j : ℕ) → length (home_of homes j) < m → hits j places ≤ 1
    at_most zero j lt = absurd (omega arith)
    at_most (suc m) j lt = go (cases_eq j 0) (cases_lt j (length slots)) (λ b l. at_most m b l)
      where
        go : (j ≡ 0) ⊎ (j ≡ 0 → ⊥) → (j < length slots) ⊎ (length slots ≤ j) → ((b : ℕ) → length (home_of homes b) < m → hits b places ≤ 1) → hits j places ≤ 1
        go (inl e) c shorter_ones =
            let r = hits-flat_map-none (owned_at slots) 0 (take n places) root_unowned in
            let p = parts 0 in
            let s : hits j places ≡ hits 0 places = ap (λ (z : ℕ). hits z places) e in
            omega arith
        go (inr ne) (inr past) shorter_ones =
            let r = hits-flat_map-none (owned_at slots) j (take n places) (λ i. past_unowned i j past) in
            let p = parts j in
            let s : 0 ≡ j → ⊥ = λ e. ne (sym e) in
            let h : cond {A = ℕ} (eqb 0 j) 1 0 ≡ 0 = ap (λ (b : Bool). cond {A = ℕ} b 1 0) (ne_eqb 0 j s) in
            omega arith
        go (inr ne) (inl within) shorter_ones =
            let o = H.owner j (omega arith) within in
            let home = (H.at_home o.by j o.step o.owns).1 in
            let shorter : suc (length (home_of homes o.by)) ≡ length (home_of homes j) = ap length (sym home) in
            let rest = shorter_ones o.by (omega arith) in
            let front = hits-take o.by n places in
            let r = hits-flat_map-one (owned_at slots) j o.by (take n places) (λ i other. unowned i j (λ e h. other (one_owner i o.by j e o.step h o.owns))) (owned_once o.by j) in
            let p = parts j in
            let s : 0 ≡ j → ⊥ = λ e. ne (sym e) in
            let h : cond {A = ℕ} (eqb 0 j) 1 0 ≡ 0 = ap (λ (b : Bool). cond {A = ℕ} b 1 0) (ne_eqb 0 j s) in
            omega arith

    -- the places are numbers of slots, each once
    pub stand_once : StandOnce (length slots) places
    stand_once = record {
      once = λ j. at_most (suc (length (home_of homes j))) j (omega arith);
      below = λ j some. low j some (cases_lt j (length slots));
    }
      where
        low : (j : ℕ) → 0 < hits j places → (j < length slots) ⊎ (length slots ≤ j) → j < length slots
        low j some (inl lt) = lt
        low j some (inr le) =
            let r = hits-flat_map-none (owned_at slots) j (take n places) (λ i. past_unowned i j le) in
            let p = parts j in
            let k = H.some in
            let h : cond {A = ℕ} (eqb 0 j) 1 0 ≡ 0 = ap (λ (b : Bool). cond {A = ℕ} b 1 0) (ne_eqb 0 j (λ e. omega arith)) in
            absurd (omega arith)

-- a front has at most as many places as there are slots
pub front-few : (slots : List Slot) (places : List ℕ) (n : ℕ) → ∥ HasSomeHomes slots ∥₁ → AllRising slots → IsFront slots places n → length places ≤ length slots
front-few slots places n some R F = ∥∥₁_elim some le_prop (λ h. few_once places (length slots) (stand_once slots h.homes h.has_homes R places n F))

-- and each is a slot's
pub front-below : (slots : List Slot) (places : List ℕ) (n k d : ℕ) → ∥ HasSomeHomes slots ∥₁ → AllRising slots → IsFront slots places n → k < length places → get_or places k d < length slots
front-below slots places n k d some R F lt = ∥∥₁_elim some le_prop (λ h. let s = stand_once slots h.homes h.has_homes R places n F in s.below (get_or places k d) (hits-at places k d lt))

-- a front that is all of the places is the order
pub front-all : (slots : List Slot) (places : List ℕ) (n : ℕ) → IsFront slots places n → length places ≤ n → IsOrder slots places
front-all slots places n F le =
    let low = F.within in
    let e : n ≡ length places = omega arith in
    F.is ∙ ap (λ (ps : List ℕ). 0 ∷ flat_map (owned_at slots) ps) (ap (λ (k : ℕ). take k places) e ∙ take-length places)
