-- Slots whose homes are kept as steps.
use Rattle.std.proofs.Common.{◌≡◌, ◌↔◌, ◌⊎◌, inl, inr, ℕ, zero, suc, ◌<◌, ◌≤◌, Bool, true, List, [], ◌∷◌, ◌++◌, length, get_or, Option, Some, None, length-append, refl, sym, ap, ◌∙◌, subst, arith}
use Rattle.std.proofs.lemmas.Bool.{cases_lt}
use Rattle.std.proofs.lemmas.List.{get_or_append_left, get_or_push}
use Rattle.std.proofs.lemmas.Option.{MatchOption-at_some}
use Rattle.cube_view.specs.Walks.{down, Walk}
use Rattle.cube_view.specs.declared.schema.Schema.{Schema}
use Rattle.node_arena.specs.Shape.{home_of, HasProperLinks, SharesContent}
use Rattle.node_arena.specs.Slots.{Slot, slot_of}
use Rattle.shape_test.specs.Sharing.{SharesAt}
use Rattle.shape_test.proofs.OnlyChild.{table_link}
use Rattle.shape_test.specs.Homes.{step_of, walk_of, walks_of}
use Rattle.shape_test.specs.Links.{LinksFit}
use Rattle.shape_test.specs.Owners.{Owners, owner_at, HasOwners}
use Rattle.shape_test.specs.Places.{place_at, next_place, then_place, IsSchemaPlace, AreFirstPlaces, ArePlaces}
use Rattle.shape_test.specs.Standing.{SuitsPlace, SlotStands}
use Rattle.shape_test.specs.declared.home.Move.{Move}
use Rattle.shape_test.specs.declared.owner.Owner.{Owner}
use Rattle.shape_test.specs.declared.place.Place.{Place}
use Rattle.shape_test.proofs.AddressPlaces.{place_told}

-- the home of a slot, read from the list
pub kept_home : (homes : List (List Move)) (i : ℕ) (h : List Move) → i < length homes → h ≡ get_or homes i h → walk_of h ≡ home_of (walks_of homes) i
kept_home [] i h l e = absurd (omega (arith, l))
kept_home (m ∷ homes) zero h l e = ap walk_of e
kept_home (m ∷ homes) (suc i) h l e = kept_home homes i h (omega (arith, l)) e

module _ (schema : Schema) (slots : List Slot) (homes : List Walk) (i : ℕ) where
  -- what stands at a place stands well if its links fit
  pub stands_by_links : (p : Place) (r : Bool) → Some p ≡ place_at schema (home_of homes i) → SuitsPlace schema slots i p → (r ≡ true) ↔ LinksFit slots homes i → (r ≡ true) ↔ SlotStands schema slots homes i
  stands_by_links p r at S L = (λ y. record { place = p; at = sym at; suits = S; links = L.0 y }, λ s. L.1 s.links)

  -- and shares an only child's content
  pub stands_shares : SlotStands schema slots homes i → SharesAt slots i
  stands_shares s label c H = go s.suits
    where
      go : SuitsPlace schema slots i s.place → SharesContent slots i c
      go (inl t) = let z : None ≡ Some c = sym (table_link (slot_of slots i) (down label) t.table) ∙ H.is in absurd cc
      go (inr n) = n.shares label c H

-- a place read from those of homes
pub kept_place : (schema : Schema) (homes : List Walk) (places : List Place) (i : ℕ) (p : Place) → ArePlaces schema homes places → i < length homes → p ≡ get_or places i p → place_at schema (home_of homes i) ≡ Some p
kept_place schema homes places i p P l e = P.each i p (let s = P.size in omega (arith, s, l)) ∙ ap Some (sym e)

-- one place more
pub first_more : (schema : Schema) (homes : List Walk) (places : List Place) (p : Place) → AreFirstPlaces schema homes places → Some p ≡ place_at schema (home_of homes (length places)) → AreFirstPlaces schema homes (places ++ p ∷ [])
first_more schema homes places p F at i d l = go (cases_lt i (length places))
  where
    go : (i < length places) ⊎ (length places ≤ i) → place_at schema (home_of homes i) ≡ Some (get_or (places ++ p ∷ []) i d)
    go (inl x) = F i d x ∙ ap Some (sym (get_or_append_left places (p ∷ []) d i x))
    go (inr x) =
        let n = length-append places (p ∷ []) in
        let e : length places ≡ i = omega (arith, n, l, x) in
        subst (λ (k : ℕ). place_at schema (home_of homes k) ≡ Some (get_or (places ++ p ∷ []) k d)) e (sym at ∙ ap Some (sym (get_or_push places p d (length places) refl)))

module _ (schema : Schema) (slots : List Slot) (owners : Owners) (homes : List Walk) (A : HasOwners slots owners) (H : HasProperLinks slots homes) (places : List Place) (F : AreFirstPlaces schema homes places) where
  -- the place of a slot is a step from that of its owner's
  pub next_owned : (j : ℕ) (o : Owner) (p : Place) → owner_at owners j ≡ Some o → o.by.0 < length places → p ≡ get_or places o.by.0 p → IsSchemaPlace schema p × (next_place schema p (step_of o.step) ≡ place_at schema (home_of homes j))
  next_owned j o p e l g =
      let t = A.told j o e in
      let h = H.at_home o.by.0 j (step_of o.step) t.0 in
      let at : place_at schema (home_of homes o.by.0) ≡ Some p = F o.by.0 p l ∙ ap Some (sym g) in
      let P = MatchOption-at_some _ _ p at (place_told schema (home_of homes o.by.0)) in
      (P.placed, ap (λ (q : Option Place). then_place schema q (step_of o.step)) (sym at) ∙ ap (place_at schema) (sym h.1))
