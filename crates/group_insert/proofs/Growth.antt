-- The arena grows while a group is inserted.
use Rattle.std.proofs.Common.{◌≡◌, ℕ, ◌<◌, ◌⊎◌, inl, inr, List, ◌∷◌, ◌++◌, Some, Contains, length, refl, sym, ap, ◌∙◌, subst}
use Rattle.std.proofs.lemmas.List.Elements.{Contains-append_left}
use Rattle.std.proofs.lemmas.List.{map-append}
use Rattle.cube_view.specs.Walks.{Step, Walk, SpotPath, Under, HasSpot}
use Rattle.cube_view.proofs.FinerWalks.{under_before}
use Rattle.node_arena.specs.Amounts.{Weighted, spots_in}
use Rattle.node_arena.specs.Calls.{copied}
use Rattle.node_arena.specs.Shape.{home_of, HasHomes}
use Rattle.node_arena.specs.Slots.{proper, target, Slot, link_of, slot_of}
use Rattle.node_arena.specs.declared.link.Link.{Link}
use Rattle.node_arena.proofs.Walks.{target-lt}
use Rattle.proper_path.specs.Changes.{IsGrown, Came, of_new, of_set, of_old, of_none}
use Rattle.proper_path.specs.Making.{State, home, AddsSlot, Makes, has, copies, adds}
use Rattle.proper_path.proofs.Between.{tables_grown, counts_grown}
use Rattle.proper_path.proofs.Grow.{holds_grown}
use Rattle.proper_path.proofs.Homes.{IsFree, homes_grown, grown_homes, grown_home, KeepsHomes, keeps_homes, cases_grown}
use Rattle.group_insert.specs.Halfway.{LeadsRight, IsVisitedBy, IsHalfway, IsHalfwayBefore}
use Rattle.group_insert.specs.Later.{PutOff, IsPut}
use Rattle.group_insert.specs.Turns.{EndedBefore, IsOpenAbove}
use Rattle.group_insert.proofs.LinksPutOff.{puts_grown}
use Rattle.group_insert.proofs.SharedContent.{IsTurnOf, IsFresh, turn_before, fresh_before, shares_grown_by}
use Rattle.group_insert.proofs.NewSlots.{StandsIn, shared_free, copy_stands_in, empty_stands_in}

-- a spot of the group is one of all
pub spot_of_group : (g h : List Weighted) (a : Walk) → HasSpot (spots_in g) a → HasSpot (spots_in (g ++ h)) a
spot_of_group g h a w = record { spot = w.spot; is_in = subst (λ z. Contains z w.spot) (sym (map-append (λ (x : Weighted). x.spot) g h)) (Contains-append_left (spots_in g) (spots_in h) w.spot w.is_in); lies = w.lies }

visited_grown_by : (old new : List Slot) (homes : List Walk) (g : List Weighted) (done : Walk → Type 0) (put : List PutOff) (i : ℕ) (e : Step) → (s : Slot) → IsGrown old new i e s → HasHomes old homes → (done (home_of homes i) → ⊥) → (done (e ∷ home_of homes i) → ⊥) → IsVisitedBy old homes g done put → IsVisitedBy new (grown_homes homes i e) g done put
visited_grown_by old new homes g done put i e s G H here fresh V = record {
  holds = V.holds;
  links = λ j f l d q c u. links j f d q c u (cases_grown (length old) j (length new) G.size l);
}
  where
    K : KeepsHomes old homes i e
    K = keeps_homes old homes i e H

    links : (j : ℕ) (f : Step) → done (grown_home homes i e j) → (q : SpotPath) → Contains (spots_in g) q → Under q (f ∷ grown_home homes i e j) → (j < length old) ⊎ (j ≡ length old) → LeadsRight new (grown_homes homes i e) j f q ⊎ IsPut put j f
    links j f d q c u (inl l) = pick (V.links j f l d' q c (subst (λ z. Under q (f ∷ z)) (K.was j l) u))
      where
        d' : done (home_of homes j)
        d' = subst done (K.was j l) d

        pick : LeadsRight old homes j f q ⊎ IsPut put j f → LeadsRight new (grown_homes homes i e) j f q ⊎ IsPut put j f
        pick (inl r) = inl (record {
          link = r.link;
          is = G.old_link j f l (λ x y. here (subst (λ z. done (home_of homes z)) x d')) ∙ r.is;
          lies = subst (Under q) (sym (K.was (target r.link) (target-lt old homes H j f r.link r.is))) r.lies;
        })
        pick (inr x) = inr x
    links j f d q c u (inr x) = absurd (fresh (subst done (ap (grown_home homes i e) x ∙ K.is_new) d))

-- a slot that stands well is added at a link of an open node
pub halfway_grown : (dims : ℕ) (old new : List Slot) (homes : List Walk) (h g : List Weighted) (done open' : Walk → Type 0) (put : List PutOff) (i : ℕ) (e : Step) (s : Slot) → IsGrown old new i e s → IsHalfway dims old homes h g done open' put → IsFree old i e → HasSpot (spots_in g) (e ∷ home_of homes i) → IsTurnOf g done open' (home_of homes i) → IsFresh done open' (e ∷ home_of homes i) → StandsIn dims old homes i e s h g → IsHalfway dims new (grown_homes homes i e) h g done open' put
halfway_grown dims old new homes h g done open' put i e s G M free w T F st = record {
  has_homes = homes_grown old new homes i e s G M.has_homes free st.fits;
  has_tables = tables_grown dims old new homes i e s G M.has_homes M.has_tables st.counted.kind;
  holds = holds_grown old new homes i e s (spots_in h) (spots_in (g ++ h)) G M.has_homes M.holds st.holds (spot_of_group g h (e ∷ home_of homes i) w);
  untouched = λ j f l d o is. untouched j f l d o is (G.came j f);
  visited = visited_grown_by old new homes g done put i e s G M.has_homes T.not_done fresh M.visited;
  counted = counts_grown dims old new homes i e s h (g ++ h) done G M.has_homes M.counted st.counted fresh;
  shares = shares_grown_by old new homes g done open' put i e s G M.has_homes T F st.shares M.shares;
  later = puts_grown old new homes h g done put i e s G M.has_homes fresh M.later;
}
  where
    K : KeepsHomes old homes i e
    K = keeps_homes old homes i e M.has_homes

    fresh : done (e ∷ home_of homes i) → ⊥
    fresh d = F.not_done (e ∷ home_of homes i) (inl refl) d

    untouched : (j : ℕ) (f : Step) (l : Link) → (done (grown_home homes i e j) → ⊥) → (open' (grown_home homes i e j) → ⊥) → link_of new j f ≡ Some l → Came old i e s (Some (proper (length old))) j f (link_of new j f) → HasSpot (spots_in h) (f ∷ grown_home homes i e j)
    untouched j f l d o is (of_new en el) = subst (λ z. HasSpot (spots_in h) (f ∷ z)) (sym K.is_new ∙ ap (grown_home homes i e) (sym en)) (st.wanted f l (sym el ∙ is))
    untouched j f l d o is (of_set ei ee el) = absurd (o (subst open' (sym (K.was j (subst (λ z. z < length old) (sym ei) G.place) ∙ ap (home_of homes) ei)) T.is_open))
    untouched j f l d o is (of_old lt ne el) = subst (λ z. HasSpot (spots_in h) (f ∷ z)) (sym (K.was j lt)) (M.untouched j f l (λ x. d (subst done (sym (K.was j lt)) x)) (λ x. o (subst open' (sym (K.was j lt)) x)) (sym el ∙ is))
    untouched j f l d o is (of_none el) = absurd cc

added_by : (dims : ℕ) (h g : List Weighted) (done open' : Walk → Type 0) (put : List PutOff) (a b : State) (i j : ℕ) (e : Step) (s : Slot) → IsHalfway dims a.slots a.homes h g done open' put → IsFree a.slots i e → HasSpot (spots_in g) (e ∷ home a i) → IsTurnOf g done open' (home a i) → IsFresh done open' (e ∷ home a i) → StandsIn dims a.slots a.homes i e s h g → AddsSlot a i e s j b → IsHalfway dims b.slots b.homes h g done open' put
added_by dims h g done open' put a b i j e s M free w T F st D =
    subst (λ x. IsHalfway dims b.slots x h g done open' put) (sym D.homes) (halfway_grown dims a.slots b.slots a.homes h g done open' put i e s D.grown M free w T F st)

-- the link of the step at hand is made proper
pub halfway_made : (dims : ℕ) (h g : List Weighted) (put : List PutOff) (a b : State) (i j : ℕ) (e : Step) → IsHalfwayBefore dims a.slots a.homes h g put (e ∷ home a i) → i < length a.slots → HasSpot (spots_in g) (e ∷ home a i) → Makes dims a i e j b → IsHalfwayBefore dims b.slots b.homes h g put (e ∷ home a i)
halfway_made dims h g put a b i j e M lt w (has is same) = subst (λ (z : State). IsHalfwayBefore dims z.slots z.homes h g put (e ∷ home a i)) (sym same) M
halfway_made dims h g put a b i j e M lt w (copies t is n D) =
    added_by dims h g (EndedBefore g (e ∷ home a i)) (IsOpenAbove (e ∷ home a i)) put a b i j e (copied (slot_of a.slots t)) M (shared_free a.slots i t e is) w
    (turn_before g e (home a i) (record { spot = w.spot; is_in = w.is_in; lies = under_before w.spot e (home a i) w.lies }))
    (fresh_before g (e ∷ home a i))
    (copy_stands_in dims a.slots a.homes h g (EndedBefore g (e ∷ home a i)) (IsOpenAbove (e ∷ home a i)) put i t e M (fresh_before g (e ∷ home a i)) lt is) D
halfway_made dims h g put a b i j e M lt w (adds s is nl nc kind D) =
    added_by dims h g (EndedBefore g (e ∷ home a i)) (IsOpenAbove (e ∷ home a i)) put a b i j e s M (λ k x. absurd cc) w
    (turn_before g e (home a i) (record { spot = w.spot; is_in = w.is_in; lies = under_before w.spot e (home a i) w.lies }))
    (fresh_before g (e ∷ home a i))
    (empty_stands_in dims a.slots a.homes h g (EndedBefore g (e ∷ home a i)) (IsOpenAbove (e ∷ home a i)) put i e s M lt is (record { no_link = nl; no_count = nc }) kind) D
