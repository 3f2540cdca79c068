-- The arena grows in the middle of an insertion.
use Rattle.std.proofs.Common.{◌≡◌, ℕ, ◌<◌, true, ◌⊎◌, inl, inr, ◌↔◌, List, ◌∷◌, Some, None, Contains, length, sym, ap, ◌∙◌, subst, arith, subst₂}
use Rattle.cube_view.specs.Walks.{Step, Walk, Under, IsCoarser, dimension, HasSpot}
use Rattle.node_arena.specs.declared.link.Link.{Link}
use Rattle.node_arena.specs.Slots.{shared, target, Slot, link_of, slot_of, count, is_table}
use Rattle.node_arena.specs.Calls.{copied}
use Rattle.node_arena.specs.Shape.{home_of, HasHomes, HasTables}
use Rattle.proper_path.specs.Midway.{IsContentHome, IsVisited, CountsBetween, HasUpdated, IsGrowing, IsMidway}
use Rattle.proper_path.specs.Changes.{IsGrown}
use Rattle.cube_view.proofs.FinerWalks.{dimension-finer, coarser_under, Contains-head}
use Rattle.node_arena.proofs.AddressAmounts.{amount-none, amount_along}
use Rattle.proper_path.proofs.Links.{count-copied, is_table-copied}
use Rattle.proper_path.proofs.Homes.{grown_homes, grown_home, KeepsHomes, keeps_homes, cases_grown, FitsUnder, IsFree, homes_grown}
use Rattle.proper_path.proofs.Grow.{HoldsAt, holds_grown, IsAlike, alike, copy_holds, copy_fits, IsEmpty, empty_holds, empty_fits}
use Rattle.node_arena.proofs.Walks.{target-lt}
use Rattle.node_arena.specs.Amounts.{Weighted, spots_in, amount_under}

-- what the added slot has to be besides: of its dimension's kind, with the old count
pub record CountsAt (dims : ℕ) (a : Walk) (s : Slot) (h : List Weighted) : Type 0 where
  pub kind : (is_table s ≡ true) ↔ (dimension a ≡ dims)
  pub counts : (bin : ℕ) → is_table s ≡ true → count s bin ≡ amount_under h a bin

pub tables_grown : (dims : ℕ) (old new : List Slot) (homes : List Walk) (i : ℕ) (e : Step) (s : Slot) → IsGrown old new i e s → HasHomes old homes → HasTables dims old homes → (is_table s ≡ true) ↔ (dimension (e ∷ home_of homes i) ≡ dims) → HasTables dims new (grown_homes homes i e)
tables_grown dims old new homes i e s G H T kind = record { tables = λ j l. tables j (cases_grown (length old) j (length new) G.size l) }
  where
    K : KeepsHomes old homes i e
    K = keeps_homes old homes i e H

    tables : (j : ℕ) → (j < length old) ⊎ (j ≡ length old) → (is_table (slot_of new j) ≡ true) ↔ (dimension (grown_home homes i e j) ≡ dims)
    tables j (inl l) = subst₂ (λ x y. (x ≡ true) ↔ (dimension y ≡ dims)) (sym (G.old_kind j l)) (sym (K.was j l)) (T.tables j l)
    tables j (inr x) = subst₂ (λ x y. (x ≡ true) ↔ (dimension y ≡ dims)) (sym G.new_kind ∙ ap (λ z. is_table (slot_of new z)) (sym x)) (sym K.is_new ∙ ap (grown_home homes i e) (sym x)) kind

pub counts_grown : (dims : ℕ) (old new : List Slot) (homes : List Walk) (i : ℕ) (e : Step) (s : Slot) (h all : List Weighted) (done : Walk → Type 0) → IsGrown old new i e s → HasHomes old homes → CountsBetween old homes h all done → CountsAt dims (e ∷ home_of homes i) s h → (done (e ∷ home_of homes i) → ⊥) → CountsBetween new (grown_homes homes i e) h all done
counts_grown dims old new homes i e s h all done G H C at fresh = record {
  still = λ j bin l t d. still j bin t d (cases_grown (length old) j (length new) G.size l);
  now = λ j bin l t d. now j bin t d (cases_grown (length old) j (length new) G.size l);
}
  where
    K : KeepsHomes old homes i e
    K = keeps_homes old homes i e H

    still : (j bin : ℕ) → is_table (slot_of new j) ≡ true → (done (grown_home homes i e j) → ⊥) → (j < length old) ⊎ (j ≡ length old) → count (slot_of new j) bin ≡ amount_under h (grown_home homes i e j) bin
    still j bin t d (inl l) = G.old_count j bin l ∙ (C.still j bin l (sym (G.old_kind j l) ∙ t) (λ w. d (subst done (sym (K.was j l)) w)) ∙ ap (λ z. amount_under h z bin) (sym (K.was j l)))
    still j bin t d (inr x) =
        ap (λ z. count (slot_of new z) bin) x ∙ (G.new_count bin ∙ (at.counts bin (sym G.new_kind ∙ (ap (λ z. is_table (slot_of new z)) (sym x) ∙ t)) ∙ ap (λ z. amount_under h z bin) (sym K.is_new ∙ ap (grown_home homes i e) (sym x))))

    now : (j bin : ℕ) → is_table (slot_of new j) ≡ true → done (grown_home homes i e j) → (j < length old) ⊎ (j ≡ length old) → count (slot_of new j) bin ≡ amount_under all (grown_home homes i e j) bin
    now j bin t d (inl l) = G.old_count j bin l ∙ (C.now j bin l (sym (G.old_kind j l) ∙ t) (subst done (K.was j l) d) ∙ ap (λ z. amount_under all z bin) (sym (K.was j l)))
    now j bin t d (inr x) = absurd (fresh (subst done (ap (grown_home homes i e) x ∙ K.is_new) d))

pub visited_grown : (old new : List Slot) (homes : List Walk) (i : ℕ) (e : Step) (s : Slot) (p : Weighted) (done : Walk → Type 0) → IsGrown old new i e s → HasHomes old homes → IsVisited old homes p done → (done (home_of homes i) → ⊥) → (done (e ∷ home_of homes i) → ⊥) → IsVisited new (grown_homes homes i e) p done
visited_grown old new homes i e s p done G H V here fresh = record {
  holds = V.holds;
  links = λ j f l d u. links j f d u (cases_grown (length old) j (length new) G.size l);
}
  where
    K : KeepsHomes old homes i e
    K = keeps_homes old homes i e H

    links : (j : ℕ) (f : Step) → done (grown_home homes i e j) → Under p.spot (f ∷ grown_home homes i e j) → (j < length old) ⊎ (j ≡ length old) → (l : Link) × (link_of new j f ≡ Some l) × Under p.spot (grown_home homes i e (target l))
    links j f d u (inl l) =
        let d' : done (home_of homes j) = subst done (K.was j l) d in
        let r = V.links j f l d' (subst (λ z. Under p.spot (f ∷ z)) (K.was j l) u) in
        (r.0, G.old_link j f l (λ x y. here (subst (λ z. done (home_of homes z)) x d')) ∙ r.1, subst (Under p.spot) (sym (K.was (target r.0) (target-lt old homes H j f r.0 r.1))) r.2)
    links j f d u (inr x) = absurd (fresh (subst done (ap (grown_home homes i e) x ∙ K.is_new) d))

pub updates_grown : (old new : List Slot) (homes : List Walk) (i : ℕ) (e : Step) (s : Slot) (done : Walk → Type 0) (updated : List ℕ) → IsGrown old new i e s → HasHomes old homes → HasUpdated old homes done updated → (done (e ∷ home_of homes i) → ⊥) → HasUpdated new (grown_homes homes i e) done updated
updates_grown old new homes i e s done updated G H U fresh = record {
  listed = λ j c. let r = U.listed j c in (omega (arith, G.size), subst done (sym (K.was j r.0)) r.1, subst IsContentHome (sym (K.was j r.0)) r.2);
  lists = λ j l d k. lists j d k (cases_grown (length old) j (length new) G.size l);
}
  where
    K : KeepsHomes old homes i e
    K = keeps_homes old homes i e H

    lists : (j : ℕ) → done (grown_home homes i e j) → IsContentHome (grown_home homes i e j) → (j < length old) ⊎ (j ≡ length old) → Contains updated j
    lists j d k (inl l) = U.lists j l (subst done (K.was j l) d) (subst IsContentHome (K.was j l) k)
    lists j d k (inr x) = absurd (fresh (subst done (ap (grown_home homes i e) x ∙ K.is_new) d))

-- the invariant is kept where a slot that stands well at its address is added
pub record StandsAt (dims : ℕ) (slots : List Slot) (homes : List Walk) (a : Walk) (s : Slot) (h : List Weighted) (p : Weighted) : Type 0 where
  pub fits : FitsUnder slots homes a s
  pub holds : HoldsAt homes a s (spots_in h) (spots_in (p ∷ h))
  pub counted : CountsAt dims a s h

pub record MayGrow (slots : List Slot) (homes : List Walk) (i : ℕ) (e : Step) (p : Weighted) (done : Walk → Type 0) : Type 0 where
  pub free : IsFree slots i e
  pub lies : Under p.spot (e ∷ home_of homes i)
  pub open_node : done (home_of homes i) → ⊥
  pub open_link : done (e ∷ home_of homes i) → ⊥

pub growing_grown : (dims : ℕ) (old new : List Slot) (homes : List Walk) (i : ℕ) (e : Step) (s : Slot) (h : List Weighted) (p : Weighted) (done : Walk → Type 0) → IsGrown old new i e s → IsGrowing dims old homes h p done → MayGrow old homes i e p done → StandsAt dims old homes (e ∷ home_of homes i) s h p → IsGrowing dims new (grown_homes homes i e) h p done
growing_grown dims old new homes i e s h p done G M may st = record {
  has_homes = homes_grown old new homes i e s G M.has_homes may.free st.fits;
  has_tables = tables_grown dims old new homes i e s G M.has_homes M.has_tables st.counted.kind;
  holds = holds_grown old new homes i e s (spots_in h) (spots_in (p ∷ h)) G M.has_homes M.holds st.holds (record { spot = p.spot; is_in = Contains-head (spots_in h) p.spot; lies = may.lies });
  visited = visited_grown old new homes i e s p done G M.has_homes M.visited may.open_node may.open_link;
  counted = counts_grown dims old new homes i e s h (p ∷ h) done G M.has_homes M.counted st.counted may.open_link;
}

pub midway_grown : (dims : ℕ) (old new : List Slot) (homes : List Walk) (i : ℕ) (e : Step) (s : Slot) (h : List Weighted) (p : Weighted) (done : Walk → Type 0) (updated : List ℕ) → IsGrown old new i e s → IsMidway dims old homes h p done updated → MayGrow old homes i e p done → StandsAt dims old homes (e ∷ home_of homes i) s h p → IsMidway dims new (grown_homes homes i e) h p done updated
midway_grown dims old new homes i e s h p done updated G M may st = record {
  growing = growing_grown dims old new homes i e s h p done G M.growing may st;
  updates = updates_grown old new homes i e s done updated G M.has_homes M.updates may.open_link;
}

-- a shallow copy is of the kind of its original
pub copy_kind : (dims : ℕ) (slots : List Slot) (homes : List Walk) → HasTables dims slots homes → (a : Walk) (t : ℕ) → t < length slots → IsCoarser a (home_of homes t) → (is_table (copied (slot_of slots t)) ≡ true) ↔ (dimension a ≡ dims)
copy_kind dims slots homes T a t lt co = subst₂ (λ x y. (x ≡ true) ↔ (y ≡ dims)) (sym (is_table-copied (slot_of slots t))) (sym (dimension-finer co)) (T.tables t lt)

-- .. and has its count, where a table has not been visited
pub copy_counts : (dims : ℕ) (slots : List Slot) (homes : List Walk) (h all : List Weighted) (done : Walk → Type 0) → HasTables dims slots homes → CountsBetween slots homes h all done → (a : Walk) (t : ℕ) → t < length slots → IsAlike homes a t (spots_in h) → (is_table (slot_of slots t) ≡ true → done (home_of homes t) → ⊥) → CountsAt dims a (copied (slot_of slots t)) h
copy_counts dims slots homes h all done T C a t lt A old = record {
  kind = copy_kind dims slots homes T a t lt A.coarser;
  counts = λ bin k.
      let k' : is_table (slot_of slots t) ≡ true = sym (is_table-copied (slot_of slots t)) ∙ k in
      count-copied (slot_of slots t) bin ∙ (C.still t bin lt k' (old k')
      ∙ sym (amount_along h a (home_of homes t) A.agrees (λ q c u. coarser_under A.coarser q u) bin));
}

-- the shallow copy of a shared link's target stands well; a table must not have been visited
pub copy_stands : (dims : ℕ) (slots : List Slot) (homes : List Walk) (h : List Weighted) (p : Weighted) (done : Walk → Type 0) → IsGrowing dims slots homes h p done → (i t : ℕ) (e : Step) → link_of slots i e ≡ Some (shared t) → (is_table (slot_of slots t) ≡ true → done (home_of homes t) → ⊥) → StandsAt dims slots homes (e ∷ home_of homes i) (copied (slot_of slots t)) h p
copy_stands dims slots homes h p done M i t e is old = record {
  fits = copy_fits slots homes M.has_homes (e ∷ home_of homes i) t A.coarser;
  holds = copy_holds slots homes (spots_in h) (spots_in (p ∷ h)) M.has_homes M.holds (e ∷ home_of homes i) t lt A;
  counted = copy_counts dims slots homes h (p ∷ h) done M.has_tables M.counted (e ∷ home_of homes i) t lt A old;
}
  where
    A : IsAlike homes (e ∷ home_of homes i) t (spots_in h)
    A = alike slots homes (spots_in h) (spots_in (p ∷ h)) M.has_homes M.holds i t e is

    lt : t < length slots
    lt = (M.has_homes.finer i t e is).0

-- an empty slot stands well where no link is
pub empty_stands : (dims : ℕ) (slots : List Slot) (homes : List Walk) (h : List Weighted) (p : Weighted) (done : Walk → Type 0) → IsGrowing dims slots homes h p done → (i : ℕ) (e : Step) (s : Slot) → i < length slots → link_of slots i e ≡ None → IsEmpty s → (is_table s ≡ true) ↔ (dimension (e ∷ home_of homes i) ≡ dims) → StandsAt dims slots homes (e ∷ home_of homes i) s h p
empty_stands dims slots homes h p done M i e s lt is E kind = record {
  fits = empty_fits slots homes (e ∷ home_of homes i) s E;
  holds = empty_holds homes (e ∷ home_of homes i) s (spots_in h) (spots_in (p ∷ h)) E none;
  counted = record { kind = kind; counts = λ bin k. E.no_count bin ∙ sym (amount-none h (e ∷ home_of homes i) bin none) };
}
  where
    none : HasSpot (spots_in h) (e ∷ home_of homes i) → ⊥
    none w = let r = M.holds.needed i e lt w in let k = r.is in absurd cc
