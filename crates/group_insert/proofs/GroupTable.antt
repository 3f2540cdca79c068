-- A time table takes the amounts of a group that lie under its home.
use Rattle.std.proofs.Common.{◌≡◌, ℕ, ◌<◌, true, ◌⊎◌, inl, inr, ◌↔◌, List, ◌∷◌, ◌++◌, Some, Contains, length, refl, sym, ◌∙◌, subst, arith, get_or}
use Rattle.std.proofs.lemmas.Bool.{cases_eq}
use Rattle.cube_view.specs.Walks.{Step, down, across, Walk, SpotPath, Under, HasSpot, dimension}
use Rattle.node_arena.specs.Amounts.{Weighted, spots_in, amount_under}
use Rattle.node_arena.specs.Shape.{home_of, HasOneChild, SharesContent}
use Rattle.node_arena.specs.Slots.{proper, target, Slot, link_of, slot_of, count, is_table}
use Rattle.node_arena.specs.declared.link.Link.{Link}
use Rattle.node_arena.proofs.Links.{linked-lt}
use Rattle.point_insert.proofs.Visits.{homes_same, holds_same}
use Rattle.proper_path.proofs.Dims.{stops_at_time}
use Rattle.proper_path.proofs.Links.{table_link}
use Rattle.proper_path.specs.Changes.{IsAdded}
use Rattle.group_insert.specs.Halfway.{LeadsRight, WillHaveTwo, IsHalfwayBefore}
use Rattle.group_insert.specs.Later.{PutOff, link_address, IsPutOff, IsPut}
use Rattle.group_insert.specs.LeastSoFar.{BegunAt, BegunAfter}
use Rattle.group_insert.specs.Turns.{EndedBefore, EndedAfter, IsOpenAbove}
use Rattle.group_insert.specs.Visits.{ArePoints, HasVisitedAll}
use Rattle.group_insert.proofs.Earlier.{earlier-irreflexive}
use Rattle.group_insert.proofs.LeastKept.{least_begun, least_same}
use Rattle.group_insert.proofs.VisitEnd.{IsLast, last_table}
use Rattle.group_insert.proofs.PutBelow.{no_more}
use Rattle.group_insert.proofs.StartEnd.{amount_under-both}
use Rattle.group_insert.proofs.LinksPutOff.{still_put_off}
use Rattle.group_insert.proofs.SharedContent.{two_kept, own_kept}

pub table_visited : (dims : ℕ) (h g : List Weighted) (old new : List Slot) (homes : List Walk) (i : ℕ) (put : List PutOff) → ArePoints dims h g → HasSpot (spots_in g) (home_of homes i) → IsHalfwayBefore dims old homes h g put (home_of homes i) → IsAdded old new i (λ b. amount_under g (home_of homes i) b) → HasVisitedAll dims h g old homes i new put put
table_visited dims h g old new homes i put P w M C = record {
  homes' = homes;
  halfway = record {
    has_homes = homes_same old new homes C.size C.links M.has_homes;
    has_tables = record { tables = λ j l. subst (λ x. (x ≡ true) ↔ (dimension (home_of homes j) ≡ dims)) (sym (C.old_kind j)) (M.has_tables.tables j (omega (arith, C.size))) };
    holds = holds_same old new homes (spots_in h) (spots_in (g ++ h)) C.size C.links M.holds;
    untouched = λ j e l d o is. M.untouched j e l (λ x. d (N.kept (home_of homes j) x)) o (sym (C.links j e) ∙ is);
    visited = record { holds = N.holds; links = λ j e l d q c u. links j e (omega (arith, C.size)) q c u (N.only j (omega (arith, C.size)) d) };
    counted = record {
      still = λ j bin l t d. still j bin (omega (arith, C.size)) (sym (C.old_kind j) ∙ t) d (cases_eq j i);
      now = λ j bin l t d. now j bin (omega (arith, C.size)) (sym (C.old_kind j) ∙ t) (N.only j (omega (arith, C.size)) d) (cases_eq j i);
    };
    shares = record {
      shares = λ j label l o O. shares j label l (M.shares.shares j label l o (before j label l O));
      own_child = λ j label l d O. own_child j label l O (N.only j (linked-lt old j (down label) l (before j label l O).is) d);
    };
    later = record {
      put_off = λ n d lt. still_put_off old new homes h g C.size (get_or put n d) (λ j x. sym (C.links (get_or put n d).node (down (get_or put n d).label)) ∙ x) (M.later.put_off n d lt);
      ended = λ n d lt. N.kept (link_address homes (get_or put n d)) (M.later.ended n d lt);
      wide = λ n d lt x. wide (get_or put n d) (M.later.put_off n d lt) (M.later.wide n d lt) (N.only (get_or put n d).node (M.later.put_off n d lt).in_range.0 x);
      in_order = M.later.in_order;
    };
  };
  keeps = record { size = omega (arith, C.size); homes = λ j l. refl; links = λ j f l n. C.links j f; kinds = λ j l. C.old_kind j };
  puts = no_more homes (home_of homes i) put;
  least = λ L. least_begun new homes h g (BegunAt (home_of homes i)) (BegunAfter (home_of homes i)) (λ b x. inl x) (least_same old new homes h g (BegunAt (home_of homes i)) C.links L);
}
  where
    none : (e : Step) (q : SpotPath) → Contains (spots_in g) q → Under q (e ∷ home_of homes i) → ⊥
    none e q c u = stops_at_time dims q (P.spots q c) (home_of homes i) ((M.has_tables.tables i C.place).0 C.kind) e u

    N : IsLast old homes g (EndedBefore g (home_of homes i)) (IsOpenAbove (home_of homes i)) (EndedAfter g (home_of homes i)) (IsOpenAbove (home_of homes i)) i
    N = last_table old homes g i M.has_homes C.place w none

    links : (j : ℕ) (e : Step) → j < length old → (q : SpotPath) → Contains (spots_in g) q → Under q (e ∷ home_of homes j) → EndedBefore g (home_of homes i) (home_of homes j) ⊎ (j ≡ i) → LeadsRight new homes j e q ⊎ IsPut put j e
    links j e l q c u (inl d) = pick (M.visited.links j e l d q c u)
      where
        pick : LeadsRight old homes j e q ⊎ IsPut put j e → LeadsRight new homes j e q ⊎ IsPut put j e
        pick (inl r) = inl (record { link = r.link; is = C.links j e ∙ r.is; lies = r.lies })
        pick (inr x) = inr x
    links j e l q c u (inr x) = absurd (none e q c (subst (λ z. Under q (e ∷ home_of homes z)) x u))

    still : (j bin : ℕ) → j < length old → is_table (slot_of old j) ≡ true → (EndedAfter g (home_of homes i) (home_of homes j) → ⊥) → (j ≡ i) ⊎ (j ≡ i → ⊥) → count (slot_of new j) bin ≡ amount_under h (home_of homes j) bin
    still j bin l t d (inl e) = absurd (d (subst (λ z. EndedAfter g (home_of homes i) (home_of homes z)) (sym e) N.here))
    still j bin l t d (inr n) = C.old_count j bin n ∙ M.counted.still j bin l t (λ x. d (N.kept (home_of homes j) x))

    here : (bin : ℕ) → count (slot_of new i) bin ≡ amount_under (g ++ h) (home_of homes i) bin
    here bin =
        let a = C.here bin in
        let b = M.counted.still i bin C.place C.kind (λ d. earlier-irreflexive d.1) in
        let c = amount_under-both g h (home_of homes i) bin in
        omega (arith, a, b, c)

    now : (j bin : ℕ) → j < length old → is_table (slot_of old j) ≡ true → EndedBefore g (home_of homes i) (home_of homes j) ⊎ (j ≡ i) → (j ≡ i) ⊎ (j ≡ i → ⊥) → count (slot_of new j) bin ≡ amount_under (g ++ h) (home_of homes j) bin
    now j bin l t d (inl e) = subst (λ z. count (slot_of new z) bin ≡ amount_under (g ++ h) (home_of homes z) bin) (sym e) (here bin)
    now j bin l t (inl d) (inr n) = C.old_count j bin n ∙ M.counted.now j bin l t d
    now j bin l t (inr e) (inr n) = absurd (n e)

    before : (j label : ℕ) (l : Link) → HasOneChild new j label l → HasOneChild old j label l
    before j label l O = record { is = sym (C.links j (down label)) ∙ O.is; only = λ m k x. O.only m k (C.links j (down m) ∙ x) }

    two : (j : ℕ) → WillHaveTwo old put j → WillHaveTwo new put j
    two j = two_kept old new put j (λ m x. record { link = x.link; is = C.links j (down m) ∙ x.is })

    shares : (j label : ℕ) (l : Link) → SharesContent old j l ⊎ WillHaveTwo old put j → SharesContent new j l ⊎ WillHaveTwo new put j
    shares j label l (inl c) = inl (record { content = c.content; of_child = C.links (target l) across ∙ c.of_child; of_node = C.links j across ∙ c.of_node })
    shares j label l (inr t) = inr (two j t)

    own_child : (j label : ℕ) (l : Link) → HasOneChild new j label l → EndedBefore g (home_of homes i) (home_of homes j) ⊎ (j ≡ i) → ((to : ℕ) × (l ≡ proper to)) ⊎ WillHaveTwo new put j
    own_child j label l O (inl d) = own_kept old new put j l (two j) (M.shares.own_child j label l d (before j label l O))
    own_child j label l O (inr e) =
        let x : link_of old i (down label) ≡ Some l = subst (λ z. link_of old z (down label) ≡ Some l) e (before j label l O).is in
        let y = table_link (slot_of old i) (down label) C.kind in
        absurd cc

    wide : (k : PutOff) → IsPutOff old homes h g k → (EndedBefore g (home_of homes i) (home_of homes k.node) → WillHaveTwo old put k.node) → EndedBefore g (home_of homes i) (home_of homes k.node) ⊎ (k.node ≡ i) → WillHaveTwo new put k.node
    wide k o W (inl d) = two k.node (W d)
    wide k o W (inr e) = let q = o.wanted in absurd (none (down k.label) q.spot q.is_in (subst (λ z. Under q.spot (down k.label ∷ home_of homes z)) e q.lies))
