-- A visit ends.
use Rattle.std.proofs.Common.{◌≡◌, ℕ, ◌+◌, ◌<◌, Bool, true, false, cond, ◌&&◌, eqb, ◌⊎◌, inl, inr, ◌↔◌, List, ◌∷◌, Some, Contains, length, sym, ap, ◌∙◌, subst, arith, ap₂, subst₂, true≢false}
use Rattle.std.proofs.lemmas.List.Sums.{sum_by-cons}
use Rattle.std.proofs.lemmas.Bool.{cases_eq}
use Rattle.cube_view.specs.Walks.{Step, Walk, SpotPath, under, Under, IsCoarser, dimension, HasSpot}
use Rattle.node_arena.specs.declared.link.Link.{Link}
use Rattle.node_arena.specs.Slots.{proper, shared, target, Slot, link_of, slot_of, count, is_table}
use Rattle.node_arena.specs.Shape.{home_of, HasHomes, IsLinked, IsOwned, HoldsSpots}
use Rattle.proper_path.specs.Midway.{IsContentHome, LeadsOn, HasUpdated, IsGrowing, IsMidway, IsNext, Joins, joined, stays}
use Rattle.proper_path.specs.Changes.{IsRelinked, IsCounted}
use Rattle.proper_path.proofs.Homes.{IsFree}
use Rattle.proper_path.proofs.Links.{same_place, proper≢shared}
use Rattle.proper_path.proofs.Shares.{MayShare}
use Rattle.node_arena.specs.Amounts.{Weighted, spots_in, amount_under}

-- what p needs of the node: its next link on p's path and its content are there and lead to what holds p
abbrev pub IsReady : List Slot → List Walk → Weighted → ℕ → Type 0
IsReady slots homes p i = (e : Step) → LeadsOn slots homes p i e

joins_listed : (slots : List Slot) (homes : List Walk) (p : Weighted) (done next : Walk → Type 0) (i : ℕ) (updated after : List ℕ) → i < length slots → HasUpdated slots homes done updated → IsNext slots homes p done next i → Joins homes i updated after → HasUpdated slots homes next after
joins_listed slots homes p done next i updated after lt U N (joined k j) = record { listed = listed; lists = lists }
  where
    listed : (n : ℕ) → Contains after n → (n < length slots) × next (home_of homes n) × IsContentHome (home_of homes n)
    listed n c = go (j.only n c)
      where
        go : Contains updated n ⊎ (i ≡ n) → (n < length slots) × next (home_of homes n) × IsContentHome (home_of homes n)
        go (inr e) = subst (λ z. (z < length slots) × next (home_of homes z) × IsContentHome (home_of homes z)) e (lt, N.here, k)
        go (inl c') = let r = U.listed n c' in (r.0, N.kept (home_of homes n) r.1, r.2)

    lists : (n : ℕ) → n < length slots → next (home_of homes n) → IsContentHome (home_of homes n) → Contains after n
    lists n l d c = go (N.only n l d)
      where
        go : done (home_of homes n) ⊎ (n ≡ i) → Contains after n
        go (inl d') = j.kept n (U.lists n l d' c)
        go (inr e) = subst (λ z. Contains after z) (sym e) j.here
joins_listed slots homes p done next i updated after lt U N (stays k) = record {
  listed = λ j c. let r = U.listed j c in (r.0, N.kept (home_of homes j) r.1, r.2);
  lists = λ j l d c. go j l c (N.only j l d);
}
  where
    go : (j : ℕ) → j < length slots → IsContentHome (home_of homes j) → done (home_of homes j) ⊎ (j ≡ i) → Contains updated j
    go j l c (inl d) = U.lists j l d c
    go j l c (inr e) = absurd (k (subst (λ z. IsContentHome (home_of homes z)) e c))

-- the visit of a node ends
pub growing_ends : (dims : ℕ) (slots : List Slot) (homes : List Walk) (h : List Weighted) (p : Weighted) (done next : Walk → Type 0) (i : ℕ) → IsGrowing dims slots homes h p done → i < length slots → is_table (slot_of slots i) ≡ false → IsReady slots homes p i → IsNext slots homes p done next i → IsGrowing dims slots homes h p next
growing_ends dims slots homes h p done next i M lt is_node R N = record {
  has_homes = M.has_homes;
  has_tables = M.has_tables;
  holds = M.holds;
  visited = record { holds = N.holds; links = λ j f l d u. links j f l u (N.only j l d) };
  counted = record {
    still = λ j bin l t d. M.counted.still j bin l t (λ x. d (N.kept (home_of homes j) x));
    now = λ j bin l t d. now j bin l t (N.only j l d);
  };
}
  where
    links : (j : ℕ) (f : Step) → j < length slots → Under p.spot (f ∷ home_of homes j) → done (home_of homes j) ⊎ (j ≡ i) → (l : Link) × (link_of slots j f ≡ Some l) × Under p.spot (home_of homes (target l))
    links j f l u (inl d) = M.visited.links j f l d u
    links j f l u (inr e) = let r = R f (subst (λ z. Under p.spot (f ∷ home_of homes z)) e u) in (r.0, ap (λ z. link_of slots z f) e ∙ r.1, r.2)

    now : (j bin : ℕ) → j < length slots → is_table (slot_of slots j) ≡ true → done (home_of homes j) ⊎ (j ≡ i) → count (slot_of slots j) bin ≡ amount_under (p ∷ h) (home_of homes j) bin
    now j bin l t (inl d) = M.counted.now j bin l t d
    now j bin l t (inr e) = absurd (true≢false (sym t ∙ (ap (λ z. is_table (slot_of slots z)) e ∙ is_node)))

pub visit_ends : (dims : ℕ) (slots : List Slot) (homes : List Walk) (h : List Weighted) (p : Weighted) (done next : Walk → Type 0) (updated after : List ℕ) (i : ℕ) → IsMidway dims slots homes h p done updated → i < length slots → is_table (slot_of slots i) ≡ false → IsReady slots homes p i → IsNext slots homes p done next i → Joins homes i updated after → IsMidway dims slots homes h p next after
visit_ends dims slots homes h p done next updated after i M lt is_node R N J = record {
  growing = growing_ends dims slots homes h p done next i M.growing lt is_node R N;
  updates = joins_listed slots homes p done next i updated after lt M.updates N J;
}

-- an arena with the same links keeps its homes and holds its spots
pub homes_same : (old new : List Slot) (homes : List Walk) → length new ≡ length old → ((j : ℕ) (f : Step) → link_of new j f ≡ link_of old j f) → HasHomes old homes → HasHomes new homes
homes_same old new homes size links H = record {
  owned = record {
    size = H.size ∙ sym size;
    some = subst (λ z. 0 < z) (sym size) H.some;
    root = H.root;
    distinct = λ i j li lj e. H.distinct i j (omega (arith, size)) (omega (arith, size)) e;
    owner = λ j p l. let o = H.owner j p (omega (arith, size)) in record { by = o.by; step = o.step; owns = links o.by o.step ∙ o.owns };
    at_home = λ i j e h. let r = H.at_home i j e (sym (links i e) ∙ h) in (omega (arith, size), r.1);
  };
  finer = λ i j e h. let r = H.finer i j e (sym (links i e) ∙ h) in (omega (arith, size), r.1);
}

pub holds_same : (old new : List Slot) (homes : List Walk) (sure all : List SpotPath) → length new ≡ length old → ((j : ℕ) (f : Step) → link_of new j f ≡ link_of old j f) → HoldsSpots old homes sure all → HoldsSpots new homes sure all
holds_same old new homes sure all size links S = record {
  needed = λ i e l w. let r = S.needed i e (omega (arith, size)) w in record { link = r.link; is = links i e ∙ r.is };
  wanted = λ i e l h. S.wanted i e l (sym (links i e) ∙ h);
  agrees = λ i e l h. S.agrees i e l (sym (links i e) ∙ h);
}

-- p weighs under an address that holds it
-- what one adds under an address in a bin
abbrev adds_under : Walk → ℕ → Weighted → ℕ
adds_under a bin q = cond (under q.spot a && eqb q.spot.bin bin) q.amount 0

amount_under-more : (h : List Weighted) (p : Weighted) (a : Walk) (bin : ℕ) → Under p.spot a → amount_under (p ∷ h) a bin ≡ amount_under h a bin + cond (eqb p.spot.bin bin) p.amount 0
amount_under-more h p a bin u =
    sum_by-cons (adds_under a bin) p h
    ∙ (ap (λ (b : Bool). cond (b && eqb p.spot.bin bin) p.amount 0 + amount_under h a bin) u ∙ (omega arith))

-- the visit of a table is its addition
pub growing_table : (dims : ℕ) (old new : List Slot) (homes : List Walk) (h : List Weighted) (p : Weighted) (done next : Walk → Type 0) (i : ℕ) → IsGrowing dims old homes h p done → IsCounted old new i p.spot.bin p.amount → Under p.spot (home_of homes i) → (done (home_of homes i) → ⊥) → ((e : Step) → Under p.spot (e ∷ home_of homes i) → ⊥) → IsNext old homes p done next i → IsGrowing dims new homes h p next
growing_table dims old new homes h p done next i M C u fresh last N = record {
  has_homes = homes_same old new homes C.size C.links M.has_homes;
  has_tables = record { tables = λ j l. subst (λ x. (x ≡ true) ↔ (dimension (home_of homes j) ≡ dims)) (sym (C.old_kind j)) (M.has_tables.tables j (omega (arith, C.size))) };
  holds = holds_same old new homes (spots_in h) (spots_in (p ∷ h)) C.size C.links M.holds;
  visited = record { holds = N.holds; links = λ j f l d v. links j f (omega (arith, C.size)) v (N.only j (omega (arith, C.size)) d) };
  counted = record {
    still = λ j bin l t d. still j bin (omega (arith, C.size)) (sym (C.old_kind j) ∙ t) d (cases_eq j i);
    now = λ j bin l t d. now j bin (omega (arith, C.size)) (sym (C.old_kind j) ∙ t) (N.only j (omega (arith, C.size)) d) (cases_eq j i);
  };
}
  where
    links : (j : ℕ) (f : Step) → j < length old → Under p.spot (f ∷ home_of homes j) → done (home_of homes j) ⊎ (j ≡ i) → (l : Link) × (link_of new j f ≡ Some l) × Under p.spot (home_of homes (target l))
    links j f l v (inl d) = let r = M.visited.links j f l d v in (r.0, C.links j f ∙ r.1, r.2)
    links j f l v (inr e) = absurd (last f (subst (λ z. Under p.spot (f ∷ home_of homes z)) e v))

    still : (j bin : ℕ) → j < length old → is_table (slot_of old j) ≡ true → (next (home_of homes j) → ⊥) → (j ≡ i) ⊎ (j ≡ i → ⊥) → count (slot_of new j) bin ≡ amount_under h (home_of homes j) bin
    still j bin l t d (inl e) = absurd (d (subst (λ z. next (home_of homes z)) (sym e) N.here))
    still j bin l t d (inr n) = C.old_count j bin n ∙ M.counted.still j bin l t (λ x. d (N.kept (home_of homes j) x))

    now : (j bin : ℕ) → j < length old → is_table (slot_of old j) ≡ true → done (home_of homes j) ⊎ (j ≡ i) → (j ≡ i) ⊎ (j ≡ i → ⊥) → count (slot_of new j) bin ≡ amount_under (p ∷ h) (home_of homes j) bin
    now j bin l t d (inl e) =
        subst (λ z. count (slot_of new z) bin ≡ amount_under (p ∷ h) (home_of homes z) bin) (sym e)
        (C.here bin ∙ (ap (λ x. x + cond (eqb p.spot.bin bin) p.amount 0) (M.counted.still i bin C.place C.kind fresh) ∙ sym (amount_under-more h p (home_of homes i) bin u)))
    now j bin l t (inl d) (inr n) = C.old_count j bin n ∙ M.counted.now j bin l t d
    now j bin l t (inr e) (inr n) = absurd (n e)

pub table_ends : (dims : ℕ) (old new : List Slot) (homes : List Walk) (h : List Weighted) (p : Weighted) (done next : Walk → Type 0) (updated after : List ℕ) (i : ℕ) → IsMidway dims old homes h p done updated → IsCounted old new i p.spot.bin p.amount → Under p.spot (home_of homes i) → (done (home_of homes i) → ⊥) → ((e : Step) → Under p.spot (e ∷ home_of homes i) → ⊥) → IsNext old homes p done next i → Joins homes i updated after → IsMidway dims new homes h p next after
table_ends dims old new homes h p done next updated after i M C u fresh last N J = record {
  growing = growing_table dims old new homes h p done next i M.growing C u fresh last N;
  updates = resize (joins_listed old homes p done next i updated after C.place M.updates N J);
}
  where
    resize : HasUpdated old homes next after → HasUpdated new homes next after
    resize U = record { listed = λ j c. let r = U.listed j c in (omega (arith, C.size), r.1, r.2); lists = λ j l d c. U.lists j (omega (arith, C.size)) d c }

abbrev pub Place : ℕ → Step → ℕ → Step → Type 0
Place i e j f = ((j ≡ i) × (f ≡ e)) ⊎ (j ≡ i → f ≡ e → ⊥)

-- the link that was set is the shared one
at_set : (old new : List Slot) (i u : ℕ) (e : Step) → IsRelinked old new i e (shared u) → (j : ℕ) (f : Step) (l : Link) → link_of new j f ≡ Some l → (j ≡ i) × (f ≡ e) → l ≡ shared u
at_set old new i u e R j f l x (a, b) = let k : link_of new j f ≡ Some (shared u) = ap₂ (link_of new) a b ∙ R.set_link in cc

-- a link that is no proper one is set to a finer home: homes stand ..
pub homes_relinked : (old new : List Slot) (homes : List Walk) (i u : ℕ) (e : Step) → HasHomes old homes → IsRelinked old new i e (shared u) → IsFree old i e → u < length old → IsCoarser (e ∷ home_of homes i) (home_of homes u) → HasHomes new homes
homes_relinked old new homes i u e H R free there coarser = record {
  owned = record {
    size = H.size ∙ sym R.size;
    some = subst (λ z. 0 < z) (sym R.size) H.some;
    root = H.root;
    distinct = λ j k lj lk eq. H.distinct j k (omega (arith, R.size)) (omega (arith, R.size)) eq;
    owner = λ j q l. owner j (H.owner j q (omega (arith, R.size)));
    at_home = λ j k f x. at_home j k f x (same_place j i f e);
  };
  finer = λ j k f x. finer j k f x (same_place j i f e);
}
  where
    owner : (j : ℕ) → IsOwned old j → IsOwned new j
    owner j o = record { by = o.by; step = o.step; owns = R.old_link o.by o.step (λ x y. free j (subst₂ (λ a b. link_of old a b ≡ Some (proper j)) x y o.owns)) ∙ o.owns }

    at_home : (j k : ℕ) (f : Step) → link_of new j f ≡ Some (proper k) → Place i e j f → (k < length new) × (home_of homes k ≡ f ∷ home_of homes j)
    at_home j k f x (inl y) = absurd (proper≢shared k u (at_set old new i u e R j f (proper k) x y))
    at_home j k f x (inr n) = let r = H.at_home j k f (sym (R.old_link j f n) ∙ x) in (omega (arith, R.size), r.1)

    finer : (j k : ℕ) (f : Step) → link_of new j f ≡ Some (shared k) → Place i e j f → (k < length new) × IsCoarser (f ∷ home_of homes j) (home_of homes k)
    finer j k f x (inl y) =
        let z : shared k ≡ shared u = at_set old new i u e R j f (shared k) x y in let w : u ≡ k = sym (ap target z) in
        (subst₂ ◌<◌ w (sym R.size) there, subst₂ (λ a b. IsCoarser a (home_of homes b)) (ap₂ ◌∷◌ (sym y.1) (ap (home_of homes) (sym y.0))) w coarser)
    finer j k f x (inr n) = let r = H.finer j k f (sym (R.old_link j f n) ∙ x) in (omega (arith, R.size), r.1)

-- .. and where it holds the spots under its address, links do
pub holds_relinked : (old new : List Slot) (homes : List Walk) (sure all : List SpotPath) (i u : ℕ) (e : Step) → HoldsSpots old homes sure all → IsRelinked old new i e (shared u) → HasSpot all (e ∷ home_of homes i) → ((q : SpotPath) → Contains sure q → Under q (e ∷ home_of homes i) → Under q (home_of homes u)) → HoldsSpots new homes sure all
holds_relinked old new homes sure all i u e S R some right = record {
  needed = λ j f l w. needed j f (S.needed j f (omega (arith, R.size)) w) (same_place j i f e);
  wanted = λ j f l x. wanted j f l x (same_place j i f e);
  agrees = λ j f l x. agrees j f l x (same_place j i f e);
}
  where
    needed : (j : ℕ) (f : Step) → IsLinked old j f → Place i e j f → IsLinked new j f
    needed j f r (inl y) = record { link = shared u; is = ap₂ (link_of new) y.0 y.1 ∙ R.set_link }
    needed j f r (inr n) = record { link = r.link; is = R.old_link j f n ∙ r.is }

    wanted : (j : ℕ) (f : Step) (l : Link) → link_of new j f ≡ Some l → Place i e j f → HasSpot all (f ∷ home_of homes j)
    wanted j f l x (inl y) = subst (λ a. HasSpot all a) (ap₂ ◌∷◌ (sym y.1) (ap (home_of homes) (sym y.0))) some
    wanted j f l x (inr n) = S.wanted j f l (sym (R.old_link j f n) ∙ x)

    agrees : (j : ℕ) (f : Step) (l : Link) → link_of new j f ≡ Some l → Place i e j f → (q : SpotPath) → Contains sure q → Under q (f ∷ home_of homes j) → Under q (home_of homes (target l))
    agrees j f l x (inl y) q c v =
        subst (λ z. Under q (home_of homes (target z))) (sym (at_set old new i u e R j f l x y)) (right q c (subst (λ a. Under q a) (ap₂ ◌∷◌ y.1 (ap (home_of homes) y.0)) v))
    agrees j f l x (inr n) q c v = S.agrees j f l (sym (R.old_link j f n) ∙ x) q c v

pub relinked : (dims : ℕ) (old new : List Slot) (homes : List Walk) (h : List Weighted) (p : Weighted) (done : Walk → Type 0) (updated : List ℕ) (i u : ℕ) (e : Step) → IsMidway dims old homes h p done updated → IsRelinked old new i e (shared u) → MayShare old homes h p done i u e → IsMidway dims new homes h p done updated
relinked dims old new homes h p done updated i u e M R may = record {
  growing = record {
    has_homes = homes_relinked old new homes i u e M.has_homes R may.free may.in_range may.coarser;
    has_tables = record { tables = λ j l. subst (λ x. (x ≡ true) ↔ (dimension (home_of homes j) ≡ dims)) (sym (R.old_kind j)) (M.has_tables.tables j (omega (arith, R.size))) };
    holds = holds_relinked old new homes (spots_in h) (spots_in (p ∷ h)) i u e M.holds R may.wanted may.agrees;
    visited = record { holds = M.visited.holds; links = λ j f l d v. links j f d (M.visited.links j f (omega (arith, R.size)) d v) (same_place j i f e) };
    counted = record {
      still = λ j bin l t d. R.old_count j bin ∙ M.counted.still j bin (omega (arith, R.size)) (sym (R.old_kind j) ∙ t) d;
      now = λ j bin l t d. R.old_count j bin ∙ M.counted.now j bin (omega (arith, R.size)) (sym (R.old_kind j) ∙ t) d;
    };
  };
  updates = record {
    listed = λ j c. let r = M.updates.listed j c in (omega (arith, R.size), r.1, r.2);
    lists = λ j l d c. M.updates.lists j (omega (arith, R.size)) d c;
  };
}
  where
    links : (j : ℕ) (f : Step) → done (home_of homes j) → (l : Link) × (link_of old j f ≡ Some l) × Under p.spot (home_of homes (target l)) → Place i e j f → (l : Link) × (link_of new j f ≡ Some l) × Under p.spot (home_of homes (target l))
    links j f d r (inl y) = absurd (may.open_node (subst (λ z. done (home_of homes z)) y.0 d))
    links j f d r (inr n) = (r.0, R.old_link j f n ∙ r.1, r.2)
