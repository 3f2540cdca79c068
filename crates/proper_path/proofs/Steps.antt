-- A link of a node that is not visited yet is made proper: what that keeps, and what it leaves as it was.
use Rattle.std.proofs.Common.{◌≡◌, ℕ, zero, suc, ◌<◌, true, false, ◌⊎◌, inl, inr, ◌↔◌, List, [], ◌∷◌, Some, Contains, length, refl, sym, ap, ◌∙◌, subst, arith, subst₂, true≢false}
use Rattle.cube_view.specs.Walks.{Step, down, across, Walk, Under, dimension, IsCoarser, by_across}
use Rattle.proper_path.specs.Order.{IsAbove, itself, further, IsBefore}
use Rattle.node_arena.specs.Slots.{proper, shared, Slot, link_of, slot_of, is_table}
use Rattle.node_arena.specs.Calls.{copied}
use Rattle.node_arena.specs.Shape.{home_of, HasHomes, HasTables}
use Rattle.proper_path.specs.Midway.{IsContentHome, IsGrowing, IsMidway, SharesBetween, HasTwoChildren, IsClosed, IsBetween, DoneBefore}
use Rattle.proper_path.specs.Changes.{IsGrown}
use Rattle.proper_path.specs.Making.{State, home, AddsSlot, Makes, has, copies, adds, Keeps}
use Rattle.node_arena.proofs.Links.{linked-lt}
use Rattle.proper_path.proofs.Homes.{IsFree, FitsUnder, home_free, grown_homes, KeepsHomes, keeps_homes, homes_grown}
use Rattle.proper_path.proofs.Between.{StandsAt, midway_grown, tables_grown, copy_kind, copy_stands, empty_stands}
use Rattle.proper_path.proofs.Grow.{copy_fits, empty_fits}
use Rattle.cube_view.proofs.FinerWalks.{dimension-finer}
use Rattle.proper_path.proofs.Shares.{shares_grown}
use Rattle.proper_path.proofs.Order.{above_same, above-trans, down_before, before_down}
use Rattle.proper_path.proofs.Links.{proper≢shared}
use Rattle.node_arena.specs.Amounts.{Weighted}

abbrev pub Between : ℕ → List Weighted → Weighted → (Walk → Type 0) → State → Type 0
Between dims h p done a = IsBetween dims a.slots a.homes h p done a.updated

pub keeps-refl : (a : State) (x : Walk) → Keeps a a x
keeps-refl a x = record { size = omega arith; homes = λ j l. refl; links = λ j f l n. refl; kinds = λ j l. refl }

pub keeps-trans : {a b c : State} {x : Walk} → Keeps a b x → Keeps b c x → Keeps a c x
keeps-trans {a} {b} {c} {x} k m = record {
  size = omega (arith, k.size, m.size);
  homes = λ j l. m.homes j (omega (arith, k.size)) ∙ k.homes j l;
  links = λ j f l n. m.links j f (omega (arith, k.size)) (λ y. n (subst (λ z. IsAbove x z) (k.homes j l) y)) ∙ k.links j f l n;
  kinds = λ j l. m.kinds j (omega (arith, k.size)) ∙ k.kinds j l;
}

pub keeps_less : {a b : State} {x y : Walk} → IsAbove y x → Keeps a b x → Keeps a b y
keeps_less f k = record { size = k.size; homes = k.homes; links = λ j g l n. k.links j g l (λ z. n (above-trans f z)); kinds = k.kinds }

-- nothing has its home at or below a link that isn't proper
below_free : (slots : List Slot) (homes : List Walk) → HasHomes slots homes → (i : ℕ) (e : Step) → i < length slots → IsFree slots i e → {x b : Walk} → IsAbove x b → x ≡ e ∷ home_of homes i → (j : ℕ) → j < length slots → home_of homes j ≡ b → ⊥
below_free slots homes H i e lt free itself y j l z = home_free slots homes H i e lt free j l (z ∙ y)
below_free slots homes H i e lt free (further {e = f} {b = c} g) y zero l z = let w : [] ≡ f ∷ c = sym H.root ∙ z in absurd cc
below_free slots homes H i e lt free (further {e = f} {b = c} g) y (suc k) l z =
    let o = H.owner (suc k) (omega arith) l in
    let r = H.at_home o.by (suc k) o.step o.owns in
    let s : o.step ∷ home_of homes o.by ≡ f ∷ c = sym r.1 ∙ z in
    let w : home_of homes o.by ≡ c = cc in
    below_free slots homes H i e lt free g y o.by (linked-lt slots o.by o.step (proper (suc k)) o.owns) w

pub none_below : (slots : List Slot) (homes : List Walk) → HasHomes slots homes → (i : ℕ) (e : Step) → i < length slots → IsFree slots i e → (j : ℕ) → j < length slots → IsAbove (e ∷ home_of homes i) (home_of homes j) → ⊥
none_below slots homes H i e lt free j l f = below_free slots homes H i e lt free f refl j l refl

-- nothing at or above an address comes before it
pub not_above_before : {a b : Walk} → IsAbove b a → IsBefore b a → ⊥
not_above_before f r = let e : down r.label ∷ r.parting ≡ across ∷ r.parting = above_same (above-trans r.goes_down f) r.goes_across refl in absurd cc

-- the same state, by another word for what is done
pub growing_same : (dims : ℕ) (h : List Weighted) (p : Weighted) (done next : Walk → Type 0) (slots : List Slot) (homes : List Walk) → ((b : Walk) → done b → next b) → ((b : Walk) → next b → done b) → IsGrowing dims slots homes h p done → IsGrowing dims slots homes h p next
growing_same dims h p done next slots homes to back M = record {
  has_homes = M.has_homes;
  has_tables = M.has_tables;
  holds = M.holds;
  visited = record { holds = λ b d. M.visited.holds b (back b d); links = λ i e l d u. M.visited.links i e l (back (home_of homes i) d) u };
  counted = record { still = λ i bin l t d. M.counted.still i bin l t (λ x. d (to (home_of homes i) x)); now = λ i bin l t d. M.counted.now i bin l t (back (home_of homes i) d) };
}

pub between_same : (dims : ℕ) (h : List Weighted) (p : Weighted) (done next : Walk → Type 0) (a : State) → ((b : Walk) → done b → next b) → ((b : Walk) → next b → done b) → Between dims h p done a → Between dims h p next a
between_same dims h p done next a to back B = record {
  midway = record {
    growing = growing_same dims h p done next a.slots a.homes to back M.growing;
    updates = record { listed = λ i c. let r = M.updates.listed i c in (r.0, to (home a i) r.1, r.2); lists = λ i l d k. M.updates.lists i l (back (home a i) d) k };
  };
  shares = record { shares = λ i label l d O. S.shares i label l (turn i d) O; many = S.many };
}
  where
    M : IsMidway dims a.slots a.homes h p done a.updated
    M = B.midway

    S : SharesBetween a.slots a.homes p done
    S = B.shares

    turn : (i : ℕ) → next (home a i) ⊎ (Under p.spot (home a i) → ⊥) → done (home a i) ⊎ (Under p.spot (home a i) → ⊥)
    turn i (inl d) = inl (back (home a i) d)
    turn i (inr n) = inr n

-- a link of a node leads properly to slot j, whose home is the link's address; what is outside the node, and its other
-- links, are as before
pub record LeadsProperly (a : State) (i : ℕ) (e : Step) (j : ℕ) (b : State) : Type 0 where
  pub keeps : Keeps a b (home a i)
  pub others : (f : Step) → (f ≡ e → ⊥) → link_of b.slots i f ≡ link_of a.slots i f
  pub link : link_of b.slots i e ≡ Some (proper j)
  pub in_range : j < length b.slots
  pub at_home : home b j ≡ e ∷ home a i
  pub updated : b.updated ≡ a.updated

-- so it does where nothing has to be done ..
has_leads : (a : State) (i j : ℕ) (e : Step) → HasHomes a.slots a.homes → link_of a.slots i e ≡ Some (proper j) → LeadsProperly a i e j a
has_leads a i j e H is = record {
  keeps = keeps-refl a (home a i);
  others = λ f n. refl;
  link = is;
  in_range = (H.at_home i j e is).0;
  at_home = (H.at_home i j e is).1;
  updated = refl;
}

-- .. and where a slot was added
adds_leads : (a b : State) (i j : ℕ) (e : Step) (s : Slot) → HasHomes a.slots a.homes → AddsSlot a i e s j b → LeadsProperly a i e j b
adds_leads a b i j e s H D = record {
  keeps = record {
    size = omega (arith, G.size);
    homes = λ k l. ap (λ x. home_of x k) D.homes ∙ K.was k l;
    links = λ k f l n. G.old_link k f l (λ x y. n (subst (λ z. IsAbove (home a i) (home a z)) (sym x) itself));
    kinds = λ k l. G.old_kind k l;
  };
  others = λ f n. G.old_link i f G.place (λ x y. n y);
  link = G.set_link ∙ ap (λ z. Some (proper z)) (sym D.is);
  in_range = let k = D.is in omega (arith, G.size);
  at_home = ap (home_of b.homes) D.is ∙ (ap (λ x. home_of x (length a.slots)) D.homes ∙ K.is_new);
  updated = D.updated;
}
  where
    G : IsGrown a.slots b.slots i e s
    G = D.grown

    K : KeepsHomes a.slots a.homes i e
    K = keeps_homes a.slots a.homes i e H

-- a link is made proper: homes and tables stand
pub record IsPlaced (dims : ℕ) (a : State) (i : ℕ) (e : Step) (j : ℕ) (b : State) : Type 0 where
  pub has_homes : HasHomes b.slots b.homes
  pub has_tables : HasTables dims b.slots b.homes
  pub leads : LeadsProperly a i e j b
  pub open leads use *

placed : (dims : ℕ) (a b : State) (i j : ℕ) (e : Step) (s : Slot) → HasHomes a.slots a.homes → HasTables dims a.slots a.homes → IsFree a.slots i e → FitsUnder a.slots a.homes (e ∷ home a i) s → (is_table s ≡ true) ↔ (dimension (e ∷ home a i) ≡ dims) → AddsSlot a i e s j b → IsPlaced dims a i e j b
placed dims a b i j e s H T free fits kind D = record {
  has_homes = subst (λ x. HasHomes b.slots x) (sym D.homes) (homes_grown a.slots b.slots a.homes i e s D.grown H free fits);
  has_tables = subst (λ x. HasTables dims b.slots x) (sym D.homes) (tables_grown dims a.slots b.slots a.homes i e s D.grown H T kind);
  leads = adds_leads a b i j e s H D;
}

pub makes_placed : (dims : ℕ) (a b : State) (i j : ℕ) (e : Step) → HasHomes a.slots a.homes → HasTables dims a.slots a.homes → Makes dims a i e j b → IsPlaced dims a i e j b
makes_placed dims a b i j e H T (has is same) =
    subst (λ z. IsPlaced dims a i e j z) (sym same) (record {
      has_homes = H;
      has_tables = T;
      leads = has_leads a i j e H is;
    })
makes_placed dims a b i j e H T (copies t is n D) =
    let r = H.finer i t e is in
    placed dims a b i j e (copied (slot_of a.slots t)) H T (λ k x. proper≢shared k t (let m : Some (proper k) ≡ Some (shared t) = sym x ∙ is in cc))
    (copy_fits a.slots a.homes H (e ∷ home a i) t r.1) (copy_kind dims a.slots a.homes T (e ∷ home a i) t r.0 r.1) D
makes_placed dims a b i j e H T (adds s is nl nc kind D) =
    placed dims a b i j e s H T (λ k x. absurd cc) (empty_fits a.slots a.homes (e ∷ home a i) s (record { no_link = nl; no_count = nc })) kind D

-- a content that wasn't updated and is a table wasn't visited
pub not_updated : (dims : ℕ) (slots : List Slot) (homes : List Walk) (h : List Weighted) (p : Weighted) (done : Walk → Type 0) (updated : List ℕ) → IsMidway dims slots homes h p done updated → (i t : ℕ) → link_of slots i across ≡ Some (shared t) → (Contains updated t → ⊥) → done (home_of homes t) → ⊥
not_updated dims slots homes h p done updated M i t is n d =
    let r = M.has_homes.finer i t across is in n (M.updates.lists t r.0 d (content_home r.1))
  where
    content_home : {a b : Walk} → IsCoarser (across ∷ a) b → IsContentHome b
    content_home (by_across {b = b} f) = record { of = b; is = refl }

-- a link of a node that isn't visited yet is made proper
pub record IsMade (dims : ℕ) (h : List Weighted) (p : Weighted) (done : Walk → Type 0) (a : State) (i : ℕ) (e : Step) (j : ℕ) (b : State) : Type 0 where
  pub between : Between dims h p done b
  pub leads : LeadsProperly a i e j b
  pub open leads use *

added : (dims : ℕ) (h : List Weighted) (p : Weighted) (done : Walk → Type 0) (a b : State) (i j : ℕ) (e : Step) (s : Slot) → Between dims h p done a → IsClosed p done → Under p.spot (e ∷ home a i) → (done (home a i) → ⊥) → (done (e ∷ home a i) → ⊥) → (e ≡ across → (label : ℕ) → Under p.spot (down label ∷ home a i) → HasTwoChildren a.slots i) → IsFree a.slots i e → StandsAt dims a.slots a.homes (e ∷ home a i) s h p → AddsSlot a i e s j b → IsMade dims h p done a i e j b
added dims h p done a b i j e s B closed u here there two free st D = record {
  between = subst₂ (λ x y. IsBetween dims b.slots x h p done y) (sym D.homes) (sym D.updated) grown;
  leads = adds_leads a b i j e s B.midway.has_homes D;
}
  where
    grown : IsBetween dims b.slots (grown_homes a.homes i e) h p done a.updated
    grown = record {
      midway = midway_grown dims a.slots b.slots a.homes i e s h p done a.updated D.grown B.midway (record { free = free; lies = u; open_node = here; open_link = there }) st;
      shares = shares_grown a.slots b.slots a.homes i e s p done D.grown B.midway.has_homes st.fits closed u here there two B.shares;
    }

pub makes_kept : (dims : ℕ) (h : List Weighted) (p : Weighted) (done : Walk → Type 0) (a b : State) (i j : ℕ) (e : Step) → Between dims h p done a → IsClosed p done → i < length a.slots → is_table (slot_of a.slots i) ≡ false → Under p.spot (e ∷ home a i) → (done (home a i) → ⊥) → (done (e ∷ home a i) → ⊥) → (e ≡ across → (label : ℕ) → Under p.spot (down label ∷ home a i) → HasTwoChildren a.slots i) → Makes dims a i e j b → IsMade dims h p done a i e j b
makes_kept dims h p done a b i j e B closed lt node u here there two (has is same) =
    subst (λ z. IsMade dims h p done a i e j z) (sym same) (record {
      between = B;
      leads = has_leads a i j e B.midway.has_homes is;
    })
makes_kept dims h p done a b i j e B closed lt node u here there two (copies t is n D) =
    added dims h p done a b i j e (copied (slot_of a.slots t)) B closed u here there two free (copy_stands dims a.slots a.homes h p done B.midway.growing i t e is (old e is n)) D
  where
    free : IsFree a.slots i e
    free k x = proper≢shared k t (let m : Some (proper k) ≡ Some (shared t) = sym x ∙ is in cc)

    not_table : (l : ℕ) → link_of a.slots i (down l) ≡ Some (shared t) → is_table (slot_of a.slots t) ≡ true → ⊥
    not_table l x k =
        let r = B.midway.has_homes.finer i t (down l) x in
        let d : dimension (home a i) ≡ dims = dimension-finer r.1 ∙ (B.midway.has_tables.tables t r.0).0 k in
        true≢false (sym ((B.midway.has_tables.tables i lt).1 d) ∙ node)

    old : (f : Step) → link_of a.slots i f ≡ Some (shared t) → (f ≡ across → Contains a.updated t → ⊥) → is_table (slot_of a.slots t) ≡ true → done (home a t) → ⊥
    old (down l) x m k d = not_table l x k
    old across x m k d = not_updated dims a.slots a.homes h p done a.updated B.midway i t x (m refl) d
makes_kept dims h p done a b i j e B closed lt node u here there two (adds s is nl nc kind D) =
    added dims h p done a b i j e s B closed u here there two (λ k x. absurd cc) (empty_stands dims a.slots a.homes h p done B.midway.growing i e s lt is (record { no_link = nl; no_count = nc }) kind) D

-- to the child on p's path
pub to_child : (dims : ℕ) (h : List Weighted) (p : Weighted) (a b : State) (i j l : ℕ) → IsMade dims h p (DoneBefore p (home a i)) a i (down l) j b → Between dims h p (DoneBefore p (home b j)) b
to_child dims h p a b i j l m = between_same dims h p (DoneBefore p (home a i)) (DoneBefore p (home b j)) b
    (λ x d. subst (λ z. DoneBefore p z x) (sym m.at_home) (d.0, down_before l d.1))
    (λ x d. let r = subst (λ z. DoneBefore p z x) m.at_home d in (r.0, before_down r.1)) m.between
