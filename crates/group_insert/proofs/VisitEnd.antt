-- The visit of a node ends.
use Rattle.std.proofs.Common.{◌≡◌, ℕ, ◌<◌, ◌≤◌, true, false, ◌⊎◌, inl, inr, List, ◌∷◌, ◌++◌, Contains, length, get_or, sym, ap, ◌∙◌, subst, arith, true≢false}
use Rattle.std.proofs.lemmas.Bool.{cases_eq, cases_lt}
use Rattle.std.proofs.lemmas.List.Elements.{Contains-get_or}
use Rattle.cube_view.specs.Walks.{Step, down, across, Walk, SpotPath, Under, HasSpot}
use Rattle.node_arena.specs.Amounts.{Weighted, spots_in, amount_under}
use Rattle.node_arena.specs.Shape.{home_of, HasHomes, HasOneChild, SharesContent}
use Rattle.node_arena.specs.Slots.{proper, Slot, slot_of, is_table, count}
use Rattle.node_arena.specs.declared.link.Link.{Link}
use Rattle.node_arena.proofs.Links.{linked-lt}
use Rattle.proper_path.specs.Order.{IsAbove, itself, further}
use Rattle.proper_path.proofs.Above.{under_above}
use Rattle.proper_path.proofs.Order.{above_cases, above-step, above-length}
use Rattle.proper_path.specs.Midway.{IsPartOf, IsEnded}
use Rattle.group_insert.specs.Halfway.{LeadsRight, WillHaveTwo, IsHalfway}
use Rattle.group_insert.specs.Later.{PutOff, link_address, IsPut}
use Rattle.group_insert.specs.Turns.{IsEarlier, EndedBefore, EndedAfter, IsOpenAbove}
use Rattle.group_insert.proofs.Earlier.{earlier_below, EarlierDown, outside, in_content, in_lesser, earlier_down, content_earlier, lesser_earlier, open_step}

-- The visit of slot i ends: of the homes that there are it alone is done besides, and it alone was open besides.
pub record IsLast (slots : List Slot) (homes : List Walk) (g : List Weighted) (done open' next open'' : Walk → Type 0) (i : ℕ) : Type 0 where
  pub ended : IsEnded slots homes done next i
  pub open ended use *
  pub holds : IsPartOf next (HasSpot (spots_in g))
  pub closed : (b : Walk) → open' b → open'' b ⊎ (b ≡ home_of homes i)

-- each link of the node on the way of a point of the group is right for it, or put off
abbrev pub LeadsAll : List Slot → List Walk → List Weighted → List PutOff → ℕ → Type 0
LeadsAll slots homes g put i = (e : Step) (q : SpotPath) → Contains (spots_in g) q → Under q (e ∷ home_of homes i) → LeadsRight slots homes i e q ⊎ IsPut put i e

-- what has to hold of the node by then
pub record IsFinished (slots : List Slot) (homes : List Walk) (g : List Weighted) (put : List PutOff) (i : ℕ) : Type 0 where
  pub is_node : is_table (slot_of slots i) ≡ false
  pub links : LeadsAll slots homes g put i
  -- part 4, where the only child is the node's own
  pub shares : (label : ℕ) (l : Link) → HasOneChild slots i label l → SharesContent slots i l ⊎ WillHaveTwo slots put i
  pub own_child : (label : ℕ) (l : Link) → HasOneChild slots i label l → ((to : ℕ) × (l ≡ proper to)) ⊎ WillHaveTwo slots put i
  -- a node of which a link is put off has another child besides
  pub wide : (k : PutOff) → Contains put k → k.node ≡ i → WillHaveTwo slots put i

pub node_ends : (dims : ℕ) (slots : List Slot) (homes : List Walk) (h g : List Weighted) (done open' next open'' : Walk → Type 0) (put : List PutOff) (i : ℕ) → i < length slots → IsLast slots homes g done open' next open'' i → IsFinished slots homes g put i → IsHalfway dims slots homes h g done open' put → IsHalfway dims slots homes h g next open'' put
node_ends dims slots homes h g done open' next open'' put i lt N F M = record {
  has_homes = M.has_homes;
  has_tables = M.has_tables;
  holds = M.holds;
  untouched = λ j e l d o is. M.untouched j e l (λ x. d (N.kept (home_of homes j) x)) (λ x. not_open j d o (N.closed (home_of homes j) x)) is;
  visited = record { holds = N.holds; links = λ j e l d q c u. links j e l q c u (N.only j l d) };
  counted = record {
    still = λ j bin l t d. M.counted.still j bin l t (λ x. d (N.kept (home_of homes j) x));
    now = λ j bin l t d. now j bin l t (N.only j l d);
  };
  shares = record {
    shares = λ j label l o O. shares j label l o O (cases_eq j i);
    own_child = λ j label l d O. own_child j label l O (N.only j (linked-lt slots j (down label) l O.is) d);
  };
  later = record {
    put_off = M.later.put_off;
    ended = λ n k l. N.kept (link_address homes (get_or put n k)) (M.later.ended n k l);
    wide = λ n k l d. wide n k l (N.only (get_or put n k).node (M.later.put_off n k l).in_range.0 d);
    in_order = M.later.in_order;
  };
}
  where
    not_open : (j : ℕ) → (next (home_of homes j) → ⊥) → (open'' (home_of homes j) → ⊥) → open'' (home_of homes j) ⊎ (home_of homes j ≡ home_of homes i) → ⊥
    not_open j d o (inl x) = o x
    not_open j d o (inr e) = d (subst next (sym e) N.here)

    links : (j : ℕ) (e : Step) → j < length slots → (q : SpotPath) → Contains (spots_in g) q → Under q (e ∷ home_of homes j) → done (home_of homes j) ⊎ (j ≡ i) → LeadsRight slots homes j e q ⊎ IsPut put j e
    links j e l q c u (inl d) = M.visited.links j e l d q c u
    links j e l q c u (inr x) = subst (λ z. LeadsRight slots homes z e q ⊎ IsPut put z e) (sym x) (F.links e q c (subst (λ z. Under q (e ∷ home_of homes z)) x u))

    now : (j bin : ℕ) → j < length slots → is_table (slot_of slots j) ≡ true → done (home_of homes j) ⊎ (j ≡ i) → count (slot_of slots j) bin ≡ amount_under (g ++ h) (home_of homes j) bin
    now j bin l t (inl d) = M.counted.now j bin l t d
    now j bin l t (inr e) = absurd (true≢false (sym t ∙ (ap (λ z. is_table (slot_of slots z)) e ∙ F.is_node)))

    shares : (j label : ℕ) (l : Link) → (open'' (home_of homes j) → ⊥) → HasOneChild slots j label l → (j ≡ i) ⊎ (j ≡ i → ⊥) → SharesContent slots j l ⊎ WillHaveTwo slots put j
    shares j label l o O (inl e) = subst (λ z. SharesContent slots z l ⊎ WillHaveTwo slots put z) (sym e) (F.shares label l (subst (λ z. HasOneChild slots z label l) e O))
    shares j label l o O (inr n) = M.shares.shares j label l (λ x. closed (N.closed (home_of homes j) x)) O
      where
        closed : open'' (home_of homes j) ⊎ (home_of homes j ≡ home_of homes i) → ⊥
        closed (inl x) = o x
        closed (inr e) = n (M.has_homes.distinct j i (linked-lt slots j (down label) l O.is) lt e)

    own_child : (j label : ℕ) (l : Link) → HasOneChild slots j label l → done (home_of homes j) ⊎ (j ≡ i) → ((to : ℕ) × (l ≡ proper to)) ⊎ WillHaveTwo slots put j
    own_child j label l O (inl d) = M.shares.own_child j label l d O
    own_child j label l O (inr e) = subst (λ z. ((to : ℕ) × (l ≡ proper to)) ⊎ WillHaveTwo slots put z) (sym e) (F.own_child label l (subst (λ z. HasOneChild slots z label l) e O))

    wide : (n : ℕ) (k : PutOff) → n < length put → done (home_of homes (get_or put n k).node) ⊎ ((get_or put n k).node ≡ i) → WillHaveTwo slots put (get_or put n k).node
    wide n k l (inl d) = M.later.wide n k l d
    wide n k l (inr e) = subst (λ z. WillHaveTwo slots put z) (sym e) (F.wide (get_or put n k) (Contains-get_or put n k l) e)

-- what is strictly above a step of the node is strictly above the node, or the node
closes : {e : Step} {a : Walk} (b : Walk) → IsOpenAbove (e ∷ a) b → IsOpenAbove a b ⊎ (b ≡ a)
closes {a = a} b o = go (above_cases (open_step o))
  where
    go : (b ≡ a) ⊎ ((d : Step) × IsAbove (d ∷ b) a) → IsOpenAbove a b ⊎ (b ≡ a)
    go (inl x) = inr x
    go (inr r) = inl (above-step r.1, λ x. let l = above-length r.1 in let s = ap length x in omega (arith, l, s))

-- after all labels that points of the group go down
pub last_label : (slots : List Slot) (homes : List Walk) (g : List Weighted) (i m : ℕ) → HasHomes slots homes → i < length slots → HasSpot (spots_in g) (home_of homes i) → ((n : ℕ) (q : SpotPath) → m ≤ n → Contains (spots_in g) q → Under q (down n ∷ home_of homes i) → ⊥) → IsLast slots homes g (EndedBefore g (down m ∷ home_of homes i)) (IsOpenAbove (down m ∷ home_of homes i)) (EndedAfter g (home_of homes i)) (IsOpenAbove (home_of homes i)) i
last_label slots homes g i m H lt w none = record {
  ended = record { kept = λ b d. (d.0, to b (earlier_down d.1)); here = (w, inr itself); only = λ j k d. only j k d.0 d.1 };
  holds = λ b d. d.0;
  closed = λ b o. closes b o;
}
  where
    a : Walk
    a = home_of homes i

    to : (b : Walk) → EarlierDown m a b → IsEarlier b a ⊎ IsAbove a b
    to b (outside x) = inl x
    to b (in_content f) = inr (above-step f)
    to b (in_lesser n x f) = inr (above-step f)

    below : (j : ℕ) → j < length slots → HasSpot (spots_in g) (home_of homes j) → (a ≡ home_of homes j) ⊎ ((e : Step) × IsAbove (e ∷ a) (home_of homes j)) → EndedBefore g (down m ∷ a) (home_of homes j) ⊎ (j ≡ i)
    below j k v (inl e) = inr (H.distinct j i k lt (sym e))
    below j k v (inr (across, f)) = inl (v, content_earlier f)
    below j k v (inr (down n, f)) = go (cases_lt n m)
      where
        go : (n < m) ⊎ (m ≤ n) → EndedBefore g (down m ∷ a) (home_of homes j) ⊎ (j ≡ i)
        go (inl x) = inl (v, lesser_earlier x f)
        go (inr x) = absurd (none n v.spot x v.is_in (under_above f v.spot v.lies))

    only : (j : ℕ) → j < length slots → HasSpot (spots_in g) (home_of homes j) → IsEarlier (home_of homes j) a ⊎ IsAbove a (home_of homes j) → EndedBefore g (down m ∷ a) (home_of homes j) ⊎ (j ≡ i)
    only j k v (inl r) = inl (v, earlier_below r (further itself))
    only j k v (inr f) = below j k v (above_cases f)

-- a table has no step, so its visit is that of its home alone
pub last_table : (slots : List Slot) (homes : List Walk) (g : List Weighted) (i : ℕ) → HasHomes slots homes → i < length slots → HasSpot (spots_in g) (home_of homes i) → ((e : Step) (q : SpotPath) → Contains (spots_in g) q → Under q (e ∷ home_of homes i) → ⊥) → IsLast slots homes g (EndedBefore g (home_of homes i)) (IsOpenAbove (home_of homes i)) (EndedAfter g (home_of homes i)) (IsOpenAbove (home_of homes i)) i
last_table slots homes g i H lt w none = record {
  ended = record { kept = λ b d. (d.0, inl d.1); here = (w, inr itself); only = λ j k d. only j k d.0 d.1 };
  holds = λ b d. d.0;
  closed = λ b o. inl o;
}
  where
    below : (j : ℕ) → j < length slots → HasSpot (spots_in g) (home_of homes j) → (home_of homes i ≡ home_of homes j) ⊎ ((e : Step) × IsAbove (e ∷ home_of homes i) (home_of homes j)) → EndedBefore g (home_of homes i) (home_of homes j) ⊎ (j ≡ i)
    below j k v (inl e) = inr (H.distinct j i k lt (sym e))
    below j k v (inr r) = absurd (none r.0 v.spot v.is_in (under_above r.1 v.spot v.lies))

    only : (j : ℕ) → j < length slots → HasSpot (spots_in g) (home_of homes j) → IsEarlier (home_of homes j) (home_of homes i) ⊎ IsAbove (home_of homes i) (home_of homes j) → EndedBefore g (home_of homes i) (home_of homes j) ⊎ (j ≡ i)
    only j k v (inl r) = inl (v, r)
    only j k v (inr f) = below j k v (above_cases f)
