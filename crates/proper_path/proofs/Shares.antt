-- A node with one child shares that child's content, also in the middle of an insertion.
use Rattle.std.proofs.Common.{◌≡◌, ℕ, ◌<◌, ◌⊎◌, inl, inr, List, [], ◌∷◌, Some, Contains, length, refl, sym, ap, ◌∙◌, subst, ap₂}
use Rattle.cube_view.specs.Walks.{Step, down, across, Walk, SpotPath, Under, IsCoarser, HasSpot}
use Rattle.proper_path.specs.Order.{IsAbove, itself, further}
use Rattle.node_arena.specs.declared.link.Link.{Link}
use Rattle.node_arena.specs.Slots.{proper, shared, target, Slot, link_of}
use Rattle.node_arena.specs.Shape.{home_of, HasHomes, HasOneChild, SharesContent, SharesWithChild}
use Rattle.proper_path.specs.Midway.{SharesBetween, HasTwoChildren, IsClosed, IsNext}
use Rattle.proper_path.specs.Changes.{IsGrown, Came, of_new, of_set, of_old, of_none, IsRelinked}
use Rattle.proper_path.proofs.Above.{comes_before}
use Rattle.cube_view.proofs.FinerWalks.{coarser_under, under_before}
use Rattle.node_arena.proofs.Links.{linked-lt}
use Rattle.proper_path.proofs.Links.{cases_step, same_place}
use Rattle.proper_path.proofs.Homes.{IsFree, FitsUnder, grown_homes, grown_home, KeepsHomes, keeps_homes}
use Rattle.proper_path.proofs.Grow.{still_linked}
use Rattle.node_arena.proofs.Walks.{target-lt, link_coarser}
use Rattle.proper_path.proofs.Order.{before_down}
use Rattle.proper_path.proofs.Links.{proper≢shared}
use Rattle.node_arena.specs.Amounts.{Weighted, spots_in}

-- two addresses are equal or not
cases_address : (a b : Walk) → (a ≡ b) ⊎ (a ≡ b → ⊥)
cases_address [] [] = inl refl
cases_address [] (e ∷ b) = inr (λ x. cc)
cases_address (e ∷ a) [] = inr (λ x. cc)
cases_address (e ∷ a) (f ∷ b) = go (cases_step e f) (cases_address a b)
  where
    go : (e ≡ f) ⊎ (e ≡ f → ⊥) → (a ≡ b) ⊎ (a ≡ b → ⊥) → (e ∷ a ≡ f ∷ b) ⊎ (e ∷ a ≡ f ∷ b → ⊥)
    go (inl x) (inl y) = inl (ap₂ ◌∷◌ x y)
    go (inl x) (inr n) = inr (λ z. let w : a ≡ b = cc in n w)
    go (inr n) y = inr (λ z. let w : e ≡ f = cc in n w)

-- a child of what was visited was visited, or doesn't hold p; so was a child of what doesn't hold p
pub child_settled : (slots : List Slot) (homes : List Walk) (p : Weighted) (done : Walk → Type 0) → HasHomes slots homes → IsClosed p done → (j label : ℕ) (l : Link) → link_of slots j (down label) ≡ Some l → (done (home_of homes j) ⊎ (Under p.spot (home_of homes j) → ⊥)) → Under p.spot (home_of homes (target l)) → done (home_of homes (target l))
child_settled slots homes p done H closed j label l is d u = pick d (cases_address (down label ∷ home_of homes j) (home_of homes (target l)))
  where
    co : IsCoarser (down label ∷ home_of homes j) (home_of homes (target l))
    co = link_coarser slots homes H j (down label) l is

    at_node : Under p.spot (home_of homes j)
    at_node = under_before p.spot (down label) (home_of homes j) (coarser_under co p.spot u)

    pick : (done (home_of homes j) ⊎ (Under p.spot (home_of homes j) → ⊥)) → (down label ∷ home_of homes j ≡ home_of homes (target l)) ⊎ (down label ∷ home_of homes j ≡ home_of homes (target l) → ⊥) → done (home_of homes (target l))
    pick (inr n) c = absurd (n at_node)
    pick (inl x) (inl e) = closed (home_of homes j) (home_of homes (target l)) x u (inl (subst (λ z. IsAbove (home_of homes j) z) e (further itself)))
    pick (inl x) (inr n) = closed (home_of homes j) (home_of homes (target l)) x u (inr (before_down (comes_before (down label ∷ home_of homes j) (home_of homes (target l)) co n)))

-- a node that was visited, or that doesn't hold p, is not one on p's path that isn't visited yet
apart_from : (homes : List Walk) (p : Weighted) (done : Walk → Type 0) (i : ℕ) → Under p.spot (home_of homes i) → (done (home_of homes i) → ⊥) → (j : ℕ) → (done (home_of homes j) ⊎ (Under p.spot (home_of homes j) → ⊥)) → j ≡ i → ⊥
apart_from homes p done i u here j (inl d) x = here (subst (λ z. done (home_of homes z)) x d)
apart_from homes p done i u here j (inr n) x = n (subst (λ z. Under p.spot (home_of homes z)) (sym x) u)

-- the arena grows at a link of a node on p's path that isn't visited yet
pub shares_grown : (old new : List Slot) (homes : List Walk) (i : ℕ) (e : Step) (s : Slot) (p : Weighted) (done : Walk → Type 0) → IsGrown old new i e s → HasHomes old homes → FitsUnder old homes (e ∷ home_of homes i) s → IsClosed p done → Under p.spot (e ∷ home_of homes i) → (done (home_of homes i) → ⊥) → (done (e ∷ home_of homes i) → ⊥) → (e ≡ across → (label : ℕ) → Under p.spot (down label ∷ home_of homes i) → HasTwoChildren old i) → SharesBetween old homes p done → SharesBetween new (grown_homes homes i e) p done
shares_grown old new homes i e s p done G H F closed u here there two S = record {
  shares = λ j label l d O. shares j label l d O (G.came j (down label));
  many = λ j to label is v. many j to label is v (G.came j across);
}
  where
    K : KeepsHomes old homes i e
    K = keeps_homes old homes i e H

    settled : (j : ℕ) → j < length old → (done (grown_home homes i e j) ⊎ (Under p.spot (grown_home homes i e j) → ⊥)) → done (home_of homes j) ⊎ (Under p.spot (home_of homes j) → ⊥)
    settled j l d = subst (λ z. done z ⊎ (Under p.spot z → ⊥)) (K.was j l) d

    on_path : Under p.spot (home_of homes i)
    on_path = under_before p.spot e (home_of homes i) u

    shares : (j label : ℕ) (l : Link) → (done (grown_home homes i e j) ⊎ (Under p.spot (grown_home homes i e j) → ⊥)) → HasOneChild new j label l → Came old i e s (Some (proper (length old))) j (down label) (link_of new j (down label)) → SharesContent new j l
    shares j label l d O (of_new en el) = absurd (settled_new d)
      where
        at_new : grown_home homes i e j ≡ e ∷ home_of homes i
        at_new = ap (grown_home homes i e) en ∙ K.is_new

        settled_new : (done (grown_home homes i e j) ⊎ (Under p.spot (grown_home homes i e j) → ⊥)) → ⊥
        settled_new (inl x) = there (subst done at_new x)
        settled_new (inr n) = n (subst (Under p.spot) (sym at_new) u)
    shares j label l d O (of_set ei ee el) = absurd (apart_from homes p done i on_path here j (settled j (subst (λ z. z < length old) (sym ei) G.place) d) ei)
    shares j label l d O (of_old lt ne el) = record { content = c.content; of_child = G.old_link (target l) across (target-lt old homes H j (down label) l is) apart ∙ c.of_child; of_node = G.old_link j across lt (λ x y. apart_from homes p done i on_path here j d' x) ∙ c.of_node }
      where
        d' : done (home_of homes j) ⊎ (Under p.spot (home_of homes j) → ⊥)
        d' = settled j lt d

        is : link_of old j (down label) ≡ Some l
        is = sym el ∙ O.is

        c : SharesContent old j l
        c = S.shares j label l d' (record { is = is; only = λ m k x. O.only m k (G.old_link j (down m) lt (λ a b. apart_from homes p done i on_path here j d' a) ∙ x) })

        apart : target l ≡ i → across ≡ e → ⊥
        apart x y = here (subst (λ z. done (home_of homes z)) x (child_settled old homes p done H closed j label l is d' (subst (λ z. Under p.spot (home_of homes z)) (sym x) on_path)))
    shares j label l d O (of_none el) = let k = O.is in absurd cc

    more : (j : ℕ) → j < length old → HasTwoChildren old j → HasTwoChildren new j
    more j lt t =
        let a = still_linked old new i e s G j (down t.one) lt (record { link = t.first; is = t.is_first }) in
        let b = still_linked old new i e s G j (down t.other) lt (record { link = t.second; is = t.is_second }) in
        record { one = t.one; other = t.other; differ = t.differ; first = a.link; second = b.link; is_first = a.is; is_second = b.is }

    many : (j to label : ℕ) → link_of new j across ≡ Some (proper to) → Under p.spot (down label ∷ grown_home homes i e j) → Came old i e s (Some (proper (length old))) j across (link_of new j across) → HasTwoChildren new j
    many j to label is v (of_new en el) = absurd (F.no_proper across to (sym el ∙ is))
    many j to label is v (of_set ei ee el) =
        let lt : j < length old = subst (λ z. z < length old) (sym ei) G.place in
        more j lt (subst (HasTwoChildren old) (sym ei) (two (sym ee) label (subst (λ z. Under p.spot (down label ∷ z)) (K.was j lt ∙ ap (home_of homes) ei) v)))
    many j to label is v (of_old lt ne el) = more j lt (S.many j to label (sym el ∙ is) (subst (λ z. Under p.spot (down label ∷ z)) (K.was j lt) v))
    many j to label is v (of_none el) = absurd cc

-- the link of node i may lead to u as a shared one, where `sure` are the old spots and `all` the new ones too
pub record MayLead (slots : List Slot) (homes : List Walk) (sure all : List SpotPath) (i u : ℕ) (e : Step) : Type 0 where
  pub free : IsFree slots i e
  pub in_range : u < length slots
  pub coarser : IsCoarser (e ∷ home_of homes i) (home_of homes u)
  pub wanted : HasSpot all (e ∷ home_of homes i)
  pub agrees : (q : SpotPath) → Contains sure q → Under q (e ∷ home_of homes i) → Under q (home_of homes u)

-- the link of node i, which is not visited yet, is set to lead to u as a shared link
pub record MayShare (slots : List Slot) (homes : List Walk) (h : List Weighted) (p : Weighted) (done : Walk → Type 0) (i u : ℕ) (e : Step) : Type 0 where
  pub leads : MayLead slots homes (spots_in h) (spots_in (p ∷ h)) i u e
  pub open leads use *
  pub open_node : done (home_of homes i) → ⊥

-- the content of a node on p's path that isn't visited yet is shared anew
pub shares_relinked : (old new : List Slot) (homes : List Walk) (h : List Weighted) (i u : ℕ) (p : Weighted) (done : Walk → Type 0) → IsRelinked old new i across (shared u) → HasHomes old homes → IsClosed p done → Under p.spot (home_of homes i) → MayShare old homes h p done i u across → SharesBetween old homes p done → SharesBetween new homes p done
shares_relinked old new homes h i u p done R H closed v may S = record {
  shares = shares;
  many = λ j to label is w. many j to label is w (same_place j i across across);
}
  where
    below : (j m : ℕ) → link_of new j (down m) ≡ link_of old j (down m)
    below j m = R.old_link j (down m) (λ x y. let z : ⊥ = cc in z)

    shares : (j label : ℕ) (l : Link) → (done (home_of homes j) ⊎ (Under p.spot (home_of homes j) → ⊥)) → HasOneChild new j label l → SharesContent new j l
    shares j label l d O = record { content = c.content; of_child = R.old_link (target l) across apart ∙ c.of_child; of_node = R.old_link j across (λ x y. apart_from homes p done i v may.open_node j d x) ∙ c.of_node }
      where
        is : link_of old j (down label) ≡ Some l
        is = sym (below j label) ∙ O.is

        c : SharesContent old j l
        c = S.shares j label l d (record { is = is; only = λ m k x. O.only m k (below j m ∙ x) })

        apart : target l ≡ i → across ≡ across → ⊥
        apart x y = may.open_node (subst (λ z. done (home_of homes z)) x (child_settled old homes p done H closed j label l is d (subst (λ z. Under p.spot (home_of homes z)) (sym x) v)))

    many : (j to label : ℕ) → link_of new j across ≡ Some (proper to) → Under p.spot (down label ∷ home_of homes j) → ((j ≡ i) × (across ≡ across)) ⊎ (j ≡ i → across ≡ across → ⊥) → HasTwoChildren new j
    many j to label is w (inl x) = let k : link_of new j across ≡ Some (shared u) = ap (λ z. link_of new z across) x.0 ∙ R.set_link in absurd (proper≢shared to u (let m : Some (proper to) ≡ Some (shared u) = sym is ∙ k in cc))
    many j to label is w (inr n) =
        let t = S.many j to label (sym (R.old_link j across n) ∙ is) w in
        record { one = t.one; other = t.other; differ = t.differ; first = t.first; second = t.second; is_first = below j t.one ∙ t.is_first; is_second = below j t.other ∙ t.is_second }

-- the visit of a node ends
pub shares_ends : (slots : List Slot) (homes : List Walk) (p : Weighted) (done next : Walk → Type 0) (i : ℕ) → IsNext slots homes p done next i → SharesWithChild slots i → SharesBetween slots homes p done → SharesBetween slots homes p next
shares_ends slots homes p done next i N own S = record {
  shares = λ j label l d O. shares j label l O d;
  many = S.many;
}
  where
    shares : (j label : ℕ) (l : Link) → HasOneChild slots j label l → (next (home_of homes j) ⊎ (Under p.spot (home_of homes j) → ⊥)) → SharesContent slots j l
    shares j label l O (inl d) = pick (N.only j (linked-lt slots j (down label) l O.is) d)
      where
        pick : done (home_of homes j) ⊎ (j ≡ i) → SharesContent slots j l
        pick (inl x) = S.shares j label l (inl x) O
        pick (inr e) = subst (λ z. SharesContent slots z l) (sym e) (own label l (subst (λ z. HasOneChild slots z label l) e O))
    shares j label l O (inr n) = S.shares j label l (inr n) O
