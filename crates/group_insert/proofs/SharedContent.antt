-- A node with one child shares that child's content, also while a group is inserted: a link of an open node changes.
use Rattle.std.proofs.Common.{◌≡◌, ℕ, ◌<◌, ◌⊎◌, inl, inr, List, ◌∷◌, Some, All, length, refl, sym, ap, ◌∙◌, subst, subst₂, arith}
use Rattle.cube_view.specs.Walks.{Step, down, across, Walk, HasSpot, IsCoarser, dimension}
use Rattle.cube_view.proofs.FinerWalks.{coarser_under, under_before, dimension-finer}
use Rattle.node_arena.specs.Amounts.{Weighted, spots_in}
use Rattle.node_arena.specs.Calls.{copied, share}
use Rattle.node_arena.specs.Shape.{home_of, HasHomes, IsLinked, HasOneChild, SharesContent}
use Rattle.node_arena.specs.Slots.{proper, shared, target, Slot, link, link_of, slot_of}
use Rattle.node_arena.specs.declared.link.Link.{Link}
use Rattle.node_arena.proofs.Links.{linked-lt, link_cases}
use Rattle.node_arena.proofs.Walks.{target-lt, link_coarser}
use Rattle.proper_path.specs.Changes.{IsGrown, Came, of_new, of_set, of_old, of_none, IsRelinked}
use Rattle.proper_path.specs.Order.{IsAbove, itself, further, IsBefore}
use Rattle.proper_path.proofs.Above.{comes_before}
use Rattle.proper_path.proofs.Grow.{still_linked, IsEmpty}
use Rattle.proper_path.proofs.Homes.{IsFree, home_free, grown_homes, grown_home, KeepsHomes, keeps_homes}
use Rattle.proper_path.proofs.Links.{same_place, proper≢shared, link-copied, share-some}
use Rattle.proper_path.proofs.Order.{above-step, above-length, before_down, before_below}
use Rattle.proper_path.proofs.Steps.{not_above_before}
use Rattle.group_insert.specs.Halfway.{WillHaveTwo, SharesWithin}
use Rattle.group_insert.specs.Later.{PutOff, link_address, IsPut}
use Rattle.group_insert.specs.Turns.{IsEarlier, crosses, EndedBefore, EndedAfter, IsOpenAbove}
use Rattle.group_insert.proofs.Earlier.{earlier_not_above, earlier-irreflexive, earlier_not_before}

-- The links of the node at a may change: it is open, and all that comes after it in the order of single visits is done.
pub record IsTurnOf (g : List Weighted) (done open' : Walk → Type 0) (a : Walk) : Type 0 where
  pub is_open : open' a
  pub not_done : done a → ⊥
  pub holds : HasSpot (spots_in g) a
  pub above : (b : Walk) (l : ℕ) → open' (down l ∷ b) → open' b
  pub after : (b : Walk) → HasSpot (spots_in g) b → IsBefore a b → done b

-- A slot may be added at x: neither x nor what comes before it in that order is done or open.
pub record IsFresh (done open' : Walk → Type 0) (x : Walk) : Type 0 where
  pub not_done : (b : Walk) → (b ≡ x) ⊎ IsBefore b x → done b → ⊥
  pub not_open : (b : Walk) → (b ≡ x) ⊎ IsBefore b x → open' b → ⊥

longer_differs : {e : Step} {a b : Walk} → IsAbove (e ∷ a) b → a ≡ b → ⊥
longer_differs f e = let l = above-length f in let s = ap length e in omega (arith, l, s)

-- so it is where the visit of one of the node's steps begins ..
pub turn_before : (g : List Weighted) (e : Step) (a : Walk) → HasSpot (spots_in g) a → IsTurnOf g (EndedBefore g (e ∷ a)) (IsOpenAbove (e ∷ a)) a
turn_before g e a w = record {
  is_open = (further itself, λ x. longer_differs itself x);
  not_done = λ d. earlier_not_above d.1 (further itself);
  holds = w;
  above = λ b l o. (above-step o.0, λ x. longer_differs o.0 x);
  after = λ b v r. (v, crosses (before_below r (further itself)));
}

pub fresh_before : (g : List Weighted) (x : Walk) → IsFresh (EndedBefore g x) (IsOpenAbove x) x
fresh_before g x = record { not_done = not_done; not_open = not_open }
  where
    not_done : (b : Walk) → (b ≡ x) ⊎ IsBefore b x → EndedBefore g x b → ⊥
    not_done b (inl e) d = earlier-irreflexive (subst (λ z. IsEarlier z x) e d.1)
    not_done b (inr r) d = earlier_not_before d.1 r

    not_open : (b : Walk) → (b ≡ x) ⊎ IsBefore b x → IsOpenAbove x b → ⊥
    not_open b (inl e) o = o.1 e
    not_open b (inr r) o = not_above_before o.0 r

-- .. and where it has ended
pub turn_after : (g : List Weighted) (e : Step) (a : Walk) → HasSpot (spots_in g) a → IsTurnOf g (EndedAfter g (e ∷ a)) (IsOpenAbove (e ∷ a)) a
turn_after g e a w = record {
  is_open = (further itself, λ x. longer_differs itself x);
  not_done = λ d. not_done d.1;
  holds = w;
  above = λ b l o. (above-step o.0, λ x. longer_differs o.0 x);
  after = λ b v r. (v, inl (crosses (before_below r (further itself))));
}
  where
    not_done : IsEarlier a (e ∷ a) ⊎ IsAbove (e ∷ a) a → ⊥
    not_done (inl r) = earlier_not_above r (further itself)
    not_done (inr f) = longer_differs f refl

-- where an only child is the node whose links change, the node of that child will have two
pub shares_apart : (slots : List Slot) (homes : List Walk) (g : List Weighted) (done open' : Walk → Type 0) (put : List PutOff) (i : ℕ) → HasHomes slots homes → IsTurnOf g done open' (home_of homes i) → SharesWithin slots homes done open' put → (j label : ℕ) (l : Link) → (open' (home_of homes j) → ⊥) → HasOneChild slots j label l → target l ≡ i → WillHaveTwo slots put j
shares_apart slots homes g done open' put i H T S j label l d O at = go (link_cases l)
  where
    lt : j < length slots
    lt = linked-lt slots j (down label) l O.is

    co : IsCoarser (down label ∷ home_of homes j) (home_of homes i)
    co = subst (λ z. IsCoarser (down label ∷ home_of homes j) (home_of homes z)) at (link_coarser slots homes H j (down label) l O.is)

    holds : HasSpot (spots_in g) (home_of homes j)
    holds = let w = T.holds in record { spot = w.spot; is_in = w.is_in; lies = under_before w.spot (down label) (home_of homes j) (coarser_under co w.spot w.lies) }

    pick : l ≡ shared (target l) → ((to : ℕ) × (l ≡ proper to)) ⊎ WillHaveTwo slots put j → WillHaveTwo slots put j
    pick s (inl p) = absurd (proper≢shared p.0 (target l) (sym p.1 ∙ s))
    pick s (inr t) = t

    go : (l ≡ proper (target l)) ⊎ (l ≡ shared (target l)) → WillHaveTwo slots put j
    go (inl p) =
        let e = (H.at_home j (target l) (down label) (O.is ∙ ap Some p)).1 in
        absurd (d (T.above (home_of homes j) label (subst open' (ap (home_of homes) (sym at) ∙ e) T.is_open)))
    go (inr s) =
        let free : IsFree slots j (down label) = λ k x. proper≢shared k (target l) (let m : Some (proper k) ≡ Some (shared (target l)) = sym x ∙ (O.is ∙ ap Some s) in cc) in
        let there : i < length slots = subst (λ z. z < length slots) at (target-lt slots homes H j (down label) l O.is) in
        let r = comes_before (down label ∷ home_of homes j) (home_of homes i) co (λ e. home_free slots homes H j (down label) lt free i there (sym e)) in
        pick s (S.own_child j label l (T.after (home_of homes j) holds (before_down r)) O)

-- an added slot of one child shares that child's content, by a link that does not change
pub record SharesAt (slots : List Slot) (i : ℕ) (e : Step) (s : Slot) (l : Link) : Type 0 where
  pub content : Link
  pub of_child : link_of slots (target l) across ≡ Some content
  pub of_node : link s across ≡ Some (shared (target content))
  pub apart : target l ≡ i → across ≡ e → ⊥

abbrev pub StandsShared : List Slot → ℕ → Step → Slot → Type 0
StandsShared slots i e s = (label : ℕ) (l : Link) → link s (down label) ≡ Some l → ((m : ℕ) (k : Link) → link s (down m) ≡ Some k → m ≡ label) → SharesAt slots i e s l

-- a node that will have two children will have them, where each child stays one
pub two_kept : (old new : List Slot) (put : List PutOff) (j : ℕ) → ((m : ℕ) → IsLinked old j (down m) → IsLinked new j (down m)) → WillHaveTwo old put j → WillHaveTwo new put j
two_kept old new put j still t = record { one = t.one; other = t.other; differ = t.differ; at_one = more t.one t.at_one; at_other = more t.other t.at_other }
  where
    more : (m : ℕ) → IsLinked old j (down m) ⊎ IsPut put j (down m) → IsLinked new j (down m) ⊎ IsPut put j (down m)
    more m (inl x) = inl (still m x)
    more m (inr x) = inr x

-- and so does one whose only child is its own or that will
pub own_kept : (old new : List Slot) (put : List PutOff) (j : ℕ) (l : Link) → (WillHaveTwo old put j → WillHaveTwo new put j) → ((to : ℕ) × (l ≡ proper to)) ⊎ WillHaveTwo old put j → ((to : ℕ) × (l ≡ proper to)) ⊎ WillHaveTwo new put j
own_kept old new put j l two (inl x) = inl x
own_kept old new put j l two (inr t) = inr (two t)

pub two_grown : (old new : List Slot) (i : ℕ) (e : Step) (s : Slot) → IsGrown old new i e s → (put : List PutOff) (j : ℕ) → j < length old → WillHaveTwo old put j → WillHaveTwo new put j
two_grown old new i e s G put j lt = two_kept old new put j (λ m x. still_linked old new i e s G j (down m) lt x)

-- the arena grows at a link of an open node
pub shares_grown_by : (old new : List Slot) (homes : List Walk) (g : List Weighted) (done open' : Walk → Type 0) (put : List PutOff) (i : ℕ) (e : Step) (s : Slot) → IsGrown old new i e s → HasHomes old homes → IsTurnOf g done open' (home_of homes i) → IsFresh done open' (e ∷ home_of homes i) → StandsShared old i e s → SharesWithin old homes done open' put → SharesWithin new (grown_homes homes i e) done open' put
shares_grown_by old new homes g done open' put i e s G H T F X S = record {
  shares = λ j label l d O. shares j label l d O (G.came j (down label));
  own_child = λ j label l d O. own_child j label l d O (G.came j (down label));
}
  where
    K : KeepsHomes old homes i e
    K = keeps_homes old homes i e H

    at_set : (j : ℕ) → j ≡ i → grown_home homes i e j ≡ home_of homes i
    at_set j x = K.was j (subst (λ z. z < length old) (sym x) G.place) ∙ ap (home_of homes) x

    before : (j label : ℕ) (l : Link) → j < length old → (j ≡ i → ⊥) → HasOneChild new j label l → HasOneChild old j label l
    before j label l lt n O = record {
      is = sym (G.old_link j (down label) lt (λ x y. n x)) ∙ O.is;
      only = λ m k x. O.only m k (G.old_link j (down m) lt (λ a b. n a) ∙ x);
    }

    shares : (j label : ℕ) (l : Link) → (open' (grown_home homes i e j) → ⊥) → HasOneChild new j label l → Came old i e s (Some (proper (length old))) j (down label) (link_of new j (down label)) → SharesContent new j l ⊎ WillHaveTwo new put j
    shares j label l d O (of_new en el) =
        let r = X label l (sym el ∙ O.is) (λ m k x. O.only m k (ap (λ z. link_of new z (down m)) en ∙ (G.new_link (down m) ∙ x))) in
        inl (record {
          content = r.content;
          of_child = G.old_link (target l) across (linked-lt old (target l) across r.content r.of_child) r.apart ∙ r.of_child;
          of_node = ap (λ z. link_of new z across) en ∙ (G.new_link across ∙ r.of_node);
        })
    shares j label l d O (of_set ei ee el) = absurd (d (subst open' (sym (at_set j ei)) T.is_open))
    shares j label l d O (of_old lt ne el) = pick (S.shares j label l d' O')
      where
        d' : open' (home_of homes j) → ⊥
        d' x = d (subst open' (sym (K.was j lt)) x)

        n : j ≡ i → ⊥
        n x = d' (subst (λ z. open' (home_of homes z)) (sym x) T.is_open)

        O' : HasOneChild old j label l
        O' = before j label l lt n O

        place : SharesContent old j l → ((target l ≡ i) × (across ≡ e)) ⊎ (target l ≡ i → across ≡ e → ⊥) → SharesContent new j l ⊎ WillHaveTwo new put j
        place c (inl x) = inr (two_grown old new i e s G put j lt (shares_apart old homes g done open' put i H T S j label l d' O' x.0))
        place c (inr x) = inl (record {
          content = c.content;
          of_child = G.old_link (target l) across (linked-lt old (target l) across c.content c.of_child) x ∙ c.of_child;
          of_node = G.old_link j across lt (λ a b. n a) ∙ c.of_node;
        })

        pick : SharesContent old j l ⊎ WillHaveTwo old put j → SharesContent new j l ⊎ WillHaveTwo new put j
        pick (inl c) = place c (same_place (target l) i across e)
        pick (inr t) = inr (two_grown old new i e s G put j lt t)
    shares j label l d O (of_none el) = let k = O.is in absurd cc

    own_child : (j label : ℕ) (l : Link) → done (grown_home homes i e j) → HasOneChild new j label l → Came old i e s (Some (proper (length old))) j (down label) (link_of new j (down label)) → ((to : ℕ) × (l ≡ proper to)) ⊎ WillHaveTwo new put j
    own_child j label l d O (of_new en el) = absurd (F.not_done (e ∷ home_of homes i) (inl refl) (subst done (ap (grown_home homes i e) en ∙ K.is_new) d))
    own_child j label l d O (of_set ei ee el) = absurd (T.not_done (subst done (at_set j ei) d))
    own_child j label l d O (of_old lt ne el) = own_kept old new put j l (two_grown old new i e s G put j lt) (S.own_child j label l d' (before j label l lt (λ x. T.not_done (subst (λ z. done (home_of homes z)) x d')) O))
      where
        d' : done (home_of homes j)
        d' = subst done (K.was j lt) d
    own_child j label l d O (of_none el) = let k = O.is in absurd cc

-- two children are not one
pub one_not_two : (slots : List Slot) (put : List PutOff) (t label : ℕ) (k : Link) → HasOneChild slots t label k → ((m : ℕ) → IsPut put t (down m) → ⊥) → WillHaveTwo slots put t → ⊥
one_not_two slots put t label k O none w = w.differ (is w.one w.at_one ∙ sym (is w.other w.at_other))
  where
    is : (m : ℕ) → IsLinked slots t (down m) ⊎ IsPut put t (down m) → m ≡ label
    is m (inl x) = O.only m x.link x.is
    is m (inr x) = absurd (none m x)

-- the shallow copy of a shared link's target shares its only child's content as the target does
pub copy_shares : (slots : List Slot) (homes : List Walk) (done open' : Walk → Type 0) (put : List PutOff) (i t : ℕ) (e : Step) → HasHomes slots homes → link_of slots i e ≡ Some (shared t) → IsBefore (home_of homes t) (e ∷ home_of homes i) → IsFresh done open' (e ∷ home_of homes i) → All (λ k. done (link_address homes k)) put → SharesWithin slots homes done open' put → StandsShared slots i e (copied (slot_of slots t))
copy_shares slots homes done open' put i t e H is before F ended S label l at only = pick (S.shares t label k.0 (F.not_open (home_of homes t) (inr before)) O)
  where
    k : (k : Link) × (link_of slots t (down label) ≡ Some k) × (l ≡ shared (target k))
    k = share-some (link_of slots t (down label)) l (sym (link-copied (slot_of slots t) (down label)) ∙ at)

    O : HasOneChild slots t label k.0
    O = record { is = k.1; only = λ m n x. only m (shared (target n)) (link-copied (slot_of slots t) (down m) ∙ ap share x) }

    none : (m : ℕ) → IsPut put t (down m) → ⊥
    none m (n, x, lt, at', p) =
        let d : done (link_address homes x) = subst (λ z. done (link_address homes z)) at' (ended n x lt) in
        let d' : done (down m ∷ home_of homes t) = subst₂ (λ a b. done (a ∷ home_of homes b)) p.1 p.0 d in
        F.not_done (down m ∷ home_of homes t) (inr (before_below before (further itself))) d'

    same : target l ≡ target k.0
    same = ap target k.2

    apart : target l ≡ i → across ≡ e → ⊥
    apart x y =
        let a : dimension (across ∷ home_of homes i) ≡ dimension (home_of homes t) = subst (λ z. dimension (z ∷ home_of homes i) ≡ dimension (home_of homes t)) (sym y) (dimension-finer (H.finer i t e is).1) in
        let b : dimension (home_of homes t) ≡ dimension (home_of homes (target k.0)) = dimension-finer (link_coarser slots homes H t (down label) k.0 k.1) in
        let c : dimension (home_of homes (target k.0)) ≡ dimension (home_of homes i) = ap (λ z. dimension (home_of homes z)) (sym same ∙ x) in
        omega (arith, a, b, c)

    pick : SharesContent slots t k.0 ⊎ WillHaveTwo slots put t → SharesAt slots i e (copied (slot_of slots t)) l
    pick (inl c) = record {
      content = c.content;
      of_child = ap (λ z. link_of slots z across) same ∙ c.of_child;
      of_node = link-copied (slot_of slots t) across ∙ ap share c.of_node;
      apart = apart;
    }
    pick (inr w) = absurd (one_not_two slots put t label k.0 O none w)

-- and an empty slot has no child
pub empty_shares : (slots : List Slot) (i : ℕ) (e : Step) (s : Slot) → IsEmpty s → StandsShared slots i e s
empty_shares slots i e s E label l at only = let n = E.no_link (down label) in absurd cc

pub two_relinked : (old new : List Slot) (i u : ℕ) (e : Step) → IsRelinked old new i e (shared u) → (put : List PutOff) (j : ℕ) → WillHaveTwo old put j → WillHaveTwo new put j
two_relinked old new i u e R put j = two_kept old new put j (λ m x. still m x (same_place j i (down m) e))
  where
    still : (m : ℕ) → IsLinked old j (down m) → ((j ≡ i) × (down m ≡ e)) ⊎ (j ≡ i → down m ≡ e → ⊥) → IsLinked new j (down m)
    still m x (inl y) = record { link = shared u; is = subst₂ (λ a b. link_of new a b ≡ Some (shared u)) (sym y.0) (sym y.1) R.set_link }
    still m x (inr n) = record { link = x.link; is = R.old_link j (down m) n ∙ x.is }

-- a link of an open node becomes shared
pub shares_relinked_by : (old new : List Slot) (homes : List Walk) (g : List Weighted) (done open' : Walk → Type 0) (put : List PutOff) (i u : ℕ) (e : Step) → IsRelinked old new i e (shared u) → HasHomes old homes → IsTurnOf g done open' (home_of homes i) → SharesWithin old homes done open' put → SharesWithin new homes done open' put
shares_relinked_by old new homes g done open' put i u e R H T S = record { shares = shares; own_child = own_child }
  where
    before : (j label : ℕ) (l : Link) → (j ≡ i → ⊥) → HasOneChild new j label l → HasOneChild old j label l
    before j label l n O = record {
      is = sym (R.old_link j (down label) (λ x y. n x)) ∙ O.is;
      only = λ m k x. O.only m k (R.old_link j (down m) (λ a b. n a) ∙ x);
    }

    shares : (j label : ℕ) (l : Link) → (open' (home_of homes j) → ⊥) → HasOneChild new j label l → SharesContent new j l ⊎ WillHaveTwo new put j
    shares j label l d O = pick (S.shares j label l d O')
      where
        n : j ≡ i → ⊥
        n x = d (subst (λ z. open' (home_of homes z)) (sym x) T.is_open)

        O' : HasOneChild old j label l
        O' = before j label l n O

        place : SharesContent old j l → ((target l ≡ i) × (across ≡ e)) ⊎ (target l ≡ i → across ≡ e → ⊥) → SharesContent new j l ⊎ WillHaveTwo new put j
        place c (inl x) = inr (two_relinked old new i u e R put j (shares_apart old homes g done open' put i H T S j label l d O' x.0))
        place c (inr x) = inl (record { content = c.content; of_child = R.old_link (target l) across x ∙ c.of_child; of_node = R.old_link j across (λ a b. n a) ∙ c.of_node })

        pick : SharesContent old j l ⊎ WillHaveTwo old put j → SharesContent new j l ⊎ WillHaveTwo new put j
        pick (inl c) = place c (same_place (target l) i across e)
        pick (inr t) = inr (two_relinked old new i u e R put j t)

    own_child : (j label : ℕ) (l : Link) → done (home_of homes j) → HasOneChild new j label l → ((to : ℕ) × (l ≡ proper to)) ⊎ WillHaveTwo new put j
    own_child j label l d O = own_kept old new put j l (two_relinked old new i u e R put j) (S.own_child j label l d (before j label l (λ x. T.not_done (subst (λ z. done (home_of homes z)) x d)) O))
