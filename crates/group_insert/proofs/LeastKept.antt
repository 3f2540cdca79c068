-- What keeps the cube the least one: links that are shared, a slot that is needed, and turns that come.
use Rattle.std.proofs.Common.{◌≡◌, ℕ, zero, suc, ◌+◌, ◌<◌, ◌≤◌, ◌⊎◌, inl, inr, List, [], ◌∷◌, ◌++◌, Some, None, length, refl, sym, ap, ap₂, ◌∙◌, subst, arith}
use Rattle.cube_view.specs.Walks.{Step, down, across, Walk, SpotPath, HasSpot, top, IsCoarser}
use Rattle.node_arena.specs.Amounts.{Weighted, spots_in}
use Rattle.node_arena.specs.Calls.{copied}
use Rattle.node_arena.specs.Shape.{home_of, HasHomes}
use Rattle.node_arena.specs.Slots.{proper, shared, Slot, link_of, slot_of}
use Rattle.node_arena.specs.declared.link.Link.{Link}
use Rattle.least_cube.specs.Least.{HasFiner, IsLeast}
use Rattle.proper_path.specs.Changes.{IsGrown, IsRelinked, Came, of_new, of_set, of_old, of_none}
use Rattle.proper_path.specs.Making.{State, home, AddsSlot, Makes, has, copies, adds}
use Rattle.proper_path.specs.Order.{IsAbove, itself, further}
use Rattle.proper_path.proofs.Homes.{grown_homes, grown_home, KeepsHomes, keeps_homes}
use Rattle.proper_path.proofs.Links.{same_place, proper≢shared}
use Rattle.group_insert.specs.Halfway.{IsHalfwayBefore}
use Rattle.group_insert.specs.Later.{PutOff}
use Rattle.group_insert.specs.LeastSoFar.{BegunBefore, BegunAt, BegunAfter, IsLeastSoFar}
use Rattle.group_insert.specs.Turns.{IsEarlier, EndedBefore, IsOpenAbove}
use Rattle.group_insert.proofs.Earlier.{earlier_below, earlier_across, EarlierDown, outside, in_content, in_lesser, earlier_down, content_earlier, lesser_earlier, open_step}
use Rattle.group_insert.proofs.NewSlots.{StandsIn, copy_stands_in, empty_stands_in}
use Rattle.group_insert.proofs.SharedContent.{fresh_before}
use Rattle.proper_path.proofs.Order.{above-step, above-length}

-- more turns have come
pub least_begun : (slots : List Slot) (homes : List Walk) (h g : List Weighted) (begun next : Walk → Type 0) → ((a : Walk) → begun a → next a) → IsLeastSoFar slots homes h g begun → IsLeastSoFar slots homes h g next
least_begun slots homes h g begun next to L = record {
  least = L.least;
  needed = λ i j e is n. L.needed i j e is (λ b. n (to (e ∷ home_of homes i) b));
  wanted = λ i e l is n. L.wanted i e l is (λ b. n (to (e ∷ home_of homes i) b));
}

-- the links are as they were
pub least_same : (old new : List Slot) (homes : List Walk) (h g : List Weighted) (begun : Walk → Type 0) → ((i : ℕ) (e : Step) → link_of new i e ≡ link_of old i e) → IsLeastSoFar old homes h g begun → IsLeastSoFar new homes h g begun
least_same old new homes h g begun same L = record {
  least = λ i j e is. L.least i j e (sym (same i e) ∙ is);
  needed = λ i j e is. L.needed i j e (sym (same i e) ∙ is);
  wanted = λ i e l is. L.wanted i e l (sym (same i e) ∙ is);
}

-- a link whose turn has come is shared
pub least_relinked : (old new : List Slot) (homes : List Walk) (h g : List Weighted) (begun : Walk → Type 0) (i u : ℕ) (e : Step) → IsRelinked old new i e (shared u) → begun (e ∷ home_of homes i) → IsLeastSoFar old homes h g begun → IsLeastSoFar new homes h g begun
least_relinked old new homes h g begun i u e R b L = record {
  least = λ j k f is. L.least j k f (was j k f is);
  needed = λ j k f is. L.needed j k f (was j k f is);
  wanted = λ j f l is n. wanted j f l is n (same_place j i f e);
}
  where
    was : (j k : ℕ) (f : Step) → link_of new j f ≡ Some (proper k) → link_of old j f ≡ Some (proper k)
    was j k f is = go (same_place j i f e)
      where
        go : ((j ≡ i) × (f ≡ e)) ⊎ (j ≡ i → f ≡ e → ⊥) → link_of old j f ≡ Some (proper k)
        go (inl y) =
            let x : link_of new j f ≡ Some (shared u) = ap₂ (λ a b. link_of new a b) y.0 y.1 ∙ R.set_link in
            let m : Some (proper k) ≡ Some (shared u) = sym is ∙ x in
            absurd (proper≢shared k u cc)
        go (inr n) = sym (R.old_link j f n) ∙ is

    wanted : (j : ℕ) (f : Step) (l : Link) → link_of new j f ≡ Some l → (begun (f ∷ home_of homes j) → ⊥) → ((j ≡ i) × (f ≡ e)) ⊎ (j ≡ i → f ≡ e → ⊥) → HasSpot (spots_in h) (f ∷ home_of homes j)
    wanted j f l is n (inl y) = absurd (n (subst begun (ap₂ (λ a b. b ∷ home_of homes a) (sym y.0) (sym y.1)) b))
    wanted j f l is n (inr d) = L.wanted j f l (sym (R.old_link j f d) ∙ is) n

-- a slot is added whose address is needed
pub least_grown : (dims : ℕ) (old new : List Slot) (homes : List Walk) (h g : List Weighted) (begun : Walk → Type 0) (i : ℕ) (e : Step) (s : Slot) → IsGrown old new i e s → HasHomes old homes → StandsIn dims old homes i e s h g → (HasFiner (spots_in (g ++ h)) (e ∷ home_of homes i) → ⊥) → begun (e ∷ home_of homes i) → IsLeastSoFar old homes h g begun → IsLeastSoFar new (grown_homes homes i e) h g begun
least_grown dims old new homes h g begun i e s G H S none b L = record {
  least = λ j k f is F. least j k f is F (G.came j f);
  needed = λ j k f is n F. needed j k f is n F (G.came j f);
  wanted = λ j f l is n. wanted j f l is n (G.came j f);
}
  where
    K : KeepsHomes old homes i e
    K = keeps_homes old homes i e H

    at_set : (j : ℕ) (f : Step) → j ≡ i → f ≡ e → f ∷ grown_home homes i e j ≡ e ∷ home_of homes i
    at_set j f x y = ap₂ (λ a b. a ∷ b) y (K.was j (subst (λ z. z < length old) (sym x) G.place) ∙ ap (home_of homes) x)

    at_old : (j : ℕ) (f : Step) → j < length old → f ∷ grown_home homes i e j ≡ f ∷ home_of homes j
    at_old j f lt = ap (λ z. f ∷ z) (K.was j lt)

    least : (j k : ℕ) (f : Step) → link_of new j f ≡ Some (proper k) → HasFiner (spots_in (g ++ h)) (f ∷ grown_home homes i e j) → Came old i e s (Some (proper (length old))) j f (link_of new j f) → ⊥
    least j k f is F (of_new en el) = S.fits.no_proper f k (sym el ∙ is)
    least j k f is F (of_set ei ee el) = none (subst (HasFiner (spots_in (g ++ h))) (at_set j f ei ee) F)
    least j k f is F (of_old lt ne el) = L.least j k f (sym el ∙ is) (subst (HasFiner (spots_in (g ++ h))) (at_old j f lt) F)
    least j k f is F (of_none el) = absurd cc

    needed : (j k : ℕ) (f : Step) → link_of new j f ≡ Some (proper k) → (begun (f ∷ grown_home homes i e j) → ⊥) → HasFiner (spots_in h) (f ∷ grown_home homes i e j) → Came old i e s (Some (proper (length old))) j f (link_of new j f) → ⊥
    needed j k f is n F (of_new en el) = S.fits.no_proper f k (sym el ∙ is)
    needed j k f is n F (of_set ei ee el) = n (subst begun (sym (at_set j f ei ee)) b)
    needed j k f is n F (of_old lt ne el) = L.needed j k f (sym el ∙ is) (λ x. n (subst begun (sym (at_old j f lt)) x)) (subst (HasFiner (spots_in h)) (at_old j f lt) F)
    needed j k f is n F (of_none el) = absurd cc

    wanted : (j : ℕ) (f : Step) (l : Link) → link_of new j f ≡ Some l → (begun (f ∷ grown_home homes i e j) → ⊥) → Came old i e s (Some (proper (length old))) j f (link_of new j f) → HasSpot (spots_in h) (f ∷ grown_home homes i e j)
    wanted j f l is n (of_new en el) = subst (λ z. HasSpot (spots_in h) (f ∷ z)) (sym K.is_new ∙ ap (grown_home homes i e) (sym en)) (S.wanted f l (sym el ∙ is))
    wanted j f l is n (of_set ei ee el) = absurd (n (subst begun (sym (at_set j f ei ee)) b))
    wanted j f l is n (of_old lt ne el) = subst (HasSpot (spots_in h)) (sym (at_old j f lt)) (L.wanted j f l (sym el ∙ is) (λ x. n (subst begun (sym (at_old j f lt)) x)))
    wanted j f l is n (of_none el) = absurd cc

least_added : (dims : ℕ) (h g : List Weighted) (begun : Walk → Type 0) (a b : State) (i j : ℕ) (e : Step) (s : Slot) → HasHomes a.slots a.homes → StandsIn dims a.slots a.homes i e s h g → (HasFiner (spots_in (g ++ h)) (e ∷ home a i) → ⊥) → begun (e ∷ home a i) → AddsSlot a i e s j b → IsLeastSoFar a.slots a.homes h g begun → IsLeastSoFar b.slots b.homes h g begun
least_added dims h g begun a b i j e s H S none bg D L = subst (λ x. IsLeastSoFar b.slots x h g begun) (sym D.homes) (least_grown dims a.slots b.slots a.homes h g begun i e s D.grown H S none bg L)

-- the link of the step at hand is made proper, where it is needed or is proper already
pub least_made : (dims : ℕ) (h g : List Weighted) (put : List PutOff) (begun : Walk → Type 0) (a b : State) (i j : ℕ) (e : Step) → IsHalfwayBefore dims a.slots a.homes h g put (e ∷ home a i) → i < length a.slots → begun (e ∷ home a i) → (((k : ℕ) → link_of a.slots i e ≡ Some (proper k) → ⊥) → HasFiner (spots_in (g ++ h)) (e ∷ home a i) → ⊥) → Makes dims a i e j b → IsLeastSoFar a.slots a.homes h g begun → IsLeastSoFar b.slots b.homes h g begun
least_made dims h g put begun a b i j e M lt bg none (has is same) L = subst (λ (z : State). IsLeastSoFar z.slots z.homes h g begun) (sym same) L
least_made dims h g put begun a b i j e M lt bg none (copies t is n D) L =
    least_added dims h g begun a b i j e (copied (slot_of a.slots t)) M.has_homes
    (copy_stands_in dims a.slots a.homes h g (EndedBefore g (e ∷ home a i)) (IsOpenAbove (e ∷ home a i)) put i t e M (fresh_before g (e ∷ home a i)) lt is)
    (none (λ k x. proper≢shared k t (let m : Some (proper k) ≡ Some (shared t) = sym x ∙ is in cc))) bg D L
least_made dims h g put begun a b i j e M lt bg none (adds s is nl nc kind D) L =
    least_added dims h g begun a b i j e s M.has_homes
    (empty_stands_in dims a.slots a.homes h g (EndedBefore g (e ∷ home a i)) (IsOpenAbove (e ∷ home a i)) put i e s M lt is (record { no_link = nl; no_count = nc }) kind)
    (none (λ k x. let m : None ≡ Some (proper k) = sym is ∙ x in cc)) bg D L

-- no home of a least cube has a finer address with all its spots
top_same : {b : Walk} → IsCoarser [] b → [] ≡ b
top_same top = refl

pub home_least : (slots : List Slot) (homes : List Walk) (all : List SpotPath) → HasHomes slots homes → IsLeast slots homes all → (i : ℕ) → i < length slots → HasFiner all (home_of homes i) → ⊥
home_least slots homes all H L zero lt F =
    let G : HasFiner all [] = subst (HasFiner all) H.root F in
    G.differs (top_same G.finer)
home_least slots homes all H L (suc i) lt F =
    let o = H.owner (suc i) (omega (arith)) lt in
    L o.by (suc i) o.step o.owns (subst (HasFiner all) (H.at_home o.by (suc i) o.step o.owns).1 F)

-- turns, one after the other: from a node to its content ..
pub begun_content : {a : Walk} (b : Walk) → BegunAt a b → BegunAt (across ∷ a) b
begun_content b (inl r) = inl (earlier_below r (further itself))
begun_content b (inr f) = inr (further f)

above_open : {e : Step} {a : Walk} (b : Walk) → IsAbove b a → IsOpenAbove (e ∷ a) b
above_open {a = a} b f = (further f, λ x. let l = above-length f in let s = ap length x in omega (arith, l, s))

-- .. or to its labels
pub begun_labels : {a : Walk} (m : ℕ) (b : Walk) → BegunAt a b → BegunBefore (down m ∷ a) b
begun_labels m b (inl r) = inl (earlier_below r (further itself))
begun_labels m b (inr f) = inr (above_open b f)

-- what stands on the way to a step is the step's address or stands on the way to the node
step_above : {e : Step} {a : Walk} (b : Walk) → IsAbove b (e ∷ a) → (b ≡ e ∷ a) ⊎ IsAbove b a
step_above b itself = inl refl
step_above b (further f) = inr f

-- after the content the labels
pub begun_past_content : {a : Walk} (m : ℕ) (b : Walk) → BegunAfter (across ∷ a) b → BegunBefore (down m ∷ a) b
begun_past_content m b (inl (inl r)) = inl (earlier_below (earlier_across r) (further itself))
begun_past_content {a} m b (inl (inr f)) = go (step_above b f)
  where
    go : (b ≡ across ∷ a) ⊎ IsAbove b a → BegunBefore (down m ∷ a) b
    go (inl x) = inl (content_earlier (subst (IsAbove (across ∷ a)) (sym x) itself))
    go (inr y) = inr (above_open b y)
begun_past_content m b (inr f) = inl (content_earlier f)

from_earlier : {a : Walk} (k m : ℕ) (b : Walk) → k ≤ m → EarlierDown k a b → IsEarlier b (down m ∷ a)
from_earlier k m b le (outside r) = earlier_below r (further itself)
from_earlier k m b le (in_content f) = content_earlier f
from_earlier k m b le (in_lesser n x f) = lesser_earlier (omega (arith, x, le)) f

-- from a label to a later one
pub begun_over : {a : Walk} (k m : ℕ) → k ≤ m → (b : Walk) → BegunBefore (down k ∷ a) b → BegunBefore (down m ∷ a) b
begun_over k m le b (inl r) = inl (from_earlier k m b le (earlier_down r))
begun_over k m le b (inr o) = inr (above_open b (open_step o))

pub begun_label : {a : Walk} (b : Walk) → BegunBefore a b → BegunAt a b
begun_label b (inl r) = inl r
begun_label b (inr o) = inr o.0

pub begun_past : {a : Walk} (m : ℕ) (b : Walk) → BegunAfter (down m ∷ a) b → BegunBefore (down (m + 1) ∷ a) b
begun_past m b (inl (inl r)) = inl (from_earlier m (m + 1) b (omega arith) (earlier_down r))
begun_past {a} m b (inl (inr f)) = go (step_above b f)
  where
    go : (b ≡ down m ∷ a) ⊎ IsAbove b a → BegunBefore (down (m + 1) ∷ a) b
    go (inl x) = inl (lesser_earlier (omega arith) (subst (IsAbove (down m ∷ a)) (sym x) itself))
    go (inr y) = inr (above_open b y)
begun_past m b (inr f) = inl (lesser_earlier (omega arith) f)

-- and the end of the node's visit
pub begun_ends : {a : Walk} (m : ℕ) (b : Walk) → BegunBefore (down m ∷ a) b → BegunAfter a b
begun_ends m b (inl r) = go (earlier_down r)
  where
    go : {a : Walk} → EarlierDown m a b → BegunAfter a b
    go (outside x) = inl (inl x)
    go (in_content f) = inr (above-step f)
    go (in_lesser n x f) = inr (above-step f)
begun_ends m b (inr o) = inl (inr (open_step o))
