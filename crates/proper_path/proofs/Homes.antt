-- The homes of the slots, as the arena grows.
use Rattle.std.proofs.Common.{◌≡◌, ℕ, zero, suc, ◌<◌, ◌≤◌, ◌⊎◌, inl, inr, List, [], ◌∷◌, ◌++◌, Some, length, sym, ap, ◌∙◌, subst, arith, ap₂, subst₂}
use Rattle.std.proofs.lemmas.List.{get_or_append_left, get_or_push, length_push}
use Rattle.std.proofs.lemmas.Bool.{cases_lt}
use Rattle.cube_view.specs.Walks.{Step, Walk, IsCoarser}
use Rattle.node_arena.specs.Slots.{target, proper, shared, Slot, link, link_of}
use Rattle.node_arena.specs.Shape.{home_of, HasHomes, IsOwned}
use Rattle.proper_path.specs.Changes.{IsGrown, Came, of_new, of_set, of_old, of_none}
use Rattle.node_arena.proofs.Links.{linked-lt}
use Rattle.proper_path.proofs.Links.{proper≢shared}

-- the homes after a slot was added for the link at i and e, with the link's address for the slot at their end
abbrev pub grown_homes : List Walk → ℕ → Step → List Walk
grown_homes homes i e = homes ++ (e ∷ home_of homes i) ∷ []

-- the home of a slot among them
abbrev pub grown_home : List Walk → ℕ → Step → ℕ → Walk
grown_home homes i e j = home_of (grown_homes homes i e) j

-- each old slot keeps its home, and the added slot's is the link's address
pub record KeepsHomes (old : List Slot) (homes : List Walk) (i : ℕ) (e : Step) : Type 0 where
  pub was : (j : ℕ) → j < length old → grown_home homes i e j ≡ home_of homes j
  pub is_new : grown_home homes i e (length old) ≡ e ∷ home_of homes i

pub keeps_homes : (old : List Slot) (homes : List Walk) (i : ℕ) (e : Step) → HasHomes old homes → KeepsHomes old homes i e
keeps_homes old homes i e H = record {
  was = λ j l. get_or_append_left homes ((e ∷ home_of homes i) ∷ []) [] j (omega (arith, H.size));
  is_new = get_or_push homes (e ∷ home_of homes i) [] (length old) H.size;
}

-- the link at i and e is no proper one
abbrev pub IsFree : List Slot → ℕ → Step → Type 0
IsFree slots i e = (j : ℕ) → link_of slots i e ≡ Some (proper j) → ⊥

-- so no slot has its home at the link's address
pub home_free : (slots : List Slot) (homes : List Walk) → HasHomes slots homes → (i : ℕ) (e : Step) → i < length slots → IsFree slots i e → (j : ℕ) → j < length slots → home_of homes j ≡ e ∷ home_of homes i → ⊥
home_free slots homes H i e l free zero lt eq = let r : [] ≡ e ∷ home_of homes i = sym H.root ∙ eq in absurd cc
home_free slots homes H i e l free (suc k) lt eq =
    let o = H.owner (suc k) (omega arith) lt in
    let a = H.at_home o.by (suc k) o.step o.owns in
    let same : o.step ∷ home_of homes o.by ≡ e ∷ home_of homes i = sym a.1 ∙ eq in
    let s : o.step ≡ e = cc in
    let b : home_of homes o.by ≡ home_of homes i = cc in
    let i' : o.by ≡ i = H.distinct o.by i (linked-lt slots o.by o.step (proper (suc k)) o.owns) l b in
    free (suc k) (subst (λ x. link_of slots x e ≡ Some (proper (suc k))) i' (subst (λ x. link_of slots o.by x ≡ Some (proper (suc k))) s o.owns))

-- a slot whose links are shared, and lead to slots that are finer than their address
pub record FitsUnder (slots : List Slot) (homes : List Walk) (a : Walk) (s : Slot) : Type 0 where
  pub no_proper : (f : Step) (j : ℕ) → link s f ≡ Some (proper j) → ⊥
  pub finer : (f : Step) (j : ℕ) → link s f ≡ Some (shared j) → (j < length slots) × IsCoarser (f ∷ a) (home_of homes j)

-- an index of the new arena is an old one or the added one
pub cases_grown : (n j m : ℕ) → m ≡ suc n → j < m → (j < n) ⊎ (j ≡ n)
cases_grown n j m e l = go (cases_lt j n)
  where
    go : (j < n) ⊎ (n ≤ j) → (j < n) ⊎ (j ≡ n)
    go (inl x) = inl x
    go (inr x) = inr (omega arith)

pub homes_grown : (old new : List Slot) (homes : List Walk) (i : ℕ) (e : Step) (s : Slot) → IsGrown old new i e s → HasHomes old homes → IsFree old i e → FitsUnder old homes (e ∷ home_of homes i) s → HasHomes new (grown_homes homes i e)
homes_grown old new homes i e s G H free fits = record {
  owned = record {
    size = omega (arith, length_push homes (e ∷ home_of homes i), H.size, G.size);
    some = omega (arith, G.size);
    root = K.was 0 H.some ∙ H.root;
    distinct = λ j k lj lk eq. distinct j k eq (cases_grown (length old) j (length new) G.size lj) (cases_grown (length old) k (length new) G.size lk);
    owner = λ j p l. owner j p (cases_grown (length old) j (length new) G.size l);
    at_home = λ j k f h. at_home j k f h (G.came j f);
  };
  finer = λ j k f h. finer j k f h (G.came j f);
}
  where
    K : KeepsHomes old homes i e
    K = keeps_homes old homes i e H

    distinct : (j k : ℕ) → grown_home homes i e j ≡ grown_home homes i e k → (j < length old) ⊎ (j ≡ length old) → (k < length old) ⊎ (k ≡ length old) → j ≡ k
    distinct j k eq (inl a) (inl b) = H.distinct j k a b (sym (K.was j a) ∙ (eq ∙ K.was k b))
    distinct j k eq (inl a) (inr b) = absurd (home_free old homes H i e G.place free j a (sym (K.was j a) ∙ (eq ∙ (ap (grown_home homes i e) b ∙ K.is_new))))
    distinct j k eq (inr a) (inl b) = absurd (home_free old homes H i e G.place free k b (sym (K.was k b) ∙ (sym eq ∙ (ap (grown_home homes i e) a ∙ K.is_new))))
    distinct j k eq (inr a) (inr b) = a ∙ sym b

    owner : (j : ℕ) → 0 < j → (j < length old) ⊎ (j ≡ length old) → IsOwned new j
    owner j p (inl l) =
        let o = H.owner j p l in
        record { by = o.by; step = o.step; owns = G.old_link o.by o.step (linked-lt old o.by o.step (proper j) o.owns) (λ x y. free j (subst (λ z. link_of old z e ≡ Some (proper j)) x (subst (λ z. link_of old o.by z ≡ Some (proper j)) y o.owns))) ∙ o.owns }
    owner j p (inr x) = record { by = i; step = e; owns = G.set_link ∙ ap (λ z. Some (proper z)) (sym x) }

    at_home : (j k : ℕ) (f : Step) → link_of new j f ≡ Some (proper k) → Came old i e s (Some (proper (length old))) j f (link_of new j f) → (k < length new) × (grown_home homes i e k ≡ f ∷ grown_home homes i e j)
    at_home j k f h (of_new en el) = absurd (fits.no_proper f k (sym el ∙ h))
    at_home j k f h (of_set ei ee el) =
        let kp : proper k ≡ proper (length old) = cc in let kn : k ≡ length old = ap target kp in
        (omega (arith, G.size), ap (grown_home homes i e) kn ∙ (K.is_new ∙ ap₂ ◌∷◌ (sym ee) (ap (home_of homes) (sym ei) ∙ sym (K.was j (subst (λ z. z < length old) (sym ei) G.place)))))
    at_home j k f h (of_old l ne el) =
        let r = H.at_home j k f (sym el ∙ h) in
        (omega (arith, G.size), K.was k r.0 ∙ (r.1 ∙ ap (λ z. f ∷ z) (sym (K.was j l))))
    at_home j k f h (of_none el) = absurd cc

    finer : (j k : ℕ) (f : Step) → link_of new j f ≡ Some (shared k) → Came old i e s (Some (proper (length old))) j f (link_of new j f) → (k < length new) × IsCoarser (f ∷ grown_home homes i e j) (grown_home homes i e k)
    finer j k f h (of_new en el) =
        let r = fits.finer f k (sym el ∙ h) in
        (omega (arith, G.size), subst₂ (λ x y. IsCoarser (f ∷ x) y) (sym K.is_new ∙ ap (grown_home homes i e) (sym en)) (sym (K.was k r.0)) r.1)
    finer j k f h (of_set ei ee el) = absurd (proper≢shared (length old) k (let m : Some (proper (length old)) ≡ Some (shared k) = sym el ∙ h in cc))
    finer j k f h (of_old l ne el) =
        let r = H.finer j k f (sym el ∙ h) in
        (omega (arith, G.size), subst₂ (λ x y. IsCoarser (f ∷ x) y) (sym (K.was j l)) (sym (K.was k r.0)) r.1)
    finer j k f h (of_none el) = absurd cc
