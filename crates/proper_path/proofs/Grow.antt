-- The arena grows by a slot: an empty one, or a shallow copy of the target of the shared link that is replaced.
use Rattle.std.proofs.Common.{◌≡◌, ℕ, ◌<◌, ◌⊎◌, inl, inr, List, ◌∷◌, Some, None, Contains, length, refl, sym, ap, ◌∙◌, subst, arith, ap₂, subst₂}
use Rattle.cube_view.specs.Walks.{Step, down, across, Walk, SpotPath, Under, IsCoarser, HasSpot}
use Rattle.node_arena.specs.declared.link.Link.{Link}
use Rattle.node_arena.specs.Slots.{proper, shared, target, Slot, table, empty_node, link, link_of, slot_of, count}
use Rattle.node_arena.specs.Calls.{copied, share}
use Rattle.node_arena.specs.Shape.{home_of, HasHomes, IsLinked, HoldsSpots}
use Rattle.proper_path.specs.Changes.{IsGrown, Came, of_new, of_set, of_old, of_none}
use Rattle.cube_view.proofs.FinerWalks.{step_across_finer, under_before, finer-step, finer-trans}
use Rattle.node_arena.proofs.Walks.{target-lt, link_coarser}
use Rattle.std.specs.FinMap.{empty, get-empty}
use Rattle.std.specs.Ordering.{nat_cmp}
use Rattle.std.proofs.Common.{unwrap_or}
use Rattle.proper_path.proofs.Links.{link-copied, share-some, proper≢shared, same_place, empty_link}
use Rattle.proper_path.proofs.Homes.{grown_homes, grown_home, KeepsHomes, keeps_homes, cases_grown, FitsUnder}

-- what the added slot has to be at its address, among the homes of the old ones
pub record HoldsAt (homes : List Walk) (a : Walk) (s : Slot) (sure all : List SpotPath) : Type 0 where
  pub needed : (f : Step) → HasSpot sure (f ∷ a) → (l : Link) × (link s f ≡ Some l)
  pub wanted : (f : Step) (l : Link) → link s f ≡ Some l → HasSpot all (f ∷ a)
  pub agrees : (f : Step) (l : Link) → link s f ≡ Some l → (q : SpotPath) → Contains sure q → Under q (f ∷ a) → Under q (home_of homes (target l))
  pub in_range : (f : Step) (l : Link) → link s f ≡ Some l → target l < length homes

-- a link stays a link
pub still_linked : (old new : List Slot) (i : ℕ) (e : Step) (s : Slot) → IsGrown old new i e s → (j : ℕ) (f : Step) → j < length old → IsLinked old j f → IsLinked new j f
still_linked old new i e s G j f lt r = go (same_place j i f e)
  where
    go : ((j ≡ i) × (f ≡ e)) ⊎ (j ≡ i → f ≡ e → ⊥) → IsLinked new j f
    go (inl x) = record { link = proper (length old); is = ap₂ (link_of new) x.0 x.1 ∙ G.set_link }
    go (inr ne) = record { link = r.link; is = G.old_link j f lt ne ∙ r.is }

pub holds_grown : (old new : List Slot) (homes : List Walk) (i : ℕ) (e : Step) (s : Slot) (sure all : List SpotPath) → IsGrown old new i e s → HasHomes old homes → HoldsSpots old homes sure all → HoldsAt homes (e ∷ home_of homes i) s sure all → HasSpot all (e ∷ home_of homes i) → HoldsSpots new (grown_homes homes i e) sure all
holds_grown old new homes i e s sure all G H S at some = record {
  needed = λ j f l w. needed j f w (cases_grown (length old) j (length new) G.size l);
  wanted = λ j f l h. wanted j f l h (G.came j f);
  agrees = λ j f l h q c u. agrees j f l h (G.came j f) q c u;
}
  where
    K : KeepsHomes old homes i e
    K = keeps_homes old homes i e H

    needed : (j : ℕ) (f : Step) → HasSpot sure (f ∷ grown_home homes i e j) → (j < length old) ⊎ (j ≡ length old) → IsLinked new j f
    needed j f w (inl l) = still_linked old new i e s G j f l (S.needed j f l (subst (λ z. HasSpot sure (f ∷ z)) (K.was j l) w))
    needed j f w (inr x) =
        let r = at.needed f (subst (λ z. HasSpot sure (f ∷ z)) (ap (grown_home homes i e) x ∙ K.is_new) w) in
        record { link = r.0; is = ap (λ z. link_of new z f) x ∙ (G.new_link f ∙ r.1) }

    wanted : (j : ℕ) (f : Step) (l : Link) → link_of new j f ≡ Some l → Came old i e s (Some (proper (length old))) j f (link_of new j f) → HasSpot all (f ∷ grown_home homes i e j)
    wanted j f l h (of_new en el) = subst (λ z. HasSpot all (f ∷ z)) (sym K.is_new ∙ ap (grown_home homes i e) (sym en)) (at.wanted f l (sym el ∙ h))
    wanted j f l h (of_set ei ee el) = subst₂ (λ x y. HasSpot all (x ∷ y)) (sym ee) (ap (home_of homes) (sym ei) ∙ sym (K.was j (subst (λ z. z < length old) (sym ei) G.place))) some
    wanted j f l h (of_old lt ne el) = subst (λ z. HasSpot all (f ∷ z)) (sym (K.was j lt)) (S.wanted j f l (sym el ∙ h))
    wanted j f l h (of_none el) = absurd cc

    agrees : (j : ℕ) (f : Step) (l : Link) → link_of new j f ≡ Some l → Came old i e s (Some (proper (length old))) j f (link_of new j f) → (q : SpotPath) → Contains sure q → Under q (f ∷ grown_home homes i e j) → Under q (grown_home homes i e (target l))
    agrees j f l h (of_new en el) q c u =
        let k : link s f ≡ Some l = sym el ∙ h in
        subst (λ z. Under q z) (sym (K.was (target l) (omega (arith, at.in_range f l k, H.size)))) (at.agrees f l k q c (subst (λ z. Under q (f ∷ z)) (ap (grown_home homes i e) en ∙ K.is_new) u))
    agrees j f l h (of_set ei ee el) q c u =
        let k : l ≡ proper (length old) = cc in
        subst (λ z. Under q z) (ap₂ ◌∷◌ ee (K.was j (subst (λ z. z < length old) (sym ei) G.place) ∙ ap (home_of homes) ei) ∙ (sym K.is_new ∙ ap (λ z. grown_home homes i e (target z)) (sym k))) u
    agrees j f l h (of_old lt ne el) q c u =
        let k : link_of old j f ≡ Some l = sym el ∙ h in
        subst (λ z. Under q z) (sym (K.was (target l) (target-lt old homes H j f l k))) (S.agrees j f l k q c (subst (λ z. Under q (f ∷ z)) (K.was j lt) u))
    agrees j f l h (of_none el) q c u = absurd cc

-- the spots under the link's address are those under its target's home
pub record IsAlike (homes : List Walk) (a : Walk) (t : ℕ) (sure : List SpotPath) : Type 0 where
  pub coarser : IsCoarser a (home_of homes t)
  pub agrees : (q : SpotPath) → Contains sure q → Under q a → Under q (home_of homes t)

pub alike : (slots : List Slot) (homes : List Walk) (sure all : List SpotPath) → HasHomes slots homes → HoldsSpots slots homes sure all → (i t : ℕ) (e : Step) → link_of slots i e ≡ Some (shared t) → IsAlike homes (e ∷ home_of homes i) t sure
alike slots homes sure all H S i t e h = record { coarser = (H.finer i t e h).1; agrees = S.agrees i e (shared t) h }

-- a link of a shallow copy was one of its original, and is shared
came : (slots : List Slot) (t : ℕ) (f : Step) (l : Link) → link (copied (slot_of slots t)) f ≡ Some l → (k : Link) × (link_of slots t f ≡ Some k) × (l ≡ shared (target k))
came slots t f l h = share-some (link_of slots t f) l (sym (link-copied (slot_of slots t) f) ∙ h)

-- a shallow copy stands at the coarser address as its original does at its home
pub copy_holds : (slots : List Slot) (homes : List Walk) (sure all : List SpotPath) → HasHomes slots homes → HoldsSpots slots homes sure all → (a : Walk) (t : ℕ) → t < length slots → IsAlike homes a t sure → HoldsAt homes a (copied (slot_of slots t)) sure all
copy_holds slots homes sure all H S a t lt A = record { needed = needed; wanted = wanted; agrees = agrees; in_range = in_range }
  where
    T : Walk
    T = home_of homes t

    down_to : (q : SpotPath) (f : Step) → Contains sure q → Under q (f ∷ a) → Under q (f ∷ T)
    down_to q f c u = sym (step_across_finer A.coarser q f (A.agrees q c (under_before q f a u))) ∙ u

    up_to : (q : SpotPath) (f : Step) → Under q (f ∷ T) → Under q (f ∷ a)
    up_to q f u = step_across_finer A.coarser q f (under_before q f T u) ∙ u

    needed : (f : Step) → HasSpot sure (f ∷ a) → (l : Link) × (link (copied (slot_of slots t)) f ≡ Some l)
    needed f w =
        let r = S.needed t f lt (record { spot = w.spot; is_in = w.is_in; lies = down_to w.spot f w.is_in w.lies }) in
        (shared (target r.link), link-copied (slot_of slots t) f ∙ ap share r.is)

    wanted : (f : Step) (l : Link) → link (copied (slot_of slots t)) f ≡ Some l → HasSpot all (f ∷ a)
    wanted f l h =
        let r = came slots t f l h in let w = S.wanted t f r.0 r.1 in
        record { spot = w.spot; is_in = w.is_in; lies = up_to w.spot f w.lies }

    agrees : (f : Step) (l : Link) → link (copied (slot_of slots t)) f ≡ Some l → (q : SpotPath) → Contains sure q → Under q (f ∷ a) → Under q (home_of homes (target l))
    agrees f l h q c u =
        let r = came slots t f l h in
        subst (λ z. Under q (home_of homes (target z))) (sym r.2) (S.agrees t f r.0 r.1 q c (down_to q f c u))

    in_range : (f : Step) (l : Link) → link (copied (slot_of slots t)) f ≡ Some l → target l < length homes
    in_range f l h =
        let r = came slots t f l h in let w = target-lt slots homes H t f r.0 r.1 in
        subst (λ z. target z < length homes) (sym r.2) (omega (arith, H.size))

pub copy_fits : (slots : List Slot) (homes : List Walk) → HasHomes slots homes → (a : Walk) (t : ℕ) → IsCoarser a (home_of homes t) → FitsUnder slots homes a (copied (slot_of slots t))
copy_fits slots homes H a t co = record { no_proper = no_proper; finer = finer }
  where
    no_proper : (f : Step) (j : ℕ) → link (copied (slot_of slots t)) f ≡ Some (proper j) → ⊥
    no_proper f j h = let r = came slots t f (proper j) h in proper≢shared j (target r.0) r.2

    along : (f : Step) (k : Link) → link_of slots t f ≡ Some k → (target k < length slots) × IsCoarser (f ∷ a) (home_of homes (target k))
    along f k h = (target-lt slots homes H t f k h, finer-trans (finer-step co f) (link_coarser slots homes H t f k h))

    finer : (f : Step) (j : ℕ) → link (copied (slot_of slots t)) f ≡ Some (shared j) → (j < length slots) × IsCoarser (f ∷ a) (home_of homes j)
    finer f j h =
        let r = came slots t f (shared j) h in let e : shared j ≡ shared (target r.0) = r.2 in let k : target r.0 ≡ j = sym (ap target e) in
        subst (λ z. (z < length slots) × IsCoarser (f ∷ a) (home_of homes z)) k (along f r.0 r.1)

-- an empty slot stands where no old spot lies
pub record IsEmpty (s : Slot) : Type 0 where
  pub no_link : (f : Step) → link s f ≡ None
  pub no_count : (bin : ℕ) → count s bin ≡ 0

pub node_empty : IsEmpty empty_node
node_empty = record { no_link = empty_link; no_count = λ bin. ap (λ o. unwrap_or o 0) (get-empty nat_cmp bin) }

pub table_empty : IsEmpty (table empty)
table_empty = record { no_link = λ f. refl; no_count = λ bin. ap (λ o. unwrap_or o 0) (get-empty nat_cmp bin) }

pub empty_holds : (homes : List Walk) (a : Walk) (s : Slot) (sure all : List SpotPath) → IsEmpty s → (HasSpot sure a → ⊥) → HoldsAt homes a s sure all
empty_holds homes a s sure all E none = record {
  needed = λ f w. absurd (none (record { spot = w.spot; is_in = w.is_in; lies = under_before w.spot f a w.lies }));
  wanted = λ f l h. let k = E.no_link f in absurd cc;
  agrees = λ f l h q c u. let k = E.no_link f in absurd cc;
  in_range = λ f l h. let k = E.no_link f in absurd cc;
}

pub empty_fits : (slots : List Slot) (homes : List Walk) (a : Walk) (s : Slot) → IsEmpty s → FitsUnder slots homes a s
empty_fits slots homes a s E = record { no_proper = λ f j h. let k = E.no_link f in absurd cc; finer = λ f j h. let k = E.no_link f in absurd cc }
