-- The last of the links that are put off is set, at a node whose visit has ended.
use Rattle.std.proofs.Common.{◌≡◌, ℕ, ◌<◌, true, false, ◌⊎◌, inl, inr, ◌↔◌, List, [], ◌∷◌, ◌++◌, Some, None, length, refl, sym, ap, ap₂, ◌∙◌, subst, arith}
use Rattle.std.proofs.lemmas.Bool.{cases_eq}
use Rattle.std.proofs.lemmas.List.{get_or_push, length_push}
use Rattle.cube_view.specs.Walks.{Step, down, across, Walk, SpotPath, HasSpot, dimension}
use Rattle.cube_view.proofs.FinerWalks.{under_before}
use Rattle.node_arena.specs.Calls.{put, relink, put_child, set_child}
use Rattle.node_arena.proofs.Links.{linked-lt}
use Rattle.node_arena.specs.Amounts.{Weighted, spots_in}
use Rattle.node_arena.specs.Shape.{home_of, HasOneChild, SharesContent}
use Rattle.node_arena.specs.Slots.{proper, shared, target, Slot, link_of, slot_of, is_table, walk_end}
use Rattle.node_arena.specs.declared.link.Link.{Link}
use Rattle.point_insert.proofs.Visits.{homes_relinked, holds_relinked}
use Rattle.proper_path.specs.Changes.{IsRelinked}
use Rattle.proper_path.specs.Order.{IsAbove, itself, further}
use Rattle.proper_path.proofs.Calls.{relinks, put_sets, set_sets}
use Rattle.proper_path.proofs.Dims.{dimension-before}
use Rattle.proper_path.proofs.Links.{same_place}
use Rattle.group_insert.specs.FinerWalk.{finer_steps, IsSet}
use Rattle.group_insert.specs.Halfway.{LeadsRight, WillHaveTwo, IsHalfway, IsHalfwayAfter}
use Rattle.group_insert.specs.Later.{PutOff, link_address, IsPutOff, IsPut}
use Rattle.group_insert.specs.Turns.{EndedAfter, IsOpenAbove}
use Rattle.group_insert.proofs.Entries.{last_of, halfway_less}
use Rattle.group_insert.proofs.FinerEnd.{HoldsAll, Settles, new_spot, settled}
use Rattle.group_insert.proofs.Growth.{spot_of_group}
use Rattle.group_insert.proofs.LinksPutOff.{puts_relinked}
use Rattle.group_insert.proofs.SharedContent.{two_relinked}
use Rattle.group_insert.proofs.StartEnd.{old_spot}
use Rattle.group_insert.proofs.Ways.{tail_of}

module _ (dims : ℕ) (old new : List Slot) (homes : List Walk) (h g : List Weighted) (done open' : Walk → Type 0) (rest : List PutOff) (k : PutOff) (u : ℕ) (M : IsHalfway dims old homes h g done open' (rest ++ k ∷ [])) (R : IsRelinked old new k.node (down k.label) (shared u)) (D : done (home_of homes k.node)) (A : HoldsAll old homes (spots_in (g ++ h)) (link_address homes k) u) where
  abbrev entries : List PutOff
  entries = rest ++ k ∷ []

  may : IsPutOff old homes h g k
  may = last_of (IsPutOff old homes h g) rest k M.later.put_off

  two : (j : ℕ) → j ≡ k.node → WillHaveTwo new entries j
  two j e = subst (λ z. WillHaveTwo new entries z) (sym e) (two_relinked old new k.node u (down k.label) R entries k.node (last_of (λ j. done (home_of homes j.node) → WillHaveTwo old entries j.node) rest k M.later.wide D))

  before : (j label : ℕ) (l : Link) → (j ≡ k.node → ⊥) → HasOneChild new j label l → HasOneChild old j label l
  before j label l n O = record {
    is = sym (R.old_link j (down label) (λ x y. n x)) ∙ O.is;
    only = λ m i x. O.only m i (R.old_link j (down m) (λ a b. n a) ∙ x);
  }

  shares : (j label : ℕ) (l : Link) → (open' (home_of homes j) → ⊥) → HasOneChild new j label l → (j ≡ k.node) ⊎ (j ≡ k.node → ⊥) → SharesContent new j l ⊎ WillHaveTwo new entries j
  shares j label l o O (inl e) = inr (two j e)
  shares j label l o O (inr n) = pick (M.shares.shares j label l o (before j label l n O))
    where
      pick : SharesContent old j l ⊎ WillHaveTwo old entries j → SharesContent new j l ⊎ WillHaveTwo new entries j
      pick (inl c) = inl (record { content = c.content; of_child = R.old_link (target l) across (λ x y. let z : ⊥ = cc in z) ∙ c.of_child; of_node = R.old_link j across (λ x y. n x) ∙ c.of_node })
      pick (inr t) = inr (two_relinked old new k.node u (down k.label) R entries j t)

  own_child : (j label : ℕ) (l : Link) → done (home_of homes j) → HasOneChild new j label l → (j ≡ k.node) ⊎ (j ≡ k.node → ⊥) → ((to : ℕ) × (l ≡ proper to)) ⊎ WillHaveTwo new entries j
  own_child j label l d O (inl e) = inr (two j e)
  own_child j label l d O (inr n) = pick (M.shares.own_child j label l d (before j label l n O))
    where
      pick : ((to : ℕ) × (l ≡ proper to)) ⊎ WillHaveTwo old entries j → ((to : ℕ) × (l ≡ proper to)) ⊎ WillHaveTwo new entries j
      pick (inl x) = inl x
      pick (inr t) = inr (two_relinked old new k.node u (down k.label) R entries j t)

  links : (j : ℕ) (f : Step) (q : SpotPath) → LeadsRight old homes j f q ⊎ IsPut entries j f → ((j ≡ k.node) × (f ≡ down k.label)) ⊎ (j ≡ k.node → f ≡ down k.label → ⊥) → LeadsRight new homes j f q ⊎ IsPut entries j f
  links j f q x (inl s) = inr (length rest, k, omega (arith, length_push rest k), get_or_push rest k k (length rest) refl, (sym s.0, sym s.1))
  links j f q (inl r) (inr n) = inl (record { link = r.link; is = R.old_link j f n ∙ r.is; lies = r.lies })
  links j f q (inr x) (inr n) = inr x

  -- the link is set ..
  halfway_linked : IsHalfway dims new homes h g done open' (rest ++ k ∷ [])
  halfway_linked = record {
    has_homes = homes_relinked old new homes k.node u (down k.label) M.has_homes R may.free A.in_range A.coarser;
    has_tables = record { tables = λ j l. subst (λ x. (x ≡ true) ↔ (dimension (home_of homes j) ≡ dims)) (sym (R.old_kind j)) (M.has_tables.tables j (omega (arith, R.size, l))) };
    holds = holds_relinked old new homes (spots_in h) (spots_in (g ++ h)) k.node u (down k.label) M.holds R (spot_of_group g h (link_address homes k) may.wanted) (λ q c v. A.agrees q (old_spot g h q c) v);
    untouched = λ j f l d o is. M.untouched j f l d o (sym (R.old_link j f (λ x y. d (subst (λ z. done (home_of homes z)) (sym x) D))) ∙ is);
    visited = record { holds = M.visited.holds; links = λ j f l d q c v. links j f q (M.visited.links j f (omega (arith, R.size, l)) d q c v) (same_place j k.node f (down k.label)) };
    counted = record {
      still = λ j bin l t d. R.old_count j bin ∙ M.counted.still j bin (omega (arith, R.size, l)) (sym (R.old_kind j) ∙ t) d;
      now = λ j bin l t d. R.old_count j bin ∙ M.counted.now j bin (omega (arith, R.size, l)) (sym (R.old_kind j) ∙ t) d;
    };
    shares = record { shares = λ j label l o O. shares j label l o O (cases_eq j k.node); own_child = λ j label l d O. own_child j label l d O (cases_eq j k.node) };
    later = puts_relinked old new homes h g done entries k.node u (down k.label) R M.later;
  }

  -- .. and is put off no more
  pub halfway_settled : IsHalfway dims new homes h g done open' rest
  halfway_settled =
      halfway_less dims new homes h g done open' rest k (record { link = shared u; is = R.set_link })
      (λ q c v. record { link = shared u; is = R.set_link; lies = A.agrees q (new_spot g h q c) v })
      halfway_linked

-- what stands in space above a node stands above the base of each entry of the node
way_not_space : (w b : Walk) → dimension (w ++ across ∷ b) ≡ 1 → ⊥
way_not_space [] b s = let n = dimension-before b in absurd (omega (arith, s, n))
way_not_space (down l ∷ w) b s = way_not_space w b s
way_not_space (across ∷ w) b s = let n = dimension-before (w ++ across ∷ b) in absurd (omega (arith, s, n))

above_tail : {x y b : Walk} → y ≡ b → IsAbove x y → IsAbove x b
above_tail {x} e f = subst (λ z. IsAbove x z) e f

space_within : {x y : Walk} (w b : Walk) → dimension x ≡ 1 → IsAbove x y → y ≡ w ++ across ∷ b → IsAbove x b
space_within w b s itself e = absurd (way_not_space w b (ap dimension (sym e) ∙ s))
space_within [] b s (further f) e = above_tail (tail_of e) f
space_within (d ∷ w) b s (further f) e = space_within w b s f (tail_of e)

-- After the visit of a node of space, x, the walk of the last entry leads to a slot, and the entry goes with its link
-- set to it.
module _ (dims : ℕ) (old : List Slot) (homes : List Walk) (h g : List Weighted) (rest : List PutOff) (k : PutOff) (x : Walk) (M : IsHalfwayAfter dims old homes h g (rest ++ k ∷ []) x) (space : dimension x ≡ 1) (below : IsAbove x (home_of homes k.node)) where
  entry_may : IsPutOff old homes h g k
  entry_may = last_of (IsPutOff old homes h g) rest k M.later.put_off

  pub last_settles : Settles old homes (spots_in (g ++ h)) k
  last_settles = settled dims old homes h g (EndedAfter g x) (IsOpenAbove x) rest k x M space (space_within k.way (home_of homes k.base) space below entry_may.leads) (λ j lt f w. (w, inr f))

  pub last_is_set : (new : List Slot) → IsRelinked old new k.node (down k.label) (shared last_settles.slot) → IsHalfwayAfter dims new homes h g rest x
  last_is_set new R = halfway_settled dims old new homes h g (EndedAfter g x) (IsOpenAbove x) rest k last_settles.slot M R (lies, inr below) last_settles.holds
    where
      lies : HasSpot (spots_in g) (home_of homes k.node)
      lies = let w = entry_may.wanted in record { spot = w.spot; is_in = w.is_in; lies = under_before w.spot (down k.label) (home_of homes k.node) w.lies }

-- how the link is set
pub relink_put : (slots : List Slot) (i l u : ℕ) → i < length slots → is_table (slot_of slots i) ≡ false → link_of slots i (down l) ≡ None → IsRelinked slots (put_child slots i l (shared u)) i (down l) (shared u)
relink_put slots i l u lt t n = relinks slots i (down l) (put (slot_of slots i) l (shared u)) (shared u) lt (put_sets (slot_of slots i) l (shared u) t n)

pub relink_set : (slots : List Slot) (i l u : ℕ) (old : Link) → i < length slots → link_of slots i (down l) ≡ Some old → IsRelinked slots (set_child slots i l (shared u)) i (down l) (shared u)
relink_set slots i l u old lt is = relinks slots i (down l) (relink (slot_of slots i) l (shared u)) (shared u) lt (set_sets (slot_of slots i) l (shared u) old is)

pub relink_same : (slots : List Slot) (i l u : ℕ) → link_of slots i (down l) ≡ Some (shared u) → IsRelinked slots slots i (down l) (shared u)
relink_same slots i l u is = record { size = refl; place = linked-lt slots i (down l) (shared u) is; set_link = is; old_link = λ j f n. refl; old_count = λ j bin. refl; old_kind = λ j. refl }

-- so a call sets it
pub set_settles : (slots mid new : List Slot) (k : PutOff) (to : ℕ) (l old : Link) → mid ≡ slots → walk_end mid k.base (finer_steps k) ≡ Some to → link_of mid k.node (down k.label) ≡ Some old → k.node < length slots → l ≡ shared to → new ≡ set_child mid k.node k.label l → IsSet slots new k
set_settles slots mid new k to l old same ends is lt e n = record {
  to = to;
  ends = subst (λ z. walk_end z k.base (finer_steps k) ≡ Some to) same ends;
  relinked = subst (λ z. IsRelinked slots z k.node (down k.label) (shared to)) (sym (n ∙ ap₂ (λ z m. set_child z k.node k.label m) same e)) (relink_set slots k.node k.label to old lt (subst (λ z. link_of z k.node (down k.label) ≡ Some old) same is));
}

pub put_settles : (slots mid new : List Slot) (k : PutOff) (to : ℕ) (l : Link) → mid ≡ slots → walk_end mid k.base (finer_steps k) ≡ Some to → link_of mid k.node (down k.label) ≡ None → k.node < length slots → is_table (slot_of slots k.node) ≡ false → l ≡ shared to → new ≡ put_child mid k.node k.label l → IsSet slots new k
put_settles slots mid new k to l same ends is lt t e n = record {
  to = to;
  ends = subst (λ z. walk_end z k.base (finer_steps k) ≡ Some to) same ends;
  relinked = subst (λ z. IsRelinked slots z k.node (down k.label) (shared to)) (sym (n ∙ ap₂ (λ z m. put_child z k.node k.label m) same e)) (relink_put slots k.node k.label to lt t (subst (λ z. link_of z k.node (down k.label) ≡ None) same is));
}
