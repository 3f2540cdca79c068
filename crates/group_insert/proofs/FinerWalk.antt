-- The finer walk of a link that is put off: from the base down the turn, and then the node's own way.
use Rattle.std.proofs.Common.{◌≡◌, ℕ, ◌<◌, Bool, true, false, List, [], ◌∷◌, ◌++◌, Option, Some, Contains, is_some, length, refl, sym, ap, ◌∙◌, subst, append_assoc, arith}
use Rattle.cube_view.specs.Walks.{down, across, Walk, SpotPath, Cursor, after_across, then_step, cursor, Under, Finer, top, by_down, by_across, longer, IsCoarser, dimension}
use Rattle.cube_view.proofs.FinerWalks.{begun, later_kept, under-some, coarser_under, finer-refl, loosen, finer-step, finer-trans}
use Rattle.node_arena.specs.Shape.{home_of, HasHomes, HoldsSpots}
use Rattle.node_arena.specs.Slots.{shared, Slot, walk_end}
use Rattle.node_arena.proofs.Walks.{link_coarser, target-lt, last_step}
use Rattle.proper_path.specs.Order.{IsAbove, itself, further}
use Rattle.proper_path.proofs.Above.{under_above}
use Rattle.proper_path.proofs.Dims.{dimension-before}
use Rattle.group_insert.specs.FinerWalk.{finer_steps, LeadsFiner, no_link, same_end}
use Rattle.group_insert.specs.Later.{PutOff, link_address}
use Rattle.group_insert.proofs.OneChild.{space_equal}

-- what stands at or above an address of space stands so above each finer one
pub space_above : {loose : Bool} {x a b : Walk} → dimension x ≡ 1 → IsAbove x a → Finer loose a b → IsAbove x b
space_above s itself top = itself
space_above s itself (by_down {l = l} {a = a} f) = subst (λ z. IsAbove (down l ∷ a) (down l ∷ z)) (space_equal f s refl) itself
space_above s itself (by_across {a = a} f) = let n = dimension-before a in absurd (omega (arith, s, n))
space_above s itself (longer f) = further (space_above s itself f)
space_above s (further g) (by_down f) = further (space_above s g f)
space_above s (further g) (by_across f) = further (space_above s g f)
space_above s (further g) (longer f) = further (space_above s (further g) f)

-- the link's address is coarser than that of the finer walk
coarser_way : (w b : Walk) (t : ℕ) → Finer false (w ++ across ∷ b) (w ++ across ∷ down t ∷ b)
coarser_way [] b t = by_across (longer (finer-refl true b))
coarser_way (down l ∷ w) b t = by_down (coarser_way w b t)
coarser_way (across ∷ w) b t = by_across (loosen (coarser_way w b t))

-- from there as much is left of a spot that goes down the turn
same_left : (q : SpotPath) (w b : Walk) (t : ℕ) → Under q (down t ∷ b) → cursor q (w ++ across ∷ down t ∷ b) ≡ cursor q (w ++ across ∷ b)
same_left q [] b t u =
    let s = under-some q (down t ∷ b) u in
    let r = begun (cursor q b) (down t) s.0 s.1 in
    let k = later_kept t r.0.rest r.0.later s.0 r.2 in
    ap (λ (o : Option Cursor). then_step o across) s.1 ∙ (ap after_across (sym k) ∙ sym (ap (λ (o : Option Cursor). then_step o across) r.1))
same_left q (e ∷ w) b t u = ap (λ (o : Option Cursor). then_step o e) (same_left q w b t u)

-- the steps, from the home of the base on
steps_on : (k : PutOff) (b : Walk) → finer_steps k ++ b ≡ down k.label ∷ (k.way ++ across ∷ down k.turn ∷ b)
steps_on k b = ap (λ z. down k.label ∷ z) (append_assoc k.way (across ∷ down k.turn ∷ []) b)

turn_way : (w b : Walk) (t : ℕ) → IsAbove (down t ∷ b) (w ++ across ∷ down t ∷ b)
turn_way [] b t = further itself
turn_way (e ∷ w) b t = further (turn_way w b t)

base_way : (w b : Walk) → IsAbove (across ∷ b) (w ++ across ∷ b)
base_way [] b = itself
base_way (e ∷ w) b = further (base_way w b)

module _ (homes : List Walk) (k : PutOff) (leads : home_of homes k.node ≡ k.way ++ across ∷ home_of homes k.base) where
  at_link : down k.label ∷ (k.way ++ across ∷ home_of homes k.base) ≡ link_address homes k
  at_link = ap (λ z. down k.label ∷ z) (sym leads)

  -- the finer walk goes down the turn, where the link's address goes across
  pub turn_above : IsAbove (down k.turn ∷ home_of homes k.base) (finer_steps k ++ home_of homes k.base)
  turn_above = subst (λ z. IsAbove (down k.turn ∷ home_of homes k.base) z) (sym (steps_on k (home_of homes k.base))) (further (turn_way k.way (home_of homes k.base) k.turn))

  pub base_above : IsAbove (across ∷ home_of homes k.base) (link_address homes k)
  base_above = subst (λ z. IsAbove (across ∷ home_of homes k.base) z) at_link (further (base_way k.way (home_of homes k.base)))

  pub finer_than_link : IsCoarser (link_address homes k) (finer_steps k ++ home_of homes k.base)
  finer_than_link =
      subst (λ z. IsCoarser z (finer_steps k ++ home_of homes k.base)) at_link
      (subst (λ z. IsCoarser (down k.label ∷ (k.way ++ across ∷ home_of homes k.base)) z) (sym (steps_on k (home_of homes k.base))) (by_down (coarser_way k.way (home_of homes k.base) k.turn)))

  -- a spot that lies under the link and under the turn lies under the finer walk
  pub under_finer : (q : SpotPath) → Under q (down k.turn ∷ home_of homes k.base) → Under q (link_address homes k) → Under q (finer_steps k ++ home_of homes k.base)
  under_finer q t u =
      let same = ap (λ (o : Option Cursor). is_some (then_step o (down k.label))) (same_left q k.way (home_of homes k.base) k.turn t) in
      subst (Under q) (sym (steps_on k (home_of homes k.base))) (same ∙ subst (Under q) (sym at_link) u)

module _ (slots : List Slot) (homes : List Walk) (H : HasHomes slots homes) (base : ℕ) (lt : base < length slots) where
  -- where a walk from a slot leads stands a slot, and the walk is coarser than its home
  pub walk_from-lt : (w : Walk) (j : ℕ) → walk_end slots base w ≡ Some j → j < length slots
  walk_from-lt [] j h = let e : base ≡ j = cc in subst (λ z. z < length slots) e lt
  walk_from-lt (e ∷ w) j h =
      let s = last_step slots (walk_end slots base w) e j h in
      subst (λ z. z < length slots) s.4 (target-lt slots homes H s.0 e s.1 s.3)

  pub walk_from_coarser : (w : Walk) (j : ℕ) → walk_end slots base w ≡ Some j → IsCoarser (w ++ home_of homes base) (home_of homes j)
  walk_from_coarser [] j h = let e : base ≡ j = cc in subst (λ z. IsCoarser (home_of homes base) (home_of homes z)) e (finer-refl false (home_of homes base))
  walk_from_coarser (e ∷ w) j h =
      let s = last_step slots (walk_end slots base w) e j h in
      subst (λ z. IsCoarser (e ∷ (w ++ home_of homes base)) (home_of homes z)) s.4 (finer-trans (finer-step (walk_from_coarser w s.0 s.2) e) (link_coarser slots homes H s.0 e s.1 s.3))

-- what was counted before and lies under the link lies under the turn, where the link leads as the finer walk does or
-- is none
pub turns_before : (slots : List Slot) (homes : List Walk) (sure all : List SpotPath) (k : PutOff) → HasHomes slots homes → HoldsSpots slots homes sure all → k.node < length slots → k.base < length slots → home_of homes k.node ≡ k.way ++ across ∷ home_of homes k.base → LeadsFiner slots k → (q : SpotPath) → Contains sure q → Under q (link_address homes k) → Under q (down k.turn ∷ home_of homes k.base)
turns_before slots homes sure all k H S lt base leads (no_link is) q c u = let r = S.needed k.node (down k.label) lt (record { spot = q; is_in = c; lies = u }) in let n = r.is in absurd cc
turns_before slots homes sure all k H S lt base leads (same_end s is at) q c u =
    under_above (turn_above homes k leads) q (coarser_under (walk_from_coarser slots homes H k.base base (finer_steps k) s at) q (S.agrees k.node (down k.label) (shared s) is q c u))
