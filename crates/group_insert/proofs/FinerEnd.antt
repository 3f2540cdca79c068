-- Where the finer walk of a link that is put off ends: at a slot that is right for the link.
use Rattle.std.proofs.Common.{◌≡◌, ℕ, ◌<◌, ◌≤◌, ◌⊎◌, inl, inr, false, List, [], ◌∷◌, ◌++◌, Option, Some, Contains, length, get_or, refl, sym, ap, ap₂, ◌∙◌, subst, subst₂, arith, length-append}
use Rattle.std.proofs.lemmas.Bool.{cases_lt}
use Rattle.std.proofs.lemmas.List.{get_or_push, length_push, map-append}
use Rattle.std.proofs.lemmas.List.Elements.{Contains-append_left}
use Rattle.cube_view.specs.Walks.{Step, down, across, Walk, SpotPath, Under, HasSpot, IsCoarser, dimension}
use Rattle.cube_view.proofs.FinerWalks.{step_across_finer, under_before, finer-refl, finer-step, finer-trans}
use Rattle.node_arena.specs.Amounts.{Weighted, spots_in}
use Rattle.node_arena.specs.Shape.{home_of}
use Rattle.node_arena.specs.Slots.{target, Slot, walk_end, follow, reached}
use Rattle.node_arena.proofs.Walks.{link_coarser, target-lt}
use Rattle.proper_path.specs.Order.{IsAbove, itself, further, IsBefore}
use Rattle.proper_path.proofs.Above.{under_above, comes_before}
use Rattle.proper_path.proofs.Order.{above-trans, above-step, above-length, above_both, above_last, not_before_above, before-trans}
use Rattle.group_insert.specs.FinerWalk.{finer_steps}
use Rattle.group_insert.specs.Halfway.{LeadsRight, IsHalfway}
use Rattle.group_insert.specs.Later.{PutOff, link_address, IsPutOff, IsPut}
use Rattle.group_insert.proofs.FinerWalk.{space_above, turn_above, base_above, finer_than_link, under_finer}
use Rattle.node_arena.proofs.AddressAmounts.{spots_in-append_cases}

-- a slot that holds all that lies under an address, and whose home is finer
pub record HoldsAll (slots : List Slot) (homes : List Walk) (all : List SpotPath) (a : Walk) (j : ℕ) : Type 0 where
  pub in_range : j < length slots
  pub coarser : IsCoarser a (home_of homes j)
  pub agrees : (q : SpotPath) → Contains all q → Under q a → Under q (home_of homes j)

-- that slot is where a walk from the base leads
pub record EndsRight (slots : List Slot) (homes : List Walk) (all : List SpotPath) (base : ℕ) (w : Walk) : Type 0 where
  pub slot : ℕ
  pub is : walk_end slots base w ≡ Some slot
  pub holds : HoldsAll slots homes all (w ++ home_of homes base) slot

-- the walk of a link that was put off leads to what is right for the link
pub record Settles (slots : List Slot) (homes : List Walk) (all : List SpotPath) (k : PutOff) : Type 0 where
  pub slot : ℕ
  pub is : walk_end slots k.base (finer_steps k) ≡ Some slot
  pub holds : HoldsAll slots homes all (link_address homes k) slot

-- spots of the group are those of all
pub new_spot : (g h : List Weighted) (q : SpotPath) → Contains (spots_in g) q → Contains (spots_in (g ++ h)) q
new_spot g h q c = subst (λ z. Contains z q) (sym (map-append (λ (x : Weighted). x.spot) g h)) (Contains-append_left (spots_in g) (spots_in h) q c)

way_above : (w b : Walk) → IsAbove b (w ++ b)
way_above [] b = itself
way_above (e ∷ w) b = further (way_above w b)

-- The last of the links that are put off. All slots at and below x, an address of space above its base, are done.
module _ (dims : ℕ) (slots : List Slot) (homes : List Walk) (h g : List Weighted) (done open' : Walk → Type 0) (rest : List PutOff) (k : PutOff) (x : Walk) (M : IsHalfway dims slots homes h g done open' (rest ++ k ∷ [])) (space : dimension x ≡ 1) (within : IsAbove x (home_of homes k.base)) (below : (j : ℕ) → j < length slots → IsAbove x (home_of homes j) → HasSpot (spots_in g) (home_of homes j) → done (home_of homes j)) where
  abbrev base : Walk
  base = home_of homes k.base

  here : length rest < length (rest ++ k ∷ [])
  here = omega (arith, length_push rest k)

  pub last_may : IsPutOff slots homes h g k
  last_may = subst (IsPutOff slots homes h g) (get_or_push rest k k (length rest) refl) (M.later.put_off (length rest) k here)

  leads : home_of homes k.node ≡ k.way ++ across ∷ base
  leads = last_may.leads

  -- the spots under the link lie under the finer walk
  under_walk : (q : SpotPath) → Contains (spots_in (g ++ h)) q → Under q (link_address homes k) → Under q (finer_steps k ++ base)
  under_walk q c u = under_finer homes k leads q (last_may.turns q c u) u

  -- a step of the walk comes before the link in the order of single visits
  before_link : (e : Step) (w : Walk) → IsAbove (e ∷ (w ++ base)) (finer_steps k ++ base) → IsBefore (e ∷ (w ++ base)) (link_address homes k)
  before_link e w f = record { parting = base; label = k.turn; goes_down = go (above_both f (turn_above homes k leads)); goes_across = base_above homes k leads }
    where
      pick : (e ∷ (w ++ base) ≡ down k.turn ∷ base) ⊎ IsAbove (e ∷ (w ++ base)) base → IsAbove (down k.turn ∷ base) (e ∷ (w ++ base))
      pick (inl z) = subst (λ v. IsAbove (down k.turn ∷ base) v) (sym z) itself
      pick (inr z) = let l = above-length z in absurd (omega (arith, l, length-append w base))

      go : IsAbove (e ∷ (w ++ base)) (down k.turn ∷ base) ⊎ IsAbove (down k.turn ∷ base) (e ∷ (w ++ base)) → IsAbove (down k.turn ∷ base) (e ∷ (w ++ base))
      go (inr y) = y
      go (inl y) = pick (above_last y)

  -- and no entry does, so no link on the walk is put off
  no_entry : (n : ℕ) (p : PutOff) → n < length (rest ++ k ∷ []) → get_or (rest ++ k ∷ []) n p ≡ p → IsBefore (link_address homes p) (link_address homes k) → ⊥
  no_entry n p lt at r = go (cases_lt n (length rest))
    where
      last : get_or (rest ++ k ∷ []) (length rest) p ≡ k
      last = get_or_push rest k p (length rest) refl

      go : (n < length rest) ⊎ (length rest ≤ n) → ⊥
      go (inl y) = M.later.in_order n (length rest) p y here (subst₂ (λ a b. IsBefore (link_address homes a) (link_address homes b)) (sym at) (sym last) r)
      go (inr y) =
          let e : n ≡ length rest = omega (arith, lt, y, length_push rest k) in
          let same : p ≡ k = sym at ∙ (ap (λ z. get_or (rest ++ k ∷ []) z p) e ∙ last) in
          not_before_above (subst (λ z. IsBefore (link_address homes z) (link_address homes k)) same r) itself

  not_put : (e : Step) (w : Walk) (j : ℕ) → IsAbove (e ∷ (w ++ base)) (finer_steps k ++ base) → IsCoarser (w ++ base) (home_of homes j) → IsPut (rest ++ k ∷ []) j e → ⊥
  not_put e w j f co (n, p, lt, at, same) = no (before-trans (comes_before (e ∷ (w ++ base)) (e ∷ home_of homes j) (finer-step co e) (λ z. no (subst (λ v. IsBefore v (link_address homes k)) z r))) r)
    where
      r : IsBefore (e ∷ (w ++ base)) (link_address homes k)
      r = before_link e w f

      address : link_address homes p ≡ e ∷ home_of homes j
      address = ap₂ (λ a b. a ∷ home_of homes b) same.1 same.0

      no : IsBefore (e ∷ home_of homes j) (link_address homes k) → ⊥
      no y = no_entry n p lt at (subst (λ v. IsBefore v (link_address homes k)) (sym address) y)

  next : (e : Step) (w : Walk) → IsAbove (e ∷ (w ++ base)) (finer_steps k ++ base) → EndsRight slots homes (spots_in (g ++ h)) k.base w → EndsRight slots homes (spots_in (g ++ h)) k.base (e ∷ w)
  next e w f E = record {
    slot = target R.link;
    is = ap (λ (o : Option ℕ). follow slots o e) E.is ∙ ap reached R.is;
    holds = record {
      in_range = target-lt slots homes M.has_homes E.slot e R.link R.is;
      coarser = finer-trans (finer-step E.holds.coarser e) (link_coarser slots homes M.has_homes E.slot e R.link R.is);
      agrees = λ q c u. agrees q c u (spots_in-append_cases g h q c);
    };
  }
    where
      -- what lies under the walk's address goes the same way from the slot that was reached
      on : (q : SpotPath) → Contains (spots_in (g ++ h)) q → Under q (e ∷ (w ++ base)) → Under q (e ∷ home_of homes E.slot)
      on q c u = sym (step_across_finer E.holds.coarser q e (E.holds.agrees q c (under_before q e (w ++ base) u))) ∙ u

      W : HasSpot (spots_in g) (link_address homes k)
      W = last_may.wanted

      lies : Under W.spot (e ∷ home_of homes E.slot)
      lies = let c = new_spot g h W.spot W.is_in in on W.spot c (under_above f W.spot (under_walk W.spot c W.lies))

      visited : done (home_of homes E.slot)
      visited = below E.slot E.holds.in_range (space_above space (above-trans within (way_above w base)) E.holds.coarser) (record { spot = W.spot; is_in = W.is_in; lies = under_before W.spot e (home_of homes E.slot) lies })

      right : (q : SpotPath) → LeadsRight slots homes E.slot e q ⊎ IsPut (rest ++ k ∷ []) E.slot e → LeadsRight slots homes E.slot e q
      right q (inl y) = y
      right q (inr y) = absurd (not_put e w E.slot f E.holds.coarser y)

      R : LeadsRight slots homes E.slot e W.spot
      R = right W.spot (M.visited.links E.slot e E.holds.in_range visited W.spot W.is_in lies)

      same : (q : SpotPath) → LeadsRight slots homes E.slot e q → Under q (home_of homes (target R.link))
      same q y =
          let m : Some y.link ≡ Some R.link = sym y.is ∙ R.is in
          let z : y.link ≡ R.link = cc in
          subst (λ v. Under q (home_of homes (target v))) z y.lies

      agrees : (q : SpotPath) → Contains (spots_in (g ++ h)) q → Under q (e ∷ (w ++ base)) → Contains (spots_in g) q ⊎ Contains (spots_in h) q → Under q (home_of homes (target R.link))
      agrees q c u (inl y) = same q (right q (M.visited.links E.slot e E.holds.in_range visited q y (on q c u)))
      agrees q c u (inr y) = M.holds.agrees E.slot e R.link R.is q y (on q c u)

  ends : (w : Walk) → IsAbove (w ++ base) (finer_steps k ++ base) → EndsRight slots homes (spots_in (g ++ h)) k.base w
  ends [] f = record { slot = k.base; is = refl; holds = record { in_range = last_may.in_range.1; coarser = finer-refl false base; agrees = λ q c u. u } }
  ends (e ∷ w) f = next e w f (ends w (above-step f))

  -- so it leads to a slot that the link may lead to
  pub settled : Settles slots homes (spots_in (g ++ h)) k
  settled =
      let E = ends (finer_steps k) itself in record {
        slot = E.slot;
        is = E.is;
        holds = record {
          in_range = E.holds.in_range;
          coarser = finer-trans (finer_than_link homes k leads) E.holds.coarser;
          agrees = λ q c u. E.holds.agrees q c (under_walk q c u);
        };
      }
