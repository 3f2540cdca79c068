-- The visit of a node of one label ends: it shares its child's content.
use Rattle.std.proofs.Common.{◌≡◌, ℕ, ◌<◌, ◌≤◌, Bool, true, false, ◌⊎◌, inl, inr, List, ◌∷◌, ◌++◌, Some, Contains, length, refl, sym, ap, ◌∙◌, subst, subst₂, arith, true≢false}
use Rattle.std.proofs.lemmas.Bool.{cases_lt}
use Rattle.std.proofs.lemmas.List.Elements.{All-contains}
use Rattle.cube_view.specs.Walks.{down, across, Walk, SpotPath, Under, HasSpot, dimension}
use Rattle.cube_view.proofs.FinerWalks.{under_before}
use Rattle.node_arena.specs.Amounts.{Weighted, spots_in}
use Rattle.node_arena.specs.Shape.{home_of, HasOneChild, SharesContent}
use Rattle.node_arena.specs.Slots.{proper, shared, target, Slot, link_of, slot_of, is_table}
use Rattle.node_arena.specs.declared.link.Link.{Link}
use Rattle.node_arena.proofs.Labels.{same_down}
use Rattle.proper_path.specs.Changes.{IsRelinked}
use Rattle.proper_path.specs.Order.{IsAbove, itself, further}
use Rattle.point_insert.proofs.Cases.{one_child_leads}
use Rattle.proper_path.proofs.Dims.{goes_across}
use Rattle.proper_path.proofs.Shares.{MayLead}
use Rattle.proper_path.proofs.Steps.{keeps-trans}
use Rattle.group_insert.specs.Halfway.{LeadsRight, WillHaveTwo, IsHalfwayBefore, IsHalfwayAfter}
use Rattle.group_insert.specs.Later.{PutOff, IsPutOff, IsPut}
use Rattle.group_insert.specs.LeastSoFar.{BegunBefore, BegunAfter}
use Rattle.group_insert.specs.Turns.{EndedBefore, EndedAfter, IsOpenAbove}
use Rattle.group_insert.specs.Visits.{ArePoints, HasVisitedAll, IsLabelOf, HasOneLabel, HasOwn, IsGone, IsAmong}
use Rattle.group_insert.proofs.Earlier.{lesser_earlier}
use Rattle.group_insert.proofs.VisitEnd.{LeadsAll, IsFinished, node_ends, last_label}
use Rattle.group_insert.proofs.LeastKept.{least_begun, least_relinked, home_least, begun_ends}
use Rattle.group_insert.proofs.LeastNode.{needs_child}
use Rattle.group_insert.proofs.OneChild.{one_child_right}
use Rattle.group_insert.proofs.SharedLink.{halfway_relinked}
use Rattle.group_insert.proofs.StartEnd.{old_spot}
use Rattle.group_insert.proofs.SharedContent.{turn_before}

module _ (dims : ℕ) (h g : List Weighted) (old mid : List Slot) (homes : List Walk) (before put : List PutOff) (i l from : ℕ) (P : ArePoints dims h g) (lt : i < length old) (nd : is_table (slot_of old i) ≡ false) (w : HasSpot (spots_in g) (home_of homes i)) (T : HasOneLabel old homes g i l) (A : IsAmong dims h g old homes i (Some l) from mid before put) (none : (n : ℕ) (q : SpotPath) → from ≤ n → Contains (spots_in g) q → Under q (down n ∷ home_of homes i) → ⊥) where
  at : home_of A.homes' i ≡ home_of homes i
  at = A.keeps.homes i lt

  x : Walk
  x = home_of A.homes' i

  M : IsHalfwayBefore dims mid A.homes' h g put (down from ∷ home_of A.homes' i)
  M = subst (λ z. IsHalfwayBefore dims mid A.homes' h g put (down from ∷ z)) (sym at) A.halfway

  lt_mid : i < length mid
  lt_mid = omega (arith, lt, A.keeps.size)

  node_mid : is_table (slot_of mid i) ≡ false
  node_mid = A.keeps.kinds i lt ∙ nd

  goes : Under w.spot (down l ∷ home_of homes i)
  goes = T.all w.spot w.is_in w.lies

  lies : Under w.spot (down l ∷ home_of A.homes' i)
  lies = subst (λ z. Under w.spot (down l ∷ z)) (sym at) goes

  passed : l < from
  passed = go (cases_lt l from)
    where
      go : (l < from) ⊎ (from ≤ l) → l < from
      go (inl y) = y
      go (inr y) = absurd (none l w.spot y w.is_in goes)

  -- the child of that label is the node's own, and it has been visited
  pub child : HasOwn mid i (down l)
  child = go (A.gone l passed (record { spot = w.spot; is_in = w.is_in; lies = goes }))
    where
      go : IsGone mid put i (Some l) l → HasOwn mid i (down l)
      go (inl r) = r
      go (inr r) = let n = r.0 in absurd cc

  pub alone : (n : ℕ) (k : Link) → link_of mid i (down n) ≡ Some k → n ≡ l
  alone n k is = go (A.labels n (record { link = k; is = is }))
    where
      go : IsLabelOf old homes g i n → n ≡ l
      go (inl r) = T.alone n r.link r.is
      go (inr u) = same_down u.spot n l (home_of homes i) u.lies (T.all u.spot u.is_in (under_before u.spot (down n) (home_of homes i) u.lies))

  child_home : home_of A.homes' child.0 ≡ down l ∷ home_of A.homes' i
  child_home = (M.has_homes.at_home i child.0 (down l) child.1).1

  pub child_in : child.0 < length mid
  child_in = (M.has_homes.at_home i child.0 (down l) child.1).0

  child_done : EndedBefore g (down from ∷ home_of A.homes' i) (home_of A.homes' child.0)
  child_done = subst (λ z. EndedBefore g (down from ∷ home_of A.homes' i) z) (sym child_home) (record { spot = w.spot; is_in = w.is_in; lies = lies }, lesser_earlier passed itself)

  not_time : dimension (home_of A.homes' i) ≡ dims → ⊥
  not_time d = true≢false (sym ((M.has_tables.tables i lt_mid).1 d) ∙ node_mid)

  pub child_node : is_table (slot_of mid child.0) ≡ false
  child_node = go (is_table (slot_of mid child.0)) refl
    where
      go : (b : Bool) → is_table (slot_of mid child.0) ≡ b → b ≡ false
      go true e = absurd (not_time (sym (ap dimension child_home) ∙ (M.has_tables.tables child.0 child_in).0 e))
      go false e = refl

  -- so it has a content
  pub child_content : LeadsRight mid A.homes' child.0 across w.spot
  child_content = go (M.visited.links child.0 across child_in child_done w.spot w.is_in (goes_across dims w.spot (P.spots w.spot w.is_in) (home_of A.homes' child.0) (subst (Under w.spot) (sym child_home) lies) (λ d. not_time (sym (ap dimension child_home) ∙ d))))
    where
      go : LeadsRight mid A.homes' child.0 across w.spot ⊎ IsPut put child.0 across → LeadsRight mid A.homes' child.0 across w.spot
      go (inl r) = r
      go (inr p) = let n = p.4.1 in absurd cc

  -- and it is the only child
  pub only_is : (label : ℕ) (k : Link) → HasOneChild mid i label k → (label ≡ l) × (k ≡ proper child.0)
  only_is label k O =
      let e : label ≡ l = alone label k O.is in
      let m : Some k ≡ Some (proper child.0) = sym O.is ∙ (ap (λ z. link_of mid i (down z)) e ∙ child.1) in
      (e, cc)

  -- no link of the node is put off: it would be at the label of its only child
  none_off : (k : PutOff) → IsPutOff mid A.homes' h g k → k.node ≡ i → ⊥
  none_off k o e =
      let q = o.wanted in
      let v : Under q.spot (down k.label ∷ home_of homes i) = subst (λ z. Under q.spot (down k.label ∷ z)) (ap (home_of A.homes') e ∙ at) q.lies in
      let n : k.label ≡ l = same_down q.spot k.label l (home_of homes i) v (T.all q.spot q.is_in (under_before q.spot (down k.label) (home_of homes i) v)) in
      o.free child.0 (subst₂ (λ a b. link_of mid a (down b) ≡ Some (proper child.0)) (sym e) (sym n) child.1)

  module _ (new : List Slot) (c : Link) (is : link_of mid child.0 across ≡ Some c) (R : IsRelinked mid new i across (shared (target c))) where
    O : HasOneChild mid i l (proper child.0)
    O = record { is = child.1; only = alone }

    may : MayLead mid A.homes' (spots_in h) (spots_in (g ++ h)) i (target c) across
    may = one_child_leads mid A.homes' (spots_in h) (spots_in (g ++ h)) M.has_homes M.holds w.spot (λ q d. P.alike w.spot w.is_in q (old_spot g h q d)) i l (proper child.0) c O lies is A.content

    M' : IsHalfwayBefore dims new A.homes' h g put (down from ∷ home_of A.homes' i)
    M' = halfway_relinked dims mid new A.homes' h g (EndedBefore g (down from ∷ home_of A.homes' i)) (IsOpenAbove (down from ∷ home_of A.homes' i)) put i (target c) across M R
        (turn_before g (down from) (home_of A.homes' i) (subst (HasSpot (spots_in g)) (sym at) w)) may

    below : (n : ℕ) → link_of new i (down n) ≡ link_of mid i (down n)
    below n = R.old_link i (down n) (λ a b. let z : ⊥ = cc in z)

    links : LeadsAll new A.homes' g put i
    links (down n) q d u =
        let v : Under q (down n ∷ home_of homes i) = subst (λ z. Under q (down n ∷ z)) at u in
        let e : n ≡ l = same_down q n l (home_of homes i) v (T.all q d (under_before q (down n) (home_of homes i) v)) in
        inl (record {
          link = proper child.0;
          is = below n ∙ (ap (λ z. link_of mid i (down z)) e ∙ child.1);
          lies = subst (Under q) (ap (λ z. down z ∷ home_of A.homes' i) e ∙ sym child_home) u;
        })
    links across q d u =
        let v : Under q (home_of homes i) = subst (Under q) at (under_before q across (home_of A.homes' i) u) in
        let at_child : Under q (home_of A.homes' child.0) = subst (Under q) (ap (λ z. down l ∷ z) (sym at) ∙ sym child_home) (T.all q d v) in
        inl (record {
          link = shared (target c);
          is = R.set_link;
          lies = one_child_right dims mid A.homes' h g (EndedBefore g (down from ∷ home_of A.homes' i)) (IsOpenAbove (down from ∷ home_of A.homes' i)) put i l (proper child.0) c M child.1 child_done is q d at_child u;
        })

    apart : child.0 ≡ i → ⊥
    apart y = let a = ap (λ z. length (home_of A.homes' z)) y in let b = ap length child_home in omega (arith, a, b)

    only_new : (n : ℕ) (k : Link) → link_of new i (down n) ≡ Some k → k ≡ proper child.0
    only_new n k y =
        let z : link_of mid i (down n) ≡ Some k = sym (below n) ∙ y in
        let e : n ≡ l = alone n k z in
        let m : Some k ≡ Some (proper child.0) = sym z ∙ (ap (λ u. link_of mid i (down u)) e ∙ child.1) in
        cc

    shares : (n : ℕ) (k : Link) → HasOneChild new i n k → SharesContent new i k ⊎ WillHaveTwo new put i
    shares n k Q = inl (subst (λ z. SharesContent new i z) (sym (only_new n k Q.is)) (record { content = c; of_child = R.old_link child.0 across (λ a b. apart a) ∙ is; of_node = R.set_link }))

    F : IsFinished new A.homes' g put i
    F = record {
      is_node = R.old_kind i ∙ node_mid;
      links = links;
      shares = shares;
      own_child = λ n k Q. inl (child.0, only_new n k Q.is);
      wide = λ k d e. absurd (none_off k (All-contains (IsPutOff mid A.homes' h g) put k M.later.put_off d) e);
    }

    pub among_shares : IsHalfwayBefore dims old homes h g before (home_of homes i) → HasVisitedAll dims h g old homes i new before put
    among_shares M0 = record {
      homes' = A.homes';
      halfway = subst (λ z. IsHalfwayAfter dims new A.homes' h g put z) at
          (node_ends dims new A.homes' h g (EndedBefore g (down from ∷ home_of A.homes' i)) (IsOpenAbove (down from ∷ home_of A.homes' i)) (EndedAfter g (home_of A.homes' i)) (IsOpenAbove (home_of A.homes' i)) put i (omega (arith, lt_mid, R.size))
          (last_label new A.homes' g i from M'.has_homes (omega (arith, lt_mid, R.size)) (subst (HasSpot (spots_in g)) (sym at) w) (λ n q y d u. none n q y d (subst (λ z. Under q (down n ∷ z)) at u))) F M');
      keeps = keeps-trans A.keeps (record {
        size = omega (arith, R.size);
        homes = λ j y. refl;
        links = λ j f y n. R.old_link j f (λ a b. n (subst (λ z. IsAbove z (home_of A.homes' j)) at (subst (λ z. IsAbove (home_of A.homes' i) (home_of A.homes' z)) (sym a) itself)));
        kinds = λ j y. R.old_kind j;
      });
      puts = A.puts;
      least = λ L. least_relinked mid new A.homes' h g (BegunAfter (home_of homes i)) i (target c) across R (subst (λ z. BegunAfter (home_of homes i) (across ∷ z)) (sym at) (inr (further itself)))
          (least_begun mid A.homes' h g (BegunBefore (down from ∷ home_of homes i)) (BegunAfter (home_of homes i)) (begun_ends from)
          (A.least L (needs_child dims h g old homes i P M0.holds w (home_least old homes (spots_in (g ++ h)) M0.has_homes L.least i lt) l lt T)));
    }
