-- A node's own content is needed where it has two labels, and the child of an only label where the node is needed.
use Rattle.std.proofs.Common.{◌≡◌, ℕ, ◌<◌, ◌⊎◌, inl, inr, List, ◌∷◌, ◌++◌, Some, None, Contains, length, sym, ap, ◌∙◌, subst}
use Rattle.cube_view.specs.Walks.{down, across, Walk, SpotPath, Under, HasSpot, by_down, by_across, IsCoarser, dimension}
use Rattle.cube_view.proofs.FinerWalks.{under_before}
use Rattle.node_arena.specs.Amounts.{Weighted, spots_in}
use Rattle.node_arena.specs.Shape.{home_of, HoldsSpots}
use Rattle.node_arena.specs.Slots.{Slot}
use Rattle.node_arena.proofs.AddressAmounts.{spots_in-append_cases}
use Rattle.node_arena.proofs.Labels.{same_down}
use Rattle.least_cube.specs.Least.{HasFiner}
use Rattle.point_insert.proofs.Cases.{next_label}
use Rattle.proper_path.proofs.Dims.{goes_across}
use Rattle.group_insert.specs.LeastSoFar.{NeedsOwn}
use Rattle.group_insert.specs.Visits.{ArePoints, IsLabelOf, HasTwoLabels, HasOneLabel, HasNoLabel}
use Rattle.group_insert.proofs.FinerEnd.{new_spot}
use Rattle.group_insert.proofs.FinerTurns.{within_cases, next_across}
use Rattle.group_insert.proofs.Growth.{spot_of_group}

-- a finer address of a content's is one of the node's, or all spots go down one label of the node
content_served : (all : List SpotPath) (a : Walk) → ((q : SpotPath) → Contains all q → Under q a → Under q (across ∷ a)) → (HasFiner all a → ⊥) → (to : Walk) → IsCoarser (across ∷ a) to → (across ∷ a ≡ to → ⊥) → ((q : SpotPath) → Contains all q → Under q (across ∷ a) → Under q to) → (t : ℕ) × ((q : SpotPath) → Contains all q → Under q a → Under q (down t ∷ a))
content_served all a goes needed to (by_across {b = b} f) differs serves = go (within_cases f)
  where
    here : (q : SpotPath) → Contains all q → Under q a → Under q b
    here q c u = under_before q across b (serves q c (goes q c u))

    go : IsCoarser a b ⊎ ((t : ℕ) × ((q : SpotPath) → Under q b → Under q (down t ∷ a))) → (t : ℕ) × ((q : SpotPath) → Contains all q → Under q a → Under q (down t ∷ a))
    go (inl k) = absurd (needed (record { to = b; finer = k; differs = λ x. differs (ap (λ z. across ∷ z) x); all = here }))
    go (inr r) = (r.0, λ q c u. r.1 q (here q c u))

-- a finer address of an only child's is one of the node's
child_served : (all : List SpotPath) (a : Walk) (m : ℕ) → ((q : SpotPath) → Contains all q → Under q a → Under q (down m ∷ a)) → (HasFiner all a → ⊥) → (to : Walk) → IsCoarser (down m ∷ a) to → (down m ∷ a ≡ to → ⊥) → ((q : SpotPath) → Contains all q → Under q (down m ∷ a) → Under q to) → ⊥
child_served all a m goes needed to (by_down {b = b} f) differs serves = needed (record {
  to = b;
  finer = f;
  differs = λ x. differs (ap (λ z. down m ∷ z) x);
  all = λ q c u. under_before q (down m) b (serves q c (goes q c u));
})

module _ (dims : ℕ) (h g : List Weighted) (slots : List Slot) (homes : List Walk) (i : ℕ) (P : ArePoints dims h g) (S : HoldsSpots slots homes (spots_in h) (spots_in (g ++ h))) (w : HasSpot (spots_in g) (home_of homes i)) (needed : HasFiner (spots_in (g ++ h)) (home_of homes i) → ⊥) where
  abbrev a : Walk
  a = home_of homes i

  abbrev all : List SpotPath
  all = spots_in (g ++ h)

  -- a label of the node has a spot
  label_spot : (n : ℕ) → IsLabelOf slots homes g i n → HasSpot all (down n ∷ a)
  label_spot n (inl l) = S.wanted i (down n) l.link l.is
  label_spot n (inr v) = spot_of_group g h (down n ∷ a) v

  pub needs_content : (dimension a ≡ dims → ⊥) → HasTwoLabels slots homes g i ⊎ HasNoLabel homes g i → NeedsOwn homes h g i None
  needs_content early T = record { content = λ e F. content F T; child = λ l m e v F. absurd cc }
    where
      goes : (q : SpotPath) → Contains all q → Under q a → Under q (across ∷ a)
      goes q c u = next_across q w.spot (P.alike w.spot w.is_in q c) a u (goes_across dims w.spot (P.spots w.spot w.is_in) a w.lies early)

      content : HasFiner all (across ∷ a) → HasTwoLabels slots homes g i ⊎ HasNoLabel homes g i → ⊥
      content F (inl two) =
          let r = content_served all a goes needed F.to F.finer F.differs F.all in
          let v = label_spot two.one two.at_one in
          let x = label_spot two.other two.at_other in
          let one = same_down v.spot two.one r.0 a v.lies (r.1 v.spot v.is_in (under_before v.spot (down two.one) a v.lies)) in
          let other = same_down x.spot two.other r.0 a x.lies (r.1 x.spot x.is_in (under_before x.spot (down two.other) a x.lies)) in
          two.differ (one ∙ sym other)
      content F (inr none) =
          let r = content_served all a goes needed F.to F.finer F.differs F.all in
          none r.0 w.spot w.is_in (r.1 w.spot (new_spot g h w.spot w.is_in) w.lies)

  pub needs_child : (l : ℕ) → i < length slots → HasOneLabel slots homes g i l → NeedsOwn homes h g i (Some l)
  needs_child l lt T = record { content = λ e F. absurd cc; child = λ k m e v F. child_served all a m (goes m v) needed F.to F.finer F.differs F.all }
    where
      goes : (m : ℕ) → HasSpot (spots_in g) (down m ∷ a) → (q : SpotPath) → Contains all q → Under q a → Under q (down m ∷ a)
      goes m v q c u = subst (λ z. Under q (down z ∷ a)) (sym at) (on (spots_in-append_cases g h q c))
        where
          at : m ≡ l
          at = same_down v.spot m l a v.lies (T.all v.spot v.is_in (under_before v.spot (down m) a v.lies))

          on : Contains (spots_in g) q ⊎ Contains (spots_in h) q → Under q (down l ∷ a)
          on (inl d) = T.all q d u
          on (inr d) =
              let n = next_label q w.spot (P.alike w.spot w.is_in q c) a l u (T.all w.spot w.is_in w.lies) in
              let k = S.needed i (down n.0) lt (record { spot = q; is_in = d; lies = n.1 }) in
              subst (λ z. Under q (down z ∷ a)) (T.alone n.0 k.link k.is) n.1
