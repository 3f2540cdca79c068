-- The costs of a cube's calls are numbers of its bag.
use Rattle.std.proofs.Common.{◌≡◌, ℕ, ◌+◌, ◌<◌, Bool, true, ltb, List, ◌&&◌, map, filter, Option, Some, None, is_some, Contains, refl, sym, ◌∙◌, ap}
use Rattle.std.proofs.Math.Logic.{∥∥₁_elim}
use Rattle.std.proofs.Math.Nat.{ℕ_set}
use Rattle.std.specs.FinMap.{entries}
use Rattle.std.proofs.lemmas.Bool.{and_parts, lt-ltb, false_from_ne_true}
use Rattle.probe_core.specs.Bits.{bits}
use Rattle.cube_view.specs.Bag.{amount, Counts}
use Rattle.cube_view.specs.Paths.{steps_of}
use Rattle.cube_view.specs.Places.{time_dim, deepest, is_under, is_below, label_of}
use Rattle.cube_view.specs.Points.{Point, spot_of, weight_of_point}
use Rattle.cube_view.specs.declared.address.Address.{Address}
use Rattle.cube_view.specs.declared.schema.Schema.{Schema}
use Rattle.cube_view.specs.declared.spot.Spot.{Spot}
use Rattle.time_table.specs.Counts.{count_of}
use Rattle.time_table.specs.Series.{each_cost}
use Rattle.time_table.proofs.AddLaws.{count_of-empty}
use Rattle.node_arena.specs.Slots.{Slot, child, child_label, children_of, slot_of}
use Rattle.node_arena.specs.declared.link.Link.{Link}
use Rattle.cube_store.specs.BagCosts.{weighing_under, labels_below, bins_under}
use Rattle.cube_store.specs.Counted.{CountsPoints}
use Rattle.cube_store.specs.Holding.{TellsCosts, BoundsBagCosts}
use Rattle.cube_store.specs.Reading.{IsWalkAddress, slot_under, children_in, counts_in, label_count, bin_count, spot_weight}
use Rattle.cube_store.proofs.CubeBags.{points_of_schema}
use Rattle.cube_store.proofs.DistinctNumbers.{distinct_count-same, distinct_count-below, below-kept, member-weighing, member-children, member-bins}
use Rattle.cube_store.proofs.LinkMeaning.{same_amount, under-steps, fits-contained, reached_there, counts_here, below_some, below_none}
use Rattle.node_arena.proofs.Labels.{link_down}
use Rattle.cube_store.proofs.ListAmounts.{amount-failing}
use Rattle.cube_store.proofs.TableTotals.{is_under_at, amount_steps}

module _ (z : Schema) (slots : List Slot) (root size : ℕ) (k : List Point) (C : CountsPoints z slots root size k) (h : List Point) (counts : Counts (spot_weight z slots) size h) (a : Address) (W : IsWalkAddress z a) where
  -- where the address isn't reached no spot lies
  unreached : slot_under slots a ≡ None → (p : Point) → Contains k p → is_under z a (spot_of p) ≡ true → ⊥
  unreached none p c u =
      let r = reached_there z slots root size k C (steps_of a) p c (under-steps z a W (spot_of p) (fits-contained z slots root size k C p c) ∙ u) in
      let x : Some r.0 ≡ None = sym r.1 ∙ none in
      cc

  empty_there : slot_under slots a ≡ None → (q : Spot → Bool) → ((s : Spot) → q s ≡ true → is_under z a s ≡ true) → 0 ≡ amount q h
  empty_there none q less = sym (same_amount z slots root size k C h counts q ∙ amount-failing q k (λ p c. false_from_ne_true _ (λ e. unreached none p c (less (spot_of p) e))))

  label_there : a.level < deepest z a.dim → (l : ℕ) → is_some (child (children_in slots (slot_under slots a)) l) ≡ ltb 0 (amount (is_below z a l) h)
  label_there above l = go (slot_under slots a) refl
    where
      at : (i : ℕ) → slot_under slots a ≡ Some i → (o : Option Link) → child (children_of (slot_of slots i)) l ≡ o → is_some o ≡ ltb 0 (amount (is_below z a l) h)
      at i e None is = ap (ltb 0) (sym (below_none z slots root size k C a i (record { walked = W; reached = e }) h counts above l (link_down (slot_of slots i) l ∙ is)))
      at i e (Some link) is = sym (lt-ltb 0 _ (below_some z slots root size k C a i (record { walked = W; reached = e }) h counts above l link (link_down (slot_of slots i) l ∙ is)))

      go : (o : Option ℕ) → slot_under slots a ≡ o → is_some (child (children_in slots o) l) ≡ ltb 0 (amount (is_below z a l) h)
      go None e = ap (ltb 0) (empty_there e (is_below z a l) (λ s b. (and_parts _ _ b).0))
      go (Some i) e = at i e (child (children_of (slot_of slots i)) l) refl

  pub labels_same : a.level < deepest z a.dim → label_count (children_in slots (slot_under slots a)) ≡ labels_below z a h
  labels_same above =
      distinct_count-same (map child_label (children_in slots (slot_under slots a))) (map (λ p. label_of z (spot_of p) a.dim (a.level + 1)) (weighing_under z a h)) (λ l.
      member-children (children_in slots (slot_under slots a)) l
      ∙ (label_there above l
      ∙ sym (member-weighing (λ s. label_of z s a.dim (a.level + 1)) (is_under z a) h l)))

  bin_there : a.dim ≡ time_dim z → (bin : ℕ) → count_of (counts_in slots (slot_under slots a)) bin ≡ amount (is_under_at z a bin) h
  bin_there time bin = go (slot_under slots a) refl
    where
      go : (o : Option ℕ) → slot_under slots a ≡ o → count_of (counts_in slots o) bin ≡ amount (is_under_at z a bin) h
      go None e = count_of-empty bin ∙ empty_there e (is_under_at z a bin) (λ s b. (and_parts _ _ b).0)
      go (Some i) e =
          counts_here z slots root size k C a i (record { walked = W; reached = e }) time bin
          ∙ (amount_steps z a W k (points_of_schema z slots root size k C) bin ∙ sym (same_amount z slots root size k C h counts (is_under_at z a bin)))

  pub bins_same : a.dim ≡ time_dim z → bin_count (counts_in slots (slot_under slots a)) ≡ bins_under z a h
  bins_same time =
      distinct_count-same (map (λ (e : ℕ × ℕ). e.0) (filter (λ (e : ℕ × ℕ). ltb 0 e.1) (entries (counts_in slots (slot_under slots a))))) (map (λ p. (spot_of p).bin) (weighing_under z a h)) (λ bin.
      member-bins (counts_in slots (slot_under slots a)) bin
      ∙ (ap (ltb 0) (bin_there time bin)
      ∙ sym (member-weighing (λ s. s.bin) (is_under z a) h bin)))

-- the costs are numbers of each list that is counted
pub tells_costs : TellsCosts
tells_costs cube h counts = record {
  down = λ a W above. ∥∥₁_elim cube.counted (ℕ_set _ _) (λ C. ap (λ n. 1 + bits n) (labels_same cube.schema cube.arena cube.root.0 cube.size C.0 C.1 h counts a W above));
  before = λ a W time. ∥∥₁_elim cube.counted (ℕ_set _ _) (λ C. ap (λ n. 2 + bits n) (bins_same cube.schema cube.arena cube.root.0 cube.size C.0 C.1 h counts a W time));
  before_each = λ a W time n. ∥∥₁_elim cube.counted (ℕ_set _ _) (λ C. ap (λ k. 1 + each_cost n k) (bins_same cube.schema cube.arena cube.root.0 cube.size C.0 C.1 h counts a W time));
}

pub bounds_bag_costs : BoundsBagCosts
bounds_bag_costs z h a n = (
  λ all. distinct_count-below _ n (below-kept (λ p. (spot_of p).bin) (λ p. is_under z a (spot_of p) && ltb 0 (weight_of_point p)) n h all),
  λ all. distinct_count-below _ n (below-kept (λ p. label_of z (spot_of p) a.dim (a.level + 1)) (λ p. is_under z a (spot_of p) && ltb 0 (weight_of_point p)) n h all),
)
