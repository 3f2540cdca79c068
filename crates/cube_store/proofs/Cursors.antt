-- What the type of a cube says of a cursor that stands in it, for each list that the cube counts.
use Rattle.std.proofs.Common.{◌≡◌, ◌≢◌, ℕ, ◌+◌, ◌<◌, suc, cond, List, [], ◌∷◌, All, length, filter, map, eqb, ltb, Option, Some, None, refl, sym, ◌∙◌, ap, subst, arith}
use Rattle.std.proofs.Math.Bool.{Bool-set}
use Rattle.std.proofs.Math.Logic.{∥∥₁_elim}
use Rattle.std.proofs.Math.Nat.{ℕ_set}
use Rattle.std.specs.Coded.{le_prop}
use Rattle.std.specs.FinMap.{entries, len, len-entries, entries_sorted}
use Rattle.std.specs.Set.{distinct_count}
use Rattle.std.proofs.lemmas.Bool.{and_parts, eqb-true, lt-ltb}
use Rattle.probe_core.specs.Bits.{bits}
use Rattle.cube_view.specs.Bag.{amount, anywhere, EachCounted}
use Rattle.cube_view.specs.Found.{IsNextLabel}
use Rattle.cube_view.specs.Paths.{steps_of}
use Rattle.cube_view.specs.Places.{time_dim, deepest, is_below, is_before, label_of, longer, next_dim, IsAddress, quadrant_at}
use Rattle.cube_view.specs.Points.{spot_of}
use Rattle.cube_view.specs.Walks.{down, across}
use Rattle.cube_view.specs.declared.address.Address.{Address}
use Rattle.cube_view.specs.declared.schema.Schema.{Schema}
use Rattle.cube_view.specs.declared.spot.Spot.{Spot}
use Rattle.cube_view.proofs.PointWeights.{all-weigh}
use Rattle.time_table.specs.Counts.{BinCounts, AllCounted, count_of, count_before}
use Rattle.node_arena.specs.Calls.{child_from}
use Rattle.node_arena.specs.Slots.{Slot, proper, IsRising, IsNode, IsTable, children_of, counts_of, link_of, slot_of, target, walk_end}
use Rattle.node_arena.specs.declared.link.Link.{Link}
use Rattle.node_arena.proofs.Labels.{child_from-some}
use Rattle.proper_path.proofs.Labels.{deepest-time}
use Rattle.cube_store.specs.Counted.{HasPoints}
use Rattle.cube_store.specs.Reading.{StandsAt, spot_weight, children_in, counts_in, label_count, bin_count, slot_under}
use Rattle.cube_store.proofs.CubeBags.{points_of_schema}
use Rattle.cube_store.proofs.LinkMeaning.{in_range, node_before_time, table_at_time, counts_here, step_some, below_some, below_none, across_some, across_none, next_some, next_none, same_amount, step_on, under-below, fits-contained}
use Rattle.cube_store.proofs.AddressSteps.{steps-longer, steps-next, walked-longer, walked-next}
use Rattle.time_table.proofs.KeyTests.{from_T}
use Rattle.cube_store.proofs.PairOrder.{rises_from_test, distinct-rising}
use Rattle.cube_store.proofs.TableTotals.{is_under_at, amount_steps, before_total}

quadrant_small : (z : Schema) (s : Spot) (level m : ℕ) → quadrant_at z.depth level s.x s.y ≡ m → m < 4
quadrant_small z s level m is = omega (arith, is)

-- an address above the deepest level is none of time
pub above_not_time : (z : Schema) (a : Address) → a.level < deepest z a.dim → a.dim ≢ time_dim z
above_not_time z a above e = let d : deepest z a.dim ≡ 0 = ap (deepest z) e ∙ deepest-time z in omega (arith, above, d)

module _ (z : Schema) (slots : List Slot) (root size : ℕ) (has : HasPoints z slots root size) (slot : ℕ) (a : Address) (S : StandsAt z slots slot a) where
  pub slot_in_range : slot < length slots
  slot_in_range = ∥∥₁_elim has le_prop (λ C. in_range z slots root size C.0 C.1 a slot S)

  pub slot_before_time : a.dim ≢ time_dim z → IsNode (slot_of slots slot)
  slot_before_time other = ∥∥₁_elim has (Bool-set _ _) (λ C. node_before_time z slots root size C.0 C.1 a slot S other)

  pub slot_above : a.level < deepest z a.dim → IsNode (slot_of slots slot)
  slot_above above = slot_before_time (above_not_time z a above)

  pub slot_at_time : a.dim ≡ time_dim z → IsTable (slot_of slots slot)
  slot_at_time time = ∥∥₁_elim has (Bool-set _ _) (λ C. table_at_time z slots root size C.0 C.1 a slot S time)

  -- down

  pub finds_below : a.level < deepest z a.dim → (m : ℕ) (l : Link) → link_of slots slot (down m) ≡ Some l → EachCounted (spot_weight z slots) size (λ h. 0 < amount (is_below z a m) h)
  finds_below above m l is h counts = ∥∥₁_elim has le_prop (λ C. below_some z slots root size C.0 C.1 a slot S h counts above m l is)

  pub finds_none_below : a.level < deepest z a.dim → (m : ℕ) → link_of slots slot (down m) ≡ None → EachCounted (spot_weight z slots) size (λ h. amount (is_below z a m) h ≡ 0)
  finds_none_below above m is h counts = ∥∥₁_elim has (ℕ_set _ _) (λ C. below_none z slots root size C.0 C.1 a slot S h counts above m is)

  -- a child in space is a quadrant
  pub is_quadrant : a.level < deepest z a.dim → (m : ℕ) (l : Link) → link_of slots slot (down m) ≡ Some l → a.dim ≡ 1 → m < 4
  is_quadrant above m l is space = ∥∥₁_elim has le_prop (λ C.
      let p = step_some z slots root size C.0 C.1 a slot S (down m) l is in
      let below = sym (under-below z a S.walked (spot_of p.0) (fits-contained z slots root size C.0 C.1 p.0 p.1) m above) ∙ p.2 in
      let label = eqb-true _ m (and_parts _ _ below).1 in
      quadrant_small z (spot_of p.0) (a.level + 1) m (sym (ap (λ (d : ℕ). label_of z (spot_of p.0) d (a.level + 1)) space) ∙ label))

  pub stands_below : a.level < deepest z a.dim → (m : ℕ) (l : Link) → link_of slots slot (down m) ≡ Some l → (a.dim ≡ 1 → m < 4) → (b : Address) → b ≡ longer a m → IsAddress z b → StandsAt z slots (target l) b
  stands_below above m l is quadrant b e placed =
      subst (λ (x : Address). StandsAt z slots (target l) x) (sym e) (record {
        walked = walked-longer z a S.walked m above quadrant (subst (λ (x : Address). IsAddress z x) e placed);
        reached = ap (walk_end slots 0) (steps-longer z a S.walked m above quadrant) ∙ step_on slots (steps_of a) slot (down m) (Some l) S.reached is;
      })

  -- across

  pub finds_across : (l : Link) → link_of slots slot across ≡ Some l → EachCounted (spot_weight z slots) size (λ h. 0 < amount anywhere h)
  finds_across l is h counts = ∥∥₁_elim has le_prop (λ C. across_some z slots root size C.0 C.1 a slot S h counts l is)

  pub finds_none_across : a.dim ≢ time_dim z → link_of slots slot across ≡ None → EachCounted (spot_weight z slots) size (λ h. amount anywhere h ≡ 0)
  finds_none_across time is h counts = ∥∥₁_elim has (ℕ_set _ _) (λ C. across_none z slots root size C.0 C.1 a slot S h counts time is)

  pub stands_across : a.dim ≢ time_dim z → (l : Link) → link_of slots slot across ≡ Some l → (b : Address) → b ≡ next_dim a → IsAddress z b → StandsAt z slots (target l) b
  stands_across time l is b e placed =
      subst (λ (x : Address). StandsAt z slots (target l) x) (sym e) (record {
        walked = walked-next z a S.walked time (subst (λ (x : Address). IsAddress z x) e placed);
        reached = ap (walk_end slots 0) (steps-next z a S.walked time) ∙ step_on slots (steps_of a) slot across (Some l) S.reached is;
      })

  -- the next label

  pub finds_next : a.level < deepest z a.dim → (from : ℕ) (x : ℕ × Link) → IsRising (children_of (slot_of slots slot)) → child_from (children_of (slot_of slots slot)) from ≡ Some x → EachCounted (spot_weight z slots) size (IsNextLabel z a from (Some x.0))
  finds_next above from x rising is h counts =
      let first = child_from-some (children_of (slot_of slots slot)) from x rising is in (
        first.low,
        ∥∥₁_elim has le_prop (λ C. (next_some z slots root size C.0 C.1 a slot S h counts above from x first).1),
        λ m low high. ∥∥₁_elim has (ℕ_set _ _) (λ C. (next_some z slots root size C.0 C.1 a slot S h counts above from x first).2 m low high),
      )

  pub finds_no_next : a.level < deepest z a.dim → (from : ℕ) → child_from (children_of (slot_of slots slot)) from ≡ None → EachCounted (spot_weight z slots) size (IsNextLabel z a from None)
  finds_no_next above from is h counts = ∥∥₁_elim has (ℕ_set _ _) (λ C. next_none z slots root size C.0 C.1 a slot S h counts above from is)

  -- the total before an end

  pub finds_total : a.dim ≡ time_dim z → (m : BinCounts) → m ≡ counts_of (slot_of slots slot) → AllCounted m → (end : ℕ) → EachCounted (spot_weight z slots) size (λ h. count_before m end ≡ amount (is_before z a end) h)
  finds_total time m is counted end h counts = ∥∥₁_elim has (ℕ_set _ _) (λ C.
      let all = points_of_schema z slots root size C.0 C.1 in
      let in_bins : (bin : ℕ) → count_of m bin ≡ amount (is_under_at z a bin) C.0 = λ bin. ap (λ (n : BinCounts). count_of n bin) is ∙ (counts_here z slots root size C.0 C.1 a slot S time bin ∙ amount_steps z a S.walked C.0 all bin) in
      before_total z a m C.0 counted (all-weigh z C.0 C.1.all_sound) in_bins end ∙ sym (same_amount z slots root size C.0 C.1 h counts (is_before z a end)))

-- What the calls cost where a cursor stands

pub down_cost-here : (z : Schema) (slots : List Slot) (slot : ℕ) (a : Address) → StandsAt z slots slot a → IsRising (children_of (slot_of slots slot)) → bits (length (children_of (slot_of slots slot))) ≡ bits (label_count (children_in slots (slot_under slots a)))
down_cost-here z slots slot a S rising = ap bits (sym (distinct-rising (proper 0) (children_of (slot_of slots slot)) rising) ∙ ap (λ (o : Option ℕ). label_count (children_in slots o)) (sym S.reached))

some_each : (es : List (ℕ × ℕ)) → All (λ (n : ℕ). 0 < n) (map (λ (e : ℕ × ℕ). e.1) es) → filter (λ (e : ℕ × ℕ). ltb 0 e.1) es ≡ es
some_each [] all = refl
some_each (e ∷ es) all =
    let first = lt-ltb 0 e.1 (all 0 0 (omega arith)) in
    ap (λ b. cond b (e ∷ filter (λ (e : ℕ × ℕ). ltb 0 e.1) es) (filter (λ (e : ℕ × ℕ). ltb 0 e.1) es)) first ∙ ap (λ (r : List (ℕ × ℕ)). e ∷ r) (some_each es (λ i d lt. all (suc i) d (omega (arith, lt))))

bin_count-all : (m : BinCounts) → AllCounted m → bin_count m ≡ len m
bin_count-all m counted =
    ap (λ (es : List (ℕ × ℕ)). distinct_count eqb (map (λ (e : ℕ × ℕ). e.0) es)) (some_each (entries m) counted)
    ∙ (distinct-rising 0 (entries m) (rises_from_test (entries m) (from_T _ (entries_sorted m))) ∙ sym (len-entries m))

-- the rows of the table are as many as the bins that it counts in
pub bins-here : (z : Schema) (slots : List Slot) (slot : ℕ) (a : Address) → StandsAt z slots slot a → (m : BinCounts) → m ≡ counts_of (slot_of slots slot) → AllCounted m → len m ≡ bin_count (counts_in slots (slot_under slots a))
bins-here z slots slot a S m is counted = sym (bin_count-all m counted) ∙ (ap bin_count is ∙ ap (λ (o : Option ℕ). bin_count (counts_in slots o)) (sym S.reached))
