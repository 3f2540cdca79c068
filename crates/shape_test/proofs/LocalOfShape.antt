-- The shape gives the conditions on slots.
use Rattle.std.proofs.Common.{◌≡◌, ℕ, suc, ◌<◌, List, [], ◌∷◌, length, map, Option, Some, None, Contains, sum_by, refl, sym, ap, ◌∙◌, subst, ap₂}
use Rattle.cube_view.specs.Walks.{down, across, Walk, SpotPath, Under, dimension}
use Rattle.cube_view.proofs.FinerWalks.{under-some, dimension-finer}
use Rattle.node_arena.specs.declared.link.Link.{Link}
use Rattle.node_arena.specs.Amounts.{Weighted, spots_in, amount_under}
use Rattle.node_arena.specs.Reach.{count_reached}
use Rattle.node_arena.specs.Shape.{home_of, IsShaped}
use Rattle.node_arena.specs.Slots.{Slot, child, slot_of, children_of, walk_end}
use Rattle.node_arena.proofs.Walks.{walk-lt, walk_coarser, walk_home, walk_reaches, walk_counts}
use Rattle.shape_test.specs.Levels.{Levels, level_down, level_across, then_level, left, label_counts}
use Rattle.shape_test.specs.Ways.{Way, found, along, count_below, IsFinest, Merges}
use Rattle.node_arena.proofs.Labels.{link_down}
use Rattle.shape_test.proofs.Core.{IsApart, splits, GoesDown, absent, under_along}
use Rattle.shape_test.proofs.Local.{left_spot, own_way, levels_of}

pub found_along : (slots : List Slot) (a : Walk) (way : Way) → walk_end slots 0 (along a way) ≡ found slots (walk_end slots 0 a) way
found_along slots a [] = refl
found_along slots a (e ∷ way) = found_along slots (e ∷ a) way

pub left_along : (levels : List ℕ) (a : Walk) (n : ℕ) (later : List ℕ) (way : Way) → IsFinest n later way → left levels a ≡ Some (record { rest = n; later = later }) → left levels (along a way) ≡ Some (record { rest = 0; later = [] })
left_along levels a n later [] f at = at ∙ ap₂ (λ (x : ℕ) (y : List ℕ). Some (record { rest = x; later = y })) f.0 f.1
left_along levels a n later (down l ∷ way) f at = left_along levels (down l ∷ a) f.0 later way f.2 (ap (λ (o : Option Levels). then_level o (down l)) at ∙ ap (λ (x : ℕ). level_down x later) f.1)
left_along levels a n later (across ∷ way) f at = left_along levels (across ∷ a) f.0 f.1 way f.4 (ap (λ (o : Option Levels). then_level o across) at ∙ ap level_across f.3)

module _ (dims : ℕ) (levels : List ℕ) (slots : List Slot) (homes : List Walk) (h : List Weighted) (S : IsShaped dims slots homes h) (spots : (q : SpotPath) → Contains (spots_in h) q → label_counts q ≡ levels) (ends : (a : Walk) → left levels a ≡ Some (record { rest = 0; later = [] }) → dimension a ≡ dims) where
  at_address : (b : Walk) (bin : ℕ) → left levels b ≡ Some (record { rest = 0; later = [] }) → count_reached slots (walk_end slots 0 b) bin ≡ amount_under h b bin
  at_address b bin at = go (walk_end slots 0 b) refl
    where
      go : (o : Option ℕ) → walk_end slots 0 b ≡ o → count_reached slots o bin ≡ amount_under h b bin
      go None e = sym (absent h b bin (λ q c u. let r = walk_reaches dims slots homes h S b (record { spot = q; is_in = c; lies = u }) in let x = r.1 in absurd cc))
      go (Some j) e =
          let l = walk-lt slots homes S.has_homes b j e in
          let d : dimension (home_of homes j) ≡ dims = sym (dimension-finer (walk_coarser slots homes S.has_homes b j e)) ∙ ends b at in
          walk_counts dims slots homes h S b j bin l e ((S.has_tables.tables j l).1 d)

  pub found_counts : (a : Walk) (i : ℕ) (way : Way) (bin : ℕ) → walk_end slots 0 a ≡ Some i → left levels (along a way) ≡ Some (record { rest = 0; later = [] }) → count_below slots i way bin ≡ amount_under h (along a way) bin
  found_counts a i way bin w at =
      sym (ap (λ (o : Option ℕ). count_reached slots o bin) (found_along slots a way ∙ ap (λ (o : Option ℕ). found slots o way) w)) ∙ at_address (along a way) bin at

  shape_goes : (i n : ℕ) (later : List ℕ) → i < length slots → left levels (home_of homes i) ≡ Some (record { rest = suc n; later = later }) → (q : SpotPath) → Contains (spots_in h) q → GoesDown (children_of (slot_of slots i)) (home_of homes i) q
  shape_goes i n later lt at q c u =
      let s = under-some q (home_of homes i) u in
      let w = own_way q s.0.later s.0.rest (home_of homes i) s.1 in
      let e : Some (record { rest = suc n; later = later }) ≡ Some (levels_of s.0) = sym at ∙ (ap (λ (z : List ℕ). left z (home_of homes i)) (sym (spots q c)) ∙ left_spot q (home_of homes i) s.0 s.1) in
      let g : record { rest = suc n; later = later } ≡ levels_of s.0 = cc in
      let f : suc n ≡ length s.0.rest = ap (λ (z : Levels). z.rest) g in
      go (map length s.0.later) w.0 (subst (λ x. IsFinest x (map length s.0.later) w.0) (sym f) w.1) w.2
    where
      go : (later : List ℕ) (way : Way) → IsFinest (suc n) later way → Under q (along (home_of homes i) way) → (l : ℕ) × (t : Link) × (child (children_of (slot_of slots i)) l ≡ Some t) × Under q (down l ∷ home_of homes i)
      go later [] f v = let x = f.0 in absurd cc
      go later (across ∷ way) f v = let x = f.2 in absurd cc
      go later (down l ∷ way) f v =
          let d = under_along q (down l ∷ home_of homes i) way v in
          let k = S.holds.needed i (down l) lt (record { spot = q; is_in = c; lies = d }) in
          (l, k.link, sym (link_down (slot_of slots i) l) ∙ k.is, d)

  -- THE MERGES
  pub shape_merges : (i n m : ℕ) (later : List ℕ) → i < length slots → left levels (home_of homes i) ≡ Some (record { rest = suc n; later = m ∷ later }) → IsApart (children_of (slot_of slots i)) → (way : Way) → IsFinest m later way → (bin : ℕ) → Merges slots i way bin
  shape_merges i n m later lt at apart way f bin =
      found_counts a i (across ∷ way) bin w at_whole
      ∙ (sym (splits (children_of (slot_of slots i)) a way bin h apart (shape_goes i n (m ∷ later) lt at))
      ∙ (λ s. sum_by (λ (k : ℕ × Link). sym (found_counts a i (down k.0 ∷ across ∷ way) bin w (at_part k.0)) s) (children_of (slot_of slots i))))
    where
      a : Walk
      a = home_of homes i

      w : walk_end slots 0 a ≡ Some i
      w = walk_home slots homes S.has_homes a i lt refl

      at_whole : left levels (along (across ∷ a) way) ≡ Some (record { rest = 0; later = [] })
      at_whole = left_along levels (across ∷ a) m later way f (ap (λ (o : Option Levels). then_level o across) at)

      at_part : (l : ℕ) → left levels (along (across ∷ down l ∷ a) way) ≡ Some (record { rest = 0; later = [] })
      at_part l = left_along levels (across ∷ down l ∷ a) m later way f (ap (λ (o : Option Levels). then_level (then_level o (down l)) across) at)
