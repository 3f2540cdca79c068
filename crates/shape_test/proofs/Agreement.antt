-- The contents of tables and of nodes with one child.
use Rattle.std.proofs.Common.{◌≡◌, ℕ, suc, ◌-◌, true, List, [], ◌∷◌, Option, Some, None, is_some, sum_by, refl, sym, ap, ◌∙◌, arith}
use Rattle.std.proofs.lemmas.List.Sums.{sum_by-cons}
use Rattle.cube_view.specs.Walks.{down, across}
use Rattle.node_arena.specs.declared.link.Link.{Link}
use Rattle.node_arena.specs.Calls.{only_link}
use Rattle.node_arena.specs.Slots.{shared, target, Children, Slot, IsTable, children_of, slot_of}
use Rattle.shape_test.specs.Sharing.{SharesAt}
use Rattle.shape_test.specs.Ways.{count_below}
use Rattle.shape_test.proofs.Core.{no_step, step_first}
use Rattle.shape_test.proofs.OnlyChild.{table_link, alone, has_one}
use Rattle.shape_test.specs.Agreeing.{MergesOver}

-- a number that isn't 0
pub one_less : (n : ℕ) → (n ≡ 0 → ⊥) → n ≡ suc (n - 1)
one_less n some = omega (arith, some)

-- sums over children
zero_sum : (f : ℕ → ℕ) (children : Children) → ((l : ℕ) → f l ≡ 0) → sum_by (λ (k : ℕ × Link). f k.0) children ≡ 0
zero_sum f [] z = refl
zero_sum f (x ∷ xs) z =
    let a = sum_by-cons (λ (k : ℕ × Link). f k.0) x xs in
    let h = z x.0 in
    let r = zero_sum f xs z in
    omega (arith, a, h, r)

module _ (slots : List Slot) (i : ℕ) where
  -- a table has no content, and no children
  pub table_merges : (n : ℕ) → IsTable (slot_of slots i) → MergesOver slots i n
  table_merges n table way o bin =
      no_step slots i across way bin (table_link (slot_of slots i) across table) ∙ sym (zero_sum (λ (l : ℕ). count_below slots i (down l ∷ across ∷ way) bin) (children_of (slot_of slots i)) (λ l. no_step slots i (down l) (across ∷ way) bin (table_link (slot_of slots i) (down l) table)))

  -- the content of an only child
  only_merges : (n : ℕ) (c : Link) → only_link (children_of (slot_of slots i)) ≡ Some c → SharesAt slots i → MergesOver slots i n
  only_merges n c one S way o bin =
      let child = alone slots i c one in
      let own = has_one slots i c one in
      let s = S child.0 c own in
      let a = step_first slots i across (shared (target s.content)) way bin s.of_node in
      let b = step_first slots i (down child.0) c (across ∷ way) bin own.is in
      let d = step_first slots (target c) across s.content way bin s.of_child in
      let e = ap (λ (ks : Children). sum_by (λ (k : ℕ × Link). count_below slots i (down k.0 ∷ across ∷ way) bin) ks) child.1 in
      omega (arith, a, b, d, e)

  pub found_merges : (n : ℕ) (o : Option Link) → o ≡ only_link (children_of (slot_of slots i)) → is_some o ≡ true → SharesAt slots i → MergesOver slots i n
  found_merges n None e some S = absurd cc
  found_merges n (Some c) e some S = only_merges n c (sym e) S
