-- What a time table weighs before the point is added to it.
use Rattle.std.proofs.Common.{◌≡◌, ℕ, ◌+◌, ◌≤◌, ◌^◌, ◌&&◌, Bool, true, false, cond, List, [], ◌∷◌, sum_by, eqb, refl, sym, ◌∙◌, arith, ap₂}
use Rattle.std.proofs.Math.Logic.{∥∥₁_elim}
use Rattle.std.specs.Coded.{le_prop}
use Rattle.std.proofs.lemmas.List.Sums.{sum_by-cons}
use Rattle.cube_view.specs.Walks.{Walk, under}
use Rattle.time_table.specs.Counts.{total_count}
use Rattle.node_arena.specs.Slots.{Slot, slot_of, count, counts_of, is_table}
use Rattle.node_arena.specs.Shape.{home_of}
use Rattle.proper_path.specs.Order.{itself}
use Rattle.proper_path.proofs.Order.{not_done}
use Rattle.point_insert.specs.Known.{total_weight, CanEnter}
use Rattle.point_insert.proofs.Totals.{adds_at, total_count-sums}
use Rattle.node_arena.specs.Amounts.{Weighted, amount_under}
use Rattle.node_arena.proofs.AddressAmounts.{sum_by-same}

-- what a point weighs under an address
abbrev weighs_under : Walk → Weighted → ℕ
weighs_under a q = cond (under q.spot a) q.amount 0

-- what one adds under an address in a bin
abbrev adds_under : Walk → ℕ → Weighted → ℕ
adds_under a bin q = cond (under q.spot a && eqb q.spot.bin bin) q.amount 0

split_test : (u b : Bool) (n : ℕ) → cond (u && b) n 0 ≡ cond b (cond u n 0) 0
split_test true true n = refl
split_test true false n = refl
split_test false true n = refl
split_test false false n = refl

weighs_less : (a : Walk) (h : List Weighted) → sum_by (weighs_under a) h ≤ total_weight h
weighs_less a [] = omega arith
weighs_less a (q ∷ h) =
    let r = weighs_less a h in
    let c = sum_by-cons (weighs_under a) q h in
    let d = sum_by-cons (λ (q : Weighted). q.amount) q h in
    let o = one (under q.spot a) q.amount in
    omega (arith, r, c, d, o)
  where
    one : (b : Bool) (n : ℕ) → cond b n 0 ≤ n
    one true n = omega arith
    one false n = omega arith

-- a table whose counts are the list's amounts under an address weighs no more than the list
pub table_light : (slots : List Slot) (i : ℕ) (a : Walk) (h : List Weighted) → ((bin : ℕ) → count (slot_of slots i) bin ≡ amount_under h a bin) → total_count (counts_of (slot_of slots i)) ≤ total_weight h
table_light slots i a h same =
    let e = total_count-sums (λ (q : Weighted). q.spot.bin) (weighs_under a) (counts_of (slot_of slots i)) h (λ bin. same bin ∙ sum_by-same (adds_under a bin) (adds_at (λ (q : Weighted). q.spot.bin) (weighs_under a) bin) h (λ q. split_test (under q.spot a) (eqb q.spot.bin bin) q.amount)) in
    let l = weighs_less a h in
    omega (arith, e, l)

-- so the point fits into it
pub point_fits : (dims : ℕ) (p : Weighted) (slots : List Slot) (updated : List ℕ) (dim root : ℕ) → ∥ CanEnter dims p slots updated dim root ∥₁ → is_table (slot_of slots root) ≡ true → total_count (counts_of (slot_of slots root)) + p.amount ≤ 2 ^ 63
point_fits dims p slots updated dim root R t = ∥∥₁_elim R le_prop (λ C.
    let K = C.known in
    let l = table_light slots root (home_of C.homes root) C.points (λ bin. K.between.midway.counted.still root bin K.in_range t (λ d. not_done p (home_of C.homes root) (home_of C.homes root) itself d)) in
    let w = sum_by-cons (λ (q : Weighted). q.amount) p C.points in
    let k = K.light in
    omega (arith, l, w, k))
