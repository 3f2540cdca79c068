-- What is told of single homes, rows and slots on the way to a size.
use Rattle.std.proofs.Common.{◌≡◌, ℕ, suc, ◌+◌, ◌-◌, true, false, eqb, nat_le, List, Option, Some, None, refl, sym, ap, ap₂, ◌∙◌, arith}
use Rattle.std.specs.FinMap.{entries}
use Rattle.cube_view.specs.Places.{deepest}
use Rattle.cube_view.specs.Walks.{Walk}
use Rattle.cube_view.specs.declared.schema.Schema.{Schema}
use Rattle.time_table.specs.Counts.{BinCounts}
use Rattle.node_arena.specs.Shape.{home_of}
use Rattle.node_arena.specs.Slots.{Slot, slot_of}
use Rattle.node_arena.specs.Stats.{capped}
use Rattle.shape_test.specs.Levels.{Levels, left}
use Rattle.shape_test.specs.Wholes.{is_deepest, rows_at, spelled_rows}
use Rattle.shape_test.specs.Fits.{least_points}
use Rattle.shape_test.specs.Labels.{schema_levels, labels_fit}
use Rattle.shape_test.specs.Merging.{NoRowFrom, IsFirstRow}
use Rattle.shape_test.specs.Places.{IsPlaceOf, IsOutside}
use Rattle.shape_test.specs.Sizes.{table_size, size_of}
use Rattle.shape_test.specs.declared.place.Place.{Place}
use Rattle.shape_test.specs.declared.size.BagSize.{BagSize}
use Rattle.shape_test.proofs.RowSums.{rows_upto, row_added, rows_added, size_plus}

pub at_place : (schema : Schema) (a : Walk) (p : Place) (n : ℕ) → IsPlaceOf schema a p → n ≡ deepest schema p.dim → nat_le n p.level ≡ is_deepest (left (schema_levels schema) a)
at_place schema a p n P e = none_left n p.level (deepest schema p.dim) e ∙ sym (ap is_deepest P.levels)
  where
    none_left : (n k m : ℕ) → n ≡ m → nat_le n k ≡ eqb (m - k) 0
    none_left n k m e = grind arith

pub past_levels : (schema : Schema) (a : Walk) → IsOutside schema a → labels_fit schema a ≡ true → false ≡ is_deepest (left (schema_levels schema) a)
past_levels schema a out fit = go (left (schema_levels schema) a) refl
  where
    go : (o : Option Levels) → left (schema_levels schema) a ≡ o → false ≡ is_deepest o
    go None e = refl
    go (Some c) e = absurd (out (record { levels_left = c; is = e }) fit)

-- the next row of a table adds its own number
pub next_row : (f : ℕ → ℕ) (m : BinCounts) (from bin n to s r k : ℕ) → f 0 ≡ 0 → IsFirstRow m from (bin, n) → to ≡ bin → s ≡ capped (rows_upto f from (entries m)) → k ≡ f n → r ≡ capped (s + k) → r ≡ capped (rows_upto f (to + 1) (entries m))
next_row f m from bin n to s r k z F t S K R =
    let a = row_added f m from bin n z F in
    let e = ap (λ (x : ℕ). rows_upto f (x + 1) (entries m)) t in
    omega (arith, a, e, S, K, R)

abbrev sized : ℕ → ℕ → BagSize
sized s l = record { sum = s; least = l }

pub all_rows : (m : BinCounts) (from : ℕ) (r : BagSize) → NoRowFrom m from → r.sum ≡ capped (rows_upto (λ n. n) from (entries m)) → r.least ≡ capped (rows_upto least_points from (entries m)) → r ≡ table_size m
all_rows m from r N s l = ap₂ sized (s ∙ ap capped (rows_added (λ n. n) m from refl N)) (l ∙ ap capped (rows_added least_points m from refl N))

-- the next slot adds its rows
pub slot_added : (levels : List ℕ) (slots : List Slot) (homes : List Walk) (i : ℕ) (home : Walk) (size own r : BagSize) → size ≡ size_of (spelled_rows levels slots homes i) → home ≡ home_of homes i → own ≡ size_of (rows_at levels home (slot_of slots i)) → r.sum ≡ capped (size.sum + own.sum) → r.least ≡ capped (size.least + own.least) → r ≡ size_of (spelled_rows levels slots homes (i + 1))
slot_added levels slots homes i home size own r S H O sum least =
    let o : own ≡ size_of (rows_at levels (home_of homes i) (slot_of slots i)) = O ∙ ap (λ (a : Walk). size_of (rows_at levels a (slot_of slots i))) H in
    let n : suc i ≡ i + 1 = omega arith in
    size_plus (spelled_rows levels slots homes i) (rows_at levels (home_of homes i) (slot_of slots i)) r (sum ∙ ap₂ (λ (a b : BagSize). capped (a.sum + b.sum)) S o) (least ∙ ap₂ (λ (a b : BagSize). capped (a.least + b.least)) S o) ∙ ap (λ (k : ℕ). size_of (spelled_rows levels slots homes k)) n
