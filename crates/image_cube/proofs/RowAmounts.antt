-- What the rows of a table come to, and how few points have them.
use Rattle.std.proofs.Common.{◌≡◌, ◌≢◌, ◌⊎◌, inl, inr, ℕ, ◌+◌, ◌<◌, ◌≤◌, Bool, true, false, cond, ◌&&◌, T, eqb, nat_cmp, List, [], ◌∷◌, All, length, map, sum, sum_by, None, unwrap_or, refl, sym, ap, ◌∙◌, arith}
use Rattle.std.specs.Cmp.{nat_cmp_total}
use Rattle.std.specs.FinMap.{empty, entries, entries_sorted, entries-insert, get-entries, find, put, len-entries, len-empty}
use Rattle.std.specs.FinMap.Entries.{is_sorted}
use Rattle.std.proofs.lemmas.Bool.{cases_order}
use Rattle.std.proofs.lemmas.List.Elements.{All-nil, All-cons, All-head, All-tail}
use Rattle.std.proofs.lemmas.List.Sums.{sum_by-cons}
use Rattle.cube_view.specs.Points.{heaviest}
use Rattle.cube_view.specs.Walks.{Walk, under}
use Rattle.time_table.specs.Counts.{BinCounts, AllCounted, add_many, count_of, amount_at}
use Rattle.time_table.specs.Places.{count_at}
use Rattle.time_table.proofs.CountLaws.{same_counts, total_count-same}
use Rattle.time_table.proofs.Entries.{find_here, find_later, find_before, put_first, put_here, put_later}
use Rattle.time_table.proofs.KeySums.{first_part, second_part, find_below, nothing}
use Rattle.time_table.proofs.AmountTables.{gathered, count_of-gathered, AllCounted-gathered}
use Rattle.node_arena.specs.Amounts.{Weighted, amount_under}
use Rattle.shape_test.specs.Wholes.{spot_at}
use Rattle.shape_test.proofs.Core.{amount-cons}
use Rattle.shape_test.specs.Fits.{bag_sum, least_points, least_size}
use Rattle.shape_test.proofs.RowRemainders.{where_equal-swapped}
use Rattle.image_cube.proofs.ListShares.{part, part-cons}

-- how few points have rows
abbrev least_rows : List (ℕ × ℕ) → ℕ
least_rows es = sum_by (λ (e : ℕ × ℕ). least_points e.1) es

least-cons : (e : ℕ × ℕ) (es : List (ℕ × ℕ)) → least_rows (e ∷ es) ≡ least_points e.1 + least_rows es
least-cons e es = sum_by-cons (λ (e : ℕ × ℕ). least_points e.1) e es

-- a point more takes at most a point more
point-more : (n m : ℕ) → m ≤ heaviest → least_points (n + m) ≤ least_points n + 1
point-more n m le = omega (arith, le)

least-put : (bin m : ℕ) (es : List (ℕ × ℕ)) → m ≤ heaviest → T (is_sorted nat_cmp es) → least_rows (put nat_cmp bin (count_at bin es + m) es) ≤ least_rows es + 1
least-put bin m [] le sorted = let c = least-cons (bin, 0 + m) [] in let p = point-more 0 m le in omega (arith, c, p)
least-put bin m (e ∷ es) le sorted =
    elim (cases_order bin e.0) [
      | inl same ↦
          let count : count_at bin (e ∷ es) ≡ e.1 = ap (λ o. unwrap_or o 0) (find_here bin e.0 e.1 es same) in
          let here : put nat_cmp bin (count_at bin (e ∷ es) + m) (e ∷ es) ≡ (e.0, e.1 + m) ∷ es = put_here bin e.0 _ e.1 es same ∙ ap (λ n. (e.0, n + m) ∷ es) count in
          let a = ap least_rows here in
          let b = least-cons (e.0, e.1 + m) es in
          let c = least-cons e es in
          let p = point-more e.1 m le in
          omega (arith, a, b, c, p)
      | inr (inl less) ↦
          let none : find nat_cmp bin (e ∷ es) ≡ None = find_before bin e.0 e.1 es less ∙ find_below bin e.0 es (first_part _ _ sorted) (omega arith) in
          let count : count_at bin (e ∷ es) ≡ 0 = ap (λ o. unwrap_or o 0) none in
          let here : put nat_cmp bin (count_at bin (e ∷ es) + m) (e ∷ es) ≡ (bin, m) ∷ e ∷ es = put_first bin e.0 _ e.1 es less ∙ ap (λ n. (bin, n) ∷ e ∷ es) (omega arith) in
          let a = ap least_rows here in
          let b = least-cons (bin, m) (e ∷ es) in
          let p = point-more 0 m le in
          omega (arith, a, b, p)
      | inr (inr more) ↦
          let count : count_at bin (e ∷ es) ≡ count_at bin es = ap (λ o. unwrap_or o 0) (find_later bin e.0 e.1 es more) in
          let here : put nat_cmp bin (count_at bin (e ∷ es) + m) (e ∷ es) ≡ e ∷ put nat_cmp bin (count_at bin es + m) es = put_later bin e.0 _ e.1 es more ∙ ap (λ n. e ∷ put nat_cmp bin (n + m) es) count in
          let rest = least-put bin m es le (second_part _ _ sorted) in
          let a = ap least_rows here in
          let b = least-cons e (put nat_cmp bin (count_at bin es + m) es) in
          let c = least-cons e es in
          omega (arith, a, b, c, rest)
    ]

least-gathered : (xs : List (ℕ × ℕ)) → All (λ (a : ℕ × ℕ). a.1 ≤ heaviest) xs → least_rows (entries (gathered xs)) ≤ length xs
least-gathered [] light =
    let none : entries (empty {K = ℕ} {X = ℕ} {R = nat_cmp}) ≡ [] = nothing (entries (empty {K = ℕ} {X = ℕ} {R = nat_cmp})) (sym (len-entries (empty {K = ℕ} {X = ℕ} {R = nat_cmp})) ∙ len-empty nat_cmp ℕ) in
    let z = ap least_rows none in
    omega (arith, z)
least-gathered (a ∷ xs) light =
    let r = least-gathered xs (All-tail (λ (a : ℕ × ℕ). a.1 ≤ heaviest) a xs light) in
    let is : entries (add_many (gathered xs) a.0 a.1) ≡ put nat_cmp a.0 (count_at a.0 (entries (gathered xs)) + a.1) (entries (gathered xs)) =
    entries-insert nat_cmp_total (gathered xs) a.0 (count_of (gathered xs) a.0 + a.1)
    ∙ ap (λ o. put nat_cmp a.0 (unwrap_or o 0 + a.1) (entries (gathered xs))) (get-entries (gathered xs) a.0) in
    let s = ap least_rows is in
    let p = least-put a.0 a.1 (entries (gathered xs)) (All-head (λ (a : ℕ × ℕ). a.1 ≤ heaviest) a xs light) (entries_sorted (gathered xs)) in
    omega (arith, r, s, p)

-- ---- the points under an address, each as its bin and its weight

abbrev bins_at : Walk → List Weighted → List (ℕ × ℕ)
bins_at a [] = []
bins_at a (w ∷ h) = cond (under w.spot a) ((w.spot.bin, w.amount) ∷ bins_at a h) (bins_at a h)

at-bins : (a : Walk) (h : List Weighted) (bin : ℕ) → amount_under h a bin ≡ amount_at bin (bins_at a h)
at-bins a [] bin = refl
at-bins a (w ∷ h) bin = go (under w.spot a) (amount-cons w h a bin) (at-bins a h bin)
  where
    go : (u : Bool) → amount_under (w ∷ h) a bin ≡ cond {A = ℕ} (u && eqb w.spot.bin bin) w.amount 0 + amount_under h a bin → amount_under h a bin ≡ amount_at bin (bins_at a h) → amount_under (w ∷ h) a bin ≡ amount_at bin (cond u ((w.spot.bin, w.amount) ∷ bins_at a h) (bins_at a h))
    go true e r =
        let s = sum_by-cons (λ (b : ℕ × ℕ). cond {A = ℕ} (eqb bin b.0) b.1 0) (w.spot.bin, w.amount) (bins_at a h) in
        let f = where_equal-swapped w.spot.bin bin w.amount in
        omega (arith, e, r, s, f)
    go false e r = omega (arith, e, r)

each-bin : (P : ℕ → Type 0) (a : Walk) (h : List Weighted) → All (λ (w : Weighted). P w.amount) h → All (λ (b : ℕ × ℕ). P b.1) (bins_at a h)
each-bin P a [] A = All-nil (λ (b : ℕ × ℕ). P b.1)
each-bin P a (w ∷ h) A = go (under w.spot a) (each-bin P a h (All-tail (λ (w : Weighted). P w.amount) w h A))
  where
    go : (u : Bool) → All (λ (b : ℕ × ℕ). P b.1) (bins_at a h) → All (λ (b : ℕ × ℕ). P b.1) (cond u ((w.spot.bin, w.amount) ∷ bins_at a h) (bins_at a h))
    go true r = All-cons (λ (b : ℕ × ℕ). P b.1) (w.spot.bin, w.amount) (bins_at a h) (All-head (λ (w : Weighted). P w.amount) w h A) r
    go false r = r

bins-sum : (a : Walk) (h : List Weighted) → sum_by (λ (b : ℕ × ℕ). b.1) (bins_at a h) ≡ part (λ (w : Weighted). under w.spot a) (λ (w : Weighted). w.amount) h
bins-sum a [] = refl
bins-sum a (w ∷ h) = go (under w.spot a) (part-cons (λ (w : Weighted). under w.spot a) (λ (w : Weighted). w.amount) w h) (bins-sum a h)
  where
    go : (u : Bool) → part (λ (w : Weighted). under w.spot a) (λ (w : Weighted). w.amount) (w ∷ h) ≡ cond {A = ℕ} u w.amount 0 + part (λ (w : Weighted). under w.spot a) (λ (w : Weighted). w.amount) h → sum_by (λ (b : ℕ × ℕ). b.1) (bins_at a h) ≡ part (λ (w : Weighted). under w.spot a) (λ (w : Weighted). w.amount) h → sum_by (λ (b : ℕ × ℕ). b.1) (cond u ((w.spot.bin, w.amount) ∷ bins_at a h) (bins_at a h)) ≡ part (λ (w : Weighted). under w.spot a) (λ (w : Weighted). w.amount) (w ∷ h)
    go true e r = let s = sum_by-cons (λ (b : ℕ × ℕ). b.1) (w.spot.bin, w.amount) (bins_at a h) in omega (arith, e, r, s)
    go false e r = omega (arith, e, r)

bins-number : (a : Walk) (h : List Weighted) → length (bins_at a h) ≡ part (λ (w : Weighted). under w.spot a) (λ (w : Weighted). 1) h
bins-number a [] = refl
bins-number a (w ∷ h) = go (under w.spot a) (part-cons (λ (w : Weighted). under w.spot a) (λ (w : Weighted). 1) w h) (bins-number a h)
  where
    go : (u : Bool) → part (λ (w : Weighted). under w.spot a) (λ (w : Weighted). 1) (w ∷ h) ≡ cond {A = ℕ} u 1 0 + part (λ (w : Weighted). under w.spot a) (λ (w : Weighted). 1) h → length (bins_at a h) ≡ part (λ (w : Weighted). under w.spot a) (λ (w : Weighted). 1) h → length (cond u ((w.spot.bin, w.amount) ∷ bins_at a h) (bins_at a h)) ≡ part (λ (w : Weighted). under w.spot a) (λ (w : Weighted). 1) (w ∷ h)
    go true e r = omega (arith, e, r)
    go false e r = omega (arith, e, r)

spots-total : (a : Walk) (es : List (ℕ × ℕ)) → bag_sum (map (spot_at a) es) ≡ sum (map (λ (e : ℕ × ℕ). e.1) es)
spots-total a [] = refl
spots-total a (e ∷ es) =
    let s = sum_by-cons (λ (w : Weighted). w.amount) (spot_at a e) (map (spot_at a) es) in
    let t = sum_by-cons (λ (n : ℕ). n) e.1 (map (λ (e : ℕ × ℕ). e.1) es) in
    let r = spots-total a es in
    omega (arith, s, t, r)

spots-least : (a : Walk) (es : List (ℕ × ℕ)) → least_size (map (spot_at a) es) ≡ least_rows es
spots-least a [] = refl
spots-least a (e ∷ es) =
    let s = sum_by-cons (λ (w : Weighted). least_points w.amount) (spot_at a e) (map (spot_at a) es) in
    let t = least-cons e es in
    let r = spots-least a es in
    omega (arith, s, t, r)

module _ (a : Walk) (h : List Weighted) (m : BinCounts) (counted : AllCounted m) (some : All (λ (w : Weighted). 0 < w.amount) h) (same : (bin : ℕ) → count_of m bin ≡ amount_under h a bin) where
  in-bins : (bin : ℕ) → count_of m bin ≡ amount_at bin (bins_at a h)
  in-bins bin = same bin ∙ at-bins a h bin

  -- a table at an address weighs what the points under it do
  pub rows-sum : bag_sum (map (spot_at a) (entries m)) ≡ part (λ (w : Weighted). under w.spot a) (λ (w : Weighted). w.amount) h
  rows-sum = spots-total a (entries m) ∙ (total_count-same m (bins_at a h) counted (each-bin (λ (n : ℕ). 0 < n) a h some) in-bins ∙ bins-sum a h)

  -- and as many points as there are have its rows
  pub rows-least : All (λ (w : Weighted). w.amount ≤ heaviest) h → least_size (map (spot_at a) (entries m)) ≤ part (λ (w : Weighted). under w.spot a) (λ (w : Weighted). 1) h
  rows-least light =
      let xs = bins_at a h in
      let is : m ≡ gathered (bins_at a h) = same_counts m (gathered (bins_at a h)) counted (AllCounted-gathered (bins_at a h) (each-bin (λ (n : ℕ). 0 < n) a h some)) (λ q. in-bins q ∙ sym (count_of-gathered (bins_at a h) q)) in
      let l = spots-least a (entries m) in
      let e = ap (λ (k : BinCounts). least_rows (entries k)) is in
      let g = least-gathered (bins_at a h) (each-bin (λ (n : ℕ). n ≤ heaviest) a h light) in
      let n = bins-number a h in
      omega (arith, l, e, g, n)
