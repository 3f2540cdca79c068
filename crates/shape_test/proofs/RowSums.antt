-- Sums over the rows of a table, row by row, and over the bag of slots, slot by slot.
use Rattle.std.proofs.Common.{◌≡◌, ◌⊎◌, inl, inr, ℕ, ◌+◌, ◌<◌, ◌≤◌, Bool, true, false, cond, eqb, eq-eqb, eqb-true, ne_eqb, nat_lt, nat_cmp, T, List, [], ◌∷◌, ◌++◌, map, sum_by, refl, sym, ap, ap₂, ◌∙◌, arith}
use Rattle.std.specs.FinMap.{entries, entries_sorted, len-entries, len-empty}
use Rattle.std.specs.FinMap.Entries.{is_sorted, below_all}
use Rattle.std.specs.Ordering.{is_lt}
use Rattle.std.proofs.lemmas.Bool.{cases_lt}
use Rattle.std.proofs.lemmas.List.{nil_from_length}
use Rattle.std.proofs.lemmas.List.Sums.{sum_by-cons, sum_by-append}
use Rattle.cube_view.specs.Walks.{Walk}
use Rattle.time_table.specs.Counts.{BinCounts, count_of}
use Rattle.time_table.proofs.KeySums.{first_part, second_part, below}
use Rattle.node_arena.specs.Amounts.{Weighted, amount_under}
use Rattle.node_arena.specs.Slots.{Slot, node, table, IsNode, counts_of}
use Rattle.node_arena.specs.Stats.{capped}
use Rattle.shape_test.specs.Wholes.{is_whole, spot_at, rows_at}
use Rattle.shape_test.proofs.Core.{amount-cons}
use Rattle.shape_test.proofs.BinRows.{table_rows}
use Rattle.shape_test.specs.Fits.{bag_sum, least_points, least_size}
use Rattle.shape_test.specs.Merging.{NoRowFrom, IsFirstRow}
use Rattle.shape_test.specs.Sizes.{capped_size, table_size, size_of}
use Rattle.shape_test.specs.declared.size.BagSize.{BagSize}
use Rattle.shape_test.proofs.ChildSums.{counted_in, counted_out}

-- sums that are capped can be added before or after
pub capped_plus : (a b : ℕ) → capped (capped a + capped b) ≡ capped (a + b)
capped_plus a b = omega arith

-- a number of each row before a bin, together
abbrev pub rows_upto : (ℕ → ℕ) → ℕ → List (ℕ × ℕ) → ℕ
rows_upto f n es = sum_by (λ (e : ℕ × ℕ). cond {A = ℕ} (nat_lt e.0 n) (f e.1) 0) es

-- of the rows in a bin
abbrev rows_in : (ℕ → ℕ) → ℕ → List (ℕ × ℕ) → ℕ
rows_in f n es = sum_by (λ (e : ℕ × ℕ). cond {A = ℕ} (eqb e.0 n) (f e.1) 0) es

upto_cons : (f : ℕ → ℕ) (n : ℕ) (e : ℕ × ℕ) (es : List (ℕ × ℕ)) → rows_upto f n (e ∷ es) ≡ cond {A = ℕ} (nat_lt e.0 n) (f e.1) 0 + rows_upto f n es
upto_cons f n e es = sum_by-cons (λ (e : ℕ × ℕ). cond {A = ℕ} (nat_lt e.0 n) (f e.1) 0) e es

in_cons : (f : ℕ → ℕ) (n : ℕ) (e : ℕ × ℕ) (es : List (ℕ × ℕ)) → rows_in f n (e ∷ es) ≡ cond {A = ℕ} (eqb e.0 n) (f e.1) 0 + rows_in f n es
in_cons f n e es = sum_by-cons (λ (e : ℕ × ℕ). cond {A = ℕ} (eqb e.0 n) (f e.1) 0) e es

upto_zero : (f : ℕ → ℕ) (es : List (ℕ × ℕ)) → rows_upto f 0 es ≡ 0
upto_zero f [] = refl
upto_zero f (e ∷ es) = let a = upto_cons f 0 e es in let b = counted_out e.0 0 (f e.1) (omega arith) in let r = upto_zero f es in omega (arith, a, b, r)

one_more : (k n v : ℕ) → cond {A = ℕ} (nat_lt k (n + 1)) v 0 ≡ cond {A = ℕ} (nat_lt k n) v 0 + cond {A = ℕ} (eqb k n) v 0
one_more k n v = grind arith

upto_suc : (f : ℕ → ℕ) (n : ℕ) (es : List (ℕ × ℕ)) → rows_upto f (n + 1) es ≡ rows_upto f n es + rows_in f n es
upto_suc f n [] = refl
upto_suc f n (e ∷ es) =
    let a = upto_cons f (n + 1) e es in
    let b = upto_cons f n e es in
    let c = in_cons f n e es in
    let d = one_more e.0 n (f e.1) in
    let r = upto_suc f n es in
    omega (arith, a, b, c, d, r)

-- what the rows in a bin count is what the table counts there
in_count : (es : List (ℕ × ℕ)) (n : ℕ) → amount_under (map (spot_at []) es) [] n ≡ rows_in (λ k. k) n es
in_count [] n = refl
in_count (e ∷ es) n =
    let a = amount-cons (spot_at [] e) (map (spot_at []) es) [] n in
    let c = in_cons (λ k. k) n e es in
    let r = in_count es n in
    omega (arith, a, c, r)

pub count_in : (m : BinCounts) (n : ℕ) → count_of m n ≡ rows_in (λ k. k) n (entries m)
count_in m n = table_rows [] [] m n ∙ in_count (entries m) n

-- later rows aren't in the bin
none_later : (f : ℕ → ℕ) (n k : ℕ) (es : List (ℕ × ℕ)) → n ≤ k → T (below_all nat_cmp k es) → rows_in f n es ≡ 0
none_later f n k [] le B = refl
none_later f n k (e ∷ es) le B =
    let up = below k e.0 (first_part _ _ B) in
    let o : cond {A = ℕ} (eqb e.0 n) (f e.1) 0 ≡ 0 = ap (λ (t : Bool). cond {A = ℕ} t (f e.1) 0) (ne_eqb e.0 n (λ s. omega (arith, s, up, le))) in
    let c = in_cons f n e es in
    let r = none_later f n k es le (second_part (is_lt (nat_cmp k e.0)) (below_all nat_cmp k es) B) in
    omega (arith, c, o, r)

-- one row at most is in a bin
one_in : (f : ℕ → ℕ) (n : ℕ) (es : List (ℕ × ℕ)) → f 0 ≡ 0 → T (is_sorted nat_cmp es) → rows_in f n es ≡ f (rows_in (λ k. k) n es)
one_in f n [] z S = sym z
one_in f n (e ∷ es) z S = go (eqb e.0 n) refl (one_in f n es z (second_part (below_all nat_cmp e.0 es) _ S))
  where
    past : T (below_all nat_cmp e.0 es)
    past = first_part (below_all nat_cmp e.0 es) (is_sorted nat_cmp es) S

    go : (t : Bool) → eqb e.0 n ≡ t → rows_in f n es ≡ f (rows_in (λ k. k) n es) → rows_in f n (e ∷ es) ≡ f (rows_in (λ k. k) n (e ∷ es))
    go false x r =
        let c = in_cons f n e es in
        let d = in_cons (λ k. k) n e es in
        let v : cond {A = ℕ} (eqb e.0 n) (f e.1) 0 ≡ 0 = ap (λ (t : Bool). cond {A = ℕ} t (f e.1) 0) x in
        let w : cond {A = ℕ} (eqb e.0 n) e.1 0 ≡ 0 = ap (λ (t : Bool). cond {A = ℕ} t e.1 0) x in
        let s : rows_in (λ k. k) n es ≡ rows_in (λ k. k) n (e ∷ es) = omega (arith, d, w) in
        let q : rows_in f n (e ∷ es) ≡ rows_in f n es = omega (arith, c, v) in
        q ∙ (r ∙ ap f s)
    go true x r =
        let same : e.0 ≡ n = eqb-true e.0 n x in
        let c = in_cons f n e es in
        let d = in_cons (λ k. k) n e es in
        let v : cond {A = ℕ} (eqb e.0 n) (f e.1) 0 ≡ f e.1 = ap (λ (t : Bool). cond {A = ℕ} t (f e.1) 0) x in
        let w : cond {A = ℕ} (eqb e.0 n) e.1 0 ≡ e.1 = ap (λ (t : Bool). cond {A = ℕ} t e.1 0) x in
        let g = none_later f n e.0 es (omega (arith, same)) past in
        let h = none_later (λ k. k) n e.0 es (omega (arith, same)) past in
        let s : e.1 ≡ rows_in (λ k. k) n (e ∷ es) = omega (arith, d, w, h) in
        let q : rows_in f n (e ∷ es) ≡ f e.1 = omega (arith, c, v, g) in
        q ∙ ap f s

-- where no bin between two counts, the sums before them are one
no_more : (f : ℕ → ℕ) (from to : ℕ) (es : List (ℕ × ℕ)) → f 0 ≡ 0 → from ≤ to → ((b : ℕ) → from ≤ b → b < to → rows_in (λ k. k) b es ≡ 0) → rows_upto f to es ≡ rows_upto f from es
no_more f from to [] z le none = refl
no_more f from to (e ∷ es) z le none = go (cases_lt e.0 from) (cases_lt e.0 to) (no_more f from to es z le (λ b low less. let n = none b low less in let d = in_cons (λ k. k) b e es in omega (arith, n, d)))
  where
    a : rows_upto f to (e ∷ es) ≡ cond {A = ℕ} (nat_lt e.0 to) (f e.1) 0 + rows_upto f to es
    a = upto_cons f to e es

    b : rows_upto f from (e ∷ es) ≡ cond {A = ℕ} (nat_lt e.0 from) (f e.1) 0 + rows_upto f from es
    b = upto_cons f from e es

    go : (e.0 < from) ⊎ (from ≤ e.0) → (e.0 < to) ⊎ (to ≤ e.0) → rows_upto f to es ≡ rows_upto f from es → rows_upto f to (e ∷ es) ≡ rows_upto f from (e ∷ es)
    go (inl x) y r =
        let p = counted_in e.0 to (f e.1) (omega (arith, x, le)) in
        let q = counted_in e.0 from (f e.1) x in
        omega (arith, a, b, p, q, r)
    go (inr x) (inl y) r =
        let n = none e.0 x y in
        let d = in_cons (λ k. k) e.0 e es in
        let w : cond {A = ℕ} (eqb e.0 e.0) e.1 0 ≡ e.1 = ap (λ (t : Bool). cond {A = ℕ} t e.1 0) (eq-eqb e.0 e.0 refl) in
        let zero_row : e.1 ≡ 0 = omega (arith, n, d, w) in
        let v = ap f zero_row in
        let p = counted_in e.0 to (f e.1) y in
        let q = counted_out e.0 from (f e.1) x in
        omega (arith, a, b, p, q, r, v, z)
    go (inr x) (inr y) r =
        let p = counted_out e.0 to (f e.1) y in
        let q = counted_out e.0 from (f e.1) x in
        omega (arith, a, b, p, q, r)

-- where no bin from one on counts, all rows are before it
all_upto : (f : ℕ → ℕ) (from : ℕ) (es : List (ℕ × ℕ)) → f 0 ≡ 0 → ((b : ℕ) → from ≤ b → rows_in (λ k. k) b es ≡ 0) → rows_upto f from es ≡ sum_by (λ (e : ℕ × ℕ). f e.1) es
all_upto f from [] z none = refl
all_upto f from (e ∷ es) z none = go (cases_lt e.0 from) (all_upto f from es z (λ b low. let n = none b low in let d = in_cons (λ k. k) b e es in omega (arith, n, d)))
  where
    go : (e.0 < from) ⊎ (from ≤ e.0) → rows_upto f from es ≡ sum_by (λ (e : ℕ × ℕ). f e.1) es → rows_upto f from (e ∷ es) ≡ sum_by (λ (e : ℕ × ℕ). f e.1) (e ∷ es)
    go (inl x) r =
        let a = upto_cons f from e es in
        let s = sum_by-cons (λ (e : ℕ × ℕ). f e.1) e es in
        let p = counted_in e.0 from (f e.1) x in
        omega (arith, a, s, p, r)
    go (inr x) r =
        let a = upto_cons f from e es in
        let s = sum_by-cons (λ (e : ℕ × ℕ). f e.1) e es in
        let n = none e.0 x in
        let d = in_cons (λ k. k) e.0 e es in
        let w : cond {A = ℕ} (eqb e.0 e.0) e.1 0 ≡ e.1 = ap (λ (t : Bool). cond {A = ℕ} t e.1 0) (eq-eqb e.0 e.0 refl) in
        let zero_row : e.1 ≡ 0 = omega (arith, n, d, w) in
        let v = ap f zero_row in
        let p = counted_out e.0 from (f e.1) x in
        omega (arith, a, s, p, r, v, z)

-- the next row adds its own
pub row_added : (f : ℕ → ℕ) (m : BinCounts) (from bin n : ℕ) → f 0 ≡ 0 → IsFirstRow m from (bin, n) → rows_upto f (bin + 1) (entries m) ≡ rows_upto f from (entries m) + f n
row_added f m from bin n z F =
    let s = upto_suc f bin (entries m) in
    let o = one_in f bin (entries m) z (entries_sorted m) in
    let c = ap f (sym (count_in m bin) ∙ F.there) in
    let g = no_more f from bin (entries m) z F.low (λ b low less. sym (count_in m b) ∙ F.least b low less) in
    omega (arith, s, o, c, g)

-- with no further row all have been added
pub rows_added : (f : ℕ → ℕ) (m : BinCounts) (from : ℕ) → f 0 ≡ 0 → NoRowFrom m from → rows_upto f from (entries m) ≡ sum_by (λ (e : ℕ × ℕ). f e.1) (entries m)
rows_added f m from z N = all_upto f from (entries m) z (λ b low. sym (count_in m b) ∙ N b low)

pub none_added : (f : ℕ → ℕ) (m : BinCounts) → rows_upto f 0 (entries m) ≡ 0
none_added f m = upto_zero f (entries m)

-- the rows of a table are the spots that it adds to the bag
spots_sum : (f : ℕ → ℕ) (a : Walk) (es : List (ℕ × ℕ)) → sum_by (λ (w : Weighted). f w.amount) (map (spot_at a) es) ≡ sum_by (λ (e : ℕ × ℕ). f e.1) es
spots_sum f a [] = refl
spots_sum f a (e ∷ es) =
    let s = sum_by-cons (λ (w : Weighted). f w.amount) (spot_at a e) (map (spot_at a) es) in
    let t = sum_by-cons (λ (e : ℕ × ℕ). f e.1) e es in
    let r = spots_sum f a es in
    omega (arith, s, t, r)

pub whole_size : (levels : List ℕ) (a : Walk) (s : Slot) (m : BinCounts) → is_whole levels a ≡ true → m ≡ counts_of s → table_size m ≡ size_of (rows_at levels a s)
whole_size levels a s m w is =
    ap table_size is
    ∙ (ap₂ capped_size (sym (spots_sum (λ n. n) a (entries (counts_of s)))) (sym (spots_sum least_points a (entries (counts_of s))))
    ∙ ap (λ (b : Bool). size_of (cond b (map (spot_at a) (entries (counts_of s))) [])) (sym w))

-- other slots add nothing
pub part_size : (levels : List ℕ) (a : Walk) (s : Slot) → is_whole levels a ≡ false → size_of [] ≡ size_of (rows_at levels a s)
part_size levels a s w = ap (λ (b : Bool). size_of (cond b (map (spot_at a) (entries (counts_of s))) [])) (sym w)

pub node_size : (levels : List ℕ) (a : Walk) (s : Slot) → IsNode s → size_of [] ≡ size_of (rows_at levels a s)
node_size levels a (node children content) n = go (is_whole levels a)
  where
    no_entries : entries (counts_of (node children content)) ≡ []
    no_entries = nil_from_length (entries (counts_of (node children content))) (sym (len-entries (counts_of (node children content))) ∙ len-empty nat_cmp ℕ)

    go : (b : Bool) → size_of [] ≡ size_of (cond b (map (spot_at a) (entries (counts_of (node children content)))) [])
    go true = ap (λ (es : List (ℕ × ℕ)). size_of (map (spot_at a) es)) (sym no_entries)
    go false = refl
node_size levels a (table counts) n = absurd cc

abbrev size_with : ℕ → ℕ → BagSize
size_with s l = record { sum = s; least = l }

-- the sizes of two bags together
pub size_plus : (h k : List Weighted) (r : BagSize) → r.sum ≡ capped ((size_of h).sum + (size_of k).sum) → r.least ≡ capped ((size_of h).least + (size_of k).least) → r ≡ size_of (h ++ k)
size_plus h k r s l =
    ap₂ size_with
    (s ∙ (capped_plus (bag_sum h) (bag_sum k) ∙ ap capped (sym (sum_by-append (λ (w : Weighted). w.amount) h k))))
    (l ∙ (capped_plus (least_size h) (least_size k) ∙ ap capped (sym (sum_by-append (λ (w : Weighted). least_points w.amount) h k))))
