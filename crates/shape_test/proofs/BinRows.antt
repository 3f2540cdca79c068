-- The rows of the tables at whole addresses, as spots.
use Rattle.std.proofs.Common.{◌≡◌, ◌⊎◌, inl, inr, ℕ, Bool, true, false, cond, ◌&&◌, eqb, eq-eqb, ne_eqb, eqb-true, List, [], ◌∷◌, map, Option, Some, None, is_some, unwrap_or, Contains, sum_by, refl, sym, ap, ap₂, ◌∙◌, arith, true≢false, nat_cmp, T}
use Rattle.std.proofs.lemmas.List.{nil_from_length}
use Rattle.std.specs.FinMap.{entries, entries_sorted, get-entries, find}
use Rattle.std.specs.FinMap.Entries.{is_sorted, below_all}
use Rattle.std.specs.Cmp.{unsigned_tied}
use Rattle.std.specs.Ordering.{eq_by_cmp, is_lt}
use Rattle.std.proofs.lemmas.Bool.{and_parts}
use Rattle.std.proofs.lemmas.List.Sums.{sum_by-cons}
use Rattle.cube_view.specs.Walks.{down, across, Walk, SpotPath, Cursor, after_down, after_across, then_step, cursor, Under, whole_of, whole_from, down_all}
use Rattle.cube_view.proofs.FinerWalks.{begun, Contains-cases}
use Rattle.time_table.specs.Counts.{BinCounts, count_of}
use Rattle.time_table.proofs.KeySums.{first_part, second_part, below}
use Rattle.node_arena.specs.Amounts.{spots_in, amount_under}
use Rattle.node_arena.specs.Slots.{Slot, counts_of}
use Rattle.shape_test.specs.Levels.{Levels, left, label_counts}
use Rattle.shape_test.specs.Wholes.{is_deepest, is_whole, paths_along, spot_at, rows_at}
use Rattle.shape_test.proofs.Core.{one_under, amount-cons}
use Rattle.shape_test.proofs.Local.{levels_of, left_spot}
use Rattle.shape_test.proofs.WholeAddresses.{IsWhole}

-- a spot with the labels of an address goes to it
along_cursor : (a : Walk) (path : List ℕ) (later : List (List ℕ)) (q : SpotPath) → q.paths ≡ paths_along a path later → cursor q a ≡ Some (record { rest = path; later = later })
along_cursor [] path later q e = ap after_across e
along_cursor (down l ∷ a) path later q e =
    ap (λ (o : Option Cursor). then_step o (down l)) (along_cursor a (l ∷ path) later q e)
    ∙ ap (λ (b : Bool). cond {A = Option Cursor} b (Some (record { rest = path; later = later })) None) (eq-eqb l l refl)
along_cursor (across ∷ a) path later q e = ap (λ (o : Option Cursor). then_step o across) (along_cursor a [] (path ∷ later) q e)

pub at_own : (a : Walk) (q : SpotPath) → q.paths ≡ paths_along a [] [] → Under q a
at_own a q e = ap is_some (along_cursor a [] [] q e)

-- what the test of a whole address says
deepest_rest : (o : Option Levels) (c : Levels) → o ≡ Some c → is_deepest o ≡ true → c.rest ≡ 0
deepest_rest None c e d = absurd cc
deepest_rest (Some b) c e d = let s : b ≡ c = cc in sym (ap (λ (z : Levels). z.rest) s) ∙ eqb-true b.rest 0 d

pub whole_from_test : (levels : List ℕ) (a : Walk) → is_whole levels a ≡ true → IsWhole levels a
whole_from_test levels [] e = tt
whole_from_test levels (down l ∷ a) e = whole_from_test levels a e
whole_from_test levels (across ∷ a) e =
    let parts = and_parts (is_whole levels a) (is_deepest (left levels a)) e in
    let d = deep (left levels a) refl parts.1 in
    (whole_from_test levels a parts.0, d.0, d.1)
  where
    deep : (o : Option Levels) → left levels a ≡ o → is_deepest o ≡ true → (later : List ℕ) × (left levels a ≡ Some (record { rest = 0; later = later }))
    deep None x d = absurd cc
    deep (Some c) x d = (c.later, x ∙ ap (λ (n : ℕ). Some (record { rest = n; later = c.later })) (eqb-true c.rest 0 d))

pub whole_test : (levels : List ℕ) (a : Walk) → IsWhole levels a → is_whole levels a ≡ true
whole_test levels [] w = refl
whole_test levels (down l ∷ a) w = whole_test levels a w
whole_test levels (across ∷ a) w = ap₂ ◌&&◌ (whole_test levels a w.0) (ap is_deepest w.2)

-- a spot of those levels that lies under a whole address has its labels
pub labels_are : (levels : List ℕ) (q : SpotPath) (a : Walk) (c : Cursor) → label_counts q ≡ levels → IsWhole levels a → cursor q a ≡ Some c → q.paths ≡ paths_along a c.rest c.later
labels_are levels q [] c len w h = first q.paths h
  where
    first : (paths : List (List ℕ)) → after_across paths ≡ Some c → paths ≡ c.rest ∷ c.later
    first [] x = absurd cc
    first (p ∷ paths) x = let e : record { rest = p; later = paths } ≡ c = cc in ap (λ (z : Cursor). z.rest ∷ z.later) e
labels_are levels q (down l ∷ a) c len w h =
    let b = begun (cursor q a) (down l) c h in
    labels_are levels q a b.0 len w b.1 ∙ go b.0.rest b.0.later b.2
  where
    go : (rest : List ℕ) (later : List (List ℕ)) → after_down l rest later ≡ Some c → paths_along a rest later ≡ paths_along a (l ∷ c.rest) c.later
    go [] later x = absurd cc
    go (n ∷ rest) later x = pick (eqb l n) refl x
      where
        pick : (t : Bool) → eqb l n ≡ t → cond {A = Option Cursor} t (Some (record { rest = rest; later = later })) None ≡ Some c → paths_along a (n ∷ rest) later ≡ paths_along a (l ∷ c.rest) c.later
        pick true y z =
            let e : record { rest = rest; later = later } ≡ c = cc in
            ap₂ (λ (m : ℕ) (d : Cursor). paths_along a (m ∷ d.rest) d.later) (sym (eqb-true l n y)) e
        pick false y z = absurd cc
labels_are levels q (across ∷ a) c len w h =
    let b = begun (cursor q a) across c h in
    let at : left levels a ≡ Some (levels_of b.0) = ap (λ (z : List ℕ). left z a) (sym len) ∙ left_spot q a b.0 b.1 in
    let same : Some (levels_of b.0) ≡ Some (record { rest = 0; later = w.1 }) = sym at ∙ w.2 in
    let e : levels_of b.0 ≡ record { rest = 0; later = w.1 } = cc in
    let none : b.0.rest ≡ [] = nil_from_length b.0.rest (ap (λ (z : Levels). z.rest) e) in
    labels_are levels q a b.0 len w.0 b.1 ∙ (ap (λ (z : List ℕ). paths_along a z b.0.later) none ∙ ap (λ (z : List (List ℕ)). paths_along a [] z) (next b.0.later b.2))
  where
    next : (later : List (List ℕ)) → after_across later ≡ Some c → later ≡ c.rest ∷ c.later
    next [] x = absurd cc
    next (p ∷ later) x = let e : record { rest = p; later = later } ≡ c = cc in ap (λ (z : Cursor). z.rest ∷ z.later) e

-- addresses with the same labels are one
down_all-more : (path : List ℕ) (later : List (List ℕ)) (a : Walk) → whole_of (paths_along a path later) ≡ whole_from later (down_all path a)
down_all-more path later [] = refl
down_all-more path later (down l ∷ a) = down_all-more (l ∷ path) later a
down_all-more path later (across ∷ a) = down_all-more [] (path ∷ later) a

pub same_labels : (a b : Walk) → paths_along a [] [] ≡ paths_along b [] [] → a ≡ b
same_labels a b e = sym (down_all-more [] [] a) ∙ (ap whole_of e ∙ down_all-more [] [] b)

-- a row counts in its own bin
rows_amount : (a : Walk) (es : List (ℕ × ℕ)) (bin : ℕ) → amount_under (map (spot_at a) es) a bin ≡ sum_by (λ (e : ℕ × ℕ). cond {A = ℕ} (eqb e.0 bin) e.1 0) es
rows_amount a [] bin = refl
rows_amount a (e ∷ es) bin =
    let s = amount-cons (spot_at a e) (map (spot_at a) es) a bin in
    let t = sum_by-cons (λ (e : ℕ × ℕ). cond {A = ℕ} (eqb e.0 bin) e.1 0) e es in
    let r = rows_amount a es bin in
    let o : one_under (spot_at a e) a bin ≡ cond {A = ℕ} (eqb e.0 bin) e.1 0 = ap (λ (b : Bool). cond {A = ℕ} (b && eqb e.0 bin) e.1 0) (at_own a (record { paths = paths_along a [] []; bin = e.0 }) refl) in
    omega (arith, s, t, r, o)

none_there : (k bin : ℕ) (es : List (ℕ × ℕ)) → k ≡ bin → T (is_sorted nat_cmp es) → T (below_all nat_cmp k es) → sum_by (λ (e : ℕ × ℕ). cond {A = ℕ} (eqb e.0 bin) e.1 0) es ≡ 0
none_there k bin [] e S B = refl
none_there k bin (x ∷ es) e S B =
    let t = sum_by-cons (λ (e : ℕ × ℕ). cond {A = ℕ} (eqb e.0 bin) e.1 0) x es in
    let up = below k x.0 (first_part _ _ B) in
    let r = none_there k bin es e (second_part (below_all nat_cmp x.0 es) (is_sorted nat_cmp es) S) (second_part (is_lt (nat_cmp k x.0)) (below_all nat_cmp k es) B) in
    let o : cond {A = ℕ} (eqb x.0 bin) x.1 0 ≡ 0 = ap (λ (b : Bool). cond {A = ℕ} b x.1 0) (ne_eqb x.0 bin (λ z. omega (arith, z, up, e))) in
    omega (arith, t, r, o)

found_sum : (bin : ℕ) (es : List (ℕ × ℕ)) → T (is_sorted nat_cmp es) → unwrap_or (find nat_cmp bin es) 0 ≡ sum_by (λ (e : ℕ × ℕ). cond {A = ℕ} (eqb e.0 bin) e.1 0) es
found_sum bin [] S = refl
found_sum bin (x ∷ es) S = go (eqb bin x.0) refl (λ s. found_sum bin es s)
  where
    later : T (is_sorted nat_cmp es)
    later = second_part (below_all nat_cmp x.0 es) _ S

    tied : (b : Bool) → eqb bin x.0 ≡ b → eq_by_cmp nat_cmp bin x.0 ≡ b
    tied b e = unsigned_tied bin x.0 ∙ e

    go : (b : Bool) → eqb bin x.0 ≡ b → (T (is_sorted nat_cmp es) → unwrap_or (find nat_cmp bin es) 0 ≡ sum_by (λ (e : ℕ × ℕ). cond {A = ℕ} (eqb e.0 bin) e.1 0) es) → unwrap_or (find nat_cmp bin (x ∷ es)) 0 ≡ sum_by (λ (e : ℕ × ℕ). cond {A = ℕ} (eqb e.0 bin) e.1 0) (x ∷ es)
    go true e rest =
        let same : bin ≡ x.0 = eqb-true bin x.0 e in
        let t = sum_by-cons (λ (e : ℕ × ℕ). cond {A = ℕ} (eqb e.0 bin) e.1 0) x es in
        let o : cond {A = ℕ} (eqb x.0 bin) x.1 0 ≡ x.1 = ap (λ (b : Bool). cond {A = ℕ} b x.1 0) (eq-eqb x.0 bin (sym same)) in
        let r = none_there x.0 bin es (sym same) later (first_part (below_all nat_cmp x.0 es) _ S) in
        let f : unwrap_or (find nat_cmp bin (x ∷ es)) 0 ≡ x.1 = ap (λ (b : Bool). unwrap_or (cond {A = Option ℕ} b (Some x.1) (find nat_cmp bin es)) 0) (tied true e) in
        omega (arith, t, o, r, f)
    go false e rest =
        let t = sum_by-cons (λ (e : ℕ × ℕ). cond {A = ℕ} (eqb e.0 bin) e.1 0) x es in
        let o : cond {A = ℕ} (eqb x.0 bin) x.1 0 ≡ 0 = ap (λ (b : Bool). cond {A = ℕ} b x.1 0) (ne_eqb x.0 bin (λ z. true≢false (sym (eq-eqb bin x.0 (sym z)) ∙ e))) in
        let r = rest later in
        let f : unwrap_or (find nat_cmp bin (x ∷ es)) 0 ≡ unwrap_or (find nat_cmp bin es) 0 = ap (λ (b : Bool). unwrap_or (cond {A = Option ℕ} b (Some x.1) (find nat_cmp bin es)) 0) (tied false e) in
        omega (arith, t, o, r, f)

-- the rows of a table at a whole address count what the table does
pub table_rows : (levels : List ℕ) (a : Walk) (m : BinCounts) (bin : ℕ) → count_of m bin ≡ amount_under (map (spot_at a) (entries m)) a bin
table_rows levels a m bin = ap (λ (o : Option ℕ). unwrap_or o 0) (get-entries m bin) ∙ (found_sum bin (entries m) (entries_sorted m) ∙ sym (rows_amount a (entries m) bin))

-- all rows of a list of rows have one address
rows_paths : (a : Walk) (es : List (ℕ × ℕ)) (q : SpotPath) → Contains (spots_in (map (spot_at a) es)) q → q.paths ≡ paths_along a [] []
rows_paths a [] q c = absurd (omega (arith, c.1))
rows_paths a (e ∷ es) q c = go (Contains-cases (spots_in (map (spot_at a) es)) (spot_at a e).spot q c) (λ d. rows_paths a es q d)
  where
    go : ((spot_at a e).spot ≡ q) ⊎ Contains (spots_in (map (spot_at a) es)) q → (Contains (spots_in (map (spot_at a) es)) q → q.paths ≡ paths_along a [] []) → q.paths ≡ paths_along a [] []
    go (inl x) rest = sym (ap (λ (z : SpotPath). z.paths) x)
    go (inr d) rest = rest d

pub rows_at-paths : (levels : List ℕ) (a : Walk) (s : Slot) (q : SpotPath) → Contains (spots_in (rows_at levels a s)) q → (is_whole levels a ≡ true) × (q.paths ≡ paths_along a [] [])
rows_at-paths levels a s q c = go (is_whole levels a) refl c
  where
    go : (b : Bool) → is_whole levels a ≡ b → Contains (spots_in (cond b (map (spot_at a) (entries (counts_of s))) [])) q → (is_whole levels a ≡ true) × (q.paths ≡ paths_along a [] [])
    go true e d = (e, rows_paths a (entries (counts_of s)) q d)
    go false e d = absurd (omega (arith, d.1))
