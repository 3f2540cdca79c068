-- The rows of a table as a list, and rows that are put one behind the other.
use Rattle.std.proofs.Common.{◌≡◌, ℕ, zero, suc, ◌+◌, ◌-◌, ◌<◌, ◌≤◌, ◌^◌, List, [], ◌∷◌, ◌++◌, length, take, drop, get_or, All, T, refl, sym, ap, subst, ◌∙◌, arith, append_assoc, nat_cmp, is_lt}
use Rattle.std.specs.FinMap.{from_sorted, entries, is_sorted, entries-from_sorted, same_entries_map}
use Rattle.std.specs.FinMap.Entries.{below_all}
use Rattle.std.specs.List.{insert as put_in}
use Rattle.std.proofs.lemmas.Bool.{lt-ltb}
use Rattle.std.proofs.lemmas.List.{append-nil, length-take-le, take_more, take_all, drop_all}
use Rattle.std.proofs.lemmas.List.Elements.{All-nil, All-cons}
use Rattle.std.proofs.lemmas.List.Sums.{sum_by-cons, sum_by-append, sum-map}
use Rattle.time_table.specs.declared.row.Row.{Row}
use Rattle.time_table.specs.declared.form.Form.{Form}
use Rattle.time_table.specs.Counts.{total_count}
use Rattle.time_table.specs.Rows.{AreRows, row_total}
use Rattle.time_table.specs.Totals.{Rise, counts, counts_from, totals_from, last_total}
use Rattle.time_table.specs.Blocks.{Block, parts, Held}
use Rattle.time_table.specs.Forms.{IsSingle, IsForm, rows_of, form_entries}
use Rattle.time_table.proofs.RowCounts.{both}
use Rattle.time_table.proofs.TableForms.{entries-form}
use Rattle.time_table.proofs.TwoRowLists.{Rise-least, counts_from-append}

-- ---- rows that are read

-- each total is above the one before it
pub total_rises : (least before i : ℕ) (rows : List Row) (row : Row) → Rise least before rows → i < length rows → row ≡ get_or rows i row → last_total before (take i rows) < row.total
total_rises least before i [] row rise within read = absurd (omega arith)
total_rises least before zero (r ∷ rs) row rise within read =
    let up : before < r.total = rise.1 in
    let same : row.total ≡ r.total = ap (λ (x : Row). x.total) read in
    omega arith
total_rises least before (suc i) (r ∷ rs) row rise within read = total_rises (r.bin + 1) r.total i rs row rise.2 (omega arith) read

-- one row more, as its bin and its count
pub counts_from-more : (before i : ℕ) (rows : List Row) (row : Row) → i < length rows → row ≡ get_or rows i row → counts_from before (take (i + 1) rows) ≡ counts_from before (take i rows) ++ (row.bin, row.total - last_total before (take i rows)) ∷ []
counts_from-more before i rows row within read =
    ap (counts_from before) (take_more rows i row within ∙ ap (λ (x : Row). take i rows ++ x ∷ []) (sym read))
    ∙ counts_from-append before (take i rows) (row ∷ [])

-- the rows of one block more
pub parts-more : (q : ℕ) (bs : List Block) (b : Block) → q < length bs → b ≡ get_or bs q b → parts (take (suc q) bs) ≡ parts (take q bs) ++ counts_from 0 b.items
parts-more q [] b within read = absurd (omega arith)
parts-more zero (x ∷ bs) b within read = append-nil (counts_from 0 x.items) ∙ ap (λ (y : Block). counts_from 0 y.items) (sym read)
parts-more (suc q) (x ∷ bs) b within read =
    ap (λ zs. counts_from 0 x.items ++ zs) (parts-more q bs b (omega arith) read)
    ∙ sym (append_assoc (counts_from 0 x.items) (parts (take q bs)) (counts_from 0 b.items))

-- the rows of each block rise
pub blocks_rise : (least before : ℕ) (hs : List Row) (bs : List Block) → Held least before hs bs → All (λ b. Rise 0 0 b.items) bs
blocks_rise least before hs [] held = All-nil (λ (b : Block). Rise 0 0 b.items)
blocks_rise least before [] (b ∷ bs) held = absurd held
blocks_rise least before (h ∷ hs) (b ∷ bs) held =
    All-cons (λ (b : Block). Rise 0 0 b.items) b bs (Rise-least least 0 0 b.items (omega arith) held.0.rise) (blocks_rise (h.bin + 1) h.total hs bs held.1)

-- ---- rows that are put

pub counts_from-totals : (before : ℕ) (es : List (ℕ × ℕ)) → counts_from before (totals_from before es) ≡ es
counts_from-totals before [] = refl
counts_from-totals before (e ∷ es) =
    let count : before + e.1 - before ≡ e.1 = omega arith in
    ap (λ n. (e.0, n) ∷ counts_from (before + e.1) (totals_from (before + e.1) es)) count
    ∙ ap (λ zs. e ∷ zs) (counts_from-totals (before + e.1) es)

pub Rise-totals : (from before : ℕ) (es : List (ℕ × ℕ)) → AreRows from es → Rise from before (totals_from before es)
Rise-totals from before [] fit = tt
Rise-totals from before (e ∷ es) fit =
    let some : 0 < e.1 = fit.2 in
    (fit.0, omega arith, Rise-totals (e.0 + 1) (before + e.1) es fit.4)

pub bins-totals : (from before : ℕ) (es : List (ℕ × ℕ)) → AreRows from es → All (λ row. row.bin ≤ 4294967295) (totals_from before es)
bins-totals from before [] fit = All-nil (λ (row : Row). row.bin ≤ 4294967295)
bins-totals from before (e ∷ es) fit =
    let small : e.0 < 2 ^ 32 = fit.1 in
    All-cons (λ (row : Row). row.bin ≤ 4294967295) (record { bin = e.0; total = before + e.1 }) (totals_from (before + e.1) es) (omega arith) (bins-totals (e.0 + 1) (before + e.1) es fit.4)

pub length-totals : (before : ℕ) (es : List (ℕ × ℕ)) → length (totals_from before es) ≡ length es
length-totals before [] = refl
length-totals before (e ∷ es) = ap suc (length-totals (before + e.1) es)

totals_from-push : (before : ℕ) (es : List (ℕ × ℕ)) (e : ℕ × ℕ) → totals_from before (es ++ e ∷ []) ≡ totals_from before es ++ record { bin = e.0; total = before + row_total es + e.1 } ∷ []
totals_from-push before [] e =
    let same : before + e.1 ≡ before + row_total [] + e.1 = omega arith in
    ap (λ n. record { bin = e.0; total = n } ∷ []) same
totals_from-push before (x ∷ es) e =
    let sum = sum_by-cons (λ (e : ℕ × ℕ). e.1) x es in
    let same : before + x.1 + row_total es + e.1 ≡ before + row_total (x ∷ es) + e.1 = omega (arith, sum) in
    ap (λ zs. record { bin = x.0; total = before + x.1 } ∷ zs) (totals_from-push (before + x.1) es e ∙ ap (λ n. totals_from (before + x.1) es ++ record { bin = e.0; total = n } ∷ []) same)

pub row_total-more : (i : ℕ) (es : List (ℕ × ℕ)) (e : ℕ × ℕ) → i < length es → e ≡ get_or es i e → row_total (take (i + 1) es) ≡ row_total (take i es) + e.1
row_total-more i es e within read =
    let sum = sum_by-append (λ (e : ℕ × ℕ). e.1) (take i es) (e ∷ []) in
    let one = sum_by-cons (λ (e : ℕ × ℕ). e.1) e [] in
    ap row_total (take_more es i e within ∙ ap (λ (x : ℕ × ℕ). take i es ++ x ∷ []) (sym read)) ∙ omega (arith, sum, one)

-- a row is put behind those that are there
pub totals_put : (i : ℕ) (es : List (ℕ × ℕ)) (e : ℕ × ℕ) (made new : List Row) (row : Row) → i < length es → e ≡ get_or es i e → made ≡ totals_from 0 (take i es) → row.bin ≡ e.0 → row.total ≡ row_total (take i es) + e.1 → new ≡ put_in made i row → new ≡ totals_from 0 (take (i + 1) es)
totals_put i es e made new row within read is bin total put =
    let long : length made ≡ i = ap length is ∙ length-totals 0 (take i es) ∙ length-take-le i es (omega arith) in
    let count : row.total ≡ 0 + row_total (take i es) + e.1 = omega arith in
    let same : row ≡ record { bin = e.0; total = 0 + row_total (take i es) + e.1 } = ap (λ n. record { bin = n; total = row.total }) bin ∙ ap (λ n. record { bin = e.0; total = n }) count in
    put
    ∙ ap (λ zs. zs ++ row ∷ drop i made) (take_all i made (omega arith))
    ∙ ap (λ zs. made ++ row ∷ zs) (drop_all i made (omega arith))
    ∙ ap (λ zs. zs ++ row ∷ []) is
    ∙ ap (λ (x : Row). totals_from 0 (take i es) ++ x ∷ []) same
    ∙ sym (totals_from-push 0 (take i es) e)
    ∙ ap (totals_from 0) (ap (λ (x : ℕ × ℕ). take i es ++ x ∷ []) read ∙ sym (take_more es i e within))

-- rows that were put are a short table
pub single_totals : (es : List (ℕ × ℕ)) (rows : List Row) → AreRows 0 es → length es ≤ 63 → rows ≡ totals_from 0 es → IsSingle rows × (counts_from 0 rows ≡ es)
single_totals es rows fit few is =
    let long : length rows ≡ length es = ap length is ∙ length-totals 0 es in (
      record {
        rise = subst (Rise 0 0) (sym is) (Rise-totals 0 0 es fit);
        bins = subst (All (λ (row : Row). row.bin ≤ 4294967295)) (sym is) (bins-totals 0 0 es fit);
        few = omega arith;
      },
      ap (counts_from 0) is ∙ counts_from-totals 0 es,
    )

-- ---- the map that has the rows

-- a bin below the number that bins rise from is below all of them
rows_above : (bin from : ℕ) (es : List (ℕ × ℕ)) → bin < from → AreRows from es → T (below_all nat_cmp bin es)
rows_above bin from [] less fit = tt
rows_above bin from (e ∷ es) less fit =
    let low : from ≤ e.0 = fit.0 in
    let this : T (is_lt (nat_cmp bin e.0)) = rw (lt-ltb bin e.0 (omega arith)) tt in
    both _ _ this (rows_above bin (e.0 + 1) es (omega arith) fit.4)

pub rows_sorted : (from : ℕ) (es : List (ℕ × ℕ)) → AreRows from es → T (is_sorted nat_cmp es)
rows_sorted from [] fit = tt
rows_sorted from (e ∷ es) fit = both _ _ (rows_above e.0 (e.0 + 1) es (omega arith) fit.4) (rows_sorted (e.0 + 1) es fit.4)

-- the map of rows has them
pub entries_of_rows : (from : ℕ) (es : List (ℕ × ℕ)) → AreRows from es → entries (from_sorted {R = nat_cmp} es) ≡ es
entries_of_rows from es fit = entries-from_sorted nat_cmp es (rows_sorted from es fit)

-- it counts what they do
pub total_of_rows : (from : ℕ) (es : List (ℕ × ℕ)) → AreRows from es → total_count (from_sorted es) ≡ row_total es
total_of_rows from es fit = sum-map (λ (e : ℕ × ℕ). e.1) (entries (from_sorted {R = nat_cmp} es)) ∙ ap row_total (entries_of_rows from es fit)

-- a form that has rows is the map of them
pub form_of_rows : (f : Form) (es : List (ℕ × ℕ)) → IsForm f → AreRows 0 es → form_entries f ≡ es → counts (rows_of f) ≡ from_sorted es
form_of_rows f es form fit is = same_entries_map (counts (rows_of f)) (from_sorted es) (entries-form f form ∙ is ∙ sym (entries_of_rows 0 es fit))
