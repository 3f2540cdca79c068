-- The forms of a table.
use Rattle.std.proofs.Common.{◌≡◌, ℕ, ◌+◌, ◌-◌, ◌<◌, ◌≤◌, ◌^◌, List, [], ◌∷◌, length, get_or, All, sym, ap, subst, inl, inr, cond, ◌∙◌, arith}
use Rattle.std.proofs.lemmas.List.Elements.{All-weaker}
use Rattle.std.proofs.lemmas.List.{append-nil}
use Rattle.std.specs.Prelude.{Result, Ok, Err, OnOk, OnErr}
use Rattle.std.specs.Prelude.{None, unwrap_or}
use Rattle.std.specs.Ordering.{eq_by_cmp, nat_cmp}
use Rattle.std.specs.Cmp.{nat_cmp_total}
use Rattle.std.specs.FinMap.{entries, len, insert, remove, find, put, get-entries, get-remove, entries-insert, same_entries_map, same_map, nat_cmp-IsAntisymmetric}
use Rattle.std.proofs.lemmas.Bool.{cases_eq, eq-eqb, ne_eqb}
use Rattle.probe_core.specs.Bits.{bits}
use Rattle.time_table.specs.Counts.{AllCounted, count_of, add_many, take_many, add_run, total_count}
use Rattle.time_table.proofs.RowCounts.{entries-counts, total_count-counts, AllCounted-counts, len-counts}
use Rattle.time_table.proofs.EntryChanges.{find-del}
use Rattle.time_table.specs.declared.row.Row.{Row}
use Rattle.time_table.specs.declared.form.Form.{Form}
use Rattle.time_table.specs.declared.form.Form.TheVariants.{Few, Single, Split, WideSingle, WideSplit}
use Rattle.time_table.specs.declared.few.Few.{Few as Kept}
use Rattle.time_table.specs.declared.few.Few.TheVariants.{No, One, Two, Three}
use Rattle.time_table.specs.Totals.{IsTotal, Rise, counts, counts_from, last_total}
use Rattle.time_table.specs.Places.{added, taken, count_at, more, more_run, less, del}
use Rattle.time_table.specs.Blocks.{Block, flat, parts, Held, IsHead}
use Rattle.time_table.specs.Forms.{IsSingle, IsForm, MayRise, rows_of, form_entries, find_cost, total_of}
use Rattle.time_table.specs.Blocks.{IsSplit}
use Rattle.time_table.specs.Fews.{few_rows}
use Rattle.time_table.proofs.MoreRecords.{Rise-added, All-added}
use Rattle.time_table.proofs.FewerRecords.{Rise-taken, All-taken, length-taken}
use Rattle.time_table.proofs.TwoRowLists.{length-le-total}
use Rattle.time_table.proofs.BlockRows.{counts_from-flat, Rise-flat, last_total-flat, held_len}
use Rattle.time_table.proofs.BlockCounts.{length-flat, search_in_blocks}
use Rattle.time_table.proofs.Runs.{entries-add_run}
use Rattle.time_table.proofs.SeriesTotals.{rows_few}

pub one_block : (m : ℕ) (rows heads : List Row) (blocks : List Block) (b : Block) (h : Row) → IsSingle rows → 63 ≤ length rows → IsTotal m (last_total 0 rows) → heads ≡ h ∷ [] → blocks ≡ b ∷ [] → b.items ≡ rows → 64 ≤ length b.items + b.spare → h.bin ≡ 4294967295 → h.total ≡ last_total 0 rows → IsSplit m heads blocks
one_block m rows heads blocks b h single many fits is is' items room bin total =
    let long : length b.items ≡ length rows = ap length items in
    let same : last_total 0 b.items ≡ last_total 0 rows = ap (last_total 0) items in
    let head : IsHead 0 0 h b.items = record {
      rise = subst (Rise 0 0) (sym items) single.rise;
      within = subst (All (λ (row : Row). row.bin ≤ h.bin)) (sym items) (subst (λ k. All (λ (row : Row). row.bin ≤ k) rows) (sym bin) single.bins);
      bins = omega arith;
      some = omega (arith, length-le-total 0 0 rows single.rise);
      total = omega arith;
    } in
    let last : h.bin + 1 ≡ 2 ^ 32 = omega arith in
    let split : IsSplit m (h ∷ []) (b ∷ []) = record { heads_held = record { held = (head, last); last = (λ some. absurd (omega (arith, some)), tt) }; sized = (record { least = omega arith; most = omega (arith, single.few); room = room }, tt); fits = subst (IsTotal m) (sym total) fits } in
    subst (λ (hs : List Row). IsSplit m hs blocks) (sym is) (subst (λ (bs : List Block). IsSplit m (h ∷ []) bs) (sym is') split)

pub single_added : (bin n : ℕ) (rows new : List Row) → IsSingle rows → length (added 0 bin n rows) ≤ 63 → 0 < n → bin ≤ 4294967295 → new ≡ added 0 bin n rows → IsSingle new
single_added bin n rows new single room some fits is =
    let long : length new ≡ length (added 0 bin n rows) = ap length is in
    record {
      rise = subst (Rise 0 0) (sym is) (Rise-added 0 0 bin n rows single.rise some (omega arith));
      bins = subst (All (λ (row : Row). row.bin ≤ 4294967295)) (sym is) (All-added 0 bin n 4294967295 rows single.bins fits);
      few = omega arith;
    }

pub single_taken : (bin n : ℕ) (rows new : List Row) → IsSingle rows → 0 < n → n ≤ count_at bin (counts_from 0 rows) → new ≡ taken 0 bin n rows → IsSingle new
single_taken bin n rows new single some there is =
    let shorter = length-taken 0 0 bin n rows single.rise some there in
    let long : length new ≡ length (taken 0 bin n rows) = ap length is in
    record {
      rise = subst (Rise 0 0) (sym is) (Rise-taken 0 0 bin n rows single.rise some there);
      bins = subst (All (λ (row : Row). row.bin ≤ 4294967295)) (sym is) (All-taken 0 0 bin n 4294967295 rows single.rise some there single.bins);
      few = omega (arith, shorter.least, single.few);
    }

-- the one block that is left as rows without blocks
pub sole : (hs : List Row) (bs : List Block) (b : Block) → Held 0 0 hs bs → length bs ≡ 1 → b ≡ get_or bs 0 b → length b.items ≤ 63 → IsSingle b.items × (counts_from 0 b.items ≡ parts bs)
sole hs [] b held one read few = absurd (omega arith)
sole [] (x ∷ bs) b held one read few = absurd held
sole (h ∷ hs) (x ∷ y ∷ bs) b held one read few = absurd (omega arith)
sole (h ∷ g ∷ hs) (x ∷ []) b held one read few = absurd held.1
sole (h ∷ []) (x ∷ []) b held one read few =
    let last : h.bin + 1 ≡ 2 ^ 32 = held.1 in (
      record {
        rise = subst (λ (y : Block). Rise 0 0 y.items) (sym read) held.0.rise;
        bins = subst (λ (y : Block). All (λ (row : Row). row.bin ≤ 4294967295) y.items) (sym read) (All-weaker (λ (row : Row). row.bin ≤ h.bin) (λ (row : Row). row.bin ≤ 4294967295) (λ (row : Row) (le : row.bin ≤ h.bin). omega arith) x.items held.0.within);
        few = few;
      },
      ap (λ (y : Block). counts_from 0 y.items) read ∙ sym (append-nil (counts_from 0 x.items)),
    )

pub single_either : {X E : Type 0} (r : Result X E) (bin n : ℕ) (rows new : List Row) → IsSingle rows → length (added 0 bin n rows) ≤ 63 → 0 < n → bin ≤ 4294967295 → OnOk r (new ≡ added 0 bin n rows) → OnErr r (new ≡ rows) → IsSingle new
single_either (Ok x) bin n rows new single room some fits ok err = single_added bin n rows new single room some fits ok
single_either (Err e) bin n rows new single room some fits ok err = subst IsSingle (sym err) single

pub Rise-rows : (f : Form) → IsForm f → Rise 0 0 (rows_of f)
Rise-rows (Few few) is = is.rise
Rise-rows (Single rows) is = is.rise
Rise-rows (Split split) is = Rise-flat 0 0 split.value.heads.items split.value.blocks.items is.held
Rise-rows (WideSingle rows) is = is.rise
Rise-rows (WideSplit split) is = Rise-flat 0 0 split.value.heads.items split.value.blocks.items is.held

pub entries-form : (f : Form) → IsForm f → entries (counts (rows_of f)) ≡ form_entries f
entries-form (Few few) is = entries-counts (few_rows few) is.rise
entries-form (Single rows) is = entries-counts rows.items is.rise
entries-form (Split split) is = entries-counts (flat 0 split.value.blocks.items) (Rise-flat 0 0 split.value.heads.items split.value.blocks.items is.held) ∙ counts_from-flat 0 split.value.blocks.items
entries-form (WideSingle rows) is = entries-counts rows.items is.rise
entries-form (WideSplit split) is = entries-counts (flat 0 split.value.blocks.items) (Rise-flat 0 0 split.value.heads.items split.value.blocks.items is.held) ∙ counts_from-flat 0 split.value.blocks.items

pub total-form : (f : Form) → IsForm f → total_count (counts (rows_of f)) ≡ total_of f
total-form (Few few) is = total_count-counts (few_rows few) is.rise
total-form (Single rows) is = total_count-counts rows.items is.rise
total-form (Split split) is = total_count-counts (flat 0 split.value.blocks.items) (Rise-flat 0 0 split.value.heads.items split.value.blocks.items is.held) ∙ last_total-flat 0 0 split.value.heads.items split.value.blocks.items is.held
total-form (WideSingle rows) is = total_count-counts rows.items is.rise
total-form (WideSplit split) is = total_count-counts (flat 0 split.value.blocks.items) (Rise-flat 0 0 split.value.heads.items split.value.blocks.items is.held) ∙ last_total-flat 0 0 split.value.heads.items split.value.blocks.items is.held

pub AllCounted-form : (f : Form) → IsForm f → AllCounted (counts (rows_of f))
AllCounted-form f is = AllCounted-counts (rows_of f) (Rise-rows f is)

pub len-form : (f : Form) → IsForm f → len (counts (rows_of f)) ≡ length (rows_of f)
len-form f is = len-counts (rows_of f) (Rise-rows f is)

pub count-form : (f : Form) (bin : ℕ) → IsForm f → count_of (counts (rows_of f)) bin ≡ count_at bin (form_entries f)
count-form f bin is = ap (λ o. unwrap_or o 0) (get-entries (counts (rows_of f)) bin ∙ ap (find nat_cmp bin) (entries-form f is))

pub same-form : (f f' : Form) → IsForm f → IsForm f' → form_entries f' ≡ form_entries f → counts (rows_of f') ≡ counts (rows_of f)
same-form f f' is is' same = same_entries_map (counts (rows_of f')) (counts (rows_of f)) (entries-form f' is' ∙ same ∙ sym (entries-form f is))

pub added-form : (f f' : Form) (bin n : ℕ) → IsForm f → IsForm f' → form_entries f' ≡ more bin n (form_entries f) → counts (rows_of f') ≡ add_many (counts (rows_of f)) bin n
added-form f f' bin n is is' new =
    same_entries_map (counts (rows_of f')) (add_many (counts (rows_of f)) bin n)
    (entries-form f' is'
    ∙ new
    ∙ ap (λ k. put nat_cmp bin (k + n) (form_entries f)) (sym (count-form f bin is))
    ∙ ap (put nat_cmp bin (count_of (counts (rows_of f)) bin + n)) (sym (entries-form f is))
    ∙ sym (entries-insert nat_cmp_total (counts (rows_of f)) bin (count_of (counts (rows_of f)) bin + n)))

pub run-form : (f f' : Form) (run : List (ℕ × ℕ)) → IsForm f → IsForm f' → form_entries f' ≡ more_run run (form_entries f) → counts (rows_of f') ≡ add_run (counts (rows_of f)) run
run-form f f' run is is' new =
    same_entries_map (counts (rows_of f')) (add_run (counts (rows_of f)) run)
    (entries-form f' is' ∙ new ∙ ap (more_run run) (sym (entries-form f is)) ∙ sym (entries-add_run (counts (rows_of f)) run))

pub taken-form : (f f' : Form) (bin n : ℕ) → IsForm f → IsForm f' → form_entries f' ≡ less bin n (form_entries f) → counts (rows_of f') ≡ take_many (counts (rows_of f)) bin n
taken-form f f' bin n is is' new =
    let count : count_at bin (form_entries f) ≡ count_of (counts (rows_of f)) bin = sym (count-form f bin is) in
    elim (cases_eq (count_of (counts (rows_of f)) bin) n) [
      | inl all ↦
          let gone : counts (rows_of f') ≡ remove (counts (rows_of f)) bin =
          same_map nat_cmp_total nat_cmp-IsAntisymmetric (counts (rows_of f')) (remove (counts (rows_of f)) bin) (λ q.
          get-entries (counts (rows_of f')) q
          ∙ ap (find nat_cmp q) (entries-form f' is' ∙ new ∙ ap (λ b. cond b (del bin (form_entries f)) (put nat_cmp bin (count_at bin (form_entries f) - n) (form_entries f))) (eq-eqb (count_at bin (form_entries f)) n (count ∙ all)))
          ∙ find-del bin q (form_entries f)
          ∙ ap (λ es. cond (eq_by_cmp nat_cmp q bin) None (find nat_cmp q es)) (sym (entries-form f is))
          ∙ ap (cond (eq_by_cmp nat_cmp q bin) None) (sym (get-entries (counts (rows_of f)) q))
          ∙ sym (get-remove nat_cmp_total (counts (rows_of f)) bin q)) in
          rw (eq-eqb (count_of (counts (rows_of f)) bin) n all) gone
      | inr some ↦
          let left : counts (rows_of f') ≡ insert (counts (rows_of f)) bin (count_of (counts (rows_of f)) bin - n) =
          same_entries_map (counts (rows_of f')) (insert (counts (rows_of f)) bin (count_of (counts (rows_of f)) bin - n))
          (entries-form f' is' ∙ new
          ∙ ap (λ b. cond b (del bin (form_entries f)) (put nat_cmp bin (count_at bin (form_entries f) - n) (form_entries f))) (ne_eqb (count_at bin (form_entries f)) n (λ all. some (sym count ∙ all)))
          ∙ ap (λ k. put nat_cmp bin (k - n) (form_entries f)) count
          ∙ ap (put nat_cmp bin (count_of (counts (rows_of f)) bin - n)) (sym (entries-form f is))
          ∙ sym (entries-insert nat_cmp_total (counts (rows_of f)) bin (count_of (counts (rows_of f)) bin - n))) in
          rw (ne_eqb (count_of (counts (rows_of f)) bin) n some) left
    ]

pub some_heads : (hs : List Row) (bs : List Block) → Held 0 0 hs bs → 0 < length hs
some_heads [] [] held = absurd (omega arith)
some_heads [] (b ∷ bs) held = absurd held
some_heads (h ∷ hs) bs held = omega arith

-- a table of blocks has a row
pub not_bare : (m : ℕ) (hs : List Row) (bs : List Block) → IsSplit m hs bs → flat 0 bs ≡ [] → ⊥
not_bare m hs bs split bare =
    let same = held_len 0 0 hs bs split.held in
    let some = some_heads hs bs split.held in
    let many = length-flat 0 bs split.sized in
    omega (arith, same, some, many, ap length bare)

-- totals that have 32 bits with n records more
pub rises_by : (n : ℕ) (f : Form) → total_of f + n < 2 ^ 32 → MayRise n f
rises_by n (Few few) less = less
rises_by n (Single rows) less = less
rises_by n (Split split) less = less
rises_by n (WideSingle rows) less = tt
rises_by n (WideSplit split) less = tt

-- a look at each of a few rows is no more than the number of rows has binary digits, and one
pub few-le : (few : Kept) → (length (few_rows few) ≤ 3) × (length (few_rows few) ≤ 1 + bits (length (few_rows few)))
unfolding bits
few-le No = (omega arith, omega arith)
few-le (One a) = (omega arith, omega arith)
few-le (Two a b) = (omega arith, omega arith)
few-le (Three a b c) = (omega arith, omega arith)

-- a search looks at no more rows than the number of rows has binary digits, and one
pub find_cost-le : (f : Form) → IsForm f → find_cost f ≤ 1 + bits (length (rows_of f))
find_cost-le (Few few) form = (few-le few).1
find_cost-le (Single rows) form = omega arith
find_cost-le (Split split) form =
    let same = held_len 0 0 split.value.heads.items split.value.blocks.items form.held in
    let many = length-flat 0 split.value.blocks.items form.sized in
    search_in_blocks (length split.value.heads.items) (length (flat 0 split.value.blocks.items)) (some_heads split.value.heads.items split.value.blocks.items form.held) (omega (arith, same, many))
find_cost-le (WideSingle rows) form = omega arith
find_cost-le (WideSplit split) form =
    let same = held_len 0 0 split.value.heads.items split.value.blocks.items form.held in
    let many = length-flat 0 split.value.blocks.items form.sized in
    search_in_blocks (length split.value.heads.items) (length (flat 0 split.value.blocks.items)) (some_heads split.value.heads.items split.value.blocks.items form.held) (omega (arith, same, many))

-- no table has more rows than there are bins
pub rows-few : (f : Form) → IsForm f → length (rows_of f) ≤ 2 ^ 32
rows-few (Few few) form = let short = (few-le few).0 in omega (arith, short)
rows-few (Single rows) form = let few = form.few in omega (arith, few)
rows-few (Split split) form = rows_few split.value.heads.items split.value.blocks.items form.held
rows-few (WideSingle rows) form = let few = form.few in omega (arith, few)
rows-few (WideSplit split) form = rows_few split.value.heads.items split.value.blocks.items form.held
