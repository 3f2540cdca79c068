-- Rows into which a run of amounts is merged by one pass.
use Rattle.std.proofs.Common.{◌≡◌, ℕ, zero, suc, ◌+◌, ◌<◌, ◌≤◌, ◌^◌, true, false, cond, eqb, List, [], ◌∷◌, ◌++◌, length, take, drop, map, get_or, All, refl, sym, ap, subst, ◌∙◌, arith, append_assoc, inl, inr}
use Rattle.std.proofs.lemmas.Bool.{cases_lt}
use Rattle.std.proofs.lemmas.List.{take_more, append-nil, get_or_default}
use Rattle.std.proofs.lemmas.List.Elements.{All-nil, All-cons, All-head, All-tail, All-append, All-take, All-weaker, All-get_or}
use Rattle.std.proofs.lemmas.List.Sums.{sum_by_more, sum_by-take-le}
use Rattle.std.proofs.Math.ListN.{drop_of_length-le}
use Rattle.std.proofs.Math.Seq.{take-append_seam, drop-append_seam, take-length}
use Rattle.time_table.specs.declared.row.Row.{Row}
use Rattle.time_table.specs.Counts.{IsBinRun, run_total}
use Rattle.time_table.specs.Totals.{IsTotal, Rise, last_total, raised}
use Rattle.time_table.specs.Places.{with_first, added, added_run, new_row, PutsLesser}
use Rattle.time_table.specs.Forms.{IsSingle}
use Rattle.time_table.proofs.MoreRecords.{added_at, all_past, last_total-take-le, fits_all}
use Rattle.time_table.proofs.Runs.{added_run-push, Rise-added_run, last_total-added_run, length-added_run-le}

raised-raised : (n m : ℕ) (rows : List Row) → map (raised n) (map (raised m) rows) ≡ map (raised (m + n)) rows
raised-raised n m [] = refl
raised-raised n m (r ∷ rs) =
    let same : (r.total + m) + n ≡ r.total + (m + n) = omega arith in
    ap (λ k. record { bin = r.bin; total = k } ∷ map (raised n) (map (raised m) rs)) same ∙ ap (λ zs. raised (m + n) r ∷ zs) (raised-raised n m rs)

raised_none : (rows : List Row) → map (raised 0) rows ≡ rows
raised_none [] = refl
raised_none (r ∷ rs) =
    let same : r.total + 0 ≡ r.total = omega arith in
    ap (λ k. record { bin = r.bin; total = k } ∷ map (raised 0) rs) same ∙ ap (λ zs. r ∷ zs) (raised_none rs)

-- the rows from a place on whose first one is not before an end
pub others_from : (least before to e : ℕ) (rows : List Row) → Rise least before rows → ((d : Row) → to < length rows → e ≤ (get_or rows to d).bin) → All (λ r. e ≤ r.bin) (drop to rows)
others_from least before zero e [] rise first = All-nil (λ (r : Row). e ≤ r.bin)
others_from least before zero e (r ∷ rs) rise first =
    let here : e ≤ r.bin = first r (omega arith) in
    All-cons (λ (x : Row). e ≤ x.bin) r rs here
    (All-weaker (λ (x : Row). r.bin < x.bin) (λ (x : Row). e ≤ x.bin) (λ (x : Row) (less : r.bin < x.bin). omega arith) rs (all_past (r.bin + 1) r.total r.bin rs rise.2 (omega arith)))
others_from least before (suc to) e [] rise first = All-nil (λ (r : Row). e ≤ r.bin)
others_from least before (suc to) e (r ∷ rs) rise first = others_from (r.bin + 1) r.total to e rs rise.2 (λ d less. first d (omega arith))

others_raised : (e n : ℕ) (rows : List Row) → All (λ r. e ≤ r.bin) rows → All (λ r. e ≤ r.bin) (map (raised n) rows)
others_raised e n [] all = All-nil (λ (r : Row). e ≤ r.bin)
others_raised e n (r ∷ rs) all =
    All-cons (λ (x : Row). e ≤ x.bin) (raised n r) (map (raised n) rs) (All-head (λ (x : Row). e ≤ x.bin) r rs all) (others_raised e n rs (All-tail (λ (x : Row). e ≤ x.bin) r rs all))

-- the rows of a bin and of later ones, with an amount more in the bin
new_first : (below bin n m : ℕ) (rest : List Row) → map (raised n) (with_first below bin (map (raised m) rest)) ≡ new_row below bin n rest ++ map (raised (m + n)) rest
new_first below bin n m [] = refl
new_first below bin n m (r ∷ rs) =
    let same = raised-raised n m (r ∷ rs) in
    elim (eqb r.bin bin) as (λ b. map (raised n) (cond b (raised m r ∷ map (raised m) rs) (record { bin = bin; total = below } ∷ raised m r ∷ map (raised m) rs)) ≡ cond b [] (record { bin = bin; total = below + n } ∷ []) ++ map (raised (m + n)) (r ∷ rs)) [
      | true ↦ same
      | false ↦ ap (λ zs. record { bin = bin; total = below + n } ∷ zs) same
    ]

All-new_row : (P : Row → Type 0) (below bin n : ℕ) (rest : List Row) → P (record { bin = bin; total = below + n }) → All P (new_row below bin n rest)
All-new_row P below bin n [] p = All-cons P (record { bin = bin; total = below + n }) [] p (All-nil P)
All-new_row P below bin n (r ∷ rs) p = elim (eqb r.bin bin) as (λ b. All P (cond b [] (record { bin = bin; total = below + n } ∷ []))) [ true ↦ All-nil P | false ↦ All-cons P (record { bin = bin; total = below + n }) [] p (All-nil P) ]

-- the rows before and after the place of a bin, with an amount more in the bin
added_seam : (bin n : ℕ) (front back : List Row) → All (λ r. r.bin < bin) front → All (λ r. bin ≤ r.bin) back → added 0 bin n (front ++ back) ≡ front ++ map (raised n) (with_first (last_total 0 front) bin back)
added_seam bin n front back lesser others =
    let t = take-append_seam front back in
    let d = drop-append_seam front back in
    sym (added_at 0 bin n (length front) (front ++ back) (subst (All (λ (r : Row). r.bin < bin)) (sym t) lesser) (subst (All (λ (r : Row). bin ≤ r.bin)) (sym d) others))
    ∙ ap (λ (xs : List Row). xs ++ map (raised n) (with_first (last_total 0 xs) bin (drop (length front) (front ++ back)))) t
    ∙ ap (λ (ys : List Row). front ++ map (raised n) (with_first (last_total 0 front) bin ys)) d

-- the rows before a place are merged with the amounts before the place k of a run
pub record IsMerging (rows : List Row) (run : List (ℕ × ℕ)) (k place more : ℕ) (new : List Row) : Type 0 where
  pub within : place ≤ length rows
  pub whole : new ++ map (raised more) (drop place rows) ≡ added_run (take k run) rows
  pub total : more ≡ run_total (take k run)
  pub bins : All (λ r. r.bin < 2 ^ 32) new
  pub past : (j : ℕ) (d : ℕ × ℕ) → k ≤ j → j < length run → All (λ r. r.bin < (get_or run j d).0) new

pub merging_none : (rows : List Row) (run : List (ℕ × ℕ)) → IsMerging rows run 0 0 0 []
merging_none rows run = record { within = omega arith; whole = raised_none rows; total = refl; bins = All-nil (λ (r : Row). r.bin < 2 ^ 32); past = λ j d le less. All-nil (λ (r : Row). r.bin < (get_or run j d).0) }

-- the amounts so far leave room
pub still_room : (m : ℕ) (rows : List Row) (run : List (ℕ × ℕ)) (k place more : ℕ) (d : ℕ × ℕ) (new : List Row) → k < length run → IsTotal m (last_total 0 rows + run_total run) → IsMerging rows run k place more new → IsTotal m (last_total 0 rows + (more + (get_or run k d).1))
still_room m rows run k place more d new less fits M =
    let one = sum_by_more (λ (a : ℕ × ℕ). a.1) run k d less in
    let all = sum_by-take-le (λ (a : ℕ × ℕ). a.1) run (k + 1) in
    record { half = omega (arith, M.total, one, all, fits.half); small = omega (arith, M.total, one, all, fits.small) }

pub fits_lesser : (m : ℕ) (rows : List Row) (run : List (ℕ × ℕ)) (k place more : ℕ) (new : List Row) → IsSingle rows → IsTotal m (last_total 0 rows + run_total run) → IsMerging rows run k place more new → All (λ r. r.total + more < m) rows
fits_lesser m rows run k place more new single fits M = fits_all m more rows single.rise (let all = sum_by-take-le (λ (a : ℕ × ℕ). a.1) run k in omega (arith, M.total, all, fits.small))

-- one amount more
pub merge_step : (rows : List Row) (run : List (ℕ × ℕ)) (k place more to : ℕ) (a d : ℕ × ℕ) (new new' new'' : List Row) → IsSingle rows → IsBinRun run → k < length run → a ≡ get_or run k d → a.0 < 2 ^ 32 → IsMerging rows run k place more new → PutsLesser a.0 more place to rows new new' → new'' ≡ new' ++ new_row (last_total 0 new') a.0 a.1 (drop to rows) → IsMerging rows run (k + 1) to (more + a.1) new''
merge_step rows run k place more to a d new new' new'' single is less item top M P put = record {
  within = P.within;
  whole =
      ap (λ (xs : List Row). xs ++ map (raised (more + a.1)) (drop to rows)) put
      ∙ append_assoc new' (new_row (last_total 0 new') a.0 a.1 (drop to rows)) (map (raised (more + a.1)) (drop to rows))
      ∙ ap (λ (xs : List Row). new' ++ xs) (sym (new_first (last_total 0 new') a.0 a.1 more (drop to rows)))
      ∙ sym (added_seam a.0 a.1 new' (map (raised more) (drop to rows)) lesser others)
      ∙ ap (added 0 a.0 a.1) (P.same ∙ M.whole)
      ∙ sym (added_run-push (take k run) a rows)
      ∙ ap (λ x. added_run (take k run ++ x ∷ []) rows) item
      ∙ sym (ap (λ xs. added_run xs rows) (take_more run k d less));
  total =
      let one = sum_by_more (λ (x : ℕ × ℕ). x.1) run k d less in
      let this = ap (λ (x : ℕ × ℕ). x.1) item in
      omega (arith, M.total, one, this);
  bins = all (λ (r : Row). r.bin < 2 ^ 32) (λ r below. omega (arith, below, top)) top;
  past = λ j e le within.
      let later : a.0 < (get_or run j e).0 = subst (λ (x : ℕ × ℕ). x.0 < (get_or run j e).0) (sym (item ∙ get_or_default run k d e less)) (is.rises k j e (omega arith) within) in
      all (λ (r : Row). r.bin < (get_or run j e).0) (λ r below. omega (arith, below, later)) later;
}
  where
    lesser : All (λ (r : Row). r.bin < a.0) new'
    lesser = P.lesser (subst (λ (x : ℕ × ℕ). All (λ (r : Row). r.bin < x.0) new) (sym item) (M.past k d (omega arith) less))

    others : All (λ (r : Row). a.0 ≤ r.bin) (map (raised more) (drop to rows))
    others = others_raised a.0 more (drop to rows) (others_from 0 0 to a.0 rows single.rise P.others)

    all : (Q : Row → Type 0) → ((r : Row) → r.bin < a.0 → Q r) → Q (record { bin = a.0; total = last_total 0 new' + a.1 }) → All Q new''
    all Q below here = subst (All Q) (sym put) (All-append Q new' (new_row (last_total 0 new') a.0 a.1 (drop to rows)) (All-weaker (λ (r : Row). r.bin < a.0) Q below new' lesser) (All-new_row Q (last_total 0 new') a.0 a.1 (drop to rows) here))

-- the total of the rows that are merged leaves room for the next amount
pub fits_new : (m : ℕ) (rows : List Row) (run : List (ℕ × ℕ)) (k place more to bin_end : ℕ) (d : ℕ × ℕ) (new new' : List Row) → IsSingle rows → IsBinRun run → k < length run → IsTotal m (last_total 0 rows + run_total run) → IsMerging rows run k place more new → PutsLesser bin_end more place to rows new new' → IsTotal m (last_total 0 new' + (get_or run k d).1)
fits_new m rows run k place more to bin_end d new new' single is less fits M P =
    let room = still_room m rows run k place more d new less fits M in
    let back : List Row = map (raised more) (drop to rows) in
    let whole : new' ++ back ≡ added_run (take k run) rows = P.same ∙ M.whole in
    let rise : Rise 0 0 (new' ++ back) = subst (Rise 0 0) (sym whole) (Rise-added_run (take k run) rows (All-take (λ (a : ℕ × ℕ). 0 < a.1) k run is.some) single.rise) in
    let front : last_total 0 new' ≤ last_total 0 (new' ++ back) = subst (λ (xs : List Row). last_total 0 xs ≤ last_total 0 (new' ++ back)) (take-append_seam new' back) (last_total-take-le 0 0 (length new') (new' ++ back) rise) in
    let total : last_total 0 (new' ++ back) ≡ last_total 0 rows + run_total (take k run) = ap (last_total 0) whole ∙ last_total-added_run (take k run) rows in
    record { half = omega (arith, room.half, front, total, M.total); small = omega (arith, room.small, front, total, M.total) }

-- all amounts are merged, and the rows after them stand behind
pub merge_end : (rows : List Row) (run : List (ℕ × ℕ)) (k place more to : ℕ) (new new' : List Row) → IsSingle rows → IsBinRun run → length rows + length run ≤ 63 → k ≡ length run → IsMerging rows run k place more new → PutsLesser (2 ^ 32) more place to rows new new' → (new' ≡ added_run run rows) × IsSingle new'
merge_end rows run k place more to new new' single is few last M P = (
  merged,
  record {
    rise = subst (Rise 0 0) (sym merged) (Rise-added_run run rows is.some single.rise);
    bins = All-weaker (λ (r : Row). r.bin < 2 ^ 32) (λ (r : Row). r.bin ≤ 4294967295) (λ (r : Row) (less : r.bin < 2 ^ 32). omega arith) new' (P.lesser M.bins);
    few = let long = ap length merged in omega (arith, long, length-added_run-le run rows);
  },
)
  where
    none : drop to rows ≡ []
    none = elim (cases_lt to (length rows)) [
      | inl less ↦
          let d : Row = record { bin = 0; total = 0 } in
          let high = P.others d less in
          let low = All-get_or (λ (r : Row). r.bin ≤ 4294967295) rows to d less single.bins in
          absurd (omega (arith, high, low))
      | inr past ↦ drop_of_length-le rows past
    ]

    merged : new' ≡ added_run run rows
    merged =
        sym (append-nil new')
        ∙ sym (ap (λ (xs : List Row). new' ++ map (raised more) xs) none)
        ∙ P.same
        ∙ M.whole
        ∙ ap (λ xs. added_run xs rows) (ap (λ n. take n run) last ∙ take-length run)
