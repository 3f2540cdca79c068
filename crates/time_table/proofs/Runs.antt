-- A run of amounts more, each in its bin: in rows, in entries and in a table.
use Rattle.std.proofs.Common.{◌≡◌, ℕ, zero, suc, ◌+◌, ◌<◌, ◌≤◌, ◌^◌, List, [], ◌∷◌, ◌++◌, length, take, drop, get_or, All, refl, sym, ap, subst, ◌∙◌, arith}
use Rattle.std.specs.FinMap.{entries, entries-insert, get-entries, put}
use Rattle.std.specs.Ordering.{nat_cmp}
use Rattle.std.specs.Cmp.{nat_cmp_total}
use Rattle.std.specs.Prelude.{cond, eqb, unwrap_or, Result, Ok, Err, OnOk, OnErr}
use Rattle.std.proofs.lemmas.Bool.{eq-eqb, eqb-true}
use Rattle.std.proofs.lemmas.List.{take_more}
use Rattle.std.proofs.lemmas.List.Elements.{All-head, All-tail}
use Rattle.std.proofs.lemmas.List.Sums.{sum_by-cons, sum_by_more, sum_by-take-le}
use Rattle.std.proofs.Math.Seq.{drop-cons}
use Rattle.time_table.specs.declared.row.Row.{Row}
use Rattle.time_table.specs.Counts.{BinCounts, AllCounted, count_of, add_many, take_many, total_count, amount_at, run_total, add_run, take_run, CanTakeRun}
use Rattle.time_table.specs.Totals.{Rise, counts_from, last_total}
use Rattle.time_table.specs.Places.{added, more, added_run, more_run}
use Rattle.time_table.proofs.MoreRecords.{Rise-added, last_total-added, length-added, counts_from-added}
use Rattle.time_table.proofs.AddLaws.{count_of-add_many, total_count-add_many, AllCounted-add_many}
use Rattle.time_table.proofs.CountLaws.{take_many-add_many}
use Rattle.time_table.proofs.AmountTables.{more_there}

-- each amount of a run is above 0
abbrev AreSome : List (ℕ × ℕ) → Type 0
AreSome run = All (λ (a : ℕ × ℕ). 0 < a.1) run

pub added_run-push : (run : List (ℕ × ℕ)) (a : ℕ × ℕ) (rows : List Row) → added_run (run ++ a ∷ []) rows ≡ added 0 a.0 a.1 (added_run run rows)
added_run-push [] a rows = refl
added_run-push (b ∷ run) a rows = added_run-push run a (added 0 b.0 b.1 rows)

pub Rise-added_run : (run : List (ℕ × ℕ)) (rows : List Row) → AreSome run → Rise 0 0 rows → Rise 0 0 (added_run run rows)
Rise-added_run [] rows some rise = rise
Rise-added_run (a ∷ run) rows some rise =
    Rise-added_run run (added 0 a.0 a.1 rows) (All-tail (λ (a : ℕ × ℕ). 0 < a.1) a run some)
    (Rise-added 0 0 a.0 a.1 rows rise (All-head (λ (a : ℕ × ℕ). 0 < a.1) a run some) (omega arith))

pub last_total-added_run : (run : List (ℕ × ℕ)) (rows : List Row) → last_total 0 (added_run run rows) ≡ last_total 0 rows + run_total run
last_total-added_run [] rows = omega arith
last_total-added_run (a ∷ run) rows =
    omega (arith, last_total-added_run run (added 0 a.0 a.1 rows), last_total-added 0 a.0 a.1 rows, sum_by-cons (λ (a : ℕ × ℕ). a.1) a run)

pub length-added_run-le : (run : List (ℕ × ℕ)) (rows : List Row) → length (added_run run rows) ≤ length rows + length run
length-added_run-le [] rows = omega arith
length-added_run-le (a ∷ run) rows =
    let one = length-added 0 a.0 a.1 rows in
    omega (arith, length-added_run-le run (added 0 a.0 a.1 rows), one.most)

pub counts_from-added_run : (run : List (ℕ × ℕ)) (rows : List Row) → AreSome run → Rise 0 0 rows → counts_from 0 (added_run run rows) ≡ more_run run (counts_from 0 rows)
counts_from-added_run [] rows some rise = refl
counts_from-added_run (a ∷ run) rows some rise =
    counts_from-added_run run (added 0 a.0 a.1 rows) (All-tail (λ (a : ℕ × ℕ). 0 < a.1) a run some)
    (Rise-added 0 0 a.0 a.1 rows rise (All-head (λ (a : ℕ × ℕ). 0 < a.1) a run some) (omega arith))
    ∙ ap (more_run run) (counts_from-added 0 0 a.0 a.1 rows rise)

-- the entries of a table with an amount more
entries-add_many : (m : BinCounts) (bin n : ℕ) → entries (add_many m bin n) ≡ more bin n (entries m)
entries-add_many m bin n =
    entries-insert nat_cmp_total m bin (count_of m bin + n)
    ∙ ap (λ o. put nat_cmp bin (unwrap_or o 0 + n) (entries m)) (get-entries m bin)

-- .. and with a run more
pub entries-add_run : (m : BinCounts) (run : List (ℕ × ℕ)) → entries (add_run m run) ≡ more_run run (entries m)
entries-add_run m [] = refl
entries-add_run m (a ∷ run) = entries-add_run (add_many m a.0 a.1) run ∙ ap (more_run run) (entries-add_many m a.0 a.1)

pub add_run-push : (m : BinCounts) (run : List (ℕ × ℕ)) (a : ℕ × ℕ) → add_run m (run ++ a ∷ []) ≡ add_many (add_run m run) a.0 a.1
add_run-push m [] a = refl
add_run-push m (b ∷ run) a = add_run-push (add_many m b.0 b.1) run a

-- one amount more of a list that is gone through
pub add_run-more : (m : BinCounts) (run : List (ℕ × ℕ)) (i : ℕ) (d : ℕ × ℕ) → i < length run → add_run m (take (i + 1) run) ≡ add_many (add_run m (take i run)) (get_or run i d).0 (get_or run i d).1
add_run-more m run i d less = ap (add_run m) (take_more run i d less) ∙ add_run-push m (take i run) (get_or run i d)

-- a run is as much more in all ..
pub total_count-add_run : (m : BinCounts) (run : List (ℕ × ℕ)) → total_count (add_run m run) ≡ total_count m + run_total run
total_count-add_run m [] = omega arith
total_count-add_run m (a ∷ run) =
    omega (arith, total_count-add_run (add_many m a.0 a.1) run, total_count-add_many m a.0 a.1, sum_by-cons (λ (a : ℕ × ℕ). a.1) a run)

-- .. so there is room for each amount
pub fits-more : (m : BinCounts) (run : List (ℕ × ℕ)) (i : ℕ) (d : ℕ × ℕ) → i < length run → total_count m + run_total run ≤ 2 ^ 63 → total_count (add_run m (take i run)) + (get_or run i d).1 ≤ 2 ^ 63
fits-more m run i d less fits =
    let one = sum_by_more (λ (a : ℕ × ℕ). a.1) run i d less in
    let all = sum_by-take-le (λ (a : ℕ × ℕ). a.1) run (i + 1) in
    omega (arith, total_count-add_run m (take i run), one, all, fits)

-- a run is in each bin as much more as it has there
pub count_of-add_run : (m : BinCounts) (run : List (ℕ × ℕ)) (q : ℕ) → count_of (add_run m run) q ≡ count_of m q + amount_at q run
count_of-add_run m [] q = omega arith
count_of-add_run m (a ∷ run) q =
    let one = count_of-add_many m a.0 a.1 q ∙ more_there (eqb q a.0) (count_of m a.0) (count_of m q) (count_of m q) a.1 (λ e. ap (count_of m) (sym (eqb-true q a.0 e))) refl in
    omega (arith, count_of-add_run (add_many m a.0 a.1) run q, one, sum_by-cons (λ (a : ℕ × ℕ). cond (eqb q a.0) a.1 0) a run)

pub AllCounted-add_run : (m : BinCounts) (run : List (ℕ × ℕ)) → AreSome run → AllCounted m → AllCounted (add_run m run)
AllCounted-add_run m [] some counted = counted
AllCounted-add_run m (a ∷ run) some counted =
    AllCounted-add_run (add_many m a.0 a.1) run (All-tail (λ (a : ℕ × ℕ). 0 < a.1) a run some)
    (AllCounted-add_many m a.0 a.1 (All-head (λ (a : ℕ × ℕ). 0 < a.1) a run some) counted)

-- .. also where it may be refused
pub AllCounted-either : {X E : Type 0} (r : Result X E) (m new : BinCounts) (run : List (ℕ × ℕ)) → AreSome run → AllCounted m → OnOk r (new ≡ add_run m run) → OnErr r (new ≡ m) → AllCounted new
AllCounted-either (Ok x) m new run some counted ok err = subst AllCounted (sym ok) (AllCounted-add_run m run some counted)
AllCounted-either (Err e) m new run some counted ok err = subst AllCounted (sym err) counted

-- a run more and then as much less is no change ..
pub take_run-add_run : (m : BinCounts) (run : List (ℕ × ℕ)) → AreSome run → AllCounted m → take_run (add_run m run) run ≡ m
take_run-add_run m [] some counted = refl
take_run-add_run m (a ∷ run) some counted =
    ap (λ (k : BinCounts). take_many k a.0 a.1)
    (take_run-add_run (add_many m a.0 a.1) run (All-tail (λ (a : ℕ × ℕ). 0 < a.1) a run some) (AllCounted-add_many m a.0 a.1 (All-head (λ (a : ℕ × ℕ). 0 < a.1) a run some) counted))
    ∙ take_many-add_many m a.0 a.1 counted

-- .. and each of its amounts is there to be taken
pub can_take_run : (m : BinCounts) (run : List (ℕ × ℕ)) → AreSome run → AllCounted m → CanTakeRun (add_run m run) run
can_take_run m [] some counted = tt
can_take_run m (a ∷ run) some counted =
    let rest : AreSome run = All-tail (λ (a : ℕ × ℕ). 0 < a.1) a run some in
    let here : AllCounted (add_many m a.0 a.1) = AllCounted-add_many m a.0 a.1 (All-head (λ (a : ℕ × ℕ). 0 < a.1) a run some) counted in
    (subst (λ (k : BinCounts). a.1 ≤ count_of k a.0) (sym (take_run-add_run (add_many m a.0 a.1) run rest here)) there, can_take_run (add_many m a.0 a.1) run rest here)
  where
    there : a.1 ≤ count_of (add_many m a.0 a.1) a.0
    there = let e = count_of-add_many m a.0 a.1 a.0 ∙ ap (λ b. cond b (count_of m a.0 + a.1) (count_of m a.0)) (eq-eqb a.0 a.0 refl) in omega (arith, e)

-- the amount that is taken next is there ..
pub taken_next : (m : BinCounts) (run : List (ℕ × ℕ)) (k n : ℕ) (d : ℕ × ℕ) → n ≡ k + 1 → k < length run → CanTakeRun m run → (get_or run k d).1 ≤ count_of (take_run m (drop n run)) (get_or run k d).0
taken_next m run k n d next less can =
    let e : n ≡ suc k = omega arith in
    subst (λ j. (get_or run k d).1 ≤ count_of (take_run m (drop j run)) (get_or run k d).0) (sym e) (go run k less can)
  where
    go : (xs : List (ℕ × ℕ)) (k : ℕ) → k < length xs → CanTakeRun m xs → (get_or xs k d).1 ≤ count_of (take_run m (drop (suc k) xs)) (get_or xs k d).0
    go [] k less can = absurd (omega arith)
    go (a ∷ xs) zero less can = can.0
    go (a ∷ xs) (suc k) less can = go xs k (omega arith) can.1

-- .. and then it is taken
pub take_run-more : (m : BinCounts) (run : List (ℕ × ℕ)) (k n : ℕ) (d : ℕ × ℕ) → n ≡ k + 1 → k < length run → take_run m (drop k run) ≡ take_many (take_run m (drop n run)) (get_or run k d).0 (get_or run k d).1
take_run-more m run k n d next less =
    let e : n ≡ suc k = omega arith in
    ap (take_run m) (drop-cons run k d less) ∙ ap (λ j. take_many (take_run m (drop j run)) (get_or run k d).0 (get_or run k d).1) (sym e)
