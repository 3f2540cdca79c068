-- The first row of a bin that is a given one or later.
use Rattle.std.proofs.Common.{◌≡◌, ℕ, zero, suc, ◌+◌, ◌-◌, ◌<◌, ◌≤◌, List, [], ◌∷◌, ◌++◌, length, take, drop, get_or, Some, None, All, slice_get, refl, sym, ap, inl, inr, ◌∙◌, arith}
use Rattle.std.proofs.lemmas.Bool.{lt-ltb, le-ltb, cases_lt}
use Rattle.std.proofs.lemmas.List.{append-nil}
use Rattle.std.proofs.lemmas.List.Elements.{All-head, All-tail}
use Rattle.time_table.specs.declared.row.Row.{Row}
use Rattle.time_table.specs.Counts.{first_from}
use Rattle.time_table.specs.Totals.{Rise, counts_from, last_total, bin_after}
use Rattle.time_table.specs.Blocks.{Block, parts, Held, AreLast}
use Rattle.time_table.proofs.BlockRows.{below_entries}
use Rattle.time_table.proofs.Entries.{find_here, find_later}
use Rattle.std.specs.FinMap.{find}
use Rattle.std.specs.Ordering.{nat_cmp}

pub first_later : (from : ℕ) (e : ℕ × ℕ) (es : List (ℕ × ℕ)) → e.0 < from → first_from from (e ∷ es) ≡ first_from from es
first_later from e es under = rw (lt-ltb e.0 from under)

pub first_here : (from : ℕ) (e : ℕ × ℕ) (es : List (ℕ × ℕ)) → from ≤ e.0 → first_from from (e ∷ es) ≡ Some e
first_here from e es over = rw (le-ltb e.0 from over)

pub first_none : (from before i : ℕ) (rows : List Row) → All (λ r. r.bin < from) (take i rows) → slice_get rows i ≡ None → first_from from (counts_from before rows) ≡ None
first_none from before i [] lesser is = refl
first_none from before zero (r ∷ rs) lesser is = cc
first_none from before (suc i) (r ∷ rs) lesser is =
    first_later from (r.bin, r.total - before) (counts_from r.total rs) (All-head (λ (r : Row). r.bin < from) r (take i rs) lesser)
    ∙ first_none from r.total i rs (All-tail (λ (r : Row). r.bin < from) r (take i rs) lesser) is

pub first_some : (from before i : ℕ) (rows : List Row) (row : Row) → All (λ r. r.bin < from) (take i rows) → All (λ r. from ≤ r.bin) (drop i rows) → slice_get rows i ≡ Some row → first_from from (counts_from before rows) ≡ Some (row.bin, row.total - last_total before (take i rows))
first_some from before i [] row lesser others is = cc
first_some from before zero (r ∷ rs) row lesser others is =
    let same : r ≡ row = cc in
    first_here from (r.bin, r.total - before) (counts_from r.total rs) (All-head (λ (r : Row). from ≤ r.bin) r rs others)
    ∙ ap (λ (x : Row). Some (x.bin, x.total - before)) same
first_some from before (suc i) (r ∷ rs) row lesser others is =
    first_later from (r.bin, r.total - before) (counts_from r.total rs) (All-head (λ (r : Row). r.bin < from) r (take i rs) lesser)
    ∙ first_some from r.total i rs row (All-tail (λ (r : Row). r.bin < from) r (take i rs) lesser) others is

pub total_above : (least before i : ℕ) (rows : List Row) (row : Row) → Rise least before rows → slice_get rows i ≡ Some row → last_total before (take i rows) ≤ row.total
total_above least before i [] row rise is = cc
total_above least before zero (r ∷ rs) row rise is =
    let up : before < r.total = rise.1 in
    let same : r ≡ row = cc in
    let same' : r.total ≡ row.total = ap (λ (x : Row). x.total) same in
    omega arith
total_above least before (suc i) (r ∷ rs) row rise is = total_above (r.bin + 1) r.total i rs row rise.2 is

first_over : (from : ℕ) (xs ys : List (ℕ × ℕ)) → All (λ (e : ℕ × ℕ). e.0 < from) xs → first_from from (xs ++ ys) ≡ first_from from ys
first_over from [] ys all = refl
first_over from (x ∷ xs) ys all =
    first_later from x (xs ++ ys) (All-head (λ (e : ℕ × ℕ). e.0 < from) x xs all)
    ∙ first_over from xs ys (All-tail (λ (e : ℕ × ℕ). e.0 < from) x xs all)

-- an entry of the first rows is found, if the last of them is late enough
first_reached : (from least before : ℕ) (rows : List Row) (ys : List (ℕ × ℕ)) → from < bin_after least rows → least ≤ from → first_from from (counts_from before rows ++ ys) ≡ first_from from (counts_from before rows)
first_reached from least before [] ys under le = absurd (omega arith)
first_reached from least before (r ∷ rs) ys under le =
    elim (cases_lt r.bin from) [
      | inl less ↦
          first_later from (r.bin, r.total - before) (counts_from r.total rs ++ ys) less
          ∙ first_reached from (r.bin + 1) r.total rs ys under (omega arith)
          ∙ sym (first_later from (r.bin, r.total - before) (counts_from r.total rs) less)
      | inr over ↦ first_here from (r.bin, r.total - before) (counts_from r.total rs ++ ys) over ∙ sym (first_here from (r.bin, r.total - before) (counts_from r.total rs) over)
    ]

-- the first entry from a bin on is in the block of the first head from there on
pub first_in : (least before from p : ℕ) (hs : List Row) (bs : List Block) (b : Block) → Held least before hs bs → AreLast hs bs → All (λ h. h.bin < from) (take p hs) → All (λ h. from ≤ h.bin) (drop p hs) → p < length hs → b ≡ get_or bs p b → first_from from (parts bs) ≡ first_from from (counts_from 0 b.items)
first_in least before from p [] bs b held last lesser others within read = absurd (omega arith)
first_in least before from p (h ∷ hs) [] b held last lesser others within read = absurd held
first_in least before from zero (h ∷ []) (x ∷ []) b held last lesser others within read =
    ap (first_from from) (append-nil (counts_from 0 x.items)) ∙ ap (λ (y : Block). first_from from (counts_from 0 y.items)) (sym read)
first_in least before from zero (h ∷ []) (x ∷ y ∷ bs) b held last lesser others within read = absurd held.1
first_in least before from zero (h ∷ g ∷ hs) (x ∷ bs) b held last lesser others within read =
    let at : from ≤ h.bin = All-head (λ (h : Row). from ≤ h.bin) h (g ∷ hs) others in
    let end : bin_after 0 x.items ≡ h.bin + 1 = last.0 (omega arith) in
    first_reached from 0 0 x.items (parts bs) (omega arith) (omega arith) ∙ ap (λ (y : Block). first_from from (counts_from 0 y.items)) (sym read)
first_in least before from (suc p) (h ∷ hs) (x ∷ bs) b held last lesser others within read =
    let under : h.bin < from = All-head (λ (h : Row). h.bin < from) h (take p hs) lesser in
    first_over from (counts_from 0 x.items) (parts bs) (below_entries from h.bin 0 x.items held.0.within under)
    ∙ first_in (h.bin + 1) h.total from p hs bs b held.1 last.1 (All-tail (λ (h : Row). h.bin < from) h (take p hs) lesser) others (omega arith) read

-- where the first entry from a key on is at that key, it is the one that is found there
pub found_at : (k n : ℕ) (es : List (ℕ × ℕ)) → first_from k es ≡ Some (k, n) → find nat_cmp k es ≡ Some n
found_at k n [] is = cc
found_at k n (e ∷ es) is =
    elim (cases_lt e.0 k) [
      | inl under ↦ find_later k e.0 e.1 es under ∙ found_at k n es (sym (first_later k e es under) ∙ is)
      | inr over ↦
          let whole : Some e ≡ Some (k, n) = sym (first_here k e es over) ∙ is in
          let same : e ≡ (k, n) = cc in
          find_here k e.0 e.1 es (sym (ap (λ (x : ℕ × ℕ). x.0) same)) ∙ ap (λ (x : ℕ × ℕ). Some x.1) same
    ]
