-- Some records less in a bin, in rows that rise.
use Rattle.std.proofs.Common.{◌≡◌, ℕ, zero, suc, ◌+◌, ◌-◌, ◌<◌, ◌≤◌, ◌⊎◌, true, false, cond, eqb, List, [], ◌∷◌, ◌++◌, length, take, drop, map, All, nat_cmp, refl, sym, ap, subst, inl, inr, ◌∙◌, arith}
use Rattle.std.specs.Option.{unwrap_or}
use Rattle.std.specs.FinMap.{put}
use Rattle.std.proofs.lemmas.Bool.{cases_order, cases_eq, eq-eqb, ne_eqb, lt-ltb, le-ltb}
use Rattle.std.proofs.lemmas.List.{length-take-le, length-map, drop_at}
use Rattle.std.proofs.lemmas.List.Elements.{All-nil, All-cons, All-head, All-tail, All-weaker}
use Rattle.time_table.specs.declared.row.Row.{Row}
use Rattle.time_table.specs.Totals.{Rise, counts_from, last_total, lowered}
use Rattle.time_table.specs.Places.{without_first, without_spent, taken, count_at, del, less}
use Rattle.time_table.proofs.ItemChanges.{map_second}
use Rattle.time_table.proofs.Entries.{put_here}
use Rattle.time_table.proofs.MoreRecords.{find_none, all_past, IsLonger}
use Rattle.time_table.proofs.TwoRowLists.{Rise-least}
use Rattle.time_table.proofs.EntryChanges.{less_later, count_later, count_here, del_here, del_past}

-- rows lowered by an amount count as before from a total that is less by it
counts_from-lowered : (n least from before : ℕ) (rows : List Row) → Rise least from rows → from ≡ before + n → counts_from before (map (lowered n) rows) ≡ counts_from from rows
counts_from-lowered n least from before [] rise is = refl
counts_from-lowered n least from before (r ∷ rs) rise is =
    let up : from < r.total = rise.1 in
    let same : (r.total - n) - before ≡ r.total - from = omega arith in
    let rest : counts_from (r.total - n) (map (lowered n) rs) ≡ counts_from r.total rs = counts_from-lowered n (r.bin + 1) r.total (r.total - n) rs rise.2 (omega arith) in
    rw (same, rest)

pub Rise-lowered : (n least from before : ℕ) (rows : List Row) → Rise least from rows → from ≡ before + n → Rise least before (map (lowered n) rows)
Rise-lowered n least from before [] rise is = tt
Rise-lowered n least from before (r ∷ rs) rise is =
    let up : from < r.total = rise.1 in
    (rise.0, omega arith, Rise-lowered n (r.bin + 1) r.total (r.total - n) rs rise.2 (omega arith))

pub last_total-lowered : (n least from before : ℕ) (rows : List Row) → Rise least from rows → from ≡ before + n → last_total before (map (lowered n) rows) + n ≡ last_total from rows
last_total-lowered n least from before [] rise is = sym is
last_total-lowered n least from before (r ∷ rs) rise is =
    let up : from < r.total = rise.1 in
    last_total-lowered n (r.bin + 1) r.total (r.total - n) rs rise.2 (omega arith)

All-lowered : (n top : ℕ) (rows : List Row) → All (λ r. r.bin ≤ top) rows → All (λ r. r.bin ≤ top) (map (lowered n) rows)
All-lowered n top [] all = All-nil (λ r. r.bin ≤ top)
All-lowered n top (r ∷ rs) all =
    All-cons (λ (r : Row). r.bin ≤ top) (lowered n r) (map (lowered n) rs) (All-head (λ (r : Row). r.bin ≤ top) r rs all) (All-lowered n top rs (All-tail (λ (r : Row). r.bin ≤ top) r rs all))

-- `taken`, by how the bin stands to that of the first row
record Later (bin n : ℕ) (r : Row) (rs : List Row) : Type 0 where
  under : r.bin < bin
  there : n ≤ count_at bin (counts_from r.total rs)

record Spent (before bin n : ℕ) (r : Row) : Type 0 where
  same : bin ≡ r.bin
  all : r.total ≡ before + n

record Left (before bin n : ℕ) (r : Row) : Type 0 where
  same : bin ≡ r.bin
  some : before + n < r.total

stands : (least before bin n : ℕ) (r : Row) (rs : List Row) → Rise least before (r ∷ rs) → 0 < n → n ≤ count_at bin (counts_from before (r ∷ rs)) → Later bin n r rs ⊎ (Spent before bin n r ⊎ Left before bin n r)
stands least before bin n r rs rise some there =
    let up : before < r.total = rise.1 in
    elim (cases_order bin r.bin) [
      | inl same ↦
          let count : count_at bin (counts_from before (r ∷ rs)) ≡ r.total - before = count_here bin r.bin (r.total - before) (counts_from r.total rs) same in
          elim (cases_eq r.total (before + n)) [
            | inl all ↦ inr (inl (record { same = same; all = all }))
            | inr left ↦ inr (inr (record { same = same; some = omega arith }))
          ]
      | inr (inl under) ↦
          let past : All (λ r. bin < r.bin) (r ∷ rs) = All-cons (λ r. bin < r.bin) r rs under (all_past (r.bin + 1) r.total bin rs rise.2 (omega arith)) in
          let none : count_at bin (counts_from before (r ∷ rs)) ≡ 0 = ap (λ o. unwrap_or o 0) (find_none bin before (r ∷ rs) past) in
          absurd (omega arith)
      | inr (inr over) ↦
          let count : count_at bin (counts_from before (r ∷ rs)) ≡ count_at bin (counts_from r.total rs) = count_later bin r.bin (r.total - before) (counts_from r.total rs) over in
          inl (record { under = over; there = omega arith })
    ]

nothing : (bin n : ℕ) {P : Type 0} → 0 < n → n ≤ count_at bin [] → P
nothing bin n some there = absurd (omega arith)

taken_later : (before bin n : ℕ) (r : Row) (rs : List Row) → Later bin n r rs → taken before bin n (r ∷ rs) ≡ r ∷ taken r.total bin n rs
taken_later before bin n r rs is = rw (lt-ltb r.bin bin is.under)

taken_spent : (before bin n : ℕ) (r : Row) (rs : List Row) → Spent before bin n r → taken before bin n (r ∷ rs) ≡ map (lowered n) rs
taken_spent before bin n r rs is =
    let same : bin ≡ r.bin = is.same in
    let all : r.total - before ≡ n = omega (arith, is.all) in
    rw (le-ltb r.bin bin (omega arith), eq-eqb (r.total - before) n all)

taken_left : (before bin n : ℕ) (r : Row) (rs : List Row) → Left before bin n r → taken before bin n (r ∷ rs) ≡ map (lowered n) (r ∷ rs)
taken_left before bin n r rs is =
    let same : bin ≡ r.bin = is.same in
    let some : before + n < r.total = is.some in
    rw (le-ltb r.bin bin (omega arith), ne_eqb (r.total - before) n (λ e. omega arith))

-- the entries of rows past a bin are past it
pub past_entries : (bin before : ℕ) (rows : List Row) → All (λ r. bin < r.bin) rows → All (λ (e : ℕ × ℕ). bin < e.0) (counts_from before rows)
past_entries bin before [] all = All-nil (λ (e : ℕ × ℕ). bin < e.0)
past_entries bin before (r ∷ rs) all =
    All-cons (λ (e : ℕ × ℕ). bin < e.0) (r.bin, r.total - before) (counts_from r.total rs) (All-head (λ (r : Row). bin < r.bin) r rs all) (past_entries bin r.total rs (All-tail (λ (r : Row). bin < r.bin) r rs all))

-- n records less are n less in the entries
pub counts_from-taken : (least before bin n : ℕ) (rows : List Row) → Rise least before rows → 0 < n → n ≤ count_at bin (counts_from before rows) → counts_from before (taken before bin n rows) ≡ less bin n (counts_from before rows)
counts_from-taken least before bin n [] rise some there = nothing bin n some there
counts_from-taken least before bin n (r ∷ rs) rise some there =
    let up : before < r.total = rise.1 in
    elim (stands least before bin n r rs rise some there) [
      | inl is ↦
          ap (counts_from before) (taken_later before bin n r rs is)
          ∙ ap (λ zs. (r.bin, r.total - before) ∷ zs) (counts_from-taken (r.bin + 1) r.total bin n rs rise.2 some is.there)
          ∙ sym (less_later bin n r.bin (r.total - before) (counts_from r.total rs) is.under)
      | inr (inl is) ↦
          let count : count_at bin (counts_from before (r ∷ rs)) ≡ n = count_here bin r.bin (r.total - before) (counts_from r.total rs) is.same ∙ omega (arith, is.all) in
          let past : All (λ r. bin < r.bin) rs = all_past (r.bin + 1) r.total bin rs rise.2 (omega (arith, is.same)) in
          ap (counts_from before) (taken_spent before bin n r rs is)
          ∙ counts_from-lowered n (r.bin + 1) r.total before rs rise.2 is.all
          ∙ sym (del_past bin (counts_from r.total rs) (past_entries bin r.total rs past))
          ∙ sym (del_here bin r.bin (r.total - before) (counts_from r.total rs) (sym is.same))
          ∙ ap (λ b. cond b (del bin (counts_from before (r ∷ rs))) (put nat_cmp bin (count_at bin (counts_from before (r ∷ rs)) - n) (counts_from before (r ∷ rs)))) (sym (eq-eqb _ n count))
      | inr (inr is) ↦
          let some' : before + n < r.total = is.some in
          let count : count_at bin (counts_from before (r ∷ rs)) ≡ r.total - before = count_here bin r.bin (r.total - before) (counts_from r.total rs) is.same in
          let down : (r.total - n) - before ≡ count_at bin (counts_from before (r ∷ rs)) - n = omega arith in
          ap (counts_from before) (taken_left before bin n r rs is)
          ∙ ap (λ zs. (r.bin, (r.total - n) - before) ∷ zs) (counts_from-lowered n (r.bin + 1) r.total (r.total - n) rs rise.2 (omega arith))
          ∙ ap (λ k. (r.bin, k) ∷ counts_from r.total rs) down
          ∙ sym (put_here bin r.bin (count_at bin (counts_from before (r ∷ rs)) - n) (r.total - before) (counts_from r.total rs) is.same)
          ∙ ap (λ b. cond b (del bin (counts_from before (r ∷ rs))) (put nat_cmp bin (count_at bin (counts_from before (r ∷ rs)) - n) (counts_from before (r ∷ rs)))) (sym (ne_eqb (count_at bin (counts_from before (r ∷ rs))) n (λ e. omega arith)))
    ]

pub Rise-taken : (least before bin n : ℕ) (rows : List Row) → Rise least before rows → 0 < n → n ≤ count_at bin (counts_from before rows) → Rise least before (taken before bin n rows)
Rise-taken least before bin n [] rise some there = tt
Rise-taken least before bin n (r ∷ rs) rise some there =
    let first : least ≤ r.bin = rise.0 in
    elim (stands least before bin n r rs rise some there) [
      | inl is ↦ subst (Rise least before) (sym (taken_later before bin n r rs is)) (rise.0, rise.1, Rise-taken (r.bin + 1) r.total bin n rs rise.2 some is.there)
      | inr (inl is) ↦ subst (Rise least before) (sym (taken_spent before bin n r rs is)) (Rise-least (r.bin + 1) least before (map (lowered n) rs) (omega arith) (Rise-lowered n (r.bin + 1) r.total before rs rise.2 is.all))
      | inr (inr is) ↦
          let some' : before + n < r.total = is.some in
          subst (Rise least before) (sym (taken_left before bin n r rs is)) (first, omega arith, Rise-lowered n (r.bin + 1) r.total (r.total - n) rs rise.2 (omega arith))
    ]

pub All-taken : (least before bin n top : ℕ) (rows : List Row) → Rise least before rows → 0 < n → n ≤ count_at bin (counts_from before rows) → All (λ r. r.bin ≤ top) rows → All (λ r. r.bin ≤ top) (taken before bin n rows)
All-taken least before bin n top [] rise some there all = All-nil (λ (r : Row). r.bin ≤ top)
All-taken least before bin n top (r ∷ rs) rise some there all =
    let tail : All (λ r. r.bin ≤ top) rs = All-tail (λ (r : Row). r.bin ≤ top) r rs all in
    elim (stands least before bin n r rs rise some there) [
      | inl is ↦ subst (All (λ (r : Row). r.bin ≤ top)) (sym (taken_later before bin n r rs is)) (All-cons (λ (r : Row). r.bin ≤ top) r (taken r.total bin n rs) (All-head (λ (r : Row). r.bin ≤ top) r rs all) (All-taken (r.bin + 1) r.total bin n top rs rise.2 some is.there tail))
      | inr (inl is) ↦ subst (All (λ (r : Row). r.bin ≤ top)) (sym (taken_spent before bin n r rs is)) (All-lowered n top rs tail)
      | inr (inr is) ↦ subst (All (λ (r : Row). r.bin ≤ top)) (sym (taken_left before bin n r rs is)) (All-lowered n top (r ∷ rs) all)
    ]

pub last_total-taken : (least before bin n : ℕ) (rows : List Row) → Rise least before rows → 0 < n → n ≤ count_at bin (counts_from before rows) → last_total before (taken before bin n rows) + n ≡ last_total before rows
last_total-taken least before bin n [] rise some there = nothing bin n some there
last_total-taken least before bin n (r ∷ rs) rise some there =
    elim (stands least before bin n r rs rise some there) [
      | inl is ↦ ap (λ zs. last_total before zs + n) (taken_later before bin n r rs is) ∙ last_total-taken (r.bin + 1) r.total bin n rs rise.2 some is.there
      | inr (inl is) ↦ ap (λ zs. last_total before zs + n) (taken_spent before bin n r rs is) ∙ last_total-lowered n (r.bin + 1) r.total before rs rise.2 is.all
      | inr (inr is) ↦
          let some' : before + n < r.total = is.some in
          ap (λ zs. last_total before zs + n) (taken_left before bin n r rs is) ∙ last_total-lowered n (r.bin + 1) r.total (r.total - n) rs rise.2 (omega arith)
    ]

pub length-taken : (least before bin n : ℕ) (rows : List Row) → Rise least before rows → 0 < n → n ≤ count_at bin (counts_from before rows) → IsLonger (length (taken before bin n rows)) (length rows)
length-taken least before bin n [] rise some there = nothing bin n some there
length-taken least before bin n (r ∷ rs) rise some there =
    let same_length : length (map (lowered n) rs) ≡ length rs = length-map rs (lowered n) in
    elim (stands least before bin n r rs rise some there) [
      | inl is ↦
          let rest = length-taken (r.bin + 1) r.total bin n rs rise.2 some is.there in
          subst (λ zs. IsLonger (length zs) (length (r ∷ rs))) (sym (taken_later before bin n r rs is)) (record { least = omega (arith, rest.least); most = omega (arith, rest.most) })
      | inr (inl is) ↦ subst (λ zs. IsLonger (length zs) (length (r ∷ rs))) (sym (taken_spent before bin n r rs is)) (record { least = omega arith; most = omega arith })
      | inr (inr is) ↦ subst (λ zs. IsLonger (length zs) (length (r ∷ rs))) (sym (taken_left before bin n r rs is)) (record { least = omega arith; most = omega arith })
    ]

-- a place where the bin is there is one of a row
pub place_within : (least before bin n i : ℕ) (rows : List Row) → All (λ r. r.bin < bin) (take i rows) → 0 < n → n ≤ count_at bin (counts_from before rows) → i ≤ length rows → i < length rows
place_within least before bin n zero [] lesser some there le = nothing bin n some there
place_within least before bin n zero (r ∷ rs) lesser some there le = omega arith
place_within least before bin n (suc i) [] lesser some there le = absurd (omega arith)
place_within least before bin n (suc i) (r ∷ rs) lesser some there le =
    let under : r.bin < bin = All-head (λ (r : Row). r.bin < bin) r (take i rs) lesser in
    let count : count_at bin (counts_from before (r ∷ rs)) ≡ count_at bin (counts_from r.total rs) = count_later bin r.bin (r.total - before) (counts_from r.total rs) under in
    let rest : i < length rs = place_within least r.total bin n i rs (All-tail (λ (r : Row). r.bin < bin) r (take i rs) lesser) some (omega arith) (omega arith) in
    omega arith

all_above : (least before : ℕ) (rows : List Row) → Rise least before rows → All (λ r. before < r.total) rows
all_above least before [] rise = All-nil (λ (r : Row). before < r.total)
all_above least before (r ∷ rs) rise =
    let up : before < r.total = rise.1 in
    let rest = All-weaker (λ (x : Row). r.total < x.total) (λ (x : Row). before < x.total) (λ (x : Row) (above : r.total < x.total). omega arith) rs (all_above (r.bin + 1) r.total rs rise.2) in
    All-cons (λ (x : Row). before < x.total) r rs up rest

-- the totals from a place on are above the total before it
pub all_above_from : (least before i : ℕ) (rows : List Row) → Rise least before rows → All (λ r. last_total before (take i rows) < r.total) (drop i rows)
all_above_from least before zero rows rise = all_above least before rows rise
all_above_from least before (suc i) [] rise = All-nil (λ (r : Row). before < r.total)
all_above_from least before (suc i) (r ∷ rs) rise = all_above_from (r.bin + 1) r.total i rs rise.2

-- the totals from the bin's place on are at least the amount past the total before it
enough : (least before bin n i : ℕ) (rows : List Row) → Rise least before rows → All (λ r. r.bin < bin) (take i rows) → All (λ r. bin ≤ r.bin) (drop i rows) → 0 < n → n ≤ count_at bin (counts_from before rows) → All (λ r. last_total before (take i rows) + n ≤ r.total) (drop i rows)
enough least before bin n zero [] rise lesser others some there = All-nil (λ (r : Row). before + n ≤ r.total)
enough least before bin n zero (r ∷ rs) rise lesser others some there =
    let up : before < r.total = rise.1 in
    let from : bin ≤ r.bin = All-head (λ (r : Row). bin ≤ r.bin) r rs others in
    let first : before + n ≤ r.total = elim (stands least before bin n r rs rise some there) [
      | inl is ↦ let under : r.bin < bin = is.under in absurd (omega arith)
      | inr (inl is) ↦ let all : r.total ≡ before + n = is.all in omega arith
      | inr (inr is) ↦ let some' : before + n < r.total = is.some in omega arith
    ] in
    All-cons (λ (x : Row). before + n ≤ x.total) r rs first
    (All-weaker (λ (x : Row). r.total < x.total) (λ (x : Row). before + n ≤ x.total) (λ (x : Row) (above : r.total < x.total). omega arith) rs (all_above (r.bin + 1) r.total rs rise.2))
enough least before bin n (suc i) [] rise lesser others some there = All-nil (λ (r : Row). before + n ≤ r.total)
enough least before bin n (suc i) (r ∷ rs) rise lesser others some there =
    let under : r.bin < bin = All-head (λ (r : Row). r.bin < bin) r (take i rs) lesser in
    let count : count_at bin (counts_from before (r ∷ rs)) ≡ count_at bin (counts_from r.total rs) = count_later bin r.bin (r.total - before) (counts_from r.total rs) under in
    enough (r.bin + 1) r.total bin n i rs rise.2 (All-tail (λ (r : Row). r.bin < bin) r (take i rs) lesser) others some (omega arith)

all_without_first : (below n : ℕ) (rows : List Row) → All (λ r. below + n ≤ r.total) rows → All (λ r. n ≤ r.total) (without_first below n rows)
all_without_first below n [] all = All-nil (λ (r : Row). n ≤ r.total)
all_without_first below n (r ∷ rs) all =
    let some : All (λ r. n ≤ r.total) (r ∷ rs) = All-weaker (λ (x : Row). below + n ≤ x.total) (λ (x : Row). n ≤ x.total) (λ (x : Row) (above : below + n ≤ x.total). omega arith) (r ∷ rs) all in
    elim (eqb (r.total - below) n) as (λ b. All (λ r. n ≤ r.total) (cond b rs (r ∷ rs))) [ true ↦ All-tail (λ (r : Row). n ≤ r.total) r rs some | false ↦ some ]

-- after a spent row is gone the amount is still in each total from the place on
pub some_from_place : (bin n i below : ℕ) (rows : List Row) → Rise 0 0 rows → i ≤ length rows → All (λ r. r.bin < bin) (take i rows) → All (λ r. bin ≤ r.bin) (drop i rows) → 0 < n → n ≤ count_at bin (counts_from 0 rows) → below ≡ last_total 0 (take i rows) → All (λ r. n ≤ r.total) (drop i (without_spent i below n rows))
some_from_place bin n i below rows rise le lesser others some there is =
    let above : All (λ r. below + n ≤ r.total) (drop i rows) = subst (λ (k : ℕ). All (λ (r : Row). k + n ≤ r.total) (drop i rows)) (sym is) (enough 0 0 bin n i rows rise lesser others some there) in
    subst (λ (zs : List Row). All (λ (r : Row). n ≤ r.total) zs) (sym (drop_at (take i rows) (without_first below n (drop i rows)) i (length-take-le i rows le))) (all_without_first below n (drop i rows) above)

taken_at : (before bin n i : ℕ) (rows : List Row) → All (λ r. r.bin < bin) (take i rows) → All (λ r. bin ≤ r.bin) (drop i rows) → take i rows ++ map (lowered n) (without_first (last_total before (take i rows)) n (drop i rows)) ≡ taken before bin n rows
taken_at before bin n zero [] lesser others = refl
taken_at before bin n zero (r ∷ rs) lesser others = rw (le-ltb r.bin bin (All-head (λ (r : Row). bin ≤ r.bin) r rs others))
taken_at before bin n (suc i) [] lesser others = refl
taken_at before bin n (suc i) (r ∷ rs) lesser others =
    rw (lt-ltb r.bin bin (All-head (λ (r : Row). r.bin < bin) r (take i rs) lesser))
    (ap (λ zs. r ∷ zs) (taken_at r.total bin n i rs (All-tail (λ (r : Row). r.bin < bin) r (take i rs) lesser) others))

-- the rows without a spent row at a place, lowered from there on
pub taken_by : (bin n i below : ℕ) (rows left new : List Row) → i ≤ length rows → All (λ r. r.bin < bin) (take i rows) → All (λ r. bin ≤ r.bin) (drop i rows) → below ≡ last_total 0 (take i rows) → left ≡ without_spent i below n rows → new ≡ take i left ++ map (lowered n) (drop i left) → new ≡ taken 0 bin n rows
taken_by bin n i below rows left new within lesser others is spent down =
    map_second (lowered n) (take i rows) (without_first below n (drop i rows)) left new i (length-take-le i rows within) spent down
    ∙ ap (λ k. take i rows ++ map (lowered n) (without_first k n (drop i rows))) is
    ∙ taken_at 0 bin n i rows lesser others
