-- Some records more in a bin, in rows that rise.
use Rattle.std.proofs.Common.{◌≡◌, ℕ, zero, suc, ◌+◌, ◌-◌, ◌<◌, ◌≤◌, true, false, cond, eqb, List, [], ◌∷◌, ◌++◌, length, get_or, take, drop, map, None, All, nat_cmp, refl, sym, ap, subst, inl, inr, ◌∙◌, arith}
use Rattle.std.specs.Option.{unwrap_or}
use Rattle.std.specs.FinMap.{find, put}
use Rattle.std.proofs.lemmas.Bool.{cases_order, eq-eqb, ne_eqb, lt-ltb, le-ltb}
use Rattle.std.proofs.lemmas.List.{length-take-le, length-map}
use Rattle.std.proofs.lemmas.List.Elements.{All-nil, All-cons, All-head, All-tail, All-append, All-take, All-drop, All-weaker}
use Rattle.time_table.specs.declared.row.Row.{Row}
use Rattle.time_table.specs.Totals.{Rise, counts_from, last_total, raised}
use Rattle.time_table.specs.Places.{with_first, with_row, added, count_at}
use Rattle.time_table.proofs.ItemChanges.{map_second}
use Rattle.time_table.proofs.Entries.{put_first, put_here, put_later, find_here, find_later, find_before}

-- rows raised by an amount count as before from a total that is larger by it
pub counts_from-raised : (n from before : ℕ) (rows : List Row) → from ≡ before + n → counts_from from (map (raised n) rows) ≡ counts_from before rows
counts_from-raised n from before [] is = refl
counts_from-raised n from before (r ∷ rs) is =
    let same : (r.total + n) - from ≡ r.total - before = omega arith in
    rw (same, counts_from-raised n (r.total + n) r.total rs refl)

pub last_total-raised : (n from before : ℕ) (rows : List Row) → from ≡ before + n → last_total from (map (raised n) rows) ≡ last_total before rows + n
last_total-raised n from before [] is = is
last_total-raised n from before (r ∷ rs) is = last_total-raised n (r.total + n) r.total rs refl

pub Rise-raised : (n least from before : ℕ) (rows : List Row) → from ≡ before + n → Rise least before rows → Rise least from (map (raised n) rows)
Rise-raised n least from before [] is rise = tt
Rise-raised n least from before (r ∷ rs) is rise =
    let more : before < r.total = rise.1 in
    (rise.0, omega arith, Rise-raised n (r.bin + 1) (r.total + n) r.total rs refl rise.2)

pub Rise-weaker : (least before before' : ℕ) (rows : List Row) → before' ≤ before → Rise least before rows → Rise least before' rows
Rise-weaker least before before' [] le rise = tt
Rise-weaker least before before' (r ∷ rs) le rise = let more : before < r.total = rise.1 in (rise.0, omega arith, rise.2)

pub All-raised : (n top : ℕ) (rows : List Row) → All (λ r. r.bin ≤ top) rows → All (λ r. r.bin ≤ top) (map (raised n) rows)
All-raised n top [] all = All-nil (λ r. r.bin ≤ top)
All-raised n top (r ∷ rs) all =
    All-cons (λ (r : Row). r.bin ≤ top) (raised n r) (map (raised n) rs) (All-head (λ (r : Row). r.bin ≤ top) r rs all) (All-raised n top rs (All-tail (λ (r : Row). r.bin ≤ top) r rs all))

pub find_none : (bin before : ℕ) (rows : List Row) → All (λ r. bin < r.bin) rows → find nat_cmp bin (counts_from before rows) ≡ None
find_none bin before [] all = refl
find_none bin before (r ∷ rs) all =
    find_before bin r.bin (r.total - before) (counts_from r.total rs) (All-head (λ (r : Row). bin < r.bin) r rs all)
    ∙ find_none bin r.total rs (All-tail (λ (r : Row). bin < r.bin) r rs all)

-- the bins of rows that rise from past a bin are past it
pub all_past : (least before bin : ℕ) (rows : List Row) → Rise least before rows → bin < least → All (λ r. bin < r.bin) rows
all_past least before bin [] rise less = All-nil (λ r. bin < r.bin)
all_past least before bin (r ∷ rs) rise less =
    let first : least ≤ r.bin = rise.0 in
    All-cons (λ r. bin < r.bin) r rs (omega arith) (all_past (r.bin + 1) r.total bin rs rise.2 (omega arith))

-- `added`, by how the bin stands to that of the first row
pub added_later : (before bin n : ℕ) (r : Row) (rs : List Row) → r.bin < bin → added before bin n (r ∷ rs) ≡ r ∷ added r.total bin n rs
added_later before bin n r rs less = rw (lt-ltb r.bin bin less)

pub added_here : (before bin n : ℕ) (r : Row) (rs : List Row) → bin ≡ r.bin → added before bin n (r ∷ rs) ≡ map (raised n) (r ∷ rs)
added_here before bin n r rs same = rw (le-ltb r.bin bin (omega arith), eq-eqb r.bin bin (sym same))

pub added_new : (before bin n : ℕ) (r : Row) (rs : List Row) → bin < r.bin → added before bin n (r ∷ rs) ≡ record { bin = bin; total = before + n } ∷ map (raised n) (r ∷ rs)
added_new before bin n r rs less = rw (le-ltb r.bin bin (omega arith), ne_eqb r.bin bin (omega arith))

one_of : (before n : ℕ) → (before + n) - before ≡ n
one_of before n = omega arith

-- n records more are n more in the entries
pub counts_from-added : (least before bin n : ℕ) (rows : List Row) → Rise least before rows → counts_from before (added before bin n rows) ≡ put nat_cmp bin (count_at bin (counts_from before rows) + n) (counts_from before rows)
counts_from-added least before bin n [] rise =
    let same : (before + n) - before ≡ 0 + n = omega arith in
    ap (λ k. (bin, k) ∷ []) same
counts_from-added least before bin n (r ∷ rs) rise =
    let es : List (ℕ × ℕ) = counts_from before (r ∷ rs) in
    let more : before < r.total = rise.1 in
    elim (cases_order bin r.bin) [
      | inl same ↦
          let count : count_at bin (counts_from before (r ∷ rs)) ≡ r.total - before = ap (λ o. unwrap_or o 0) (find_here bin r.bin (r.total - before) (counts_from r.total rs) same) in
          let right : put nat_cmp bin (count_at bin (counts_from before (r ∷ rs)) + n) (counts_from before (r ∷ rs)) ≡ (r.bin, count_at bin (counts_from before (r ∷ rs)) + n) ∷ counts_from r.total rs = put_here bin r.bin _ (r.total - before) (counts_from r.total rs) same in
          let up : (r.total + n) - before ≡ count_at bin (counts_from before (r ∷ rs)) + n = omega arith in
          ap (counts_from before) (added_here before bin n r rs same)
          ∙ ap (λ k. (r.bin, k) ∷ counts_from (r.total + n) (map (raised n) rs)) up
          ∙ ap (λ zs. (r.bin, count_at bin (counts_from before (r ∷ rs)) + n) ∷ zs) (counts_from-raised n (r.total + n) r.total rs refl)
          ∙ sym right
      | inr (inl less) ↦
          let past : All (λ r. bin < r.bin) (r ∷ rs) = All-cons (λ r. bin < r.bin) r rs less (all_past (r.bin + 1) r.total bin rs rise.2 (omega arith)) in
          let count : count_at bin (counts_from before (r ∷ rs)) ≡ 0 = ap (λ o. unwrap_or o 0) (find_none bin before (r ∷ rs) past) in
          let right : put nat_cmp bin (count_at bin (counts_from before (r ∷ rs)) + n) (counts_from before (r ∷ rs)) ≡ (bin, count_at bin (counts_from before (r ∷ rs)) + n) ∷ counts_from before (r ∷ rs) = put_first bin r.bin _ (r.total - before) (counts_from r.total rs) less in
          let up : (before + n) - before ≡ count_at bin (counts_from before (r ∷ rs)) + n = omega arith in
          ap (counts_from before) (added_new before bin n r rs less)
          ∙ ap (λ k. (bin, k) ∷ counts_from (before + n) (map (raised n) (r ∷ rs))) up
          ∙ ap (λ zs. (bin, count_at bin (counts_from before (r ∷ rs)) + n) ∷ zs) (counts_from-raised n (before + n) before (r ∷ rs) refl)
          ∙ sym right
      | inr (inr later) ↦
          let rest = counts_from-added (r.bin + 1) r.total bin n rs rise.2 in
          let count : count_at bin (counts_from before (r ∷ rs)) ≡ count_at bin (counts_from r.total rs) = ap (λ o. unwrap_or o 0) (find_later bin r.bin (r.total - before) (counts_from r.total rs) later) in
          ap (counts_from before) (added_later before bin n r rs later)
          ∙ ap (λ es. (r.bin, r.total - before) ∷ es) rest
          ∙ sym (put_later bin r.bin (count_at bin (counts_from r.total rs) + n) (r.total - before) (counts_from r.total rs) later)
          ∙ ap (λ k. put nat_cmp bin (k + n) (counts_from before (r ∷ rs))) (sym count)
    ]

pub Rise-added : (least before bin n : ℕ) (rows : List Row) → Rise least before rows → 0 < n → least ≤ bin → Rise least before (added before bin n rows)
Rise-added least before bin n [] rise some le = (le, omega arith, tt)
Rise-added least before bin n (r ∷ rs) rise some le =
    let more : before < r.total = rise.1 in
    elim (cases_order bin r.bin) [
      | inl same ↦ subst (Rise least before) (sym (added_here before bin n r rs same)) (rise.0, omega arith, Rise-raised n (r.bin + 1) (r.total + n) r.total rs refl rise.2)
      | inr (inl less) ↦ subst (Rise least before) (sym (added_new before bin n r rs less)) (le, omega arith, (omega arith, omega arith, Rise-raised n (r.bin + 1) (r.total + n) r.total rs refl rise.2))
      | inr (inr later) ↦ subst (Rise least before) (sym (added_later before bin n r rs later)) (rise.0, rise.1, Rise-added (r.bin + 1) r.total bin n rs rise.2 some (omega arith))
    ]

pub All-added : (before bin n top : ℕ) (rows : List Row) → All (λ r. r.bin ≤ top) rows → bin ≤ top → All (λ r. r.bin ≤ top) (added before bin n rows)
All-added before bin n top [] all le = All-cons (λ (r : Row). r.bin ≤ top) (record { bin = bin; total = before + n }) [] le (All-nil (λ (r : Row). r.bin ≤ top))
All-added before bin n top (r ∷ rs) all le =
    elim (cases_order bin r.bin) [
      | inl same ↦ subst (All (λ (r : Row). r.bin ≤ top)) (sym (added_here before bin n r rs same)) (All-raised n top (r ∷ rs) all)
      | inr (inl less) ↦ subst (All (λ (r : Row). r.bin ≤ top)) (sym (added_new before bin n r rs less)) (All-cons (λ (r : Row). r.bin ≤ top) (record { bin = bin; total = before + n }) (map (raised n) (r ∷ rs)) le (All-raised n top (r ∷ rs) all))
      | inr (inr later) ↦ subst (All (λ (r : Row). r.bin ≤ top)) (sym (added_later before bin n r rs later)) (All-cons (λ (r : Row). r.bin ≤ top) r (added r.total bin n rs) (All-head (λ (r : Row). r.bin ≤ top) r rs all) (All-added r.total bin n top rs (All-tail (λ (r : Row). r.bin ≤ top) r rs all) le))
    ]

pub last_total-added : (before bin n : ℕ) (rows : List Row) → last_total before (added before bin n rows) ≡ last_total before rows + n
last_total-added before bin n [] = refl
last_total-added before bin n (r ∷ rs) =
    elim (cases_order bin r.bin) [
      | inl same ↦ ap (last_total before) (added_here before bin n r rs same) ∙ last_total-raised n (r.total + n) r.total rs refl
      | inr (inl less) ↦ ap (last_total before) (added_new before bin n r rs less) ∙ last_total-raised n (r.total + n) r.total rs refl
      | inr (inr later) ↦ ap (last_total before) (added_later before bin n r rs later) ∙ last_total-added r.total bin n rs
    ]

-- a row more, or none
pub record IsLonger (xs ys : ℕ) : Type 0 where
  pub least : xs ≤ ys
  pub most : ys ≤ xs + 1

pub length-added : (before bin n : ℕ) (rows : List Row) → IsLonger (length rows) (length (added before bin n rows))
length-added before bin n [] = record { least = omega arith; most = omega arith }
length-added before bin n (r ∷ rs) =
    let same_length : length (map (raised n) (r ∷ rs)) ≡ length (r ∷ rs) = length-map (r ∷ rs) (raised n) in
    elim (cases_order bin r.bin) [
      | inl same ↦ subst (λ zs. IsLonger (length (r ∷ rs)) (length zs)) (sym (added_here before bin n r rs same)) (record { least = omega arith; most = omega arith })
      | inr (inl less) ↦ subst (λ zs. IsLonger (length (r ∷ rs)) (length zs)) (sym (added_new before bin n r rs less)) (record { least = omega arith; most = omega arith })
      | inr (inr later) ↦
          let rest = length-added r.total bin n rs in
          subst (λ zs. IsLonger (length (r ∷ rs)) (length zs)) (sym (added_later before bin n r rs later)) (record { least = omega (arith, rest.least); most = omega (arith, rest.most) })
    ]

-- with a row of the bin there is none more
pub length-added_there : (before bin n i : ℕ) (rows : List Row) (row : Row) → All (λ r. r.bin < bin) (take i rows) → i < length rows → row ≡ get_or rows i row → row.bin ≡ bin → length (added before bin n rows) ≡ length rows
length-added_there before bin n i [] row lesser within read there = absurd (omega arith)
length-added_there before bin n zero (r ∷ rs) row lesser within read there =
    let same : r.bin ≡ row.bin = ap (λ (x : Row). x.bin) (sym read) in
    elim (cases_order bin r.bin) [
      | inl equal ↦ ap length (added_here before bin n r rs equal) ∙ length-map (r ∷ rs) (raised n)
      | inr (inl less) ↦ absurd (omega arith)
      | inr (inr later) ↦ absurd (omega arith)
    ]
length-added_there before bin n (suc i) (r ∷ rs) row lesser within read there =
    let less' : r.bin < bin = All-head (λ (r : Row). r.bin < bin) r (take i rs) lesser in
    elim (cases_order bin r.bin) [
      | inl equal ↦ absurd (omega arith)
      | inr (inl less) ↦ absurd (omega arith)
      | inr (inr later) ↦ ap length (added_later before bin n r rs later) ∙ ap suc (length-added_there r.total bin n i rs row (All-tail (λ (r : Row). r.bin < bin) r (take i rs) lesser) (omega arith) read there)
    ]

-- the rows raised at a place, from the bin's place on
pub added_at : (before bin n i : ℕ) (rows : List Row) → All (λ r. r.bin < bin) (take i rows) → All (λ r. bin ≤ r.bin) (drop i rows) → take i rows ++ map (raised n) (with_first (last_total before (take i rows)) bin (drop i rows)) ≡ added before bin n rows
added_at before bin n zero [] lesser others = refl
added_at before bin n zero (r ∷ rs) lesser others = rw (le-ltb r.bin bin (All-head (λ (r : Row). bin ≤ r.bin) r rs others))
added_at before bin n (suc i) [] lesser others = refl
added_at before bin n (suc i) (r ∷ rs) lesser others =
    rw (lt-ltb r.bin bin (All-head (λ (r : Row). r.bin < bin) r (take i rs) lesser))
    (ap (λ zs. r ∷ zs) (added_at r.total bin n i rs (All-tail (λ (r : Row). r.bin < bin) r (take i rs) lesser) others))

pub last_total-le : (least before : ℕ) (rows : List Row) → Rise least before rows → before ≤ last_total before rows
last_total-le least before [] rise = omega arith
last_total-le least before (r ∷ rs) rise =
    let more : before < r.total = rise.1 in
    omega (arith, last_total-le (r.bin + 1) r.total rs rise.2)

pub totals_within : (least before : ℕ) (rows : List Row) → Rise least before rows → All (λ r. r.total ≤ last_total before rows) rows
totals_within least before [] rise = All-nil (λ (r : Row). r.total ≤ before)
totals_within least before (r ∷ rs) rise =
    All-cons (λ (x : Row). x.total ≤ last_total r.total rs) r rs (last_total-le (r.bin + 1) r.total rs rise.2) (totals_within (r.bin + 1) r.total rs rise.2)

pub last_total-take-le : (least before i : ℕ) (rows : List Row) → Rise least before rows → last_total before (take i rows) ≤ last_total before rows
last_total-take-le least before zero rows rise = last_total-le least before rows rise
last_total-take-le least before (suc i) [] rise = omega arith
last_total-take-le least before (suc i) (r ∷ rs) rise = last_total-take-le (r.bin + 1) r.total i rs rise.2

fits_with_first : (m below bin n : ℕ) (rows : List Row) → below + n < m → All (λ r. r.total + n < m) rows → All (λ r. r.total + n < m) (with_first below bin rows)
fits_with_first m below bin n [] fits all = All-cons (λ (r : Row). r.total + n < m) (record { bin = bin; total = below }) [] fits all
fits_with_first m below bin n (r ∷ rs) fits all =
    let new : All (λ r. r.total + n < m) (record { bin = bin; total = below } ∷ r ∷ rs) = All-cons (λ (r : Row). r.total + n < m) (record { bin = bin; total = below }) (r ∷ rs) fits all in
    elim (eqb r.bin bin) as (λ b. All (λ r. r.total + n < m) (cond b (r ∷ rs) (record { bin = bin; total = below } ∷ r ∷ rs))) [ true ↦ all | false ↦ new ]

pub fits_all : (m n : ℕ) (rows : List Row) → Rise 0 0 rows → last_total 0 rows + n < m → All (λ r. r.total + n < m) rows
fits_all m n rows rise fits = All-weaker (λ r. r.total ≤ last_total 0 rows) (λ r. r.total + n < m) (λ (r : Row) (le : r.total ≤ last_total 0 rows). omega arith) rows (totals_within 0 0 rows rise)

-- each total of the rows with a row at a place has room for the amount
pub fits_with_row : (m bin n i below : ℕ) (rows : List Row) → Rise 0 0 rows → last_total 0 rows + n < m → below ≡ last_total 0 (take i rows) → All (λ r. r.total + n < m) (with_row i below bin rows)
fits_with_row m bin n i below rows rise fits is =
    let all : All (λ r. r.total + n < m) rows = fits_all m n rows rise fits in
    let room : below + n < m = omega (arith, last_total-take-le 0 0 i rows rise) in
    All-append (λ r. r.total + n < m) (take i rows) (with_first below bin (drop i rows))
    (All-take (λ r. r.total + n < m) i rows all)
    (fits_with_first m below bin n (drop i rows) room (All-drop (λ r. r.total + n < m) i rows all))

-- the rows with a row at a place, raised from there on
pub added_by : (bin n i below : ℕ) (rows made new : List Row) → i ≤ length rows → All (λ r. r.bin < bin) (take i rows) → All (λ r. bin ≤ r.bin) (drop i rows) → below ≡ last_total 0 (take i rows) → made ≡ with_row i below bin rows → new ≡ take i made ++ map (raised n) (drop i made) → new ≡ added 0 bin n rows
added_by bin n i below rows made new within lesser others is row up =
    map_second (raised n) (take i rows) (with_first below bin (drop i rows)) made new i (length-take-le i rows within) row up
    ∙ ap (λ k. take i rows ++ map (raised n) (with_first k bin (drop i rows))) is
    ∙ added_at 0 bin n i rows lesser others
