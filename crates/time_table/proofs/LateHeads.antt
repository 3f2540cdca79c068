-- Heads that are raised late, as readers see them.
use Rattle.std.proofs.Common.{◌≡◌, ℕ, zero, suc, ◌+◌, ◌-◌, ◌<◌, ◌≤◌, ◌^◌, List, [], ◌∷◌, ◌++◌, length, get_or, set, take, drop, map, All, refl, sym, ap, subst, ◌∙◌, arith, add-one}
use Rattle.std.specs.List.{insert}
use Rattle.std.proofs.lemmas.List.Elements.{All-nil, All-cons, All-head, All-tail, All-drop}
use Rattle.probe_core.specs.Places.{RisesBy}
use Rattle.time_table.specs.declared.row.Row.{Row}
use Rattle.time_table.specs.Totals.{Rise, last_total, row_bin, raised}
use Rattle.time_table.specs.Late.{raised_from}
use Rattle.time_table.proofs.ItemChanges.{mapped_from}
use Rattle.time_table.proofs.LastBins.{length-mapped_from}
use Rattle.time_table.proofs.RowPlaces.{RisesBy-Rise}

-- a total with an amount has 64 bits
abbrev pub HasRoom : ℕ → Row → Type 0
HasRoom n row = row.total + n < 2 ^ 64

pub long : (p n : ℕ) (rows : List Row) → length (raised_from p n rows) ≡ length rows
long p n rows = length-mapped_from (raised n) p rows

long_front : (k : ℕ) (f : Row → Row) (rows : List Row) → length (map f (take k rows) ++ drop k rows) ≡ length rows
long_front zero f rows = refl
long_front (suc k) f [] = refl
long_front (suc k) f (r ∷ rs) = ap suc (long_front k f rs)

pub long_mapped : (p k : ℕ) (f : Row → Row) (rows : List Row) → length (mapped_from f p k rows) ≡ length rows
long_mapped zero k f rows = long_front k f rows
long_mapped (suc p) zero f [] = refl
long_mapped (suc p) (suc k) f [] = refl
long_mapped (suc p) k f (r ∷ rs) = ap suc (long_mapped p k f rs)

-- none stands too low from the end on
pub whole : (p n : ℕ) (rows : List Row) → length rows ≤ p → raised_from p n rows ≡ rows
whole zero n [] end = refl
whole (suc p) n [] end = refl
whole zero n (r ∷ rs) end = absurd (omega arith)
whole (suc p) n (r ∷ rs) end = ap (λ zs. r ∷ zs) (whole p n rs (omega arith))

pub fits_none : (n p : ℕ) (rows : List Row) → length rows ≤ p → All (HasRoom n) (drop p rows)
fits_none n zero [] end = All-nil (HasRoom n)
fits_none n (suc p) [] end = All-nil (HasRoom n)
fits_none n zero (r ∷ rs) end = absurd (omega arith)
fits_none n (suc p) (r ∷ rs) end = fits_none n p rs (omega arith)

-- ---- one row

pub bin_at : (p n i : ℕ) (rows : List Row) (d : Row) → i < length rows → (get_or (raised_from p n rows) i d).bin ≡ (get_or rows i d).bin
bin_at p n i [] d within = absurd (omega arith)
bin_at zero n zero (r ∷ rs) d within = refl
bin_at zero n (suc i) (r ∷ rs) d within = bin_at zero n i rs d (omega arith)
bin_at (suc p) n zero (r ∷ rs) d within = refl
bin_at (suc p) n (suc i) (r ∷ rs) d within = bin_at p n i rs d (omega arith)

pub at_before : (p n i : ℕ) (rows : List Row) (row : Row) → i < p → i < length rows → row ≡ get_or rows i row → row ≡ get_or (raised_from p n rows) i row
at_before p n i [] row less within read = absurd (omega arith)
at_before zero n i (r ∷ rs) row less within read = absurd (omega arith)
at_before (suc p) n zero (r ∷ rs) row less within read = read
at_before (suc p) n (suc i) (r ∷ rs) row less within read = at_before p n i rs row (omega arith) (omega arith) read

pub at_after : (p n i : ℕ) (rows : List Row) (row : Row) → p ≤ i → i < length rows → row ≡ get_or rows i row → raised n row ≡ get_or (raised_from p n rows) i (raised n row)
at_after p n i [] row le within read = absurd (omega arith)
at_after zero n zero (r ∷ rs) row le within read = ap (raised n) read
at_after zero n (suc i) (r ∷ rs) row le within read = at_after zero n i rs row (omega arith) (omega arith) read
at_after (suc p) n zero (r ∷ rs) row le within read = absurd (omega arith)
at_after (suc p) n (suc i) (r ∷ rs) row le within read = at_after p n i rs row (omega arith) (omega arith) read

pub fits_at : (n p i : ℕ) (rows : List Row) (row : Row) → p ≤ i → i < length rows → row ≡ get_or rows i row → All (HasRoom n) (drop p rows) → row.total + n < 2 ^ 64
fits_at n p i [] row le within read fits = absurd (omega arith)
fits_at n zero i (r ∷ rs) row le within read fits = subst (HasRoom n) (sym read) (fits i row within)
fits_at n (suc p) zero (r ∷ rs) row le within read fits = absurd (omega arith)
fits_at n (suc p) (suc i) (r ∷ rs) row le within read fits = fits_at n p i rs row (omega arith) (omega arith) read fits

-- ---- rows that are caught up with

caught_front : (n k : ℕ) (rows : List Row) → k ≤ length rows → raised_from k n (map (raised n) (take k rows) ++ drop k rows) ≡ map (raised n) rows
caught_front n zero rows within = refl
caught_front n (suc k) [] within = absurd (omega arith)
caught_front n (suc k) (r ∷ rs) within = ap (λ zs. raised n r ∷ zs) (caught_front n k rs (omega arith))

caught_by : (n p k q : ℕ) (rows : List Row) → q ≡ p + k → q ≤ length rows → raised_from q n (mapped_from (raised n) p k rows) ≡ raised_from p n rows
caught_by n zero k q rows to within =
    let same : k ≡ q = omega arith in
    subst (λ j. raised_from q n (mapped_from (raised n) zero j rows) ≡ raised_from zero n rows) (sym same) (caught_front n q rows within)
caught_by n (suc p) k zero rows to within = absurd (omega arith)
caught_by n (suc p) k (suc q) [] to within = absurd (omega arith)
caught_by n (suc p) k (suc q) (r ∷ rs) to within = ap (λ zs. r ∷ zs) (caught_by n p k q rs (omega arith) (omega arith))

pub caught : (n p q : ℕ) (rows new : List Row) → p ≤ q → q ≤ length rows → new ≡ mapped_from (raised n) p (q - p) rows → raised_from q n new ≡ raised_from p n rows
caught n p q rows new le within is = ap (raised_from q n) is ∙ caught_by n p (q - p) q rows (omega arith) within

back_front : (k : ℕ) (f : Row → Row) (rows : List Row) → drop k (map f (take k rows) ++ drop k rows) ≡ drop k rows
back_front zero f rows = refl
back_front (suc k) f [] = refl
back_front (suc k) f (r ∷ rs) = back_front k f rs

back : (p k q : ℕ) (f : Row → Row) (rows : List Row) → q ≡ p + k → drop q (mapped_from f p k rows) ≡ drop q rows
back zero k q f rows to =
    let same : k ≡ q = omega arith in
    subst (λ j. drop q (mapped_from f zero j rows) ≡ drop q rows) (sym same) (back_front q f rows)
back (suc p) k zero f rows to = absurd (omega arith)
back (suc p) zero (suc q) f [] to = refl
back (suc p) (suc k) (suc q) f [] to = refl
back (suc p) k (suc q) f (r ∷ rs) to = back p k q f rs (omega arith)

unmapped_front : (k : ℕ) (f : Row → Row) (rows : List Row) (d : Row) → get_or (map f (take k rows) ++ drop k rows) k d ≡ get_or rows k d
unmapped_front zero f rows d = refl
unmapped_front (suc k) f [] d = refl
unmapped_front (suc k) f (r ∷ rs) d = unmapped_front k f rs d

unmapped : (p k q : ℕ) (f : Row → Row) (rows : List Row) (d : Row) → q ≡ p + k → get_or (mapped_from f p k rows) q d ≡ get_or rows q d
unmapped zero k q f rows d to =
    let same : k ≡ q = omega arith in
    subst (λ j. get_or (mapped_from f zero j rows) q d ≡ get_or rows q d) (sym same) (unmapped_front q f rows d)
unmapped (suc p) k zero f rows d to = absurd (omega arith)
unmapped (suc p) zero (suc q) f [] d to = refl
unmapped (suc p) (suc k) (suc q) f [] d to = refl
unmapped (suc p) k (suc q) f (r ∷ rs) d to = unmapped p k q f rs d (omega arith)

fits_later : (n p q : ℕ) (rows : List Row) → p ≤ q → All (HasRoom n) (drop p rows) → All (HasRoom n) (drop q rows)
fits_later n zero q rows le fits = All-drop (HasRoom n) q rows fits
fits_later n (suc p) zero rows le fits = absurd (omega arith)
fits_later n (suc p) (suc q) [] le fits = fits
fits_later n (suc p) (suc q) (r ∷ rs) le fits = fits_later n p q rs (omega arith) fits

pub caught_fits : (n p q : ℕ) (rows new : List Row) → p ≤ q → new ≡ mapped_from (raised n) p (q - p) rows → All (HasRoom n) (drop p rows) → All (HasRoom n) (drop q new)
caught_fits n p q rows new le is fits =
    subst (λ zs. All (HasRoom n) (drop q zs)) (sym is) (subst (All (HasRoom n)) (sym (back p (q - p) q (raised n) rows (omega arith))) (fits_later n p q rows le fits))

-- the row that is raised next stands too low yet
pub next_fits : (n p i : ℕ) (rows new : List Row) (row : Row) → p ≤ i → i < length new → new ≡ mapped_from (raised n) p (i - p) rows → row ≡ get_or new i row → All (HasRoom n) (drop p rows) → row.total + n < 2 ^ 64
next_fits n p i rows new row le within is read fits = fits_at n i i new row (omega arith) within read (caught_fits n p i rows new le is fits)

-- the same where all rows have the room, below another limit
pub next_below : (m n p i : ℕ) (rows new : List Row) (row : Row) → p ≤ i → i < length rows → new ≡ mapped_from (raised n) p (i - p) rows → row ≡ get_or new i row → All (λ r. r.total + n < m) rows → row.total + n < m
next_below m n p i rows new row le within is read fits =
    let same : get_or new i row ≡ get_or rows i row = ap (λ zs. get_or zs i row) is ∙ unmapped p (i - p) i (raised n) rows row (omega arith) in
    subst (λ (x : Row). x.total + n < m) (sym (read ∙ same)) (fits i row within)

-- ---- rows that are changed before the place

pub put_late : (p n i : ℕ) (rows : List Row) (row : Row) → i ≤ p → p ≤ length rows → insert (raised_from p n rows) i row ≡ raised_from (p + 1) n (insert rows i row)
put_late p n i rows row le within = put p n i rows row le within ∙ ap (λ k. raised_from k n (insert rows i row)) (sym (add-one p)) where
  put : (p n i : ℕ) (rows : List Row) (row : Row) → i ≤ p → p ≤ length rows → insert (raised_from p n rows) i row ≡ raised_from (suc p) n (insert rows i row)
  put p n zero rows row le within = refl
  put zero n (suc i) rows row le within = absurd (omega arith)
  put (suc p) n (suc i) [] row le within = absurd (omega arith)
  put (suc p) n (suc i) (r ∷ rs) row le within = ap (λ zs. r ∷ zs) (put p n i rs row (omega arith) (omega arith))

pub long_put : (i : ℕ) (rows : List Row) (row : Row) → length (insert rows i row) ≡ length rows + 1
long_put i rows row = put i rows row ∙ sym (add-one (length rows)) where
  put : (i : ℕ) (rows : List Row) (row : Row) → length (insert rows i row) ≡ suc (length rows)
  put zero rows row = refl
  put (suc i) [] row = refl
  put (suc i) (r ∷ rs) row = ap suc (put i rs row)

pub drop_put : (p i : ℕ) (rows : List Row) (row : Row) → i ≤ p → p ≤ length rows → drop (p + 1) (insert rows i row) ≡ drop p rows
drop_put p i rows row le within = ap (λ k. drop k (insert rows i row)) (add-one p) ∙ put p i rows row le within where
  put : (p i : ℕ) (rows : List Row) (row : Row) → i ≤ p → p ≤ length rows → drop (suc p) (insert rows i row) ≡ drop p rows
  put p zero rows row le within = refl
  put zero (suc i) rows row le within = absurd (omega arith)
  put (suc p) (suc i) [] row le within = absurd (omega arith)
  put (suc p) (suc i) (r ∷ rs) row le within = put p i rs row (omega arith) (omega arith)

pub set_late : (p n i : ℕ) (rows : List Row) (row : Row) → i < p → set (raised_from p n rows) i row ≡ raised_from p n (set rows i row)
set_late zero n i rows row less = absurd (omega arith)
set_late (suc p) n i [] row less = refl
set_late (suc p) n zero (r ∷ rs) row less = refl
set_late (suc p) n (suc i) (r ∷ rs) row less = ap (λ zs. r ∷ zs) (set_late p n i rs row (omega arith))

-- ---- amounts

raised_twice : (n m : ℕ) (rows : List Row) → map (raised m) (map (raised n) rows) ≡ map (raised (n + m)) rows
raised_twice n m [] = refl
raised_twice n m (r ∷ rs) =
    let sum : (r.total + n) + m ≡ r.total + (n + m) = omega arith in
    rw (sum, raised_twice n m rs)

pub raised_more : (p n m : ℕ) (rows : List Row) → raised_from p (n + m) rows ≡ raised_from p m (raised_from p n rows)
raised_more zero n m rows = sym (raised_twice n m rows)
raised_more (suc p) n m [] = refl
raised_more (suc p) n m (r ∷ rs) = ap (λ zs. r ∷ zs) (raised_more p n m rs)

fits_raised : (n m : ℕ) (rows : List Row) → All (HasRoom m) (map (raised n) rows) → All (HasRoom (n + m)) rows
fits_raised n m [] fits = All-nil (HasRoom (n + m))
fits_raised n m (r ∷ rs) fits =
    let first : (r.total + n) + m < 2 ^ 64 = All-head (HasRoom m) (raised n r) (map (raised n) rs) fits in
    All-cons (HasRoom (n + m)) r rs (omega arith) (fits_raised n m rs (All-tail (HasRoom m) (raised n r) (map (raised n) rs) fits))

pub fits_more : (p n m : ℕ) (rows : List Row) → All (HasRoom m) (raised_from p n rows) → All (HasRoom (n + m)) (drop p rows)
fits_more zero n m rows fits = fits_raised n m rows fits
fits_more (suc p) n m [] fits = All-nil (HasRoom (n + m))
fits_more (suc p) n m (r ∷ rs) fits = fits_more p n m rs (All-tail (HasRoom m) r (raised_from p n rs) fits)

pub amounts_fit : (p n : ℕ) (rows : List Row) → p < length rows → All (HasRoom n) (drop p rows) → n < 2 ^ 64
amounts_fit p n [] within fits = absurd (omega arith)
amounts_fit zero n (r ∷ rs) within fits = omega (arith, All-head (HasRoom n) r rs fits)
amounts_fit (suc p) n (r ∷ rs) within fits = amounts_fit p n rs (omega arith) fits

-- ---- places

pub rises : (p n : ℕ) (rows : List Row) → Rise 0 0 (raised_from p n rows) → RisesBy row_bin rows
rises p n rows rise = λ i j d less within.
    let shown : (get_or (raised_from p n rows) i d).bin < (get_or (raised_from p n rows) j d).bin = RisesBy-Rise 0 0 (raised_from p n rows) rise i j d less (omega (arith, long p n rows)) in
    omega (arith, shown, bin_at p n i rows d (omega arith), bin_at p n j rows d within)

pub lesser_shown : (e p n i : ℕ) (rows : List Row) → All (λ row. row.bin < e) (take i rows) → All (λ row. row.bin < e) (take i (raised_from p n rows))
lesser_shown e p n zero rows all = All-nil (λ (row : Row). row.bin < e)
lesser_shown e zero n (suc i) [] all = all
lesser_shown e (suc p) n (suc i) [] all = all
lesser_shown e zero n (suc i) (r ∷ rs) all =
    All-cons (λ (row : Row). row.bin < e) (raised n r) (take i (raised_from zero n rs)) (All-head (λ (row : Row). row.bin < e) r (take i rs) all) (lesser_shown e zero n i rs (All-tail (λ (row : Row). row.bin < e) r (take i rs) all))
lesser_shown e (suc p) n (suc i) (r ∷ rs) all =
    All-cons (λ (row : Row). row.bin < e) r (take i (raised_from p n rs)) (All-head (λ (row : Row). row.bin < e) r (take i rs) all) (lesser_shown e p n i rs (All-tail (λ (row : Row). row.bin < e) r (take i rs) all))

all_shown : (e p n : ℕ) (rows : List Row) → All (λ row. e ≤ row.bin) rows → All (λ row. e ≤ row.bin) (raised_from p n rows)
all_shown e zero n [] all = all
all_shown e (suc p) n [] all = all
all_shown e zero n (r ∷ rs) all =
    All-cons (λ (row : Row). e ≤ row.bin) (raised n r) (raised_from zero n rs) (All-head (λ (row : Row). e ≤ row.bin) r rs all) (all_shown e zero n rs (All-tail (λ (row : Row). e ≤ row.bin) r rs all))
all_shown e (suc p) n (r ∷ rs) all =
    All-cons (λ (row : Row). e ≤ row.bin) r (raised_from p n rs) (All-head (λ (row : Row). e ≤ row.bin) r rs all) (all_shown e p n rs (All-tail (λ (row : Row). e ≤ row.bin) r rs all))

pub others_shown : (e p n i : ℕ) (rows : List Row) → All (λ row. e ≤ row.bin) (drop i rows) → All (λ row. e ≤ row.bin) (drop i (raised_from p n rows))
others_shown e p n zero rows all = all_shown e p n rows all
others_shown e zero n (suc i) [] all = all
others_shown e (suc p) n (suc i) [] all = all
others_shown e zero n (suc i) (r ∷ rs) all = others_shown e zero n i rs all
others_shown e (suc p) n (suc i) (r ∷ rs) all = others_shown e p n i rs all

pub below_before : (b p n i : ℕ) (rows : List Row) → i ≤ p → last_total b (take i rows) ≡ last_total b (take i (raised_from p n rows))
below_before b p n zero rows le = refl
below_before b zero n (suc i) rows le = absurd (omega arith)
below_before b (suc p) n (suc i) [] le = refl
below_before b (suc p) n (suc i) (r ∷ rs) le = below_before r.total p n i rs (omega arith)

total_raised : (t n i : ℕ) (rows : List Row) → last_total t (take i rows) + n ≡ last_total (t + n) (take i (raised_from zero n rows))
total_raised t n zero rows = refl
total_raised t n (suc i) [] = refl
total_raised t n (suc i) (r ∷ rs) = total_raised r.total n i rs

pub below_after : (b p n i : ℕ) (rows : List Row) → p < i → i ≤ length rows → last_total b (take i rows) + n ≡ last_total b (take i (raised_from p n rows))
below_after b p n zero rows less within = absurd (omega arith)
below_after b p n (suc i) [] less within = absurd (omega arith)
below_after b zero n (suc i) (r ∷ rs) less within = total_raised r.total n i rs
below_after b (suc p) n (suc i) (r ∷ rs) less within = below_after r.total p n i rs (omega arith) (omega arith)

total_fits : (t n i : ℕ) (rows : List Row) → t + n < 2 ^ 64 → All (HasRoom n) rows → last_total t (take i rows) + n < 2 ^ 64
total_fits t n zero rows fits all = fits
total_fits t n (suc i) [] fits all = fits
total_fits t n (suc i) (r ∷ rs) fits all = total_fits r.total n i rs (All-head (HasRoom n) r rs all) (All-tail (HasRoom n) r rs all)

pub below_fits : (b p n i : ℕ) (rows : List Row) → p < i → i ≤ length rows → All (HasRoom n) (drop p rows) → last_total b (take i rows) + n < 2 ^ 64
below_fits b p n zero rows less within fits = absurd (omega arith)
below_fits b p n (suc i) [] less within fits = absurd (omega arith)
below_fits b zero n (suc i) (r ∷ rs) less within fits = total_fits r.total n i rs (All-head (HasRoom n) r rs fits) (All-tail (HasRoom n) r rs fits)
below_fits b (suc p) n (suc i) (r ∷ rs) less within fits = below_fits r.total p n i rs (omega arith) (omega arith) fits
