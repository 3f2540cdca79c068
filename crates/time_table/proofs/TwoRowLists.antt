-- Rows that are two lists, one behind the other.
use Rattle.std.proofs.Common.{◌≡◌, ℕ, zero, suc, ◌+◌, ◌-◌, ◌<◌, ◌≤◌, List, [], ◌∷◌, ◌++◌, length, take, drop, map, get_or, All, refl, sym, ap, subst, ◌∙◌, arith, append_assoc, add-one}
use Rattle.std.specs.List.{insert, remove}
use Rattle.std.proofs.lemmas.List.{append-nil, take_all, drop_all, map-append, get_or-take, length-take-le, length_push}
use Rattle.std.proofs.lemmas.List.Elements.{All-nil, All-cons, All-head, All-tail}
use Rattle.std.proofs.lemmas.List.Edits.{length-remove}
use Rattle.time_table.specs.declared.row.Row.{Row}
use Rattle.time_table.specs.Totals.{Rise, counts_from, last_total, bin_after, raised, lowered}
use Rattle.time_table.specs.Blocks.{one_list}
use Rattle.time_table.proofs.MoreRecords.{counts_from-raised, totals_within, last_total-raised, fits_all}

pub counts_from-append : (before : ℕ) (xs ys : List Row) → counts_from before (xs ++ ys) ≡ counts_from before xs ++ counts_from (last_total before xs) ys
counts_from-append before [] ys = refl
counts_from-append before (x ∷ xs) ys = ap (λ zs. (x.bin, x.total - before) ∷ zs) (counts_from-append x.total xs ys)

pub last_total-append : (before : ℕ) (xs ys : List Row) → last_total before (xs ++ ys) ≡ last_total (last_total before xs) ys
last_total-append before [] ys = refl
last_total-append before (x ∷ xs) ys = last_total-append x.total xs ys

pub Rise-split : (least before : ℕ) (xs ys : List Row) → Rise least before (xs ++ ys) → Rise least before xs × Rise (bin_after least xs) (last_total before xs) ys
Rise-split least before [] ys rise = (tt, rise)
Rise-split least before (x ∷ xs) ys rise =
    let rest = Rise-split (x.bin + 1) x.total xs ys rise.2 in
    ((rise.0, rise.1, rest.0), rest.1)

pub Rise-least : (least least' before : ℕ) (rows : List Row) → least' ≤ least → Rise least before rows → Rise least' before rows
Rise-least least least' before [] le rise = tt
Rise-least least least' before (r ∷ rs) le rise = let first : least ≤ r.bin = rise.0 in (omega arith, rise.1, rise.2)

pub Rise-append : (least before top : ℕ) (xs ys : List Row) → Rise least before xs → All (λ r. r.bin ≤ top) xs → least ≤ top + 1 → Rise (top + 1) (last_total before xs) ys → Rise least before (xs ++ ys)
Rise-append least before top [] ys rise all le rest = Rise-least (top + 1) least before ys le rest
Rise-append least before top (x ∷ xs) ys rise all le rest =
    let under : x.bin ≤ top = All-head (λ (r : Row). r.bin ≤ top) x xs all in
    (rise.0, rise.1, Rise-append (x.bin + 1) x.total top xs ys rise.2 (All-tail (λ (r : Row). r.bin ≤ top) x xs all) (omega arith) rest)

pub Rise-unraised : (n least from before : ℕ) (rows : List Row) → from ≡ before + n → Rise least from (map (raised n) rows) → Rise least before rows
Rise-unraised n least from before [] is rise = tt
Rise-unraised n least from before (r ∷ rs) is rise =
    let up : from < r.total + n = rise.1 in
    (rise.0, omega arith, Rise-unraised n (r.bin + 1) (r.total + n) r.total rs refl rise.2)

pub bin_after-le : (least before : ℕ) (rows : List Row) → Rise least before rows → least ≤ bin_after least rows
bin_after-le least before [] rise = omega arith
bin_after-le least before (r ∷ rs) rise =
    let first : least ≤ r.bin = rise.0 in
    omega (arith, bin_after-le (r.bin + 1) r.total rs rise.2)

pub bin_after-lt : (least before : ℕ) (rows : List Row) → Rise least before rows → 0 < length rows → least < bin_after least rows
bin_after-lt least before [] rise some = absurd (omega arith)
bin_after-lt least before (r ∷ rs) rise some =
    let first : least ≤ r.bin = rise.0 in
    omega (arith, bin_after-le (r.bin + 1) r.total rs rise.2)

pub All-bin_after : (least before : ℕ) (rows : List Row) → Rise least before rows → All (λ r. r.bin < bin_after least rows) rows
All-bin_after least before [] rise = All-nil (λ (r : Row). r.bin < least)
All-bin_after least before (r ∷ rs) rise =
    let first : r.bin < bin_after (r.bin + 1) rs = omega (arith, bin_after-le (r.bin + 1) r.total rs rise.2) in
    All-cons (λ (x : Row). x.bin < bin_after (r.bin + 1) rs) r rs first (All-bin_after (r.bin + 1) r.total rs rise.2)

-- rows that rise have a record each
pub length-le-total : (least before : ℕ) (rows : List Row) → Rise least before rows → before + length rows ≤ last_total before rows
length-le-total least before [] rise = omega arith
length-le-total least before (r ∷ rs) rise =
    let up : before < r.total = rise.1 in
    omega (arith, length-le-total (r.bin + 1) r.total rs rise.2)

pub last_total_at : (before k : ℕ) (rows : List Row) (row : Row) → k + 1 ≡ length rows → row ≡ get_or rows k row → row.total ≡ last_total before rows
last_total_at before k [] row is read = absurd (omega arith)
last_total_at before zero (r ∷ []) row is read = ap (λ (x : Row). x.total) read
last_total_at before (suc k) (r ∷ []) row is read = absurd (omega arith)
last_total_at before zero (r ∷ s ∷ rs) row is read = absurd (omega arith)
last_total_at before (suc k) (r ∷ s ∷ rs) row is read = last_total_at r.total k (s ∷ rs) row (omega arith) read

pub bin_after_at : (least k : ℕ) (rows : List Row) (row : Row) → k + 1 ≡ length rows → row ≡ get_or rows k row → row.bin + 1 ≡ bin_after least rows
bin_after_at least k [] row is read = absurd (omega arith)
bin_after_at least zero (r ∷ []) row is read = ap (λ (x : Row). x.bin + 1) read
bin_after_at least (suc k) (r ∷ []) row is read = absurd (omega arith)
bin_after_at least zero (r ∷ s ∷ rs) row is read = absurd (omega arith)
bin_after_at least (suc k) (r ∷ s ∷ rs) row is read = bin_after_at (r.bin + 1) k (s ∷ rs) row (omega arith) read

-- the two lists of a one_list one
pub one_list-left : (least : ℕ) (l r : List Row) → Rise least 0 (one_list l r) → Rise least 0 l
one_list-left least l r rise = (Rise-split least 0 l (map (raised (last_total 0 l)) r) rise).0

pub one_list-right : (least : ℕ) (l r : List Row) → Rise least 0 (one_list l r) → Rise (bin_after least l) 0 r
one_list-right least l r rise = Rise-unraised (last_total 0 l) (bin_after least l) (last_total 0 l) 0 r (omega arith) (Rise-split least 0 l (map (raised (last_total 0 l)) r) rise).1

pub last_total-one_list : (l r : List Row) → last_total 0 (one_list l r) ≡ last_total 0 l + last_total 0 r
last_total-one_list l r =
    last_total-append 0 l (map (raised (last_total 0 l)) r)
    ∙ last_total-raised (last_total 0 l) (last_total 0 l) 0 r (omega arith)
    ∙ omega arith

pub counts_from-one_list : (l r : List Row) → counts_from 0 (one_list l r) ≡ counts_from 0 l ++ counts_from 0 r
counts_from-one_list l r =
    counts_from-append 0 l (map (raised (last_total 0 l)) r)
    ∙ ap (λ zs. counts_from 0 l ++ zs) (counts_from-raised (last_total 0 l) (last_total 0 l) 0 r (omega arith))

pub one_list-nil : (l : List Row) → one_list l [] ≡ l
one_list-nil l = append-nil l

raised-raised : (a c t : ℕ) (rows : List Row) → c + a ≡ t → map (raised a) (map (raised c) rows) ≡ map (raised t) rows
raised-raised a c t [] is = refl
raised-raised a c t (r ∷ rs) is =
    let same : (r.total + c) + a ≡ r.total + t = omega arith in
    ap (λ k. record { bin = r.bin; total = k } ∷ map (raised a) (map (raised c) rs)) same
    ∙ ap (λ zs. raised t r ∷ zs) (raised-raised a c t rs is)

raised-lowered : (a n : ℕ) (rows : List Row) → All (λ r. n ≤ r.total) rows → map (raised (a + n)) (map (lowered n) rows) ≡ map (raised a) rows
raised-lowered a n [] all = refl
raised-lowered a n (r ∷ rs) all =
    let le : n ≤ r.total = All-head (λ (r : Row). n ≤ r.total) r rs all in
    let same : (r.total - n) + (a + n) ≡ r.total + a = omega arith in
    ap (λ k. record { bin = r.bin; total = k } ∷ map (raised (a + n)) (map (lowered n) rs)) same
    ∙ ap (λ zs. raised a r ∷ zs) (raised-lowered a n rs (All-tail (λ (r : Row). n ≤ r.total) r rs all))

-- the totals of rows that rise are above the one before them
pub totals_past : (least before n : ℕ) (rows : List Row) → Rise least before rows → n ≤ before → All (λ r. n ≤ r.total) rows
totals_past least before n [] rise le = All-nil (λ (r : Row). n ≤ r.total)
totals_past least before n (r ∷ rs) rise le =
    let up : before < r.total = rise.1 in
    All-cons (λ (x : Row). n ≤ x.total) r rs (omega arith) (totals_past (r.bin + 1) r.total n rs rise.2 (omega arith))

-- the totals behind the first row are at least its own
pub rest_above : (l r rest : List Row) (first : Row) → Rise 0 0 (one_list l r) → 0 < length r → first ≡ get_or r 0 first → rest ≡ remove r 0 → All (λ x. first.total ≤ x.total) (drop 0 rest)
rest_above l [] rest first rise some read is = absurd (omega arith)
rest_above l (f ∷ r) rest first rise some read is =
    let right : Rise (bin_after 0 l) 0 (f ∷ r) = one_list-right 0 l (f ∷ r) rise in
    let all : All (λ x. f.total ≤ x.total) r = totals_past (f.bin + 1) f.total f.total r right.2 (omega arith) in
    subst (λ (x : Row). All (λ (y : Row). x.total ≤ y.total) rest) (sym read)
    (subst (λ (zs : List Row). All (λ (y : Row). f.total ≤ y.total) zs) (sym is) all)

insert_end : (xs : List Row) (x : Row) → insert xs (length xs) x ≡ xs ++ x ∷ []
insert_end xs x = ap (λ zs. zs ++ x ∷ drop (length xs) xs) (take_all (length xs) xs (omega arith)) ∙ ap (λ zs. xs ++ x ∷ zs) (drop_all (length xs) xs (omega arith))

pub length-end : (xs new : List Row) (x : Row) (k : ℕ) → k ≡ length xs → new ≡ insert xs k x → length new ≡ length xs + 1
length-end xs new x k at put = ap length (put ∙ ap (λ n. insert xs n x) at ∙ insert_end xs x) ∙ length_push xs x

pub moved_left : (l l' r rest r' : List Row) (first last row : Row) (k m : ℕ) → k + 1 ≡ length l → m ≡ length l → Rise 0 0 (one_list l r) → 0 < length l → 0 < length r → first ≡ get_or r 0 first → rest ≡ remove r 0 → r' ≡ take 0 rest ++ map (lowered first.total) (drop 0 rest) → last ≡ get_or l k last → row ≡ record { bin = first.bin; total = last.total + first.total } → l' ≡ insert l m row → one_list l' r' ≡ one_list l r
moved_left l l' [] rest r' first last row k m long at rise some_l some read is down read' made put = absurd (omega arith)
moved_left l l' (f ∷ r) rest r' first last row k m long at rise some_l some read is down read' made put =
    let right : Rise (bin_after 0 l) 0 (f ∷ r) = one_list-right 0 l (f ∷ r) rise in
    let all : All (λ x. f.total ≤ x.total) r = totals_past (f.bin + 1) f.total f.total r right.2 (omega arith) in
    let total : last.total ≡ last_total 0 l = last_total_at 0 k l last long read' in
    let row_is : row ≡ record { bin = f.bin; total = last_total 0 l + f.total } =
    made ∙ ap (λ (x : Row). record { bin = x.bin; total = last.total + x.total }) read ∙ ap (λ k. record { bin = f.bin; total = k + f.total }) total in
    let l_is : l' ≡ l ++ record { bin = f.bin; total = last_total 0 l + f.total } ∷ [] = put ∙ ap (λ n. insert l n row) at ∙ insert_end l row ∙ ap (λ x. l ++ x ∷ []) row_is in
    let r_is : r' ≡ map (lowered f.total) r = down ∙ ap (λ (x : Row). map (lowered x.total) rest) read ∙ ap (λ zs. map (lowered f.total) zs) is in
    let turn : last_total 0 l + f.total ≡ f.total + last_total 0 l = omega arith in
    ap (λ zs. one_list zs r') l_is
    ∙ ap (λ zs. one_list (l ++ record { bin = f.bin; total = last_total 0 l + f.total } ∷ []) zs) r_is
    ∙ ap (λ k. (l ++ record { bin = f.bin; total = last_total 0 l + f.total } ∷ []) ++ map (raised k) (map (lowered f.total) r)) (last_total-append 0 l (record { bin = f.bin; total = last_total 0 l + f.total } ∷ []))
    ∙ ap (λ zs. (l ++ record { bin = f.bin; total = last_total 0 l + f.total } ∷ []) ++ zs) (raised-lowered (last_total 0 l) f.total r all)
    ∙ append_assoc l (record { bin = f.bin; total = last_total 0 l + f.total } ∷ []) (map (raised (last_total 0 l)) r)
    ∙ ap (λ k. l ++ record { bin = f.bin; total = k } ∷ map (raised (last_total 0 l)) r) turn

pub without_last : (k : ℕ) (xs : List Row) (x : Row) → k + 1 ≡ length xs → x ≡ get_or xs k x → xs ≡ remove xs k ++ x ∷ []
without_last k [] x is read = absurd (omega arith)
without_last zero (y ∷ []) x is read = ap (λ z. z ∷ []) (sym read)
without_last (suc k) (y ∷ []) x is read = absurd (omega arith)
without_last zero (y ∷ z ∷ xs) x is read = absurd (omega arith)
without_last (suc k) (y ∷ z ∷ xs) x is read = ap (λ zs. y ∷ zs) (without_last k (z ∷ xs) x (omega arith) read)

-- what is known of the last row of the left list
pub record IsLast (m : ℕ) (l l1 r : List Row) (row last : Row) : Type 0 where
  pub rows : l ≡ l1 ++ row ∷ []
  pub total : last.total ≡ last_total 0 l1
  pub above : last.total < row.total
  pub fits : All (λ x. x.total + (row.total - last.total) < m) r

all_unraised : (m n top c : ℕ) (r : List Row) → All (λ x. x.total ≤ top) (map (raised n) r) → top < m → c ≤ n → All (λ x. x.total + c < m) r
all_unraised m n top c [] all le less = All-nil (λ (x : Row). x.total + c < m)
all_unraised m n top c (x ∷ r) all le less =
    let here : x.total + n ≤ top = All-head (λ (x : Row). x.total ≤ top) (raised n x) (map (raised n) r) all in
    All-cons (λ (x : Row). x.total + c < m) x r (omega arith) (all_unraised m n top c r (All-tail (λ (x : Row). x.total ≤ top) (raised n x) (map (raised n) r) all) le less)

pub is_last : (m : ℕ) (l l1 r : List Row) (row last : Row) (k k1 : ℕ) → k + 1 ≡ length l → k1 + 1 ≡ length l1 → Rise 0 0 (one_list l r) → last_total 0 (one_list l r) < m → row ≡ get_or l k row → l1 ≡ remove l k → last ≡ get_or l1 k1 last → IsLast m l l1 r row last
is_last m l l1 r row last k k1 long long1 rise fits read is read' =
    let rows : l ≡ l1 ++ row ∷ [] = without_last k l row long read ∙ ap (λ zs. zs ++ row ∷ []) (sym is) in
    let total : last.total ≡ last_total 0 l1 = last_total_at 0 k1 l1 last long1 read' in
    let whole : row.total ≡ last_total 0 l = last_total_at 0 k l row long read in
    let left : Rise 0 0 (l1 ++ row ∷ []) = subst (Rise 0 0) rows (one_list-left 0 l r rise) in
    let end : Rise (bin_after 0 l1) (last_total 0 l1) (row ∷ []) = (Rise-split 0 0 l1 (row ∷ []) left).1 in
    let above : last_total 0 l1 < row.total = end.1 in
    let back = (Rise-split 0 0 l (map (raised (last_total 0 l)) r) rise).1 in
    let tops = totals_within (bin_after 0 l) (last_total 0 l) (map (raised (last_total 0 l)) r) back in
    let top : last_total (last_total 0 l) (map (raised (last_total 0 l)) r) < m = subst (λ k. k < m) (last_total-append 0 l (map (raised (last_total 0 l)) r)) fits in
    record {
      rows = rows;
      total = total;
      above = omega arith;
      fits = all_unraised m (last_total 0 l) _ (row.total - last.total) r tops top (omega arith);
    }

pub moved_right : (m : ℕ) (l l1 r r1 r' : List Row) (row last moved : Row) → IsLast m l l1 r row last → r1 ≡ take 0 r ++ map (raised (row.total - last.total)) (drop 0 r) → moved ≡ record { bin = row.bin; total = row.total - last.total } → r' ≡ insert r1 0 moved → one_list l1 r' ≡ one_list l r
moved_right m l l1 r r1 r' row last moved is up made put =
    let total : last.total ≡ last_total 0 l1 = is.total in
    let above : last.total < row.total = is.above in
    let r_is : r' ≡ record { bin = row.bin; total = row.total - last.total } ∷ map (raised (row.total - last.total)) r = put ∙ ap (λ x. x ∷ r1) made ∙ ap (λ zs. record { bin = row.bin; total = row.total - last.total } ∷ zs) up in
    let back : (row.total - last.total) + last_total 0 l1 ≡ row.total = omega arith in
    ap (one_list l1) r_is
    ∙ ap (λ k. l1 ++ record { bin = row.bin; total = k } ∷ map (raised (last_total 0 l1)) (map (raised (row.total - last.total)) r)) back
    ∙ ap (λ zs. l1 ++ row ∷ zs) (raised-raised (last_total 0 l1) (row.total - last.total) row.total r back)
    ∙ sym (append_assoc l1 (row ∷ []) (map (raised row.total) r))
    ∙ ap (λ k. (l1 ++ row ∷ []) ++ map (raised k) r) (sym (last_total-append 0 l1 (row ∷ [])))
    ∙ ap (λ zs. one_list zs r) (sym is.rows)

pub sum_fits : (m : ℕ) (l r : List Row) (first last : Row) (k : ℕ) → k + 1 ≡ length l → Rise 0 0 (one_list l r) → last_total 0 (one_list l r) < m → 0 < length r → first ≡ get_or r 0 first → last ≡ get_or l k last → last.total + first.total < m
sum_fits m l [] first last k long rise fits some read read' = absurd (omega arith)
sum_fits m l (f ∷ r) first last k long rise fits some read read' =
    let right : Rise (bin_after 0 l) 0 (f ∷ r) = one_list-right 0 l (f ∷ r) rise in
    let within : f.total ≤ last_total 0 (f ∷ r) = All-head (λ (x : Row). x.total ≤ last_total 0 (f ∷ r)) f r (totals_within (bin_after 0 l) 0 (f ∷ r) right) in
    let total : last.total ≡ last_total 0 l = last_total_at 0 k l last long read' in
    let same : first.total ≡ f.total = ap (λ (x : Row). x.total) read in
    omega (arith, last_total-one_list l (f ∷ r))

pub shorter : (l l1 : List Row) (k k1 : ℕ) → k + 1 ≡ length l → 1 < length l → k1 ≡ length l1 - 1 → l1 ≡ remove l k → k1 + 1 ≡ length l1
shorter l l1 k k1 long some is removed =
    let less : length l1 + 1 ≡ length l = ap (λ zs. length zs + 1) removed ∙ length-remove l k (omega arith) in
    omega arith

pub right_fits : (m : ℕ) (l r : List Row) → Rise 0 0 (one_list l r) → last_total 0 (one_list l r) < m → All (λ x. x.total + last_total 0 l < m) r
right_fits m l r rise fits =
    let right : Rise 0 0 r = Rise-least (bin_after 0 l) 0 0 r (omega arith) (one_list-right 0 l r rise) in
    fits_all m (last_total 0 l) r right (omega (arith, last_total-one_list l r))

raised-more : (n i : ℕ) (r : List Row) (x : Row) → i < length r → x ≡ get_or r i x → map (raised n) (take i r) ++ raised n x ∷ [] ≡ map (raised n) (take (suc i) r)
raised-more n i [] x within read = absurd (omega arith)
raised-more n zero (y ∷ r) x within read = ap (λ (z : Row). raised n z ∷ []) read
raised-more n (suc i) (y ∷ r) x within read = ap (λ zs. raised n y ∷ zs) (raised-more n i r x (omega arith) read)

-- a row of the right list more behind the left one
pub appended_more : (i k : ℕ) (l r now new : List Row) (x row : Row) → i < length r → x ≡ get_or r i x → now ≡ one_list l (take i r) → row ≡ record { bin = x.bin; total = x.total + last_total 0 l } → k ≡ length now → new ≡ insert now k row → new ≡ one_list l (take (i + 1) r)
appended_more i k l r now new x row within read is made at put =
    put ∙ ap (λ n. insert now n row) at ∙ insert_end now row ∙ ap (λ zs. zs ++ row ∷ []) is ∙ ap (λ (y : Row). one_list l (take i r) ++ y ∷ []) made
    ∙ append_assoc l (map (raised (last_total 0 l)) (take i r)) (raised (last_total 0 l) x ∷ [])
    ∙ ap (λ zs. l ++ zs) (raised-more (last_total 0 l) i r x within read)
    ∙ ap (λ n. one_list l (take n r)) (sym (add-one i))

remove-drop : (i : ℕ) (xs : List Row) → i < length xs → remove (drop i xs) 0 ≡ drop (suc i) xs
remove-drop i [] within = absurd (omega arith)
remove-drop zero (x ∷ xs) within = refl
remove-drop (suc i) (x ∷ xs) within = remove-drop i xs (omega arith)

pub dropped_more : (i : ℕ) (xs now new : List Row) → i < length xs → now ≡ drop i xs → new ≡ remove now 0 → new ≡ drop (i + 1) xs
dropped_more i xs now new within is removed =
    removed ∙ ap (λ zs. remove zs 0) is ∙ remove-drop i xs within ∙ ap (λ n. drop n xs) (sym (add-one i))

parted_at : (k : ℕ) (xs : List Row) → take k xs ++ drop k xs ≡ xs
parted_at zero xs = refl
parted_at (suc k) [] = refl
parted_at (suc k) (x ∷ xs) = ap (λ zs. x ∷ zs) (parted_at k xs)

-- the last of the first k rows of the right list
pub record IsGiven (k : ℕ) (r : List Row) (last : Row) : Type 0 where
  pub total : last.total ≡ last_total 0 (take k r)
  pub above : All (λ x. last_total 0 (take k r) ≤ x.total) (drop k r)

pub given : (j k : ℕ) (l r : List Row) (last : Row) → j + 1 ≡ k → k ≤ length r → Rise 0 0 (one_list l r) → last ≡ get_or r j last → IsGiven k r last
given j k l r last next within rise read =
    let right : Rise (bin_after 0 l) 0 r = one_list-right 0 l r rise in
    let back = (Rise-split (bin_after 0 l) 0 (take k r) (drop k r) (subst (Rise (bin_after 0 l) 0) (sym (parted_at k r)) right)).1 in
    record {
      total = last_total_at 0 j (take k r) last (omega (arith, length-take-le k r within)) (read ∙ sym (get_or-take k r j last (omega arith)));
      above = totals_past _ (last_total 0 (take k r)) (last_total 0 (take k r)) (drop k r) back (omega arith);
    }

pub above_given : (k : ℕ) (r rest : List Row) (last : Row) → IsGiven k r last → rest ≡ drop k r → All (λ x. last.total ≤ x.total) (drop 0 rest)
above_given k r rest last is dropped =
    subst (λ n. All (λ (x : Row). n ≤ x.total) rest) (sym is.total) (subst (All (λ (x : Row). last_total 0 (take k r) ≤ x.total)) (sym dropped) is.above)

-- the first k rows of the right list behind the left one
pub filled : (k : ℕ) (l r l' rest r' : List Row) (last : Row) → IsGiven k r last → l' ≡ one_list l (take k r) → rest ≡ drop k r → r' ≡ take 0 rest ++ map (lowered last.total) (drop 0 rest) → one_list l' r' ≡ one_list l r
filled k l r l' rest r' last is left dropped down =
    let n : ℕ = last_total 0 (take k r) in
    let lower : r' ≡ map (lowered n) (drop k r) = down ∙ ap (λ m. map (lowered m) rest) is.total ∙ ap (map (lowered n)) dropped in
    ap (λ zs. one_list zs r') left
    ∙ ap (one_list (one_list l (take k r))) lower
    ∙ ap (λ m. one_list l (take k r) ++ map (raised m) (map (lowered n) (drop k r))) (last_total-one_list l (take k r))
    ∙ ap (λ zs. one_list l (take k r) ++ zs) (raised-lowered (last_total 0 l) n (drop k r) is.above)
    ∙ append_assoc l (map (raised (last_total 0 l)) (take k r)) (map (raised (last_total 0 l)) (drop k r))
    ∙ ap (λ zs. l ++ zs) (sym (map-append (raised (last_total 0 l)) (take k r) (drop k r)) ∙ ap (map (raised (last_total 0 l))) (parted_at k r))
