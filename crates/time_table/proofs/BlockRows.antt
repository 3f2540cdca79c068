-- Rows in blocks under heads.
use Rattle.std.proofs.Common.{◌≡◌, ℕ, zero, suc, ◌+◌, ◌-◌, ◌<◌, ◌≤◌, ◌^◌, List, [], ◌∷◌, ◌++◌, length, take, drop, map, set, get_or, All, refl, sym, ap, subst, ◌∙◌, arith, append_assoc}
use Rattle.std.specs.List.{insert, remove}
use Rattle.std.proofs.lemmas.List.{length-set}
use Rattle.std.proofs.lemmas.List.Elements.{All-nil, All-cons, All-head, All-tail, All-append, All-weaker}
use Rattle.probe_core.specs.Places.{IsPlace}
use Rattle.time_table.specs.declared.row.Row.{Row}
use Rattle.time_table.specs.Totals.{Rise, counts_from, last_total, bin_after, raised, lowered, row_bin}
use Rattle.time_table.specs.Places.{added, taken, count_at, more, less}
use Rattle.time_table.specs.Blocks.{Block, flat, parts, IsHead, Held, IsSized, AllSized, SizedBut, one_list, in_hand}
use Rattle.time_table.proofs.MoreRecords.{counts_from-raised, last_total-raised, Rise-raised, All-raised, all_past, counts_from-added, Rise-added, All-added, last_total-added, last_total-le}
use Rattle.time_table.proofs.FewerRecords.{past_entries, counts_from-taken, Rise-taken, All-taken, last_total-taken, length-taken}
use Rattle.time_table.proofs.EntryChanges.{count_over, count_front, more_over, more_front, less_over, less_front}
use Rattle.time_table.proofs.TwoRowLists.{counts_from-append, last_total-append, Rise-least, Rise-append, bin_after-lt, All-bin_after, length-le-total, totals_past, one_list-left, one_list-right, last_total-one_list, counts_from-one_list}

pub held_len : (least before : ℕ) (hs : List Row) (bs : List Block) → Held least before hs bs → length hs ≡ length bs
held_len least before [] [] held = refl
held_len least before [] (b ∷ bs) held = absurd held
held_len least before (h ∷ hs) [] held = absurd held
held_len least before (h ∷ hs) (b ∷ bs) held = ap suc (held_len (h.bin + 1) h.total hs bs held.1)

pub Rise-heads : (least before : ℕ) (hs : List Row) (bs : List Block) → Held least before hs bs → Rise least before hs
Rise-heads least before [] bs held = tt
Rise-heads least before (h ∷ hs) [] held = absurd held
Rise-heads least before (h ∷ hs) (b ∷ bs) held = (held.0.bins, omega (arith, held.0.some, held.0.total), Rise-heads (h.bin + 1) h.total hs bs held.1)

pub Rise-at : (least before p : ℕ) (hs : List Row) (bs : List Block) (b : Block) → Held least before hs bs → p < length hs → b ≡ get_or bs p b → Rise 0 0 b.items
Rise-at least before p [] bs b held within read = absurd (omega arith)
Rise-at least before p (h ∷ hs) [] b held within read = absurd held
Rise-at least before zero (h ∷ hs) (x ∷ bs) b held within read = subst (λ (y : Block). Rise 0 0 y.items) (sym read) (Rise-least least 0 0 x.items (omega arith) held.0.rise)
Rise-at least before (suc p) (h ∷ hs) (x ∷ bs) b held within read = Rise-at (h.bin + 1) h.total p hs bs b held.1 (omega arith) read

pub total_at : (least before p : ℕ) (hs : List Row) (bs : List Block) (b : Block) → Held least before hs bs → p < length hs → b ≡ get_or bs p b → last_total before (take p hs) + last_total 0 b.items ≤ last_total before hs
total_at least before p [] bs b held within read = absurd (omega arith)
total_at least before p (h ∷ hs) [] b held within read = absurd held
total_at least before zero (h ∷ hs) (x ∷ bs) b held within read =
    let same : last_total 0 b.items ≡ last_total 0 x.items = ap (λ (y : Block). last_total 0 y.items) read in
    omega (arith, held.0.total, last_total-le (h.bin + 1) h.total hs (Rise-heads (h.bin + 1) h.total hs bs held.1))
total_at least before (suc p) (h ∷ hs) (x ∷ bs) b held within read = total_at (h.bin + 1) h.total p hs bs b held.1 (omega arith) read

-- the place of a bin is that of a head
pub place_inside : (least before p bin : ℕ) (hs : List Row) (bs : List Block) → Held least before hs bs → All (λ h. h.bin < bin) (take p hs) → p ≤ length hs → bin < 2 ^ 32 → least ≤ bin → p < length hs
place_inside least before p bin [] [] held lesser le fits from = absurd (omega arith)
place_inside least before p bin [] (b ∷ bs) held lesser le fits from = absurd held
place_inside least before p bin (h ∷ hs) [] held lesser le fits from = absurd held
place_inside least before zero bin (h ∷ hs) (b ∷ bs) held lesser le fits from = omega arith
place_inside least before (suc p) bin (h ∷ hs) (b ∷ bs) held lesser le fits from =
    let under : h.bin < bin = All-head (λ (h : Row). h.bin < bin) h (take p hs) lesser in
    let rest : p < length hs = place_inside (h.bin + 1) h.total p bin hs bs held.1 (All-tail (λ (h : Row). h.bin < bin) h (take p hs) lesser) (omega arith) fits (omega arith) in
    omega arith

-- the place of a bin among heads: a head and its block are there
pub record IsPlaced (bin place : ℕ) (hs : List Row) (bs : List Block) : Type 0 where
  pub lesser : All (λ h. h.bin < bin) (take place hs)
  pub others : All (λ h. bin ≤ h.bin) (drop place hs)
  pub inside : place < length hs
  pub within : place < length bs

pub placed : (key bin place : ℕ) (hs : List Row) (bs : List Block) → Held 0 0 hs bs → key ≡ bin → IsPlace row_bin key hs place → bin < 2 ^ 32 → IsPlaced bin place hs bs
placed key bin place hs bs held is found fits =
    let at : IsPlace row_bin bin hs place = subst (λ k. IsPlace row_bin k hs place) is found in
    let inside : place < length hs = place_inside 0 0 place bin hs bs held at.lesser at.within fits (omega arith) in
    let same : length hs ≡ length bs = held_len 0 0 hs bs held in
    record { lesser = at.lesser; others = at.others; inside = inside; within = omega arith }

pub counts_from-flat : (before : ℕ) (bs : List Block) → counts_from before (flat before bs) ≡ parts bs
counts_from-flat before [] = refl
counts_from-flat before (b ∷ bs) =
    let up : last_total before (map (raised before) b.items) ≡ before + last_total 0 b.items = last_total-raised before before 0 b.items (omega arith) ∙ omega arith in
    counts_from-append before (map (raised before) b.items) (flat (before + last_total 0 b.items) bs)
    ∙ ap (λ zs. zs ++ counts_from (last_total before (map (raised before) b.items)) (flat (before + last_total 0 b.items) bs)) (counts_from-raised before before 0 b.items (omega arith))
    ∙ ap (λ k. counts_from 0 b.items ++ counts_from k (flat (before + last_total 0 b.items) bs)) up
    ∙ ap (λ zs. counts_from 0 b.items ++ zs) (counts_from-flat (before + last_total 0 b.items) bs)

pub Rise-flat : (least before : ℕ) (hs : List Row) (bs : List Block) → Held least before hs bs → Rise least before (flat before bs)
Rise-flat least before hs [] held = tt
Rise-flat least before [] (b ∷ bs) held = absurd held
Rise-flat least before (h ∷ hs) (b ∷ bs) held =
    let up : last_total before (map (raised before) b.items) ≡ h.total = last_total-raised before before 0 b.items (omega arith) ∙ omega (arith, held.0.total) in
    let rest : Rise (h.bin + 1) (last_total before (map (raised before) b.items)) (flat (before + last_total 0 b.items) bs) =
    subst (λ k. Rise (h.bin + 1) k (flat (before + last_total 0 b.items) bs)) (sym up)
    (subst (λ k. Rise (h.bin + 1) h.total (flat k bs)) held.0.total (Rise-flat (h.bin + 1) h.total hs bs held.1)) in
    Rise-append least before h.bin (map (raised before) b.items) (flat (before + last_total 0 b.items) bs)
    (Rise-raised before least before 0 b.items (omega arith) held.0.rise)
    (All-raised before h.bin b.items held.0.within)
    (omega (arith, held.0.bins))
    rest

pub last_total-flat : (least before : ℕ) (hs : List Row) (bs : List Block) → Held least before hs bs → last_total before (flat before bs) ≡ last_total before hs
last_total-flat least before [] [] held = refl
last_total-flat least before [] (b ∷ bs) held = absurd held
last_total-flat least before (h ∷ hs) [] held = absurd held
last_total-flat least before (h ∷ hs) (b ∷ bs) held =
    let up : last_total before (map (raised before) b.items) ≡ before + last_total 0 b.items = last_total-raised before before 0 b.items (omega arith) ∙ omega arith in
    last_total-append before (map (raised before) b.items) (flat (before + last_total 0 b.items) bs)
    ∙ ap (λ k. last_total k (flat (before + last_total 0 b.items) bs)) up
    ∙ ap (λ k. last_total k (flat k bs)) (sym held.0.total)
    ∙ last_total-flat (h.bin + 1) h.total hs bs held.1

-- a bin more in an amount of blocks

pub Held-raised : (n least from before : ℕ) (hs : List Row) (bs : List Block) → Held least before hs bs → from ≡ before + n → Held least from (map (raised n) hs) bs
Held-raised n least from before [] [] held is = held
Held-raised n least from before [] (b ∷ bs) held is = held
Held-raised n least from before (h ∷ hs) [] held is = held
Held-raised n least from before (h ∷ hs) (b ∷ bs) held is = (
  record { rise = held.0.rise; within = held.0.within; bins = held.0.bins; some = held.0.some; total = omega (arith, held.0.total) },
  Held-raised n (h.bin + 1) (h.total + n) h.total hs bs held.1 refl,
)

pub Held-lowered : (n least from before : ℕ) (hs : List Row) (bs : List Block) → Held least from hs bs → from ≡ before + n → Held least before (map (lowered n) hs) bs
Held-lowered n least from before [] [] held is = held
Held-lowered n least from before [] (b ∷ bs) held is = held
Held-lowered n least from before (h ∷ hs) [] held is = held
Held-lowered n least from before (h ∷ hs) (b ∷ bs) held is = (
  record { rise = held.0.rise; within = held.0.within; bins = held.0.bins; some = held.0.some; total = omega (arith, held.0.total) },
  Held-lowered n (h.bin + 1) h.total (h.total - n) hs bs held.1 (omega (arith, held.0.total)),
)

pub Held-added : (least before bin n p : ℕ) (hs : List Row) (bs : List Block) (b b' : Block) → Held least before hs bs → least ≤ bin → All (λ h. h.bin < bin) (take p hs) → All (λ h. bin ≤ h.bin) (drop p hs) → p < length hs → b ≡ get_or bs p b → b'.items ≡ added 0 bin n b.items → 0 < n → Held least before (take p hs ++ map (raised n) (drop p hs)) (set bs p b')
Held-added least before bin n p [] bs b b' held le lesser others within read is some = absurd (omega arith)
Held-added least before bin n p (h ∷ hs) [] b b' held le lesser others within read is some = absurd held
Held-added least before bin n zero (h ∷ hs) (x ∷ bs) b b' held le lesser others within read is some =
    let new : b'.items ≡ added 0 bin n x.items = is ∙ ap (λ (y : Block). added 0 bin n y.items) read in
    let from : bin ≤ h.bin = All-head (λ (h : Row). bin ≤ h.bin) h hs others in
    let total : last_total 0 b'.items ≡ last_total 0 x.items + n = ap (last_total 0) new ∙ last_total-added 0 bin n x.items in (
      record {
        rise = subst (Rise least 0) (sym new) (Rise-added least 0 bin n x.items held.0.rise some le);
        within = subst (All (λ (row : Row). row.bin ≤ h.bin)) (sym new) (All-added 0 bin n h.bin x.items held.0.within from);
        bins = held.0.bins;
        some = omega arith;
        total = omega (arith, held.0.total);
      },
      Held-raised n (h.bin + 1) (h.total + n) h.total hs bs held.1 refl,
    )
Held-added least before bin n (suc p) (h ∷ hs) (x ∷ bs) b b' held le lesser others within read is some =
    let under : h.bin < bin = All-head (λ (h : Row). h.bin < bin) h (take p hs) lesser in
    (held.0, Held-added (h.bin + 1) h.total bin n p hs bs b b' held.1 (omega arith) (All-tail (λ (h : Row). h.bin < bin) h (take p hs) lesser) others (omega arith) read is some)

pub past_parts : (least before bin : ℕ) (hs : List Row) (bs : List Block) → Held least before hs bs → bin < least → All (λ (e : ℕ × ℕ). bin < e.0) (parts bs)
past_parts least before bin hs [] held under = All-nil (λ (e : ℕ × ℕ). bin < e.0)
past_parts least before bin [] (b ∷ bs) held under = absurd held
past_parts least before bin (h ∷ hs) (b ∷ bs) held under =
    All-append (λ (e : ℕ × ℕ). bin < e.0) (counts_from 0 b.items) (parts bs)
    (past_entries bin 0 b.items (all_past least 0 bin b.items held.0.rise under))
    (past_parts (h.bin + 1) h.total bin hs bs held.1 (omega (arith, held.0.bins)))

pub below_entries : (bin top before : ℕ) (rows : List Row) → All (λ r. r.bin ≤ top) rows → top < bin → All (λ (e : ℕ × ℕ). e.0 < bin) (counts_from before rows)
below_entries bin top before [] all under = All-nil (λ (e : ℕ × ℕ). e.0 < bin)
below_entries bin top before (r ∷ rs) all under =
    let first : r.bin ≤ top = All-head (λ (r : Row). r.bin ≤ top) r rs all in
    All-cons (λ (e : ℕ × ℕ). e.0 < bin) (r.bin, r.total - before) (counts_from r.total rs) (omega arith) (below_entries bin top r.total rs (All-tail (λ (r : Row). r.bin ≤ top) r rs all) under)

pub parts-added : (least before bin n p : ℕ) (hs : List Row) (bs : List Block) (b b' : Block) → Held least before hs bs → All (λ h. h.bin < bin) (take p hs) → All (λ h. bin ≤ h.bin) (drop p hs) → p < length hs → b ≡ get_or bs p b → b'.items ≡ added 0 bin n b.items → parts (set bs p b') ≡ more bin n (parts bs)
parts-added least before bin n p [] bs b b' held lesser others within read is = absurd (omega arith)
parts-added least before bin n p (h ∷ hs) [] b b' held lesser others within read is = absurd held
parts-added least before bin n zero (h ∷ hs) (x ∷ bs) b b' held lesser others within read is =
    let new : b'.items ≡ added 0 bin n x.items = is ∙ ap (λ (y : Block). added 0 bin n y.items) read in
    let from : bin ≤ h.bin = All-head (λ (h : Row). bin ≤ h.bin) h hs others in
    ap (λ zs. counts_from 0 zs ++ parts bs) new
    ∙ ap (λ zs. zs ++ parts bs) (counts_from-added least 0 bin n x.items held.0.rise)
    ∙ sym (more_front bin n (counts_from 0 x.items) (parts bs) (past_parts (h.bin + 1) h.total bin hs bs held.1 (omega arith)))
parts-added least before bin n (suc p) (h ∷ hs) (x ∷ bs) b b' held lesser others within read is =
    let under : h.bin < bin = All-head (λ (h : Row). h.bin < bin) h (take p hs) lesser in
    ap (λ zs. counts_from 0 x.items ++ zs) (parts-added (h.bin + 1) h.total bin n p hs bs b b' held.1 (All-tail (λ (h : Row). h.bin < bin) h (take p hs) lesser) others (omega arith) read is)
    ∙ sym (more_over bin n (counts_from 0 x.items) (parts bs) (below_entries bin h.bin 0 x.items held.0.within under))

-- a bin less

pub count_in : (least before bin p : ℕ) (hs : List Row) (bs : List Block) (b : Block) → Held least before hs bs → All (λ h. h.bin < bin) (take p hs) → All (λ h. bin ≤ h.bin) (drop p hs) → p < length hs → b ≡ get_or bs p b → count_at bin (parts bs) ≡ count_at bin (counts_from 0 b.items)
count_in least before bin p [] bs b held lesser others within read = absurd (omega arith)
count_in least before bin p (h ∷ hs) [] b held lesser others within read = absurd held
count_in least before bin zero (h ∷ hs) (x ∷ bs) b held lesser others within read =
    let from : bin ≤ h.bin = All-head (λ (h : Row). bin ≤ h.bin) h hs others in
    count_front bin (counts_from 0 x.items) (parts bs) (past_parts (h.bin + 1) h.total bin hs bs held.1 (omega arith))
    ∙ ap (λ (y : Block). count_at bin (counts_from 0 y.items)) (sym read)
count_in least before bin (suc p) (h ∷ hs) (x ∷ bs) b held lesser others within read =
    let under : h.bin < bin = All-head (λ (h : Row). h.bin < bin) h (take p hs) lesser in
    count_over bin (counts_from 0 x.items) (parts bs) (below_entries bin h.bin 0 x.items held.0.within under)
    ∙ count_in (h.bin + 1) h.total bin p hs bs b held.1 (All-tail (λ (h : Row). h.bin < bin) h (take p hs) lesser) others (omega arith) read

pub Held-taken : (least before bin n p : ℕ) (hs : List Row) (bs : List Block) (b b' : Block) → Held least before hs bs → All (λ h. h.bin < bin) (take p hs) → p < length hs → b ≡ get_or bs p b → b'.items ≡ taken 0 bin n b.items → 0 < n → n ≤ count_at bin (counts_from 0 b.items) → 1 < length b.items → Held least before (take p hs ++ map (lowered n) (drop p hs)) (set bs p b')
Held-taken least before bin n p [] bs b b' held lesser within read is some there long = absurd (omega arith)
Held-taken least before bin n p (h ∷ hs) [] b b' held lesser within read is some there long = absurd held
Held-taken least before bin n zero (h ∷ hs) (x ∷ bs) b b' held lesser within read is some there long =
    let new : b'.items ≡ taken 0 bin n x.items = is ∙ ap (λ (y : Block). taken 0 bin n y.items) read in
    let there' : n ≤ count_at bin (counts_from 0 x.items) = subst (λ (y : Block). n ≤ count_at bin (counts_from 0 y.items)) read there in
    let long' : 1 < length x.items = subst (λ (y : Block). 1 < length y.items) read long in
    let rise : Rise least 0 (taken 0 bin n x.items) = Rise-taken least 0 bin n x.items held.0.rise some there' in
    let total : last_total 0 b'.items + n ≡ last_total 0 x.items = ap (λ zs. last_total 0 zs + n) new ∙ last_total-taken least 0 bin n x.items held.0.rise some there' in
    let left = length-taken least 0 bin n x.items held.0.rise some there' in
    let same : last_total 0 b'.items ≡ last_total 0 (taken 0 bin n x.items) = ap (last_total 0) new in (
      record {
        rise = subst (Rise least 0) (sym new) rise;
        within = subst (All (λ (row : Row). row.bin ≤ h.bin)) (sym new) (All-taken least 0 bin n h.bin x.items held.0.rise some there' held.0.within);
        bins = held.0.bins;
        some = omega (arith, left.most, length-le-total least 0 (taken 0 bin n x.items) rise);
        total = omega (arith, held.0.total);
      },
      Held-lowered n (h.bin + 1) h.total (h.total - n) hs bs held.1 (omega (arith, held.0.total)),
    )
Held-taken least before bin n (suc p) (h ∷ hs) (x ∷ bs) b b' held lesser within read is some there long =
    (held.0, Held-taken (h.bin + 1) h.total bin n p hs bs b b' held.1 (All-tail (λ (h : Row). h.bin < bin) h (take p hs) lesser) (omega arith) read is some there long)

pub parts-taken : (least before bin n p : ℕ) (hs : List Row) (bs : List Block) (b b' : Block) → Held least before hs bs → All (λ h. h.bin < bin) (take p hs) → All (λ h. bin ≤ h.bin) (drop p hs) → p < length hs → b ≡ get_or bs p b → b'.items ≡ taken 0 bin n b.items → 0 < n → n ≤ count_at bin (counts_from 0 b.items) → parts (set bs p b') ≡ less bin n (parts bs)
parts-taken least before bin n p [] bs b b' held lesser others within read is some there = absurd (omega arith)
parts-taken least before bin n p (h ∷ hs) [] b b' held lesser others within read is some there = absurd held
parts-taken least before bin n zero (h ∷ hs) (x ∷ bs) b b' held lesser others within read is some there =
    let new : b'.items ≡ taken 0 bin n x.items = is ∙ ap (λ (y : Block). taken 0 bin n y.items) read in
    let there' : n ≤ count_at bin (counts_from 0 x.items) = subst (λ (y : Block). n ≤ count_at bin (counts_from 0 y.items)) read there in
    let from : bin ≤ h.bin = All-head (λ (h : Row). bin ≤ h.bin) h hs others in
    ap (λ zs. counts_from 0 zs ++ parts bs) new
    ∙ ap (λ zs. zs ++ parts bs) (counts_from-taken least 0 bin n x.items held.0.rise some there')
    ∙ sym (less_front bin n (counts_from 0 x.items) (parts bs) (past_parts (h.bin + 1) h.total bin hs bs held.1 (omega arith)))
parts-taken least before bin n (suc p) (h ∷ hs) (x ∷ bs) b b' held lesser others within read is some there =
    let under : h.bin < bin = All-head (λ (h : Row). h.bin < bin) h (take p hs) lesser in
    ap (λ zs. counts_from 0 x.items ++ zs) (parts-taken (h.bin + 1) h.total bin n p hs bs b b' held.1 (All-tail (λ (h : Row). h.bin < bin) h (take p hs) lesser) others (omega arith) read is some there)
    ∙ sym (less_over bin n (counts_from 0 x.items) (parts bs) (below_entries bin h.bin 0 x.items held.0.within under))

-- the heads' totals

pub last_total-raised_from : (n before p : ℕ) (hs : List Row) → p < length hs → last_total before (take p hs ++ map (raised n) (drop p hs)) ≡ last_total before hs + n
last_total-raised_from n before p [] within = absurd (omega arith)
last_total-raised_from n before zero (h ∷ hs) within = last_total-raised n (h.total + n) h.total hs refl
last_total-raised_from n before (suc p) (h ∷ hs) within = last_total-raised_from n h.total p hs (omega arith)

pub lower_fits : (least before n p : ℕ) (hs : List Row) (bs : List Block) (b : Block) → Held least before hs bs → p < length hs → b ≡ get_or bs p b → n ≤ last_total 0 b.items → All (λ h. n ≤ h.total) (drop p hs)
lower_fits least before n p [] bs b held within read le = absurd (omega arith)
lower_fits least before n p (h ∷ hs) [] b held within read le = absurd held
lower_fits least before n zero (h ∷ hs) (x ∷ bs) b held within read le =
    let same : last_total 0 b.items ≡ last_total 0 x.items = ap (λ (y : Block). last_total 0 y.items) read in
    let up : n ≤ h.total = omega (arith, held.0.total) in
    All-cons (λ (h : Row). n ≤ h.total) h hs up (totals_past (h.bin + 1) h.total n hs (Rise-heads (h.bin + 1) h.total hs bs held.1) up)
lower_fits least before n (suc p) (h ∷ hs) (x ∷ bs) b held within read le = lower_fits (h.bin + 1) h.total n p hs bs b held.1 (omega arith) read le

pub last_total-insert : (before q : ℕ) (hs : List Row) (row : Row) → q < length hs → last_total before (insert hs q row) ≡ last_total before hs
last_total-insert before q [] row within = absurd (omega arith)
last_total-insert before zero (h ∷ hs) row within = refl
last_total-insert before (suc q) (h ∷ hs) row within = last_total-insert h.total q hs row (omega arith)

pub last_total-remove : (before q : ℕ) (hs : List Row) → suc q < length hs → last_total before (remove hs q) ≡ last_total before hs
last_total-remove before q [] within = absurd (omega arith)
last_total-remove before zero (h ∷ []) within = absurd (omega arith)
last_total-remove before zero (h ∷ g ∷ hs) within = refl
last_total-remove before (suc q) (h ∷ hs) within = last_total-remove h.total q hs (omega arith)

-- two blocks, of which one is in hand

pub Held-all_left : (least before q : ℕ) (hs : List Row) (bs : List Block) (left left' right : Block) → Held least before hs (in_hand q right bs) → q < length bs → left ≡ get_or bs q left → left'.items ≡ one_list left.items right.items → Held least before hs (set bs q left')
Held-all_left least before q hs [] left left' right held within read is = absurd (omega arith)
Held-all_left least before zero [] (x ∷ bs) left left' right held within read is = absurd held
Held-all_left least before (suc q) [] (x ∷ bs) left left' right held within read is = absurd held
Held-all_left least before zero (h ∷ hs) (x ∷ bs) left left' right held within read is =
    let new : left'.items ≡ one_list x.items right.items = is ∙ ap (λ (y : Block). one_list y.items right.items) read in
    (subst (IsHead least before h) (sym new) held.0, held.1)
Held-all_left least before (suc q) (h ∷ hs) (x ∷ bs) left left' right held within read is =
    (held.0, Held-all_left (h.bin + 1) h.total q hs bs left left' right held.1 (omega arith) read is)

pub parts-all_left : (q : ℕ) (bs : List Block) (left left' right : Block) → q < length bs → left ≡ get_or bs q left → left'.items ≡ one_list left.items right.items → parts (set bs q left') ≡ parts (in_hand q right bs)
parts-all_left q [] left left' right within read is = absurd (omega arith)
parts-all_left zero (x ∷ bs) left left' right within read is =
    ap (λ zs. counts_from 0 zs ++ parts bs) (is ∙ ap (λ (y : Block). one_list y.items right.items) read)
parts-all_left (suc q) (x ∷ bs) left left' right within read is =
    ap (λ zs. counts_from 0 x.items ++ zs) (parts-all_left q bs left left' right (omega arith) read is)

pub AllSized-set : (n q : ℕ) (bs : List Block) (b : Block) → SizedBut n q bs → IsSized b → AllSized (set bs q b)
AllSized-set n q [] b sized is = absurd sized
AllSized-set n zero (x ∷ bs) b sized is = (is, sized.1)
AllSized-set n (suc q) (x ∷ bs) b sized is = (sized.0, AllSized-set n q bs b sized.1 is)

-- the two blocks after rows were moved between them, and the head between them
pub record IsParted (left right left' right' : List Row) (head row : Row) : Type 0 where
  pub same : one_list left' right' ≡ one_list left right
  pub some_left : 0 < length left'
  pub some_right : 0 < length right'
  pub bin : (least : ℕ) → row.bin + 1 ≡ bin_after least left'
  pub total : row.total + last_total 0 right' ≡ head.total

unraised_within : (n top : ℕ) (l r : List Row) → All (λ row. row.bin ≤ top) (l ++ map (raised n) r) → All (λ row. row.bin ≤ top) r
unraised_within n top [] [] all = All-nil (λ (row : Row). row.bin ≤ top)
unraised_within n top [] (x ∷ r) all =
    All-cons (λ (row : Row). row.bin ≤ top) x r (All-head (λ (row : Row). row.bin ≤ top) (raised n x) (map (raised n) r) all) (unraised_within n top [] r (All-tail (λ (row : Row). row.bin ≤ top) (raised n x) (map (raised n) r) all))
unraised_within n top (x ∷ l) r all = unraised_within n top l r (All-tail (λ (row : Row). row.bin ≤ top) x (l ++ map (raised n) r) all)

first_within : (least from top : ℕ) (rows : List Row) → Rise least 0 rows → All (λ row. row.bin ≤ top) rows → 0 < length rows → from ≡ least → from ≤ top
first_within least from top [] rise all some is = absurd (omega arith)
first_within least from top (r ∷ rs) rise all some is =
    let first : least ≤ r.bin = rise.0 in
    let within : r.bin ≤ top = All-head (λ (row : Row). row.bin ≤ top) r rs all in
    omega arith

parted_head : (least before : ℕ) (h row : Row) (l r l' r' : List Row) → IsHead least before h (one_list l r) → IsParted l r l' r' h row → IsHead least before row l' × IsHead (row.bin + 1) row.total h r'
parted_head least before h row l r l' r' head is =
    let rise : Rise least 0 (one_list l' r') = subst (Rise least 0) (sym is.same) head.rise in
    let left : Rise least 0 l' = one_list-left least l' r' rise in
    let right : Rise (bin_after least l') 0 r' = one_list-right least l' r' rise in
    let bin : row.bin + 1 ≡ bin_after least l' = is.bin least in
    let within : All (λ row. row.bin ≤ h.bin) (one_list l' r') = subst (All (λ (row : Row). row.bin ≤ h.bin)) (sym is.same) head.within in
    let within_right : All (λ row. row.bin ≤ h.bin) r' = unraised_within (last_total 0 l') h.bin l' r' within in
    let sum : last_total 0 (one_list l r) ≡ last_total 0 l' + last_total 0 r' = ap (last_total 0) (sym is.same) ∙ last_total-one_list l' r' in (
      record {
        rise = left;
        within = All-weaker (λ (r : Row). r.bin < bin_after least l') (λ (r : Row). r.bin ≤ row.bin) (λ (r : Row) (under : r.bin < bin_after least l'). omega arith) l' (All-bin_after least 0 l' left);
        bins = omega (arith, bin_after-lt least 0 l' left is.some_left);
        some = omega (arith, length-le-total least 0 l' left, is.some_left);
        total = omega (arith, head.total, is.total);
      },
      record {
        rise = subst (λ k. Rise k 0 r') (sym bin) right;
        within = within_right;
        bins = first_within (bin_after least l') (row.bin + 1) h.bin r' right within_right is.some_right bin;
        some = omega (arith, length-le-total (bin_after least l') 0 r' right, is.some_right);
        total = sym is.total;
      },
    )

pub Held-parted : (least before q : ℕ) (hs : List Row) (bs : List Block) (left right left' right' : Block) (head row : Row) → Held least before hs (in_hand q right bs) → q < length bs → left ≡ get_or bs q left → head ≡ get_or hs q head → IsParted left.items right.items left'.items right'.items head row → Held least before (insert hs q row) (insert (set bs q left') (suc q) right')
Held-parted least before q hs [] left right left' right' head row held within read read' is = absurd (omega arith)
Held-parted least before zero [] (x ∷ bs) left right left' right' head row held within read read' is = absurd held
Held-parted least before (suc q) [] (x ∷ bs) left right left' right' head row held within read read' is = absurd held
Held-parted least before zero (h ∷ hs) (x ∷ bs) left right left' right' head row held within read read' is =
    let two = parted_head least before h row x.items right.items left'.items right'.items held.0
    (subst (λ (y : Row). IsParted x.items right.items left'.items right'.items y row) read' (subst (λ (y : Block). IsParted y.items right.items left'.items right'.items head row) read is)) in
    (two.0, (two.1, held.1))
Held-parted least before (suc q) (h ∷ hs) (x ∷ bs) left right left' right' head row held within read read' is =
    (held.0, Held-parted (h.bin + 1) h.total q hs bs left right left' right' head row held.1 (omega arith) read read' is)

pub parts-parted : (q : ℕ) (bs : List Block) (left right left' right' : Block) → q < length bs → left ≡ get_or bs q left → one_list left'.items right'.items ≡ one_list left.items right.items → parts (insert (set bs q left') (suc q) right') ≡ parts (in_hand q right bs)
parts-parted q [] left right left' right' within read same = absurd (omega arith)
parts-parted zero (x ∷ bs) left right left' right' within read same =
    sym (append_assoc (counts_from 0 left'.items) (counts_from 0 right'.items) (parts bs))
    ∙ ap (λ zs. zs ++ parts bs) (sym (counts_from-one_list left'.items right'.items))
    ∙ ap (λ zs. counts_from 0 zs ++ parts bs) (same ∙ ap (λ (y : Block). one_list y.items right.items) read)
parts-parted (suc q) (x ∷ bs) left right left' right' within read same =
    ap (λ zs. counts_from 0 x.items ++ zs) (parts-parted q bs left right left' right' (omega arith) read same)

pub AllSized-parted : (n q : ℕ) (bs : List Block) (left right : Block) → SizedBut n q bs → IsSized left → IsSized right → AllSized (insert (set bs q left) (suc q) right)
AllSized-parted n q [] left right sized is is' = absurd sized
AllSized-parted n zero (x ∷ bs) left right sized is is' = (is, (is', sized.1))
AllSized-parted n (suc q) (x ∷ bs) left right sized is is' = (sized.0, AllSized-parted n q bs left right sized.1 is is')

last_total-lowered_le : (n before from : ℕ) (hs : List Row) → before ≤ from → last_total before (map (lowered n) hs) ≤ last_total from hs
last_total-lowered_le n before from [] le = le
last_total-lowered_le n before from (h ∷ hs) le = last_total-lowered_le n (h.total - n) h.total hs (omega arith)

pub total-taken_from : (n before p : ℕ) (hs : List Row) → last_total before (take p hs ++ map (lowered n) (drop p hs)) ≤ last_total before hs
total-taken_from n before zero hs = last_total-lowered_le n before before hs (omega arith)
total-taken_from n before (suc p) [] = omega arith
total-taken_from n before (suc p) (h ∷ hs) = total-taken_from n h.total p hs

pub set_within : (p : ℕ) (bs : List Block) (b : Block) → p < length bs → p < length (set bs p b)
set_within p bs b within = subst (λ k. p < k) (sym (length-set bs p b)) within

pub head_total_at : (least before p : ℕ) (hs : List Row) (bs : List Block) (b : Block) (h : Row) → Held least before hs bs → p < length hs → b ≡ get_or bs p b → h ≡ get_or hs p h → last_total 0 b.items ≤ h.total
head_total_at least before p [] bs b h held within read read' = absurd (omega arith)
head_total_at least before p (g ∷ hs) [] b h held within read read' = absurd held
head_total_at least before zero (g ∷ hs) (x ∷ bs) b h held within read read' =
    let same : last_total 0 b.items ≡ last_total 0 x.items = ap (λ (y : Block). last_total 0 y.items) read in
    let same' : h.total ≡ g.total = ap (λ (y : Row). y.total) read' in
    omega (arith, held.0.total)
head_total_at least before (suc p) (g ∷ hs) (x ∷ bs) b h held within read read' = head_total_at (g.bin + 1) g.total p hs bs b h held.1 (omega arith) read read'
