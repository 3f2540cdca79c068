-- Laws of totals that are told at ends that rise by equal steps.
use Rattle.std.proofs.Common.{◌≡◌, ℕ, zero, suc, ◌+◌, ◌-◌, ◌*◌, ◌^◌, ◌<◌, ◌≤◌, min, Bool, true, false, MatchBool, List, [], ◌∷◌, length, take, drop, map, set, get_or, All, refl, sym, ap, subst, inl, inr, ◌∙◌, arith, add-one, sum_by, below_more, get_or-set_other, get_or-set_same}
use Rattle.std.proofs.Math.Nat.{mul-le-mul_left}
use Rattle.std.specs.List.{range_with_len}
use Rattle.std.proofs.lemmas.Bool.{cases_lt}
use Rattle.std.proofs.lemmas.List.{length-append, length-map, length-set, take_all, drop_all, get_or-drop, length-drop}
use Rattle.std.proofs.lemmas.List.Elements.{All-nil, All-cons, All-head, All-tail, All-weaker, All-more, All-map, All-append}
use Rattle.std.proofs.lemmas.List.FromFn.{fill_by_all}
use Rattle.std.proofs.lemmas.List.Sums.{sum_by-cons, sum_by_more_le}
use Rattle.probe_core.specs.Bits.{bits}
use Rattle.probe_core.specs.Places.{IsPlace}
use Rattle.time_table.specs.declared.row.Row.{Row}
use Rattle.time_table.specs.declared.series.Ends.{Ends}
use Rattle.time_table.specs.Counts.{count_before}
use Rattle.time_table.specs.Totals.{Rise, counts, last_total, bin_after, raised, row_bin}
use Rattle.time_table.specs.Blocks.{Block, Held, AreLast, flat}
use Rattle.time_table.specs.Series.{each_cost, HaveRoom, AreTold, GoOn}
use Rattle.time_table.proofs.RowPlaces.{all_at_least}
use Rattle.time_table.proofs.BlockRows.{Rise-heads, Rise-flat, last_total-flat}
use Rattle.time_table.proofs.RowCounts.{count_before-counts}
use Rattle.time_table.proofs.BlockCounts.{count_before-blocks}

-- An end more

distribute : (k wide : ℕ) → (k + 1) * wide ≡ wide + k * wide
distribute k wide = omega arith

-- what the ends that are left take, with the next one alone
pub left_one : (n done wide : ℕ) → done < n → (n - done) * wide ≡ wide + (n - (done + 1)) * wide
left_one n done wide less =
    let one : n - done ≡ (n - (done + 1)) + 1 = omega arith in
    ap (λ m. m * wide) one ∙ distribute (n - (done + 1)) wide

-- the ends after the next one
abbrev pub after_end : Ends → Ends
after_end ends = record { done = ends.done + 1; end = ends.end + ends.wide; wide = ends.wide }

pub room_more : (ends : Ends) (totals : List ℕ) (total : ℕ) → HaveRoom ends totals → ends.done < length totals → HaveRoom (after_end ends) (set totals ends.done total)
room_more ends totals total room less =
    let same : length (set totals ends.done total) ≡ length totals = length-set totals ends.done total in
    let one = left_one (length totals) ends.done ends.wide less in
    let rest : (length (set totals ends.done total) - (ends.done + 1)) * ends.wide ≡ (length totals - (ends.done + 1)) * ends.wide = ap (λ n. (n - (ends.done + 1)) * ends.wide) same in
    record { within = omega (arith, same); small = omega (arith, room.small, one, rest) }

pub told_more : (f : ℕ → ℕ) (from total : ℕ) (ends : Ends) (totals : List ℕ) → AreTold f from ends totals → ends.done < length totals → f ends.end ≡ total → AreTold f from (after_end ends) (set totals ends.done total)
told_more f from total ends totals T less is = record {
  next = let next = T.next in omega (arith, next);
  told =
      below_more (λ k. get_or (set totals ends.done total) k 0 ≡ f (from + k * ends.wide)) ends.done
      (λ k under. get_or-set_other totals ends.done k total 0 (λ (e : k ≡ ends.done). omega (arith, e, under)) ∙ T.told k under)
      (get_or-set_same totals ends.done total 0 less ∙ sym is ∙ ap f T.next);
}

-- the ends are where they were
pub stays : (ends : Ends) (totals : List ℕ) → HaveRoom ends totals → GoOn ends ends totals totals
stays ends totals room = record { room = room; wide = refl; done = omega arith; end = omega arith; count = refl }

-- the ends go on in two parts
pub goes_on : (e e1 e2 : Ends) (xs xs1 xs2 : List ℕ) → GoOn e e1 xs xs1 → GoOn e1 e2 xs1 xs2 → GoOn e e2 xs xs2
goes_on e e1 e2 xs xs1 xs2 a b = record {
  room = b.room;
  wide = b.wide ∙ a.wide;
  done = let x = a.done in let y = b.done in omega (arith, x, y);
  end = let x = a.end in let y = b.end in omega (arith, x, y);
  count = b.count ∙ a.count;
}

-- no total is told yet
pub none_told : (f : ℕ → ℕ) (from wide : ℕ) (totals : List ℕ) → AreTold f from (record { done = 0; end = from; wide = wide }) totals
none_told f from wide totals = record { next = omega arith; told = λ k under. absurd (omega (arith, under)) }

pub room_for : (from wide : ℕ) (totals : List ℕ) → from + wide * length totals < 2 ^ 64 → HaveRoom (record { done = 0; end = from; wide = wide }) totals
room_for from wide totals small =
    let none : length totals - 0 ≡ length totals = omega arith in
    let all : (length totals - 0) * wide ≡ length totals * wide = ap (λ n. n * wide) none in
    record { within = omega arith; small = omega (arith, small, all) }

-- all totals are told
pub all_told : (f : ℕ → ℕ) (from wide n : ℕ) (ends : Ends) (totals : List ℕ) → AreTold f from ends totals → ends.wide ≡ wide → length totals ≡ n → n ≤ ends.done → totals ≡ map (λ k. f (from + k * wide)) (range_with_len 0 n)
all_told f from wide n ends totals T is long done =
    fill_by_all (λ k. f (from + k * wide)) totals n 0 long (λ k under. T.told k (omega (arith, under, done)) ∙ ap (λ w. f (from + k * w)) is)

-- past the last number of 64 bits no end is left
pub none_left : (ends : Ends) (totals : List ℕ) → HaveRoom ends totals → (ends.done < length totals → 2 ^ 64 - 1 < ends.end) → length totals ≤ ends.done
none_left ends totals room past =
    elim (cases_lt ends.done (length totals)) [
      | inl under ↦ absurd (let late = past under in let small = room.small in omega (arith, late, small))
      | inr over ↦ over
    ]

-- Rows

-- the rows from one of a late bin on are late
pub late_from : (least before i e : ℕ) (rows : List Row) (row : Row) → Rise least before rows → i < length rows → row ≡ get_or rows i row → e ≤ row.bin → All (λ r. e ≤ r.bin) (drop i rows)
late_from least before i e [] row rise within read late = absurd (omega arith)
late_from least before zero e (r ∷ rs) row rise within read late =
    let same : row.bin ≡ r.bin = ap (λ (x : Row). x.bin) read in
    All-cons (λ (x : Row). e ≤ x.bin) r rs (omega arith) (all_at_least (r.bin + 1) r.total rs e rise.2 (omega arith))
late_from least before (suc i) e (r ∷ rs) row rise within read late = late_from (r.bin + 1) r.total i e rs row rise.2 (omega arith) read late

pub is_place : (i end e : ℕ) (rows : List Row) (row : Row) → Rise 0 0 rows → i < length rows → row ≡ get_or rows i row → All (λ r. r.bin < end) (take i rows) → end ≤ e → e ≤ row.bin → IsPlace row_bin e rows i
is_place i end e rows row rise within read past from late = record {
  within = omega arith;
  lesser = All-weaker (λ (r : Row). r.bin < end) (λ (r : Row). r.bin < e) (λ (r : Row) (under : r.bin < end). omega arith) (take i rows) past;
  others = late_from 0 0 i e rows row rise within read late;
}

total_at_suc : (before i : ℕ) (rows : List Row) (row : Row) → i < length rows → row ≡ get_or rows i row → row.total ≡ last_total before (take (suc i) rows)
total_at_suc before i [] row within read = absurd (omega arith)
total_at_suc before zero (r ∷ rs) row within read = ap (λ (x : Row). x.total) read
total_at_suc before (suc i) (r ∷ rs) row within read = total_at_suc r.total i rs row (omega arith) read

-- the total of a row is that of the rows up to it
pub total_upto : (before i : ℕ) (rows : List Row) (row : Row) → i < length rows → row ≡ get_or rows i row → row.total ≡ last_total before (take (i + 1) rows)
total_upto before i rows row within read = total_at_suc before i rows row within read ∙ ap (λ k. last_total before (take k rows)) (sym (add-one i))

-- the rows up to one of a lesser bin, where those before it are of lesser bins too
pub past_more : (i end end' : ℕ) (rows : List Row) (row : Row) → i < length rows → row ≡ get_or rows i row → All (λ r. r.bin < end) (take i rows) → end ≤ end' → row.bin < end' → All (λ r. r.bin < end') (take (i + 1) rows)
past_more i end end' rows row within read past on under =
    All-more (λ (r : Row). r.bin < end') rows i row within
    (All-weaker (λ (r : Row). r.bin < end) (λ (r : Row). r.bin < end') (λ (r : Row) (less : r.bin < end). omega arith) (take i rows) past)
    (subst (λ (r : Row). r.bin < end') read under)

-- past all rows the count is the whole
pub count_past : (rows : List Row) (e : ℕ) → Rise 0 0 rows → All (λ r. r.bin < e) rows → count_before (counts rows) e ≡ last_total 0 rows
count_past rows e rise past =
    let whole = take_all (length rows) rows (omega arith) in
    let none = drop_all (length rows) rows (omega arith) in
    sym (count_before-counts rows (length rows) e rise (subst (All (λ (r : Row). r.bin < e)) (sym whole) past) (subst (All (λ (r : Row). e ≤ r.bin)) (sym none) (All-nil (λ (r : Row). e ≤ r.bin)))) ∙ ap (last_total 0) whole

-- Blocks

-- the rows of all blocks are as many as they have together
pub length-flat-sum : (before : ℕ) (bs : List Block) → length (flat before bs) ≡ sum_by (λ b. length b.items) bs
length-flat-sum before [] = refl
length-flat-sum before (b ∷ bs) =
    let rest = length-flat-sum (before + last_total 0 b.items) bs in
    let both = length-append (map (raised before) b.items) (flat (before + last_total 0 b.items) bs) in
    let here = length-map b.items (raised before) in
    let sum = sum_by-cons (λ (x : Block). length x.items) b bs in
    omega (arith, rest, both, here, sum)

-- the rows of the blocks up to one of them are some of all rows
pub rows_within : (bs read : List Block) (k : ℕ) (b : Block) → read ≡ bs → b ≡ get_or read k b → k < length read → sum_by (λ b. length b.items) (take k bs) + length b.items ≤ length (flat 0 bs)
rows_within bs read k b same is within =
    let here = ap (λ (x : Block). length x.items) (is ∙ ap (λ (xs : List Block). get_or xs k b) same) in
    let more = sum_by_more_le (λ (x : Block). length x.items) bs k b (omega (arith, within, ap length same)) in
    omega (arith, length-flat-sum 0 bs, here, more)

-- and the rows of as many blocks as there are, are all rows
pub rows_whole : (bs read : List Block) (k : ℕ) → read ≡ bs → length read ≤ k → sum_by (λ b. length b.items) (take k bs) ≡ length (flat 0 bs)
rows_whole bs read k same all =
    let whole = ap (sum_by (λ (x : Block). length x.items)) (take_all k bs (omega (arith, all, ap length same))) in
    omega (arith, length-flat-sum 0 bs, whole)

-- the heads from that of a block with a late row on are late
pub late_heads : (least before e q i : ℕ) (hs : List Row) (bs : List Block) (b : Block) → Held least before hs bs → q < length hs → b ≡ get_or bs q b → i < length b.items → All (λ r. e ≤ r.bin) (drop i b.items) → All (λ h. e ≤ h.bin) (drop q hs)
late_heads least before e q i [] bs b held within read some late = absurd (omega arith)
late_heads least before e q i (h ∷ hs) [] b held within read some late = absurd held
late_heads least before e zero i (h ∷ hs) (x ∷ bs) b held within read some late =
    let at : All (λ (r : Row). r.bin ≤ h.bin) b.items = subst (λ (y : Block). All (λ (r : Row). r.bin ≤ h.bin) y.items) (sym read) held.0.within in
    let low : (get_or b.items i h).bin ≤ h.bin = at i h some in
    let long = length-drop i b.items in
    let high : e ≤ (get_or (drop i b.items) 0 h).bin = late 0 h (omega (arith, long, some)) in
    let here : get_or (drop i b.items) 0 h ≡ get_or b.items i h = get_or-drop i b.items 0 h ∙ ap (λ k. get_or b.items k h) (omega arith) in
    let same : (get_or (drop i b.items) 0 h).bin ≡ (get_or b.items i h).bin = ap (λ (r : Row). r.bin) here in
    All-cons (λ (h : Row). e ≤ h.bin) h hs (omega (arith, low, high, same)) (all_at_least (h.bin + 1) h.total hs e (Rise-heads (h.bin + 1) h.total hs bs held.1) (omega (arith, low, high, same)))
late_heads least before e (suc q) i (h ∷ hs) (x ∷ bs) b held within read some late = late_heads (h.bin + 1) h.total e q i hs bs b held.1 (omega arith) read some late

heads_total_suc : (least before q : ℕ) (hs : List Row) (bs : List Block) (b : Block) → Held least before hs bs → q < length hs → b ≡ get_or bs q b → last_total before (take (suc q) hs) ≡ last_total before (take q hs) + last_total 0 b.items
heads_total_suc least before q [] bs b held within read = absurd (omega arith)
heads_total_suc least before q (h ∷ hs) [] b held within read = absurd held
heads_total_suc least before zero (h ∷ hs) (x ∷ bs) b held within read = held.0.total ∙ ap (λ (y : Block). before + last_total 0 y.items) (sym read)
heads_total_suc least before (suc q) (h ∷ hs) (x ∷ bs) b held within read = heads_total_suc (h.bin + 1) h.total q hs bs b held.1 (omega arith) read

-- a head more counts the rows of its block more
pub heads_total : (q : ℕ) (hs : List Row) (bs : List Block) (b : Block) → Held 0 0 hs bs → q < length hs → b ≡ get_or bs q b → last_total 0 (take (q + 1) hs) ≡ last_total 0 (take q hs) + last_total 0 b.items
heads_total q hs bs b held within read = ap (λ k. last_total 0 (take k hs)) (add-one q) ∙ heads_total_suc 0 0 q hs bs b held within read

bin_after-under : (least e : ℕ) (rows : List Row) → All (λ r. r.bin < e) rows → least ≤ e → bin_after least rows ≤ e
bin_after-under least e [] all le = le
bin_after-under least e (r ∷ rs) all le =
    let under : r.bin < e = All-head (λ (r : Row). r.bin < e) r rs all in
    bin_after-under (r.bin + 1) e rs (All-tail (λ (r : Row). r.bin < e) r rs all) (omega arith)

past_heads_suc : (least before q e : ℕ) (hs : List Row) (bs : List Block) (b : Block) → Held least before hs bs → AreLast hs bs → suc q < length hs → b ≡ get_or bs q b → All (λ h. h.bin < e) (take q hs) → All (λ r. r.bin < e) b.items → All (λ h. h.bin < e) (take (suc q) hs)
past_heads_suc least before q e [] bs b held last within read heads rows = absurd (omega arith)
past_heads_suc least before q e (h ∷ hs) [] b held last within read heads rows = absurd held
past_heads_suc least before zero e (h ∷ hs) (x ∷ bs) b held last within read heads rows =
    let end : bin_after 0 x.items ≡ h.bin + 1 = last.0 (omega arith) in
    let under : bin_after 0 x.items ≤ e = bin_after-under 0 e x.items (subst (λ (y : Block). All (λ (r : Row). r.bin < e) y.items) read rows) (omega arith) in
    All-cons (λ (h : Row). h.bin < e) h [] (omega arith) (All-nil (λ (h : Row). h.bin < e))
past_heads_suc least before (suc q) e (h ∷ hs) (x ∷ bs) b held last within read heads rows =
    All-cons (λ (h : Row). h.bin < e) h (take (suc q) hs) (All-head (λ (h : Row). h.bin < e) h (take q hs) heads)
    (past_heads_suc (h.bin + 1) h.total q e hs bs b held.1 last.1 (omega arith) read (All-tail (λ (h : Row). h.bin < e) h (take q hs) heads) rows)

-- past the rows of a block that is not the last one its head is past too
pub past_heads : (q e : ℕ) (hs : List Row) (bs : List Block) (b : Block) → Held 0 0 hs bs → AreLast hs bs → q + 1 < length hs → b ≡ get_or bs q b → All (λ h. h.bin < e) (take q hs) → All (λ r. r.bin < e) b.items → All (λ h. h.bin < e) (take (q + 1) hs)
past_heads q e hs bs b held last within read heads rows =
    subst (λ k. All (λ (h : Row). h.bin < e) (take k hs)) (sym (add-one q)) (past_heads_suc 0 0 q e hs bs b held last (omega arith) read heads rows)

raised_past : (before e top : ℕ) (rows : List Row) → All (λ r. r.bin ≤ top) rows → top < e → All (λ r. r.bin < e) (map (raised before) rows)
raised_past before e top rows within under =
    All-map (λ (r : Row). r.bin < e) (raised before) rows (All-weaker (λ (r : Row). r.bin ≤ top) (λ (r : Row). r.bin < e) (λ (r : Row) (le : r.bin ≤ top). omega arith) rows within)

past_flat : (least before q e : ℕ) (hs : List Row) (bs : List Block) (b : Block) → Held least before hs bs → suc q ≡ length hs → b ≡ get_or bs q b → All (λ h. h.bin < e) (take q hs) → All (λ r. r.bin < e) b.items → All (λ r. r.bin < e) (flat before bs)
past_flat least before q e [] bs b held end read heads rows = absurd (omega arith)
past_flat least before q e (h ∷ hs) [] b held end read heads rows = absurd held
past_flat least before zero e (h ∷ []) (x ∷ []) b held end read heads rows =
    All-append (λ (r : Row). r.bin < e) (map (raised before) x.items) []
    (All-map (λ (r : Row). r.bin < e) (raised before) x.items (subst (λ (y : Block). All (λ (r : Row). r.bin < e) y.items) read rows))
    (All-nil (λ (r : Row). r.bin < e))
past_flat least before zero e (h ∷ []) (x ∷ y ∷ bs) b held end read heads rows = absurd held.1
past_flat least before zero e (h ∷ g ∷ hs) (x ∷ bs) b held end read heads rows = absurd (omega arith)
past_flat least before (suc q) e (h ∷ hs) (x ∷ bs) b held end read heads rows =
    let under : h.bin < e = All-head (λ (h : Row). h.bin < e) h (take q hs) heads in
    let same : before + last_total 0 x.items ≡ h.total = sym held.0.total in
    let rest : All (λ (r : Row). r.bin < e) (flat h.total bs) = past_flat (h.bin + 1) h.total q e hs bs b held.1 (omega arith) read (All-tail (λ (h : Row). h.bin < e) h (take q hs) heads) rows in
    All-append (λ (r : Row). r.bin < e) (map (raised before) x.items) (flat (before + last_total 0 x.items) bs)
    (raised_past before e h.bin x.items held.0.within under)
    (subst (λ k. All (λ (r : Row). r.bin < e) (flat k bs)) (sym same) rest)

-- past the rows of the last block the count is the whole
pub blocks_past : (q e : ℕ) (hs : List Row) (bs : List Block) (b : Block) → Held 0 0 hs bs → q + 1 ≡ length hs → b ≡ get_or bs q b → All (λ h. h.bin < e) (take q hs) → All (λ r. r.bin < e) b.items → count_before (counts (flat 0 bs)) e ≡ last_total 0 (take q hs) + last_total 0 b.items
blocks_past q e hs bs b held end read heads rows =
    count_past (flat 0 bs) e (Rise-flat 0 0 hs bs held) (past_flat 0 0 q e hs bs b held (omega arith) read heads rows)
    ∙ last_total-flat 0 0 hs bs held
    ∙ ap (last_total 0) (sym (take_all (q + 1) hs (omega arith)))
    ∙ heads_total q hs bs b held (omega arith) read

-- An end of a row of a block is told by the heads before it and by the rows before it.
pub known_in_block : (q i end e before : ℕ) (hs : List Row) (bs : List Block) (b : Block) → Held 0 0 hs bs → q < length hs → b ≡ get_or bs q b → All (λ h. h.bin < end) (take q hs) → end ≤ e → before ≡ last_total 0 (take q hs) → i < length b.items → IsPlace row_bin e b.items i → count_before (counts (flat 0 bs)) e ≡ before + last_total 0 (take i b.items)
known_in_block q i end e before hs bs b held within read heads from is some place =
    sym (count_before-blocks e q i hs bs b held (All-weaker (λ (h : Row). h.bin < end) (λ (h : Row). h.bin < e) (λ (h : Row) (under : h.bin < end). omega arith) (take q hs) heads) (late_heads 0 0 e q i hs bs b held within read some place.others) within read place.lesser place.others)
    ∙ ap (λ k. k + last_total 0 (take i b.items)) (sym is)

-- the same of rows without blocks
pub rows_known : (e : ℕ) (rows : List Row) → Rise 0 0 rows → (i : ℕ) → i < length rows → IsPlace row_bin e rows i → count_before (counts rows) e ≡ 0 + last_total 0 (take i rows)
rows_known e rows rise i within place = let is = count_before-counts rows i e rise place.lesser place.others in omega (arith, is)

pub rows_past : (end e : ℕ) (rows : List Row) → Rise 0 0 rows → All (λ r. r.bin < end) rows → end ≤ e → count_before (counts rows) e ≡ 0 + last_total 0 rows
rows_past end e rows rise past from =
    let is = count_past rows e rise (All-weaker (λ (r : Row). r.bin < end) (λ (r : Row). r.bin < e) (λ (r : Row) (under : r.bin < end). omega arith) rows past) in
    omega (arith, is)

-- what is past an end is past a later one
pub past_later : (end e : ℕ) (rows : List Row) → end ≤ e → All (λ r. r.bin < end) rows → All (λ r. r.bin < e) rows
past_later end e rows from past = All-weaker (λ (r : Row). r.bin < end) (λ (r : Row). r.bin < e) (λ (r : Row) (under : r.bin < end). omega arith) rows past

-- rows that rise from one bin to another are no more than the bins
rise_few : (least before top : ℕ) (rows : List Row) → Rise least before rows → All (λ r. r.bin ≤ top) rows → least ≤ top + 1 → least + length rows ≤ top + 1
rise_few least before top [] rise within le = omega arith
rise_few least before top (r ∷ rs) rise within le =
    let first : least ≤ r.bin = rise.0 in
    let under : r.bin ≤ top = All-head (λ (r : Row). r.bin ≤ top) r rs within in
    let rest = rise_few (r.bin + 1) r.total top rs rise.2 (All-tail (λ (r : Row). r.bin ≤ top) r rs within) (omega arith) in
    omega (arith, rest)

held_few : (least before : ℕ) (hs : List Row) (bs : List Block) → Held least before hs bs → least + sum_by (λ b. length b.items) bs ≤ 2 ^ 32
held_few least before [] [] held = omega arith
held_few least before [] (x ∷ bs) held = absurd held
held_few least before (h ∷ hs) [] held = absurd held
held_few least before (h ∷ hs) (x ∷ bs) held =
    let bins : least ≤ h.bin = held.0.bins in
    let here = rise_few least 0 h.bin x.items held.0.rise held.0.within (omega arith) in
    let rest = held_few (h.bin + 1) h.total hs bs held.1 in
    let sum = sum_by-cons (λ (b : Block). length b.items) x bs in
    omega (arith, here, rest, sum)

-- blocks have no more rows than there are bins
pub rows_few : (hs : List Row) (bs : List Block) → Held 0 0 hs bs → length (flat 0 bs) ≤ 2 ^ 32
rows_few hs bs held = let few = held_few 0 0 hs bs held in let sum = length-flat-sum 0 bs in omega (arith, few, sum)

-- What is decided by the rows that are counted: whether a pass looks at no more rows than searches do.
pub decided : (b : Bool) (rows cost ends most : ℕ) → 0 < ends → most ≡ min ((ends - 1) * cost) (2 ^ 64 - 1) → rows ≤ 2 ^ 32 → MatchBool b (rows ≤ most) (most < rows) → MatchBool b (cost + rows ≤ ends * cost) (ends * cost ≤ cost + rows)
decided b rows cost ends most some is few match = go b match
  where
    all : ends * cost ≡ cost + (ends - 1) * cost
    all = let one : ends ≡ (ends - 1) + 1 = omega arith in ap (λ n. n * cost) one ∙ distribute (ends - 1) cost

    go : (b : Bool) → MatchBool b (rows ≤ most) (most < rows) → MatchBool b (cost + rows ≤ ends * cost) (ends * cost ≤ cost + rows)
    go true short = omega (arith, all, is, short)
    go false long = omega (arith, all, is, long, few)

-- the less of what searches and a pass take
pub each_cost-pass : (n cost rows new old : ℕ) → new ≤ old + (cost + rows) → cost + rows ≤ n * cost → cost ≤ 1 + bits rows → new ≤ old + each_cost n rows
each_cost-pass n cost rows new old paid short le = let more = mul-le-mul_left n le in omega (arith, paid, short, le, more)

pub each_cost-search : (n cost rows new old : ℕ) → new ≤ old + n * cost → n * cost ≤ cost + rows → cost ≤ 1 + bits rows → new ≤ old + each_cost n rows
each_cost-search n cost rows new old paid long le = let more = mul-le-mul_left n le in omega (arith, paid, long, le, more)
