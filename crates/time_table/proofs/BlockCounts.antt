-- How many records blocks have before an end, and in how many steps that is found.
use Rattle.std.proofs.Common.{◌≡◌, ℕ, zero, suc, ◌+◌, ◌-◌, ◌*◌, ◌/◌, ◌^◌, ◌<◌, ◌≤◌, List, [], ◌∷◌, ◌++◌, length, take, drop, map, get_or, All, refl, sym, ap, subst, inl, inr, ◌∙◌, arith, sum_by}
use Rattle.std.proofs.Math.Nat.{pow-le-pow_right}
use Rattle.std.proofs.lemmas.Bool.{lt-ltb, le-ltb, cases_lt}
use Rattle.std.proofs.lemmas.Grind.{pow_more}
use Rattle.std.proofs.lemmas.Nat.{leading_length}
use lib.Count.{count_leading_zeros}
use Rattle.std.proofs.lemmas.List.{length-append, length-map, take_all}
use Rattle.std.proofs.lemmas.List.Elements.{All-head, All-tail, All-weaker}
use Rattle.std.proofs.lemmas.List.Sums.{sum_by-cons}
use Rattle.probe_core.specs.Bits.{bits}
use Rattle.probe_core.proofs.BitLaws.{below_pow-bits, bits-mono, bits-half, bits-least}
use Rattle.time_table.specs.declared.row.Row.{Row}
use Rattle.time_table.specs.Counts.{count_before}
use Rattle.time_table.specs.Totals.{counts, counts_from, last_total, raised}
use Rattle.time_table.specs.Blocks.{Block, flat, parts, Held, AllSized}
use Rattle.time_table.proofs.RowCounts.{before_end, sum-counts_from, sum-before_end, entries-counts}
use Rattle.time_table.proofs.BlockRows.{counts_from-flat, Rise-flat, past_parts, below_entries}

abbrev before_sum : ℕ → List (ℕ × ℕ) → ℕ
before_sum e es = sum_by (λ (x : ℕ × ℕ). x.1) (before_end e es)

before_over : (e : ℕ) (xs ys : List (ℕ × ℕ)) → All (λ (x : ℕ × ℕ). x.0 < e) xs → before_sum e (xs ++ ys) ≡ sum_by (λ (x : ℕ × ℕ). x.1) xs + before_sum e ys
before_over e [] ys all = omega arith
before_over e (x ∷ xs) ys all =
    rw (lt-ltb x.0 e (All-head (λ (x : ℕ × ℕ). x.0 < e) x xs all))
    (omega (arith, sum_by-cons (λ (x : ℕ × ℕ). x.1) x (before_end e (xs ++ ys)), sum_by-cons (λ (x : ℕ × ℕ). x.1) x xs, before_over e xs ys (All-tail (λ (x : ℕ × ℕ). x.0 < e) x xs all)))

before_none : (e : ℕ) (ys : List (ℕ × ℕ)) → All (λ (x : ℕ × ℕ). e ≤ x.0) ys → before_end e ys ≡ []
before_none e [] all = refl
before_none e (y ∷ ys) all = rw (le-ltb y.0 e (All-head (λ (x : ℕ × ℕ). e ≤ x.0) y ys all)) (before_none e ys (All-tail (λ (x : ℕ × ℕ). e ≤ x.0) y ys all))

before_past : (e : ℕ) (xs ys : List (ℕ × ℕ)) → All (λ (x : ℕ × ℕ). e ≤ x.0) ys → before_end e (xs ++ ys) ≡ before_end e xs
before_past e [] ys all = before_none e ys all
before_past e (x ∷ xs) ys all = rw (before_past e xs ys all)

before_blocks : (least before e p i : ℕ) (hs : List Row) (bs : List Block) (b : Block) → Held least before hs bs → All (λ h. h.bin < e) (take p hs) → All (λ h. e ≤ h.bin) (drop p hs) → p < length hs → b ≡ get_or bs p b → All (λ r. r.bin < e) (take i b.items) → All (λ r. e ≤ r.bin) (drop i b.items) → before + before_sum e (parts bs) ≡ last_total before (take p hs) + last_total 0 (take i b.items)
before_blocks least before e p i [] bs b held lesser others within read lesser' others' = absurd (omega arith)
before_blocks least before e p i (h ∷ hs) [] b held lesser others within read lesser' others' = absurd held
before_blocks least before e zero i (h ∷ hs) (x ∷ bs) b held lesser others within read lesser' others' =
    let from : e ≤ h.bin = All-head (λ (h : Row). e ≤ h.bin) h hs others in
    let past : All (λ (y : ℕ × ℕ). e ≤ y.0) (parts bs) = All-weaker (λ (y : ℕ × ℕ). h.bin < y.0) (λ (y : ℕ × ℕ). e ≤ y.0) (λ (y : ℕ × ℕ) (over : h.bin < y.0). omega arith) (parts bs) (past_parts (h.bin + 1) h.total h.bin hs bs held.1 (omega arith)) in
    let one : before_sum e (counts_from 0 x.items ++ parts bs) ≡ before_sum e (counts_from 0 x.items) = ap (sum_by (λ (x : ℕ × ℕ). x.1)) (before_past e (counts_from 0 x.items) (parts bs) past) in
    let sum : 0 + before_sum e (counts_from 0 x.items) ≡ last_total 0 (take i x.items) = sum-before_end least 0 x.items i e held.0.rise (subst (λ (y : Block). All (λ (r : Row). r.bin < e) (take i y.items)) read lesser') (subst (λ (y : Block). All (λ (r : Row). e ≤ r.bin) (drop i y.items)) read others') in
    let same : last_total 0 (take i b.items) ≡ last_total 0 (take i x.items) = ap (λ (y : Block). last_total 0 (take i y.items)) read in
    omega arith
before_blocks least before e (suc p) i (h ∷ hs) (x ∷ bs) b held lesser others within read lesser' others' =
    let under : h.bin < e = All-head (λ (h : Row). h.bin < e) h (take p hs) lesser in
    let one : before_sum e (counts_from 0 x.items ++ parts bs) ≡ sum_by (λ (x : ℕ × ℕ). x.1) (counts_from 0 x.items) + before_sum e (parts bs) = before_over e (counts_from 0 x.items) (parts bs) (below_entries e h.bin 0 x.items held.0.within under) in
    let sum : 0 + sum_by (λ (x : ℕ × ℕ). x.1) (counts_from 0 x.items) ≡ last_total 0 x.items = sum-counts_from least 0 x.items held.0.rise in
    let rest : h.total + before_sum e (parts bs) ≡ last_total h.total (take p hs) + last_total 0 (take i b.items) = before_blocks (h.bin + 1) h.total e p i hs bs b held.1 (All-tail (λ (h : Row). h.bin < e) h (take p hs) lesser) others (omega arith) read lesser' others' in
    let total : h.total ≡ before + last_total 0 x.items = held.0.total in
    omega arith

before_all : (least before e : ℕ) (hs : List Row) (bs : List Block) → Held least before hs bs → All (λ h. h.bin < e) hs → before + before_sum e (parts bs) ≡ last_total before hs
before_all least before e [] [] held lesser = omega arith
before_all least before e [] (x ∷ bs) held lesser = absurd held
before_all least before e (h ∷ hs) [] held lesser = absurd held
before_all least before e (h ∷ hs) (x ∷ bs) held lesser =
    let under : h.bin < e = All-head (λ (h : Row). h.bin < e) h hs lesser in
    let one : before_sum e (counts_from 0 x.items ++ parts bs) ≡ sum_by (λ (x : ℕ × ℕ). x.1) (counts_from 0 x.items) + before_sum e (parts bs) = before_over e (counts_from 0 x.items) (parts bs) (below_entries e h.bin 0 x.items held.0.within under) in
    let sum : 0 + sum_by (λ (x : ℕ × ℕ). x.1) (counts_from 0 x.items) ≡ last_total 0 x.items = sum-counts_from least 0 x.items held.0.rise in
    let rest : h.total + before_sum e (parts bs) ≡ last_total h.total hs = before_all (h.bin + 1) h.total e hs bs held.1 (All-tail (λ (h : Row). h.bin < e) h hs lesser) in
    let total : h.total ≡ before + last_total 0 x.items = held.0.total in
    omega arith

seen : (e : ℕ) (hs : List Row) (bs : List Block) → Held 0 0 hs bs → count_before (counts (flat 0 bs)) e ≡ before_sum e (parts bs)
seen e hs bs held = ap (before_sum e) (entries-counts (flat 0 bs) (Rise-flat 0 0 hs bs held) ∙ counts_from-flat 0 bs)

pub count_before-blocks : (e p i : ℕ) (hs : List Row) (bs : List Block) (b : Block) → Held 0 0 hs bs → All (λ h. h.bin < e) (take p hs) → All (λ h. e ≤ h.bin) (drop p hs) → p < length hs → b ≡ get_or bs p b → All (λ r. r.bin < e) (take i b.items) → All (λ r. e ≤ r.bin) (drop i b.items) → last_total 0 (take p hs) + last_total 0 (take i b.items) ≡ count_before (counts (flat 0 bs)) e
count_before-blocks e p i hs bs b held lesser others within read lesser' others' =
    omega (arith, before_blocks 0 0 e p i hs bs b held lesser others within read lesser' others', seen e hs bs held)

pub count_before-all : (e p : ℕ) (hs : List Row) (bs : List Block) → Held 0 0 hs bs → All (λ h. h.bin < e) (take p hs) → p ≡ length hs → last_total 0 (take p hs) ≡ count_before (counts (flat 0 bs)) e
count_before-all e p hs bs held lesser is =
    let all : take p hs ≡ hs = take_all p hs (omega arith) in
    let sum : 0 + before_sum e (parts bs) ≡ last_total 0 hs = before_all 0 0 e hs bs held (subst (All (λ (h : Row). h.bin < e)) all lesser) in
    ap (last_total 0) all ∙ sym sum ∙ omega (arith, seen e hs bs held)

pub length-flat : (before : ℕ) (bs : List Block) → AllSized bs → 32 * length bs ≤ length (flat before bs)
length-flat before [] sized = omega arith
length-flat before (b ∷ bs) sized =
    let rest : 32 * length bs ≤ length (flat (before + last_total 0 b.items) bs) = length-flat (before + last_total 0 b.items) bs sized.1 in
    let whole : length (map (raised before) b.items ++ flat (before + last_total 0 b.items) bs) ≡ length b.items + length (flat (before + last_total 0 b.items) bs) = length-append (map (raised before) b.items) (flat (before + last_total 0 b.items) bs) ∙ ap (λ k. k + length (flat (before + last_total 0 b.items) bs)) (length-map b.items (raised before)) in
    omega (arith, sized.0.least)

bits_double : (n : ℕ) → 0 < n → bits n + 1 ≤ bits (2 * n)
bits_double n some =
    let half : bits ((2 * n) / 2) + 1 ≤ bits (2 * n) = bits-half (2 * n) (omega arith) in
    let same : (2 * n) / 2 ≡ n = omega arith in
    subst (λ k. bits k + 1 ≤ bits (2 * n)) same half

bits_blocks : (n : ℕ) → 0 < n → bits n + 5 ≤ bits (32 * n)
bits_blocks n some =
    let a : bits n + 1 ≤ bits (2 * n) = bits_double n some in
    let b : bits (2 * n) + 1 ≤ bits (2 * (2 * n)) = bits_double (2 * n) (omega arith) in
    let c : bits (2 * (2 * n)) + 1 ≤ bits (2 * (2 * (2 * n))) = bits_double (2 * (2 * n)) (omega arith) in
    let d : bits (2 * (2 * (2 * n))) + 1 ≤ bits (2 * (2 * (2 * (2 * n)))) = bits_double (2 * (2 * (2 * n))) (omega arith) in
    let e : bits (2 * (2 * (2 * (2 * n)))) + 1 ≤ bits (2 * (2 * (2 * (2 * (2 * n))))) = bits_double (2 * (2 * (2 * (2 * n)))) (omega arith) in
    let same : 2 * (2 * (2 * (2 * (2 * n)))) ≡ 32 * n = omega arith in
    omega (arith, ap bits same)

-- a search of a block
pub steps_in_block : (size : ℕ) → size ≤ 63 → bits size ≤ 6
steps_in_block size most = bits-least size 6 (omega arith)

-- and one of the heads before it
pub search_in_blocks : (heads n : ℕ) → 0 < heads → 32 * heads ≤ n → bits heads + 6 ≤ 1 + bits n
search_in_blocks heads n some le = omega (arith, bits_blocks heads some, bits-mono (32 * heads) n le)

-- the two searches together
pub steps_in_blocks : (heads size n : ℕ) → 0 < heads → size ≤ 63 → 32 * heads ≤ n → bits heads + bits size ≤ 1 + bits n
steps_in_blocks heads size n some most le = omega (arith, steps_in_block size most, search_in_blocks heads n some le)

-- the digits of a number of 64 bits are those below its leading zeros
pub digits_are : (n : ℕ) → n < 2 ^ 64 → 64 - count_leading_zeros 64 n ≡ bits n
digits_are n fits =
    let top = leading_length 64 n fits in
    let zeros = top.1 in
    let under : n < 2 ^ top.0 = top.2 in
    let over : 2 ^ top.0 ≤ 2 * n + 1 = top.3 in
    let most : bits n ≤ top.0 = bits-least n top.0 under in
    let held : n < 2 ^ bits n = below_pow-bits n in
    let least : top.0 ≤ bits n = elim (cases_lt (bits n) top.0) [
      | inl more ↦ absurd (
          let up : 2 ^ (bits n + 1) ≤ 2 ^ top.0 = pow-le-pow_right (omega arith) (omega (arith, more)) in
          let twice : 2 ^ (bits n + 1) ≡ 2 ^ bits n * 2 = pow_more 2 (bits n) in
          omega (arith, up, twice, held, over))
      | inr few ↦ few
    ] in
    omega (arith, zeros, most, least)
