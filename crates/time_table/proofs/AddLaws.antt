-- Laws of a table with an amount more in a bin. There is no definition here.
use Rattle.std.specs.Prelude.{◌≡◌, is_some, ℕ, ◌+◌, ◌<◌, true, false, cond, ◌==◌, if◌then◌else◌, Some, map, sum, nat_lt, unwrap_or, All, eqb}
use Rattle.std.proofs.Common.{refl, sym, ap, subst, ◌∙◌, arith}
use Rattle.std.specs.Ordering.{nat_cmp, eq_by_cmp}
use Rattle.std.specs.Cmp.{nat_cmp_total, unsigned_tied}
use Rattle.std.specs.FinMap.{empty, get, contains_key, entries, entries-insert, get-insert, get-empty, len-empty, len-entries}
use Rattle.std.proofs.lemmas.Bool.{eq-eqb}
use Rattle.std.proofs.lemmas.List.Elements.{All-nil}
use Rattle.time_table.specs.Counts.{BinCounts, AllCounted, count_of, add_many, total_count, count_before}
use Rattle.time_table.proofs.KeySums.{passing, passing-add_many, total_count-passing, nothing, kept_some, counted_put}

-- there is nothing in a table without bins ..
pub total_count-empty : total_count empty ≡ 0
total_count-empty = ap (λ es. sum (map (λ (e : ℕ × ℕ). e.1) es)) (nothing (entries empty) (sym (len-entries empty) ∙ len-empty nat_cmp ℕ))

-- .. nor in any bin of it ..
pub count_of-empty : (bin : ℕ) → count_of empty bin ≡ 0
count_of-empty bin = ap (λ o. unwrap_or o 0) (get-empty nat_cmp bin)

-- .. nor before any end ..
pub count_before-empty : (bin_end : ℕ) → count_before empty bin_end ≡ 0
count_before-empty bin_end = ap (λ es. passing (λ k. nat_lt k bin_end) es) (nothing (entries empty) (sym (len-entries empty) ∙ len-empty nat_cmp ℕ))

-- .. and no bin of it is there without a record
pub AllCounted-empty : AllCounted empty
AllCounted-empty = subst (λ es. All (λ n. 0 < n) (map (λ (e : ℕ × ℕ). e.1) es)) (sym (nothing (entries empty) (sym (len-entries empty) ∙ len-empty nat_cmp ℕ))) (All-nil (λ n. 0 < n))

-- an amount more is as much more before each later end ..
pub count_before-add_many : (m : BinCounts) (bin n bin_end : ℕ) → count_before (add_many m bin n) bin_end ≡ count_before m bin_end + cond (nat_lt bin bin_end) n 0
count_before-add_many m bin n bin_end = passing-add_many (λ k. nat_lt k bin_end) m bin n

-- .. and as much more in all ..
pub total_count-add_many : (m : BinCounts) (bin n : ℕ) → total_count (add_many m bin n) ≡ total_count m + n
total_count-add_many m bin n =
    total_count-passing (add_many m bin n)
    ∙ passing-add_many (λ _. true) m bin n
    ∙ ap (λ k. k + n) (sym (total_count-passing m))

-- .. and in its bin, while each other bin has what it had
pub count_of-add_many : (m : BinCounts) (bin n q : ℕ) → count_of (add_many m bin n) q ≡ (if q == bin then count_of m bin + n else count_of m q)
count_of-add_many m bin n q =
    ap (λ o. unwrap_or o 0) (get-insert nat_cmp_total m bin (count_of m bin + n) q)
    ∙ ap (λ b. unwrap_or (cond b (Some (count_of m bin + n)) (get m q)) 0) (unsigned_tied q bin)
    ∙ elim (eqb q bin) as (λ b. unwrap_or (cond b (Some (count_of m bin + n)) (get m q)) 0 ≡ cond b (count_of m bin + n) (count_of m q)) [ true ↦ refl | false ↦ refl ]

-- the bin is then there ..
pub contains_key-add_many : (m : BinCounts) (bin n : ℕ) → contains_key (add_many m bin n) bin ≡ true
contains_key-add_many m bin n =
    ap is_some (get-insert nat_cmp_total m bin (count_of m bin + n) bin
    ∙ ap (λ b. cond b (Some (count_of m bin + n)) (get m bin)) (unsigned_tied bin bin ∙ eq-eqb bin bin refl))

-- .. and so is each bin that was
pub contains_key-add_many_stays : (m : BinCounts) (bin n q : ℕ) → contains_key m q ≡ true → contains_key (add_many m bin n) q ≡ true
contains_key-add_many_stays m bin n q there =
    ap is_some (get-insert nat_cmp_total m bin (count_of m bin + n) q)
    ∙ kept_some (eq_by_cmp nat_cmp q bin) (count_of m bin + n) (get m q) there

-- no bin is there without a record, also after an amount more
pub AllCounted-add_many : (m : BinCounts) (bin n : ℕ) → 0 < n → AllCounted m → AllCounted (add_many m bin n)
AllCounted-add_many m bin n some counted =
    subst (λ es. All (λ n. 0 < n) (map (λ (e : ℕ × ℕ). e.1) es)) (sym (entries-insert nat_cmp_total m bin (count_of m bin + n)))
    (counted_put bin (count_of m bin + n) (entries m) (omega arith) counted)
