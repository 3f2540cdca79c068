-- Laws of tables: what stands in them, and that taking is the way back from adding. There is no definition here.
use Rattle.std.specs.Prelude.{◌≡◌, ◌≢◌, ℕ, ◌+◌, ◌-◌, ◌<◌, ◌≤◌, true, cond, List, Some, None, sum_by, All, nat_lt, unwrap_or}
use Rattle.std.proofs.Common.{refl, sym, ap, ◌∙◌, arith, inl, inr, zero-add}
use Rattle.std.specs.Ordering.{nat_cmp, eq_by_cmp}
use Rattle.std.specs.Cmp.{nat_cmp_total, unsigned_tied}
use Rattle.std.specs.FinMap.{get, insert, remove, contains_key, entries, get-entries, get-insert, get-remove, same_map, nat_cmp-IsAntisymmetric}
use Rattle.std.proofs.lemmas.Bool.{cases_eq, eq-eqb, ne_eqb, eqb-true}
use Rattle.time_table.specs.Counts.{BinCounts, AllCounted, count_of, add_many, take_many, total_count, count_before, amount_at, first_from}
use Rattle.time_table.proofs.AddLaws.{count_of-add_many, total_count-add_many, count_before-add_many}
use Rattle.time_table.proofs.NextRows.{found_at}
use Rattle.time_table.proofs.KeySums.{counted_at, got, got_some, got_count, put_back, put_again, same_got}
use Rattle.time_table.proofs.AmountTables.{gathered, count_of-gathered, total_count-gathered, AllCounted-gathered}

-- a bin that is there has a record
pub count_of-some : (m : BinCounts) (bin : ℕ) → AllCounted m → contains_key m bin ≡ true → 0 < count_of m bin
count_of-some m bin counted there = got_some (get m bin) (λ n is. counted_at bin n (entries m) counted (sym (get-entries m bin) ∙ is)) there

-- two tables that have as much in each bin are one
pub same_counts : (m n : BinCounts) → AllCounted m → AllCounted n → ((bin : ℕ) → count_of m bin ≡ count_of n bin) → m ≡ n
same_counts m n counted counted' same =
    same_map nat_cmp_total nat_cmp-IsAntisymmetric m n (λ q.
    same_got (get m q) (get n q)
    (λ k is. counted_at q k (entries m) counted (sym (get-entries m q) ∙ is))
    (λ k is. counted_at q k (entries n) counted' (sym (get-entries n q) ∙ is))
    (same q))

-- an amount more and then as much less is no change ..
pub take_many-add_many : (m : BinCounts) (bin n : ℕ) → AllCounted m → take_many (add_many m bin n) bin n ≡ m
take_many-add_many m bin n counted =
    let count : count_of (add_many m bin n) bin ≡ count_of m bin + n = count_of-add_many m bin n bin ∙ ap (λ b. cond b (count_of m bin + n) (count_of m bin)) (eq-eqb bin bin refl) in
    let at : (q : ℕ) → eq_by_cmp nat_cmp q bin ≡ true → get m bin ≡ get m q = λ q e. ap (get m) (sym (eqb-true q bin (sym (unsigned_tied q bin) ∙ e))) in
    elim (got (get m bin) (λ n is. counted_at bin n (entries m) counted (sym (get-entries m bin) ∙ is))) [
      | inl none ↦
          let all : count_of (add_many m bin n) bin ≡ n = count ∙ ap (λ k. k + n) none.1 ∙ zero-add n in
          let gone : remove (add_many m bin n) bin ≡ m =
          same_map nat_cmp_total nat_cmp-IsAntisymmetric (remove (add_many m bin n) bin) m (λ q.
          get-remove nat_cmp_total (add_many m bin n) bin q
          ∙ ap (cond (eq_by_cmp nat_cmp q bin) None) (get-insert nat_cmp_total m bin (count_of m bin + n) q)
          ∙ put_back (eq_by_cmp nat_cmp q bin) None (get m q) (count_of m bin + n) (λ e. sym none.0 ∙ at q e)) in
          rw (eq-eqb (count_of (add_many m bin n) bin) n all) gone
      | inr some ↦
          let more : count_of (add_many m bin n) bin ≢ n = λ all. let above : 0 < count_of m bin = some.1 in omega arith in
          let back : insert (add_many m bin n) bin (count_of (add_many m bin n) bin - n) ≡ m =
          same_map nat_cmp_total nat_cmp-IsAntisymmetric (insert (add_many m bin n) bin (count_of (add_many m bin n) bin - n)) m (λ q.
          get-insert nat_cmp_total (add_many m bin n) bin (count_of (add_many m bin n) bin - n) q
          ∙ ap (cond (eq_by_cmp nat_cmp q bin) (Some (count_of (add_many m bin n) bin - n))) (get-insert nat_cmp_total m bin (count_of m bin + n) q)
          ∙ put_back (eq_by_cmp nat_cmp q bin) (Some (count_of (add_many m bin n) bin - n)) (get m q) (count_of m bin + n) (λ e. let less : count_of (add_many m bin n) bin - n ≡ count_of m bin = omega arith in ap (λ n. Some n) less ∙ sym some.0 ∙ at q e)) in
          rw (ne_eqb (count_of (add_many m bin n) bin) n more) back
    ]

-- .. and so is an amount less and then as much more
pub add_many-take_many : (m : BinCounts) (bin n : ℕ) → 0 < n → n ≤ count_of m bin → add_many (take_many m bin n) bin n ≡ m
add_many-take_many m bin n some there = elim (cases_eq (count_of m bin) n) [ inl all ↦ whole all | inr more ↦ part more ]
  where
    held : get m bin ≡ Some (count_of m bin)
    held = got_count (get m bin) (omega arith)

    at : (q : ℕ) → eq_by_cmp nat_cmp q bin ≡ true → Some (count_of m bin) ≡ get m q
    at q e = sym held ∙ ap (get m) (sym (eqb-true q bin (sym (unsigned_tied q bin) ∙ e)))

    tied : eq_by_cmp nat_cmp bin bin ≡ true
    tied = unsigned_tied bin bin ∙ eq-eqb bin bin refl

    whole : count_of m bin ≡ n → add_many (take_many m bin n) bin n ≡ m
    whole all =
        let none : count_of (remove m bin) bin ≡ 0 = ap (λ o. unwrap_or o 0) (get-remove nat_cmp_total m bin bin ∙ ap (λ b. cond b None (get m bin)) tied) in
        let back : insert (remove m bin) bin (count_of (remove m bin) bin + n) ≡ m =
        same_map nat_cmp_total nat_cmp-IsAntisymmetric (insert (remove m bin) bin (count_of (remove m bin) bin + n)) m (λ q.
        get-insert nat_cmp_total (remove m bin) bin (count_of (remove m bin) bin + n) q
        ∙ ap (cond (eq_by_cmp nat_cmp q bin) (Some (count_of (remove m bin) bin + n))) (get-remove nat_cmp_total m bin q)
        ∙ put_again (eq_by_cmp nat_cmp q bin) (Some (count_of (remove m bin) bin + n)) (get m q) (λ e. let same : count_of (remove m bin) bin + n ≡ count_of m bin = omega arith in ap (λ k. Some k) same ∙ at q e)) in
        rw (eq-eqb (count_of m bin) n all) back

    part : count_of m bin ≢ n → add_many (take_many m bin n) bin n ≡ m
    part more =
        let rest : count_of (insert m bin (count_of m bin - n)) bin ≡ count_of m bin - n = ap (λ o. unwrap_or o 0) (get-insert nat_cmp_total m bin (count_of m bin - n) bin ∙ ap (λ b. cond b (Some (count_of m bin - n)) (get m bin)) tied) in
        let back : insert (insert m bin (count_of m bin - n)) bin (count_of (insert m bin (count_of m bin - n)) bin + n) ≡ m =
        same_map nat_cmp_total nat_cmp-IsAntisymmetric (insert (insert m bin (count_of m bin - n)) bin (count_of (insert m bin (count_of m bin - n)) bin + n)) m (λ q.
        get-insert nat_cmp_total (insert m bin (count_of m bin - n)) bin (count_of (insert m bin (count_of m bin - n)) bin + n) q
        ∙ ap (cond (eq_by_cmp nat_cmp q bin) (Some (count_of (insert m bin (count_of m bin - n)) bin + n))) (get-insert nat_cmp_total m bin (count_of m bin - n) q)
        ∙ put_back (eq_by_cmp nat_cmp q bin) (Some (count_of (insert m bin (count_of m bin - n)) bin + n)) (get m q) (count_of m bin - n) (λ e. let same : count_of (insert m bin (count_of m bin - n)) bin + n ≡ count_of m bin = omega arith in ap (λ k. Some k) same ∙ at q e)) in
        rw (ne_eqb (count_of m bin) n more) back

-- an amount less is as much less in all ..
pub total_count-take_many : (m : BinCounts) (bin n : ℕ) → 0 < n → n ≤ count_of m bin → total_count (take_many m bin n) + n ≡ total_count m
total_count-take_many m bin n some there = sym (total_count-add_many (take_many m bin n) bin n) ∙ ap total_count (add_many-take_many m bin n some there)

-- .. and as much less before each later end
pub count_before-take_many : (m : BinCounts) (bin n bin_end : ℕ) → 0 < n → n ≤ count_of m bin → count_before (take_many m bin n) bin_end + cond (nat_lt bin bin_end) n 0 ≡ count_before m bin_end
count_before-take_many m bin n bin_end some there =
    sym (count_before-add_many (take_many m bin n) bin n bin_end) ∙ ap (λ (k : BinCounts). count_before k bin_end) (add_many-take_many m bin n some there)

-- a table that has in each bin what amounts come to has as much in all as they do
pub total_count-same : (m : BinCounts) (amounts : List (ℕ × ℕ)) → AllCounted m → All (λ (a : ℕ × ℕ). 0 < a.1) amounts → ((q : ℕ) → count_of m q ≡ amount_at q amounts) → total_count m ≡ sum_by (λ (a : ℕ × ℕ). a.1) amounts
total_count-same m amounts counted some same =
    ap total_count (same_counts m (gathered amounts) counted (AllCounted-gathered amounts some) (λ q. same q ∙ sym (count_of-gathered amounts q)))
    ∙ total_count-gathered amounts

-- where the first bin from a bin on is itself, its count is the one that is told
pub count_of-first_from : (m : BinCounts) (bin n : ℕ) → first_from bin (entries m) ≡ Some (bin, n) → count_of m bin ≡ n
count_of-first_from m bin n is = ap (λ o. unwrap_or o 0) (get-entries m bin ∙ found_at bin n (entries m) is)
