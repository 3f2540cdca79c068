-- Sums over the entries whose keys pass a test, and what one entry more does to them.
use Rattle.std.specs.Prelude.{◌≡◌, ◌⊎◌, is_some, length, ℕ, ◌+◌, ◌<◌, ◌≤◌, ◌&&◌, Bool, true, false, cond, T, List, [], ◌∷◌, Option, Some, None, map, sum_by, filter, unwrap_or, All}
use Rattle.std.proofs.Common.{refl, sym, ap, subst, inl, inr, ◌∙◌, arith, is_lt}
use Rattle.std.specs.Ordering.{nat_cmp}
use Rattle.std.specs.Cmp.{nat_cmp_total}
use Rattle.std.specs.FinMap.{entries, entries_sorted, entries-insert, get-entries, find, put, is_sorted}
use Rattle.std.specs.FinMap.Entries.{below_all}
use Rattle.std.proofs.lemmas.Bool.{cases_order, le-ltb, ne_eqb}
use Rattle.std.proofs.lemmas.Cmp.{tied_itself}
use Rattle.std.proofs.lemmas.List.Elements.{All-cons, All-head, All-tail}
use Rattle.std.proofs.lemmas.List.Sums.{sum_by-cons, sum-map}
use Rattle.time_table.specs.Counts.{BinCounts, count_of, add_many, total_count}
use Rattle.time_table.specs.Places.{count_at}
use Rattle.time_table.proofs.Entries.{put_first, put_here, put_later, find_here, find_later, find_before}

-- the sum over the entries whose keys pass a test
abbrev pub passing : (ℕ → Bool) → List (ℕ × ℕ) → ℕ
passing p es = sum_by (λ e. e.1) (filter (λ e. p e.0) es)

passing-cons : (p : ℕ → Bool) (x n : ℕ) (es : List (ℕ × ℕ)) → passing p ((x, n) ∷ es) ≡ cond (p x) n 0 + passing p es
passing-cons p x n es =
    elim (p x) as (λ b. sum_by (λ (e : ℕ × ℕ). e.1) (cond b ((x, n) ∷ filter (λ e. p e.0) es) (filter (λ e. p e.0) es)) ≡ cond b n 0 + passing p es) [
      | true ↦ sum_by-cons (λ (e : ℕ × ℕ). e.1) (x, n) (filter (λ e. p e.0) es)
      | false ↦ omega arith
    ]

pub first_part : (a b : Bool) → T (a && b) → T a
first_part true b p = tt
first_part false b p = p

pub second_part : (a b : Bool) → T (a && b) → T b
second_part true b p = p
second_part false b p = absurd p

-- a key that is less by the order of keys is less
pub below : (x y : ℕ) → T (is_lt (nat_cmp x y)) → x < y
below x y h =
    elim (cases_order x y) [
      | inl same ↦ absurd (subst (λ b. T (is_lt b)) (tied_itself nat_cmp_total y) (subst (λ n. T (is_lt (nat_cmp n y))) same h))
      | inr (inl less) ↦ less
      | inr (inr more) ↦ absurd (rw (le-ltb x y (omega arith), ne_eqb x y (omega arith)) at h)
    ]

-- a key before all entries is none of theirs
pub find_below : (k x : ℕ) (es : List (ℕ × ℕ)) → T (below_all nat_cmp x es) → k ≤ x → find nat_cmp k es ≡ None
find_below k x [] h less = refl
find_below k x (e ∷ es) h less =
    let next : x < e.0 = below x e.0 (first_part _ _ h) in
    find_before k e.0 e.1 es (omega arith) ∙ find_below k x es (second_part _ _ h) less

more_passes : (p : ℕ → Bool) (x n m s : ℕ) → cond (p x) (n + m) 0 + s ≡ (cond (p x) n 0 + s) + cond (p x) m 0
more_passes p x n m s = elim (p x) as (λ b. cond b (n + m) 0 + s ≡ (cond b n 0 + s) + cond b m 0) [ true ↦ omega arith | false ↦ omega arith ]

later_passes : (first whole rest more : ℕ) → whole ≡ rest + more → first + whole ≡ (first + rest) + more
later_passes first whole rest more is = omega arith

passing-put : (p : ℕ → Bool) (bin m : ℕ) (es : List (ℕ × ℕ)) → T (is_sorted nat_cmp es) → passing p (put nat_cmp bin (count_at bin es + m) es) ≡ passing p es + cond (p bin) m 0
passing-put p bin m [] sorted = passing-cons p bin (0 + m) [] ∙ more_passes p bin 0 m 0 ∙ ap (λ k. k + cond (p bin) m 0) (nothing_passes (p bin))
  where
    nothing_passes : (b : Bool) → cond b 0 0 + 0 ≡ 0
    nothing_passes true = omega arith
    nothing_passes false = omega arith
passing-put p bin m (e ∷ es) sorted =
    elim (cases_order bin e.0) [
      | inl same ↦
          let count : count_at bin (e ∷ es) ≡ e.1 = ap (λ o. unwrap_or o 0) (find_here bin e.0 e.1 es same) in
          let here : put nat_cmp bin (count_at bin (e ∷ es) + m) (e ∷ es) ≡ (e.0, e.1 + m) ∷ es = put_here bin e.0 _ e.1 es same ∙ ap (λ n. (e.0, n + m) ∷ es) count in
          ap (passing p) here
          ∙ passing-cons p e.0 (e.1 + m) es
          ∙ more_passes p e.0 e.1 m (passing p es)
          ∙ ap (λ n. n + cond (p e.0) m 0) (sym (passing-cons p e.0 e.1 es))
          ∙ ap (λ k. passing p (e ∷ es) + cond (p k) m 0) (sym same)
      | inr (inl less) ↦
          let none : find nat_cmp bin (e ∷ es) ≡ None = find_before bin e.0 e.1 es less ∙ find_below bin e.0 es (first_part _ _ sorted) (omega arith) in
          let count : count_at bin (e ∷ es) ≡ 0 = ap (λ o. unwrap_or o 0) none in
          let here : put nat_cmp bin (count_at bin (e ∷ es) + m) (e ∷ es) ≡ (bin, m) ∷ e ∷ es = put_first bin e.0 _ e.1 es less ∙ ap (λ n. (bin, n) ∷ e ∷ es) (omega arith) in
          ap (passing p) here ∙ passing-cons p bin m (e ∷ es) ∙ omega arith
      | inr (inr more) ↦
          let count : count_at bin (e ∷ es) ≡ count_at bin es = ap (λ o. unwrap_or o 0) (find_later bin e.0 e.1 es more) in
          let here : put nat_cmp bin (count_at bin (e ∷ es) + m) (e ∷ es) ≡ e ∷ put nat_cmp bin (count_at bin es + m) es = put_later bin e.0 _ e.1 es more ∙ ap (λ n. e ∷ put nat_cmp bin (n + m) es) count in
          let rest : passing p (put nat_cmp bin (count_at bin es + m) es) ≡ passing p es + cond (p bin) m 0 = passing-put p bin m es (second_part _ _ sorted) in
          ap (passing p) here
          ∙ passing-cons p e.0 e.1 (put nat_cmp bin (count_at bin es + m) es)
          ∙ later_passes (cond (p e.0) e.1 0) (passing p (put nat_cmp bin (count_at bin es + m) es)) (passing p es) (cond (p bin) m 0) rest
          ∙ ap (λ n. n + cond (p bin) m 0) (sym (passing-cons p e.0 e.1 es))
    ]

pub passing-add_many : (p : ℕ → Bool) (m : BinCounts) (bin n : ℕ) → passing p (entries (add_many m bin n)) ≡ passing p (entries m) + cond (p bin) n 0
passing-add_many p m bin n =
    ap (passing p) (entries-insert nat_cmp_total m bin (count_of m bin + n))
    ∙ ap (λ o. passing p (put nat_cmp bin (unwrap_or o 0 + n) (entries m))) (get-entries m bin)
    ∙ passing-put p bin n (entries m) (entries_sorted m)

filter-all : (es : List (ℕ × ℕ)) → filter (λ (e : ℕ × ℕ). true) es ≡ es
filter-all [] = refl
filter-all (e ∷ es) = ap (λ zs. e ∷ zs) (filter-all es)

pub total_count-passing : (m : BinCounts) → total_count m ≡ passing (λ _. true) (entries m)
total_count-passing m = sum-map (λ (e : ℕ × ℕ). e.1) (entries m) ∙ ap (sum_by (λ (e : ℕ × ℕ). e.1)) (sym (filter-all (entries m)))

pub nothing : (es : List (ℕ × ℕ)) → length es ≡ 0 → es ≡ []
nothing [] e = refl
nothing (x ∷ es) e = absurd (omega arith)

pub kept_some : {X : Type 0} (b : Bool) (x : X) (o : Option X) → is_some o ≡ true → is_some (cond b (Some x) o) ≡ true
kept_some true x o there = refl
kept_some false x o there = there

pub counted_at : (k n : ℕ) (es : List (ℕ × ℕ)) → All (λ n. 0 < n) (map (λ (e : ℕ × ℕ). e.1) es) → find nat_cmp k es ≡ Some n → 0 < n
counted_at k n [] all is = cc
counted_at k n (e ∷ es) all is =
    elim (cases_order k e.0) [
      | inl same ↦ let here : Some e.1 ≡ Some n = sym (find_here k e.0 e.1 es same) ∙ is in let at : e.1 ≡ n = cc in subst (λ n. 0 < n) at (All-head (λ n. 0 < n) e.1 (map (λ (e : ℕ × ℕ). e.1) es) all)
      | inr (inl less) ↦ counted_at k n es (All-tail (λ n. 0 < n) e.1 (map (λ (e : ℕ × ℕ). e.1) es) all) (sym (find_before k e.0 e.1 es less) ∙ is)
      | inr (inr more) ↦ counted_at k n es (All-tail (λ n. 0 < n) e.1 (map (λ (e : ℕ × ℕ). e.1) es) all) (sym (find_later k e.0 e.1 es more) ∙ is)
    ]

-- what stands at a bin, from its count
pub got : (o : Option ℕ) → ((n : ℕ) → o ≡ Some n → 0 < n) → ((o ≡ None) × (unwrap_or o 0 ≡ 0)) ⊎ ((o ≡ Some (unwrap_or o 0)) × (0 < unwrap_or o 0))
got None some = inl (refl, refl)
got (Some n) some = inr (refl, some n refl)

pub got_some : (o : Option ℕ) → ((n : ℕ) → o ≡ Some n → 0 < n) → is_some o ≡ true → 0 < unwrap_or o 0
got_some None some there = cc
got_some (Some n) some there = some n refl

pub got_count : (o : Option ℕ) → 0 < unwrap_or o 0 → o ≡ Some (unwrap_or o 0)
got_count None some = absurd (omega arith)
got_count (Some n) some = refl

pub put_back : {X : Type 0} (b : Bool) (o p : Option X) (x : X) → (b ≡ true → o ≡ p) → cond b o (cond b (Some x) p) ≡ p
put_back true o p x same = same refl
put_back false o p x same = refl

pub put_again : {X : Type 0} (b : Bool) (o p : Option X) → (b ≡ true → o ≡ p) → cond b o (cond b None p) ≡ p
put_again true o p same = same refl
put_again false o p same = refl

pub counted_put : (bin n : ℕ) (es : List (ℕ × ℕ)) → 0 < n → All (λ n. 0 < n) (map (λ (e : ℕ × ℕ). e.1) es) → All (λ n. 0 < n) (map (λ (e : ℕ × ℕ). e.1) (put nat_cmp bin n es))
counted_put bin n [] some all = All-cons (λ n. 0 < n) n [] some all
counted_put bin n (e ∷ es) some all =
    let others = All-tail (λ n. 0 < n) e.1 (map (λ (e : ℕ × ℕ). e.1) es) all in
    elim (cases_order bin e.0) [
      | inl same ↦ rw (put_here bin e.0 n e.1 es same) (All-cons (λ n. 0 < n) n (map (λ (e : ℕ × ℕ). e.1) es) some others)
      | inr (inl less) ↦ rw (put_first bin e.0 n e.1 es less) (All-cons (λ n. 0 < n) n (map (λ (e : ℕ × ℕ). e.1) (e ∷ es)) some all)
      | inr (inr more) ↦
          rw (put_later bin e.0 n e.1 es more)
          (All-cons (λ n. 0 < n) e.1 (map (λ (e : ℕ × ℕ). e.1) (put nat_cmp bin n es)) (All-head (λ n. 0 < n) e.1 (map (λ (e : ℕ × ℕ). e.1) es) all) (counted_put bin n es some others))
    ]

pub same_got : (o p : Option ℕ) → ((n : ℕ) → o ≡ Some n → 0 < n) → ((n : ℕ) → p ≡ Some n → 0 < n) → unwrap_or o 0 ≡ unwrap_or p 0 → o ≡ p
same_got None None some more e = refl
same_got None (Some n) some more e = let above : 0 < n = more n refl in absurd (omega arith)
same_got (Some n) None some more e = let above : 0 < n = some n refl in absurd (omega arith)
same_got (Some n) (Some k) some more e = ap (λ n. Some n) e
