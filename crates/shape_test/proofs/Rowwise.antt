-- The rows of a table, from a bin on.
use Rattle.std.proofs.Common.{◌≡◌, ◌⊎◌, inl, inr, ℕ, ◌<◌, ◌≤◌, ◌^◌, Bool, true, false, cond, eq-eqb, ltb, ltb-true, ltb-false, ne_eqb, nat_cmp, T, List, [], ◌∷◌, map, Option, Some, None, IfSome, MatchOption, refl, sym, ap, ◌∙◌, subst, arith}
use Rattle.std.specs.FinMap.{entries, entries_sorted}
use Rattle.std.specs.FinMap.Entries.{is_sorted, below_all}
use Rattle.std.proofs.lemmas.Bool.{cases_lt}
use Rattle.time_table.specs.Counts.{BinCounts, count_of, first_from}
use Rattle.time_table.proofs.KeySums.{first_part, second_part, below}
use Rattle.node_arena.specs.Amounts.{amount_under}
use Rattle.shape_test.specs.Wholes.{spot_at}
use Rattle.shape_test.proofs.Core.{one_under, amount-cons}
use Rattle.shape_test.proofs.BinRows.{table_rows}
use Rattle.shape_test.specs.Merging.{NoRowFrom, IsFirstRow}

-- what rows count in a bin
abbrev in_bin : List (ℕ × ℕ) → ℕ → ℕ
in_bin es b = amount_under (map (spot_at []) es) [] b

past_bin : (e : ℕ × ℕ) (es : List (ℕ × ℕ)) (b n : ℕ) → (e.0 ≡ b → ⊥) → in_bin es b ≡ n → in_bin (e ∷ es) b ≡ n
past_bin e es b n other rest =
    let a = amount-cons (spot_at [] e) (map (spot_at []) es) [] b in
    let o : one_under (spot_at [] e) [] b ≡ 0 = ap (λ (t : Bool). cond {A = ℕ} t e.1 0) (ne_eqb e.0 b other) in
    omega (arith, a, o, rest)

own_bin : (e : ℕ × ℕ) (es : List (ℕ × ℕ)) → in_bin es e.0 ≡ 0 → in_bin (e ∷ es) e.0 ≡ e.1
own_bin e es rest =
    let a = amount-cons (spot_at [] e) (map (spot_at []) es) [] e.0 in
    let o : one_under (spot_at [] e) [] e.0 ≡ e.1 = ap (λ (t : Bool). cond {A = ℕ} t e.1 0) (eq-eqb e.0 e.0 refl) in
    omega (arith, a, o, rest)

none_in : (es : List (ℕ × ℕ)) (from b : ℕ) → first_from from es ≡ None → from ≤ b → in_bin es b ≡ 0
none_in [] from b is le = refl
none_in (e ∷ es) from b is le = go (ltb e.0 from) refl is (λ r. none_in es from b r le)
  where
    go : (t : Bool) → ltb e.0 from ≡ t → cond t (first_from from es) (Some e) ≡ None → (first_from from es ≡ None → in_bin es b ≡ 0) → in_bin (e ∷ es) b ≡ 0
    go true x r rest = let lt = ltb-true e.0 from x in past_bin e es b 0 (λ s. omega (arith, s, lt, le)) (rest r)
    go false x r rest = absurd cc

all_later : (k b : ℕ) (es : List (ℕ × ℕ)) → b ≤ k → T (below_all nat_cmp k es) → in_bin es b ≡ 0
all_later k b [] le B = refl
all_later k b (x ∷ es) le B =
    let up = below k x.0 (first_part _ _ B) in
    past_bin x es b 0 (λ s. omega (arith, s, up, le)) (all_later k b es le (second_part _ _ B))

-- the first row stands at or past the bin with what its bin counts, and no bin between has a record
first_in : (es : List (ℕ × ℕ)) (from : ℕ) (e : ℕ × ℕ) → T (is_sorted nat_cmp es) → first_from from es ≡ Some e → (from ≤ e.0) × ((b : ℕ) → from ≤ b → b < e.0 → in_bin es b ≡ 0) × (in_bin es e.0 ≡ e.1)
first_in [] from e S is = absurd cc
first_in (x ∷ es) from e S is = go (ltb x.0 from) refl is (λ r. first_in es from e (second_part (below_all nat_cmp x.0 es) _ S) r)
  where
    past : T (below_all nat_cmp x.0 es)
    past = first_part (below_all nat_cmp x.0 es) (is_sorted nat_cmp es) S

    go : (t : Bool) → ltb x.0 from ≡ t → cond t (first_from from es) (Some x) ≡ Some e → (first_from from es ≡ Some e → (from ≤ e.0) × ((b : ℕ) → from ≤ b → b < e.0 → in_bin es b ≡ 0) × (in_bin es e.0 ≡ e.1)) → (from ≤ e.0) × ((b : ℕ) → from ≤ b → b < e.0 → in_bin (x ∷ es) b ≡ 0) × (in_bin (x ∷ es) e.0 ≡ e.1)
    go true y r rest =
        let lt = ltb-true x.0 from y in
        let f = rest r in
        (f.0, λ b le less. past_bin x es b 0 (λ s. omega (arith, s, lt, le)) (f.1 b le less), past_bin x es e.0 e.1 (λ s. let g = f.0 in omega (arith, s, lt, g)) f.2)
    go false y r rest =
        let same : x ≡ e = cc in
        let k : x.0 ≡ e.0 = ap (λ (z : ℕ × ℕ). z.0) same in
        let le = ltb-false x.0 from y in
        (omega (arith, le, k), λ b low less. past_bin x es b 0 (λ s. omega (arith, s, less, k)) (all_later x.0 b es (omega (arith, less, k)) past), subst (λ (z : ℕ × ℕ). in_bin (x ∷ es) z.0 ≡ z.1) same (own_bin x es (all_later x.0 x.0 es (omega arith) past)))

pub row_told : (m : BinCounts) (from : ℕ) (o : Option (ℕ × ℕ)) → o ≡ first_from from (entries m) → IfSome o (λ row. row.0 < 2 ^ 32) → MatchOption o (NoRowFrom m from) (IsFirstRow m from)
row_told m from None is small = λ b le. table_rows [] [] m b ∙ none_in (entries m) from b (sym is) le
row_told m from (Some e) is small =
    let f = first_in (entries m) from e (entries_sorted m) (sym is) in
    record { low = f.0; small = small; there = table_rows [] [] m e.0 ∙ f.2; least = λ b le less. table_rows [] [] m b ∙ f.1 b le less }

pub row_past : (m : BinCounts) (from : ℕ) → ((bin : ℕ) → 0 < count_of m bin → bin < 2 ^ 32) → 2 ^ 32 ≤ from → NoRowFrom m from
row_past m from small le b low = go (cases_lt 0 (count_of m b))
  where
    go : (0 < count_of m b) ⊎ (count_of m b ≤ 0) → count_of m b ≡ 0
    go (inl x) = let s = small b x in absurd (omega (arith, s, le, low))
    go (inr x) = omega (arith, x)
