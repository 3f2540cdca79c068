-- Rows that a stable sort by their totals has put in order, the greatest first.
use Rattle.std.proofs.Common.{◌≡◌, ℕ, zero, suc, ◌+◌, ◌-◌, ◌<◌, ◌≤◌, Bool, true, false, not, ◌&&◌, eqb, ltb, List, [], ◌∷◌, ◌++◌, length, cond, get_or, take, filter, refl, sym, ◌∙◌, ap, arith, add-zero, add-suc, ⊎_elim}
use Rattle.std.specs.Cmp.{IsStrictWeakOrder}
use Rattle.std.specs.List.{AllByRecursion}
use Rattle.std.specs.List.Sorted.{IsPermutation, IsSortedBy, IsStableBy, ties}
use Rattle.std.specs.Ordering.{is_lt, nat_cmp}
use Rattle.std.specs.declared.cmp.Ordering.TheVariants.{Less, Equal, Greater}
use Rattle.std.proofs.lemmas.Bool.{eq-eqb, ne_eqb, lt-ltb, le-ltb, ltb-false, cases_eq}
use Rattle.std.proofs.lemmas.Cmp.{nat_cmp_total}
use Rattle.std.proofs.lemmas.List.Elements.{recursion_from_All}
use Rattle.std.proofs.lemmas.List.Sorted.{All-permutation, IsStrictWeakOrder-flip, ranks_by, sorted_far}
use Rattle.std.proofs.lemmas.Map.Keys.{ge_from_not_lt}
use Rattle.cross_table.specs.Ranking.{total_of_row, rows_by_total, IsFirstByTotal}
use Rattle.query_syntax.specs.declared.table.RowOut.{RowOut}

-- the rows of a total, as they stand
abbrev of_total : ℕ → List RowOut → List RowOut
of_total w rows = filter (λ row. eqb (total_of_row row) w) rows

-- no total is over the number
abbrev none_over : ℕ → List RowOut → Type 0
none_over m rows = AllByRecursion (λ row. total_of_row row ≤ m) rows

none_of_total : (rows : List RowOut) (m w : ℕ) → m < w → none_over m rows → of_total w rows ≡ []
none_of_total [] m w lt all = refl
none_of_total (row ∷ rows) m w lt (here, rest) =
    ap (λ b. cond b (row ∷ of_total w rows) (of_total w rows)) (ne_eqb (total_of_row row) w (λ (e : total_of_row row ≡ w). omega (arith, e, here, lt))) ∙ none_of_total rows m w lt rest

-- totals that no row has add no rows
none_above : (rows : List RowOut) (m n : ℕ) → none_over m rows → rows_by_total rows (m + n) ≡ rows_by_total rows m
none_above rows m zero all = ap (rows_by_total rows) (add-zero m)
none_above rows m (suc n) all =
    ap (rows_by_total rows) (add-suc m n)
    ∙ (ap (λ front. front ++ rows_by_total rows (m + n)) (none_of_total rows m (suc (m + n)) (omega arith) all) ∙ none_above rows m n all)

-- a row is not among those of less
not_below : (row : RowOut) (rows : List RowOut) (n : ℕ) → n < total_of_row row → rows_by_total (row ∷ rows) n ≡ rows_by_total rows n
not_below row rows zero lt = refl
not_below row rows (suc n) lt =
    ap (λ b. cond b (row ∷ of_total (suc n) rows) (of_total (suc n) rows) ++ rows_by_total (row ∷ rows) n) (ne_eqb (total_of_row row) (suc n) (λ (e : total_of_row row ≡ suc n). omega (arith, e, lt)))
    ∙ ap (λ back. of_total (suc n) rows ++ back) (not_below row rows n (omega (arith, lt)))

-- the first row of those of its total
first_of_total : (row : RowOut) (rows : List RowOut) (m : ℕ) → total_of_row row ≡ m → 0 < m → rows_by_total (row ∷ rows) m ≡ row ∷ rows_by_total rows m
first_of_total row rows zero is some = absurd (omega (arith, some))
first_of_total row rows (suc n) is some =
    ap (λ b. cond b (row ∷ of_total (suc n) rows) (of_total (suc n) rows) ++ rows_by_total (row ∷ rows) n) (eq-eqb (total_of_row row) (suc n) is)
    ∙ ap (λ back. row ∷ (of_total (suc n) rows ++ back)) (not_below row rows n (omega (arith, is)))

-- no row has more than one before it
abbrev falls : List RowOut → Type 0
falls [] = Unit {0}
falls (row ∷ rows) = none_over (total_of_row row) rows × falls rows

no_rows : (w : ℕ) → rows_by_total [] w ≡ []
no_rows zero = refl
no_rows (suc w) = no_rows w

-- rows that fall stand by their totals
in_order : (rows : List RowOut) (most : ℕ) → falls rows → AllByRecursion (λ row. (1 ≤ total_of_row row) × (total_of_row row ≤ most)) rows → rows_by_total rows most ≡ rows
in_order [] most down all = no_rows most
in_order (row ∷ rows) most (below, down) (here, rest) =
    let m = total_of_row row in
    let n = most - m in
    let high = here.1 in
    let all : most ≡ m + n = omega (arith, high) in
    let self : m ≤ m = omega arith in
    ap (rows_by_total (row ∷ rows)) all
    ∙ (none_above (row ∷ rows) m n (self, below)
    ∙ (first_of_total row rows m refl here.0
    ∙ ap (λ back. row ∷ back) (sym (ap (rows_by_total rows) all ∙ none_above rows m n below) ∙ in_order rows most down rest)))

-- The order of a sort: the greater total first

abbrev pub more : RowOut → RowOut → Bool
more x y = is_lt (nat_cmp (total_of_row y) (total_of_row x))

more_is_order : IsStrictWeakOrder more
more_is_order = IsStrictWeakOrder-flip (λ x y. is_lt (nat_cmp (total_of_row x) (total_of_row y))) (ranks_by nat_cmp_total total_of_row)

-- whether a number is less, as a test
less : (a b : ℕ) → is_lt (nat_cmp a b) ≡ ltb a b
less a b = elim (ltb a b) as (λ t. is_lt (cond t Less (cond (eqb a b) Equal Greater)) ≡ t) [
  | true ↦ refl
  | false ↦ elim (eqb a b) as (λ e. is_lt (cond e Equal Greater) ≡ false) [ true ↦ refl | false ↦ refl ]
]

-- two numbers tie where they are equal
tie_is : (a b : ℕ) → (not (ltb a b) && not (ltb b a)) ≡ eqb a b
tie_is a b = ⊎_elim
    (λ (e : a ≡ b). (λ i. not (le-ltb a b (omega (arith, e)) i) && not (le-ltb b a (omega (arith, e)) i)) ∙ sym (eq-eqb a b e))
    (λ (ne : a ≡ b → ⊥). elim (ltb a b) as (λ t. ltb a b ≡ t → (not t && not (ltb b a)) ≡ eqb a b) [
      | true ↦ λ e. sym (ne_eqb a b ne)
      | false ↦ λ e. let le = ltb-false a b e in ap not (lt-ltb b a (omega (arith, le, ne))) ∙ sym (ne_eqb a b ne)
    ] refl)
    (cases_eq a b)

tie : (a b : ℕ) → (not (is_lt (nat_cmp a b)) && not (is_lt (nat_cmp b a))) ≡ eqb a b
tie a b = (λ i. not (less a b i) && not (less b a i)) ∙ tie_is a b

filter-each : {X : Type 0} (p q : X → Bool) → ((x : X) → p x ≡ q x) → (xs : List X) → filter p xs ≡ filter q xs
filter-each p q same [] = refl
filter-each p q same (x ∷ xs) = λ i. cond (same x i) (x ∷ filter-each p q same xs i) (filter-each p q same xs i)

-- a stable sort keeps the rows of each total as they stood
same_of_total : (xs ys : List RowOut) → IsStableBy more xs ys → (w : ℕ) → of_total w ys ≡ of_total w xs
same_of_total xs ys stable w =
    let one = filter-each (ties more (RowOut.One w)) (λ row. eqb (total_of_row row) w) (λ row. tie (total_of_row row) w) in
    sym (one ys) ∙ (stable (RowOut.One w) ∙ one xs)

same_by_total : (xs ys : List RowOut) → IsStableBy more xs ys → (most : ℕ) → rows_by_total ys most ≡ rows_by_total xs most
same_by_total xs ys stable zero = refl
same_by_total xs ys stable (suc w) = λ i. same_of_total xs ys stable (suc w) i ++ same_by_total xs ys stable w i

-- what is sorted falls
falls_from : (rows : List RowOut) → ((i j : ℕ) (d : RowOut) → i ≤ j → j < length rows → total_of_row (get_or rows j d) ≤ total_of_row (get_or rows i d)) → falls rows
falls_from [] each = tt
falls_from (row ∷ rows) each = (
  recursion_from_All (λ other. total_of_row other ≤ total_of_row row) rows (λ j d lt. each 0 (suc j) d (omega arith) (omega (arith, lt))),
  falls_from rows (λ i j d le lt. each (suc i) (suc j) d (omega (arith, le)) (omega (arith, lt))),
)

sorted_falls : (rows : List RowOut) → IsSortedBy more rows → falls rows
sorted_falls rows up = falls_from rows (λ i j d le lt. ge_from_not_lt _ _ (sorted_far more more_is_order rows up i j d le lt))

-- the first rows of what a stable sort leaves
pub sorted_first : (xs ys : List RowOut) (count : ℕ) → IsPermutation xs ys → IsSortedBy more ys → IsStableBy more xs ys → IsFirstByTotal xs count (take count ys)
sorted_first xs ys count moved up stable most within =
    let passes = λ (row : RowOut). (1 ≤ total_of_row row) × (total_of_row row ≤ most) in
    let all = recursion_from_All passes ys (All-permutation passes xs ys moved within) in
    ap (take count) (sym (in_order ys most (sorted_falls ys up) all) ∙ same_by_total xs ys stable most)
