-- The rows of a cross table and what they cost, value by value.
use Rattle.std.proofs.Common.{◌≡◌, ℕ, ◌+◌, ◌<◌, ◌≤◌, List, [], ◌∷◌, ◌++◌, length, map, take, sym, ◌∙◌, ap, arith}
use Rattle.std.specs.List.{flat_map, range_with_len, sum_by}
use Rattle.std.proofs.lemmas.Grind.{flat_map-append}
use Rattle.std.proofs.lemmas.List.{append_assoc, append-nil, map-id}
use Rattle.std.proofs.lemmas.List.FromFn.{map-range_with_len_more, sum_by-map-range_with_len_more, take-map-range_with_len}
use Rattle.std.proofs.lemmas.List.Sums.{sum_by-take-le}
use Rattle.cube_view.specs.declared.schema.Schema.{Schema}
use Rattle.query_syntax.specs.Items.{values_at}
use Rattle.query_syntax.specs.declared.table.RowOut.{RowOut}

-- the values with numbers under n
abbrev pub values_under : ℕ → List ℕ
values_under n = range_with_len 0 n

-- one value more
values_more : (n : ℕ) → values_under (n + 1) ≡ values_under n ++ n ∷ []
values_more n = sym (map-id (values_under (n + 1))) ∙ (map-range_with_len_more (λ (v : ℕ). v) 0 n n (omega arith) ∙ ap (λ (vs : List ℕ). vs ++ n ∷ []) (map-id (values_under n)))

-- the row of one value more
pub row_more : (row_of : ℕ → RowOut) (n : ℕ) (start old new : List RowOut) (one : RowOut) → old ≡ start ++ map row_of (values_under n) → one ≡ row_of n → new ≡ old ++ one ∷ [] → new ≡ start ++ map row_of (values_under (n + 1))
row_more row_of n start old new one so_far is pushed =
    pushed
    ∙ ((λ i. so_far i ++ is i ∷ [])
    ∙ (append_assoc start (map row_of (values_under n)) (row_of n ∷ [])
    ∙ ap (λ (rows : List RowOut). start ++ rows) (sym (map-range_with_len_more row_of 0 n n (omega arith)))))

-- the rows of one value more
pub rows_more : (rows : ℕ → List RowOut) (n : ℕ) (old new : List RowOut) → old ≡ flat_map rows (values_under n) → new ≡ old ++ rows n → new ≡ flat_map rows (values_under (n + 1))
rows_more rows n old new so_far pushed =
    pushed
    ∙ (ap (λ (front : List RowOut). front ++ rows n) so_far
    ∙ sym (ap (flat_map rows) (values_more n) ∙ (flat_map-append rows (values_under n) (n ∷ []) ∙ ap (λ (back : List RowOut). flat_map rows (values_under n) ++ back) (append-nil (rows n)))))

module _ (cost : ℕ → ℕ) (n : ℕ) where
  -- one value more costs as much more
  pub cost_more : sum_by cost (values_under (n + 1)) ≡ sum_by cost (values_under n) + cost n
  cost_more =
      let more = sum_by-map-range_with_len_more cost (λ (v : ℕ). v) 0 n n (omega arith) in
      let old = ap (sum_by cost) (map-id (values_under n)) in
      let new = ap (sum_by cost) (map-id (values_under (n + 1))) in
      omega (arith, more, old, new)

  -- one value more is paid for
  pub paid_more : (start old new : ℕ) → old ≤ start + sum_by cost (values_under n) → new ≤ old + cost n → new ≤ start + sum_by cost (values_under (n + 1))
  paid_more start old new so_far step = let more = cost_more in omega (arith, more, so_far, step)

  -- no more than all of them
  pub paid_in_all : (all start new : ℕ) → n ≤ all → new ≤ start + sum_by cost (values_under n) → new ≤ start + sum_by cost (values_under all)
  paid_in_all all start new le so_far =
      let part = sum_by-take-le cost (values_under all) n in
      let same = ap (sum_by cost) (ap (take n) (sym (map-id (values_under all))) ∙ (take-map-range_with_len (λ (v : ℕ). v) 0 all n le ∙ map-id (values_under n))) in
      omega (arith, part, same, so_far)

-- how many values category k has
abbrev pub number_of_values : Schema → ℕ → ℕ
number_of_values schema k = length (values_at schema.categories k)

-- how many texts a category has, where they were looked up
pub texts_counted : (y z : Schema) (k : ℕ) (texts : List (List ℕ)) → y ≡ z → texts ≡ values_at y.categories k → length texts ≡ number_of_values z k
texts_counted y z k texts same found = ap length found ∙ ap (λ (x : Schema). number_of_values x k) same

-- where a loop through a category's values, whose texts were looked up, ends at value n, what it took is within what
-- all take
pub paid_to_value : (y z : Schema) (k : ℕ) (texts : List (List ℕ)) (cost : ℕ → ℕ) (n start old new : ℕ) → y ≡ z → texts ≡ values_at y.categories k → n < length texts
    → old ≤ start + sum_by cost (values_under n) → new ≤ old + cost n → new ≤ start + sum_by cost (values_under (number_of_values z k))
paid_to_value y z k texts cost n start old new same found lt so_far step =
    let count = texts_counted y z k texts same found in
    paid_in_all cost (n + 1) (number_of_values z k) start new (omega (arith, count, lt)) (paid_more cost n start old new so_far step)
