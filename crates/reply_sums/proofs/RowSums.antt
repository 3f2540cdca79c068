-- The rows of two tables, added from some place on.
use Rattle.std.proofs.Common.{◌≡◌, ◌≢◌, ℕ, suc, ◌+◌, ◌<◌, get_or, drop, List, [], ◌∷◌, ◌++◌, length, Option, Some, None, refl, sym, ◌∙◌, ap, append_assoc}
use Rattle.std.specs.Prelude.{option_map, option_and_then}
use Rattle.std.proofs.lemmas.List.{drop_more}
use Rattle.query_syntax.specs.declared.table.RowOut.{RowOut}
use Rattle.reply_sums.specs.Rows.{sum_row, sum_rows}

-- the sum of two rows before the sums of others
abbrev pub before_sums : Option RowOut → Option (List RowOut) → Option (List RowOut)
before_sums sum sums = option_and_then (λ s. option_map (λ ss. s ∷ ss) sums) sum

no_sums : (o : Option RowOut) (sums : Option (List RowOut)) → sums ≡ None → before_sums o sums ≡ None
no_sums None sums is = refl
no_sums (Some s) sums is = ap (option_map (λ ss. s ∷ ss)) is

-- lists of other lengths have no sums
pub rows_apart : (rows others : List RowOut) → length rows ≢ length others → sum_rows rows others ≡ None
rows_apart [] [] apart = absurd (apart refl)
rows_apart [] (other ∷ others) apart = refl
rows_apart (row ∷ rows) [] apart = refl
rows_apart (row ∷ rows) (other ∷ others) apart = no_sums (sum_row row other) (sum_rows rows others) (rows_apart rows others (λ e. apart (ap (λ n. suc n) e)))

-- sums so far, before those of the rows that are left
abbrev pub after_sums : List RowOut → Option (List RowOut) → Option (List RowOut)
after_sums sums later = option_map (λ more. sums ++ more) later

pub one_sum_more : (sums : List RowOut) (s : RowOut) (o : Option RowOut) (later : Option (List RowOut)) → o ≡ Some s → after_sums sums (before_sums o later) ≡ after_sums (sums ++ s ∷ []) later
one_sum_more sums s o later is = ap (λ x. after_sums sums (before_sums x later)) is ∙ at later
  where
    at : (later : Option (List RowOut)) → after_sums sums (option_map (λ ss. s ∷ ss) later) ≡ after_sums (sums ++ s ∷ []) later
    at None = refl
    at (Some more) = ap (λ (x : List RowOut). Some x) (sym (append_assoc sums (s ∷ []) more))

pub after_none : (later : Option (List RowOut)) → after_sums [] later ≡ later
after_none None = refl
after_none (Some more) = refl

-- items from a place on begin with the one there
pub drop_at : {A : Type 0} (rows : List A) (i : ℕ) (row : A) → row ≡ get_or rows i row → i < length rows → drop i rows ≡ row ∷ drop (i + 1) rows
drop_at rows i row is lt = drop_more rows i row lt ∙ ap (λ r. r ∷ drop (i + 1) rows) (sym is)

-- rows from a place on, by the two that stand there
module _ (rows others : List RowOut) (i : ℕ) (row other : RowOut) (first : row ≡ get_or rows i row) (second : other ≡ get_or others i other) (in_rows : i < length rows) (in_others : i < length others) where
  -- their sums are that of the two, before those of the rows after them
  pub sums_at : sum_rows (drop i rows) (drop i others) ≡ before_sums (sum_row row other) (sum_rows (drop (i + 1) rows) (drop (i + 1) others))
  sums_at = λ j. sum_rows (drop_at rows i row first in_rows j) (drop_at others i other second in_others j)

  -- one more row has a sum
  pub sum_step : (sums : List RowOut) (s : RowOut) → sum_row row other ≡ Some s → after_sums sums (sum_rows (drop i rows) (drop i others)) ≡ after_sums (sums ++ s ∷ []) (sum_rows (drop (i + 1) rows) (drop (i + 1) others))
  sum_step sums s is = ap (after_sums sums) sums_at ∙ one_sum_more sums s (sum_row row other) (sum_rows (drop (i + 1) rows) (drop (i + 1) others)) is
