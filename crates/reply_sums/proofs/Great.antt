-- Sums in which a total is too great.
use Rattle.std.proofs.Common.{◌≡◌, ℕ, ◌+◌, Bool, true, false, ◌||◌, List, [], ◌∷◌, ◌++◌, Option, Some, None, refl, sym, ◌∙◌, ap, subst}
use Rattle.std.specs.Prelude.{is_some, option_map}
use Rattle.std.proofs.lemmas.Bool.{false≢true}
use Rattle.std.proofs.lemmas.List.Folds.{list_any-append}
use Rattle.cube_view.specs.declared.address.Tile.{Tile}
use Rattle.query_syntax.specs.declared.query.Parsed.{Parsed}
use Rattle.query_syntax.specs.declared.query.Parsed.TheVariants as parsed
use Rattle.query_syntax.specs.declared.query.Query.{Query}
use Rattle.query_syntax.specs.declared.table.RowOut.{RowOut}
use Rattle.query_syntax.specs.declared.table.Table.{Table}
use Rattle.reply_json.specs.declared.reply.Reply.{Reply}
use Rattle.reply_sums.specs.Areas.{areas_of_both, head_total, left_after}
use Rattle.reply_sums.specs.Numbers.{AreGreat, IsGreat, are_rows_great, is_row_great, is_too_great}
use Rattle.reply_sums.specs.Sums.{HaveGreatSum, sum_of_query, sum_of_rows, sum_tables}
use Rattle.reply_sums.proofs.AreaSums.{areas-append, push_some}
use Rattle.reply_sums.proofs.ReplySums.{table_found}
use Rattle.reply_sums.proofs.RowSums.{before_sums}

or_true : (a : Bool) → (a || true) ≡ true
or_true true = refl
or_true false = refl

-- rows of which some are great, with others before and after them
pub great_after : (rows more : List RowOut) → are_rows_great more ≡ true → are_rows_great (rows ++ more) ≡ true
great_after rows more great = list_any-append is_row_great rows more ∙ (ap (λ b. are_rows_great rows || b) great ∙ or_true (are_rows_great rows))

pub great_before : (rows more : List RowOut) → are_rows_great rows ≡ true → are_rows_great (rows ++ more) ≡ true
great_before rows more great = list_any-append is_row_great rows more ∙ ap (λ b. b || are_rows_great more) great

-- one row more that fits
pub fits_push : (rows : List RowOut) (row : RowOut) → are_rows_great rows ≡ false → is_row_great row ≡ false → are_rows_great (rows ++ row ∷ []) ≡ false
fits_push rows row fits one = list_any-append is_row_great rows (row ∷ []) ∙ (λ i. fits i || (one i || false))

-- rows from a place on have sums exactly where all have, if those before have
pub alike_step : (o : Option RowOut) (later : Option (List RowOut)) → is_some o ≡ true → is_some (before_sums o later) ≡ is_some later
alike_step None later is = absurd (cc)
alike_step (Some s) None is = refl
alike_step (Some s) (Some more) is = refl

pub alike_stop : (o : Option RowOut) (later : Option (List RowOut)) → is_some o ≡ false → is_some (before_sums o later) ≡ false
alike_stop None later is = refl
alike_stop (Some s) later is = absurd (cc)

-- a total that is great on the way along tiles is one of all
pub great_areas : (ts us vs : List Tile) (rows others r o : List RowOut) → r ≡ left_after ts rows → o ≡ left_after ts others → are_rows_great (areas_of_both us r o) ≡ true → are_rows_great (areas_of_both (ts ++ (us ++ vs)) rows others) ≡ true
great_areas ts us vs rows others r o first second great =
    ap are_rows_great (areas-append ts (us ++ vs) rows others)
    ∙ great_after (areas_of_both ts rows others) (areas_of_both (us ++ vs) (left_after ts rows) (left_after ts others))
    (ap are_rows_great (areas-append us vs (left_after ts rows) (left_after ts others))
    ∙ great_before (areas_of_both us (left_after ts rows) (left_after ts others)) (areas_of_both vs (left_after us (left_after ts rows)) (left_after us (left_after ts others)))
    ((λ i. are_rows_great (areas_of_both us (sym first i) (sym second i))) ∙ great))

-- a tile's total that is great
pub one_great : (t : Tile) (rows others : List RowOut) (n m : ℕ) → n ≡ head_total t rows → m ≡ head_total t others → is_too_great (n + m) ≡ true → are_rows_great (areas_of_both (t ∷ []) rows others) ≡ true
one_great t rows others n m first second great =
    let whole : is_too_great (head_total t rows + head_total t others) ≡ true = (λ i. is_too_great (sym first i + sym second i)) ∙ great in
    ap are_rows_great (push_some t rows others (λ none. false≢true (sym (ap is_too_great none) ∙ whole))) ∙ ap (λ b. b || false) whole

-- a table of which a total is great, or the number of points
module _ (q : Query) (t u : Table) (rows others : List RowOut) (first : rows ≡ t.rows) (second : others ≡ u.rows) where
  pub table_great : AreGreat (sum_of_rows q q.verb rows others) → IsGreat (sum_tables q t u)
  unfolding sum_tables
  table_great great = at (sum_of_rows q q.verb t.rows u.rows) (subst (λ (o : Option (List RowOut)). AreGreat o) (λ i. sum_of_rows q q.verb (first i) (second i)) great)
    where
      at : (o : Option (List RowOut)) → AreGreat o → IsGreat (option_map (λ (rs : List RowOut). Reply.Table (record { rows = rs; seen = t.seen + u.seen })) o)
      at None great = absurd great
      at (Some sums) great = ap (λ b. b || is_too_great (t.seen + u.seen)) great

  pub seen_great : (sums : List RowOut) → sum_of_rows q q.verb rows others ≡ Some sums → is_too_great (t.seen + u.seen) ≡ true → IsGreat (sum_tables q t u)
  seen_great sums found great =
      subst (λ (o : Option Reply). IsGreat o) (sym (table_found q t u rows others first second sums (t.seen + u.seen) found refl))
      (ap (λ b. are_rows_great sums || b) great ∙ or_true (are_rows_great sums))

-- a sum of a query that is great is one of what was asked
pub great_by : (p : Parsed) (q : Query) (a b : Reply) → p ≡ parsed.Ask q → IsGreat (sum_of_query q a b) → HaveGreatSum p a b
great_by p q a b is great = subst (λ (x : Parsed). HaveGreatSum x a b) (sym is) (at (sum_of_query q a b) refl great)
  where
    at : (o : Option Reply) → sum_of_query q a b ≡ o → IsGreat o → HaveGreatSum (parsed.Ask q) a b
    at None is great = absurd great
    at (Some sum) is great = (sum, is, great)
