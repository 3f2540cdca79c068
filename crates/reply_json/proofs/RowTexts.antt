-- The text of rows, put one row after another.
use Rattle.std.proofs.Common.{◌≡◌, ℕ, ◌+◌, ◌<◌, Bool, true, List, [], ◌∷◌, ◌++◌, length, get_or, take, drop, map, sym, ap, ap₂, ◌∙◌, subst, append_assoc, add-one, arith, ◌≤◌}
use Rattle.std.proofs.Math.Seq.{drop-cons, take-suc}
use Rattle.std.proofs.lemmas.List.{drop_all, take_all}
use Rattle.std.proofs.lemmas.List.Elements.{All-push}
use Rattle.std.specs.List.{All}
use Rattle.serde_json.specs.View.{items_of}
use Rattle.serde_json.specs.Written.{comma_if, compact_text, items_text}
use Rattle.query_syntax.specs.declared.table.RowOut.{RowOut}
use Rattle.reply_json.specs.Printed.{row_value}
use Rattle.reply_json.specs.Types.{RowFits}

-- the text of the rows that are left, with the closing bracket
abbrev pub rest_text : Bool → List RowOut → List ℕ
rest_text later rows = items_text later (items_of (map row_value rows))

-- one row more is put
pub next_row : (out new whole : List ℕ) (later : Bool) (rows : List RowOut) (i : ℕ) (row : RowOut) → i < length rows → row ≡ get_or rows i row
    → new ≡ out ++ (comma_if later ++ compact_text (row_value row)) → out ++ rest_text later (drop i rows) ≡ whole → new ++ rest_text true (drop (i + 1) rows) ≡ whole
next_row out new whole later rows i row within is text before =
    let left : drop i rows ≡ row ∷ drop (i + 1) rows = drop-cons rows i row within ∙ ap₂ (λ (r : RowOut) (more : List RowOut). r ∷ more) (sym is) (ap (λ (n : ℕ). drop n rows) (sym (add-one i))) in
    let rest = rest_text true (drop (i + 1) rows) in
    ap (λ (bytes : List ℕ). bytes ++ rest) text
    ∙ append_assoc out (comma_if later ++ compact_text (row_value row)) rest
    ∙ ap (λ (bytes : List ℕ). out ++ bytes) (append_assoc (comma_if later) (compact_text (row_value row)) rest)
    ∙ ap (λ (left : List RowOut). out ++ rest_text later left) (sym left)
    ∙ before

-- all rows are put
pub last_row : (out new whole : List ℕ) (later : Bool) (rows : List RowOut) (i : ℕ) → length rows ≤ i → new ≡ out ++ 93 ∷ [] → out ++ rest_text later (drop i rows) ≡ whole → new ≡ whole
last_row out new whole later rows i past text before = text ∙ ap (λ (left : List RowOut). out ++ rest_text later left) (sym (drop_all i rows past)) ∙ before

-- one row more fits
pub fits_more : (rows : List RowOut) (i : ℕ) (row : RowOut) → i < length rows → row ≡ get_or rows i row → RowFits row → All RowFits (take i rows) → All RowFits (take (i + 1) rows)
fits_more rows i row within is fits before =
    let longer : take (i + 1) rows ≡ take i rows ++ row ∷ [] = ap (λ (n : ℕ). take n rows) (add-one i) ∙ take-suc rows i row within ∙ ap (λ (r : RowOut). take i rows ++ r ∷ []) (sym is) in
    subst (λ (some : List RowOut). All RowFits some) (sym longer) (All-push RowFits (take i rows) row before fits)

pub all_fit : (rows : List RowOut) (i : ℕ) → length rows ≤ i → All RowFits (take i rows) → All RowFits rows
all_fit rows i past before = subst (λ (some : List RowOut). All RowFits some) (take_all i rows past) before

pub none_fit : All RowFits []
none_fit k d within = absurd (omega (arith, within))
