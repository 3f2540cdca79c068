-- From the fields of a record's needed columns to its row.
use Rattle.std.proofs.Common.{◌≡◌, ◌∙◌, sym, ap, ℕ, ◌≤◌, false, List, [], ◌∷◌, length, map, take, drop, get_or, ◌-◌, Option, Some, None, arith}
use Rattle.std.proofs.lemmas.List.{length-drop, take_all}
use Rattle.cube_view.specs.declared.schema.Schema.{Schema}
use Rattle.cube_view.specs.declared.spot.Point.{Point}
use Rattle.feed_reader.specs.Columns.{category_items, weight_item}
use Rattle.feed_reader.specs.Rows.{is_short, row_of_parts, row_of_record, row_unless, text_at, texts_at}
use Rattle.feed_reader.specs.declared.row.Row.TheVariants as row
use Rattle.feed_reader.specs.declared.row.RowFault.{RowFault}
use Rattle.feed_reader.proofs.Columns.{category_items-map, weight_item-map}

-- without a fault a row is the point
pub row_unless-none : (o : Option RowFault) (p q : Point) → o ≡ None → p ≡ q → row.Point p ≡ row_unless o q
row_unless-none o p q none same = ap row.Point same ∙ sym (ap (λ (f : Option RowFault). row_unless f q) none)

-- with one it is refused
pub row_unless-some : (o : Option RowFault) (f : RowFault) (q : Point) → o ≡ Some f → row.Refused f ≡ row_unless o q
row_unless-some o f q some = sym (ap (λ (f : Option RowFault). row_unless f q) some)

-- what a record of enough fields means by the parts of its places
pub row_of_record-parts : (schema : Schema) (places : List ℕ) (fields : List (List ℕ)) (weight : Option ℕ) (categories : List ℕ) → is_short places fields ≡ false → 3 ≤ length places
    → weight ≡ weight_item schema.weight (drop 3 places) → categories ≡ category_items schema.weight (drop 3 places)
    → row_of_record schema places (Some fields)
    ≡ row_of_parts schema (get_or fields (get_or places 0 0) []) (get_or fields (get_or places 1 0) []) (get_or fields (get_or places 2 0) []) (text_at fields weight) (texts_at fields categories)
row_of_record-parts schema [] fields weight categories long enough w k = absurd (omega arith)
row_of_record-parts schema (x ∷ []) fields weight categories long enough w k = absurd (omega arith)
row_of_record-parts schema (x ∷ y ∷ []) fields weight categories long enough w k = absurd (omega arith)
row_of_record-parts schema (x ∷ y ∷ time ∷ rest) fields weight categories long enough w k =
    let field = λ (place : ℕ). get_or fields place [] in
    let texts = λ (o : Option (List ℕ)) (ts : List (List ℕ)). row_of_parts schema (field x) (field y) (field time) o ts in
    rw long (
    ap (λ (o : Option (List ℕ)). texts o (category_items schema.weight (map field rest))) (weight_item-map field schema.weight rest ∙ ap (text_at fields) (sym w))
    ∙ ap (texts (text_at fields weight)) (category_items-map field schema.weight rest ∙ ap (texts_at fields) (sym k))
    )

-- all items after the third
pub after_third : (places : List ℕ) → take (length places - 3) (drop 3 places) ≡ drop 3 places
after_third places = let size = length-drop 3 places in take_all (length places - 3) (drop 3 places) (omega (arith, size))
