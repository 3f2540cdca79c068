-- The sum of a reply that can be printed can be printed.
use Rattle.std.proofs.Common.{◌≡◌, ℕ, ◌+◌, Bool, true, false, ◌&&◌, ◌||◌, List, [], ◌∷◌, Option, Some, None, Result, Ok, Err, IfOk, refl, sym, ◌∙◌, ap, subst}
use Rattle.std.specs.List.{cons_option, list_all}
use Rattle.std.specs.Prelude.{◌==◌, if◌then◌else◌, option_map}
use Rattle.std.specs.Str.{bytes_eq}
use Rattle.cube_view.specs.declared.address.Tile.{Tile}
use Rattle.query_syntax.specs.TileOrder.{tiles_below}
use Rattle.query_syntax.specs.declared.fault.QueryFault.{QueryFault}
use Rattle.query_syntax.specs.declared.query.Parsed.{Parsed}
use Rattle.query_syntax.specs.declared.query.Parsed.TheVariants as parsed
use Rattle.query_syntax.specs.declared.query.Query.{Query}
use Rattle.query_syntax.specs.declared.query.Verb.{Verb}
use Rattle.query_syntax.specs.declared.query.Verb.TheVariants as verb
use Rattle.query_syntax.specs.declared.table.RowOut.{RowOut}
use Rattle.query_syntax.specs.declared.table.Table.{Table}
use Rattle.reply_json.specs.Validity.{are_valid_rows, is_area_row, is_bin_row, is_one_total, is_pair_row, is_valid_reply, is_value_row}
use Rattle.reply_json.specs.declared.reply.Reply.{Reply}
use Rattle.reply_sums.specs.Areas.{after_head, areas_of_both, head_total, is_none_left, left_after, sum_areas}
use Rattle.reply_sums.specs.Rows.{sum_row, sum_rows}
use Rattle.reply_sums.specs.Sums.{IsSum, sum_of_query, sum_of_rows, sum_tables, sum_told}
use Rattle.reply_sums.specs.declared.fault.SumFault.{SumFault}
use Rattle.reply_sums.proofs.RowSums.{before_sums}

-- an item that was there under a test
if_some : {A : Type 0} (b : Bool) (x y : A) → (if b then Some x else None) ≡ Some y → x ≡ y
if_some true x y is = cc
if_some false x y is = cc

-- a test of a row that its kind decides
module _ (k : RowOut → Bool) (one : (n m : ℕ) → k (RowOut.One n) ≡ k (RowOut.One m)) (value : (s : List ℕ) (n m : ℕ) → k (RowOut.Value s n) ≡ k (RowOut.Value s m)) (bin : (s n m : ℕ) → k (RowOut.Bin s n) ≡ k (RowOut.Bin s m)) (pair : (s v : List ℕ) (n m : ℕ) → k (RowOut.Pair s v n) ≡ k (RowOut.Pair s v m)) where
  row_same : (a b s : RowOut) → sum_row a b ≡ Some s → k s ≡ k a
  row_same (RowOut.One n) (RowOut.One m) s is = let e : RowOut.One (n + m) ≡ s = cc in ap k (sym e) ∙ one (n + m) n
  row_same (RowOut.Value x n) (RowOut.Value y m) s is = ap k (sym (if_some (bytes_eq x y) (RowOut.Value x (n + m)) s is)) ∙ value x (n + m) n
  row_same (RowOut.Bin x n) (RowOut.Bin y m) s is = ap k (sym (if_some (x == y) (RowOut.Bin x (n + m)) s is)) ∙ bin x (n + m) n
  row_same (RowOut.Pair x v n) (RowOut.Pair y w m) s is = ap k (sym (if_some (bytes_eq x y && bytes_eq v w) (RowOut.Pair x v (n + m)) s is)) ∙ pair x v (n + m) n
  row_same _ _ s is = cc

-- The sum of two rows, and those of others
record Begins (o : Option RowOut) (later : Option (List RowOut)) (sums : List RowOut) : Type 0 where
  pub first : RowOut
  pub rest : List RowOut
  pub is_first : o ≡ Some first
  pub is_rest : later ≡ Some rest
  pub are : sums ≡ first ∷ rest

begins : (o : Option RowOut) (later : Option (List RowOut)) (sums : List RowOut) → before_sums o later ≡ Some sums → Begins o later sums
begins None later sums is = absurd (cc)
begins (Some s) None sums is = absurd (cc)
begins (Some s) (Some ss) sums is = let e : s ∷ ss ≡ sums = cc in record { first = s; rest = ss; is_first = refl; is_rest = refl; are = sym e }

-- all rows pass such a test where all of their sums do
module _ (k : RowOut → Bool) (same : (a b s : RowOut) → sum_row a b ≡ Some s → k s ≡ k a) where
  all_same : (rows others sums : List RowOut) → sum_rows rows others ≡ Some sums → list_all k sums ≡ list_all k rows
  all_same [] [] sums is = let e : [] ≡ sums = cc in ap (list_all k) (sym e)
  all_same [] (other ∷ others) sums is = absurd (cc)
  all_same (row ∷ rows) [] sums is = absurd (cc)
  all_same (row ∷ rows) (other ∷ others) sums is =
      let b = begins (sum_row row other) (sum_rows rows others) sums is in
      ap (list_all k) b.are ∙ (λ i. same row other b.first b.is_first i && all_same rows others b.rest b.is_rest i)

two_rows : (a b : RowOut) (rows : List RowOut) → is_one_total (a ∷ b ∷ rows) ≡ false
two_rows (RowOut.One n) b rows = refl
two_rows (RowOut.Value s n) b rows = refl
two_rows (RowOut.Area t n) b rows = refl
two_rows (RowOut.Bin s n) b rows = refl
two_rows (RowOut.Pair s v n) b rows = refl

one_same : (rows others sums : List RowOut) → sum_rows rows others ≡ Some sums → is_one_total sums ≡ is_one_total rows
one_same [] [] sums is = let e : [] ≡ sums = cc in ap is_one_total (sym e)
one_same [] (other ∷ others) sums is = absurd (cc)
one_same (row ∷ rows) [] sums is = absurd (cc)
one_same (row ∷ []) (other ∷ []) sums is =
    let b = begins (sum_row row other) (Some []) sums is in
    let none : b.rest ≡ [] = cc in
    ap is_one_total b.are ∙ (ap (λ rest. is_one_total (b.first ∷ rest)) none ∙ row_same (λ r. is_one_total (r ∷ [])) (λ n m. refl) (λ s n m. refl) (λ s n m. refl) (λ s v n m. refl) row other b.first b.is_first)
one_same (row ∷ []) (other ∷ another ∷ others) sums is = let b = begins (sum_row row other) None sums is in absurd (let none = b.is_rest in cc)
one_same (row ∷ more ∷ rows) (other ∷ []) sums is = let b = begins (sum_row row other) None sums is in absurd (let none = b.is_rest in cc)
one_same (row ∷ more ∷ rows) (other ∷ another ∷ others) sums is =
    let b = begins (sum_row row other) (sum_rows (more ∷ rows) (another ∷ others)) sums is in
    let c = begins (sum_row more another) (sum_rows rows others) b.rest b.is_rest in
    ap is_one_total b.are ∙ (ap (λ rest. is_one_total (b.first ∷ rest)) c.are ∙ (two_rows b.first c.first c.rest ∙ sym (two_rows row more rows)))

rows_valid : (rows others sums : List RowOut) → sum_rows rows others ≡ Some sums → are_valid_rows rows ≡ true → are_valid_rows sums ≡ true
rows_valid rows others sums is valid =
    let value = all_same is_value_row (row_same is_value_row (λ n m. refl) (λ s n m. refl) (λ s n m. refl) (λ s v n m. refl)) rows others sums is in
    let area = all_same is_area_row (row_same is_area_row (λ n m. refl) (λ s n m. refl) (λ s n m. refl) (λ s v n m. refl)) rows others sums is in
    let bin = all_same is_bin_row (row_same is_bin_row (λ n m. refl) (λ s n m. refl) (λ s n m. refl) (λ s v n m. refl)) rows others sums is in
    let pair = all_same is_pair_row (row_same is_pair_row (λ n m. refl) (λ s n m. refl) (λ s n m. refl) (λ s v n m. refl)) rows others sums is in
    (λ i. one_same rows others sums is i || value i || area i || bin i || pair i) ∙ valid

-- rows of tiles are of one kind
tile_first : (t : Tile) (n : ℕ) (b : Bool) (rows : List RowOut) → list_all is_area_row rows ≡ true → list_all is_area_row (cons_option (if b then None else Some (RowOut.Area t n)) rows) ≡ true
tile_first t n true rows all = all
tile_first t n false rows all = all

all_tiles : (ts : List Tile) (rows others : List RowOut) → list_all is_area_row (areas_of_both ts rows others) ≡ true
unfolding areas_of_both
all_tiles [] rows others = refl
all_tiles (t ∷ ts) rows others =
    let n = head_total t rows + head_total t others in
    tile_first t n (n == 0) (areas_of_both ts (after_head t rows) (after_head t others)) (all_tiles ts (after_head t rows) (after_head t others))

third : (a b c d e : Bool) → c ≡ true → (a || b || c || d || e) ≡ true
third true b c d e is = refl
third false true c d e is = refl
third false false c d e is = ap (λ x. x || d || e) is

areas_valid : (ts : List Tile) (rows others sums : List RowOut) → sum_areas ts rows others ≡ Some sums → are_valid_rows sums ≡ true
areas_valid ts rows others sums is =
    let e = if_some (is_none_left (left_after ts rows) && is_none_left (left_after ts others)) (areas_of_both ts rows others) sums is in
    third (is_one_total sums) (list_all is_value_row sums) (list_all is_area_row sums) (list_all is_bin_row sums) (list_all is_pair_row sums) (ap (list_all is_area_row) (sym e) ∙ all_tiles ts rows others)

verb_valid : (q : Query) (v : Verb) (rows others sums : List RowOut) → sum_of_rows q v rows others ≡ Some sums → are_valid_rows rows ≡ true → are_valid_rows sums ≡ true
verb_valid q verb.Count rows others sums is valid = rows_valid rows others sums is valid
verb_valid q (verb.Hist k) rows others sums is valid = rows_valid rows others sums is valid
verb_valid q (verb.Map down) rows others sums is valid = areas_valid (tiles_below down q.region) rows others sums is
verb_valid q (verb.Series from wide count) rows others sums is valid = rows_valid rows others sums is valid
verb_valid q (verb.Window rect) rows others sums is valid = rows_valid rows others sums is valid
verb_valid q (verb.Cross k l) rows others sums is valid = rows_valid rows others sums is valid
verb_valid q (verb.Best down count) rows others sums is valid = cc
verb_valid q verb.Stat rows others sums is valid = cc
verb_valid q verb.Told rows others sums is valid = cc
verb_valid q verb.Quit rows others sums is valid = cc

tables_valid : (q : Query) (t u : Table) (sum : Reply) → sum_tables q t u ≡ Some sum → are_valid_rows t.rows ≡ true → is_valid_reply sum ≡ true
unfolding sum_tables is_valid_reply
tables_valid q t u sum is valid = at (sum_of_rows q q.verb t.rows u.rows) (λ sums found. verb_valid q q.verb t.rows u.rows sums found valid) is
  where
    at : (o : Option (List RowOut)) → ((sums : List RowOut) → o ≡ Some sums → are_valid_rows sums ≡ true) → option_map (λ (rows : List RowOut). Reply.Table (record { rows = rows; seen = t.seen + u.seen })) o ≡ Some sum → is_valid_reply sum ≡ true
    at None valid is = cc
    at (Some sums) valid is = let e : Reply.Table (record { rows = sums; seen = t.seen + u.seen }) ≡ sum = cc in subst (λ (r : Reply). is_valid_reply r ≡ true) e (valid sums refl)

told_valid : (v : Verb) (n m : ℕ) (sum : Reply) → sum_told v n m ≡ Some sum → is_valid_reply sum ≡ true
unfolding is_valid_reply
told_valid verb.Told n m sum is = let e : Reply.Told (n + m) ≡ sum = cc in subst (λ (r : Reply). is_valid_reply r ≡ true) e refl
told_valid verb.Count n m sum is = cc
told_valid (verb.Hist k) n m sum is = cc
told_valid (verb.Map down) n m sum is = cc
told_valid (verb.Series from wide count) n m sum is = cc
told_valid (verb.Window rect) n m sum is = cc
told_valid (verb.Cross k l) n m sum is = cc
told_valid (verb.Best down count) n m sum is = cc
told_valid verb.Stat n m sum is = cc
told_valid verb.Quit n m sum is = cc

valid_rows : (t : Table) → is_valid_reply (Reply.Table t) ≡ true → are_valid_rows t.rows ≡ true
unfolding is_valid_reply
valid_rows t valid = valid

fault_valid : (fault : QueryFault) (word : ℕ) (sum : Reply) → sum ≡ Reply.Fault fault word → is_valid_reply sum ≡ true
unfolding is_valid_reply
fault_valid fault word sum is = ap is_valid_reply is

query_valid : (q : Query) (a b sum : Reply) → sum_of_query q a b ≡ Some sum → is_valid_reply a ≡ true → is_valid_reply sum ≡ true
query_valid q (Reply.Table t) (Reply.Table u) sum is valid = tables_valid q t u sum is (valid_rows t valid)
query_valid q (Reply.Told n) (Reply.Told m) sum is valid = told_valid q.verb n m sum is
query_valid q _ _ sum is valid = cc

-- the sum of a reply that can be printed and another can be printed
pub sum_valid : (p : Parsed) (a b sum : Reply) → IsSum p a b sum → is_valid_reply a ≡ true → is_valid_reply sum ≡ true
sum_valid parsed.Skip a b sum is valid = absurd is
sum_valid (parsed.Ask q) a b sum is valid = query_valid q a b sum is valid
sum_valid (parsed.Fault fault word) a b sum is valid = fault_valid fault word sum is.2

pub valid_by : (p : Parsed) (a b : Reply) (r : Result Reply SumFault) → IfOk r (IsSum p a b) → is_valid_reply a ≡ true → IfOk r (λ sum. is_valid_reply sum ≡ true)
valid_by p a b (Ok sum) is valid = sum_valid p a b sum is valid
valid_by p a b (Err fault) is valid = tt
