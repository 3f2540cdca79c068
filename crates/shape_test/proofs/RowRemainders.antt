-- What is left of rows once those of others are taken off.
use Rattle.std.proofs.Common.{◌≡◌, ◌↔◌, inl, inr, ℕ, suc, ◌+◌, ◌-◌, ◌<◌, ◌≤◌, Bool, cond, eqb, eq-eqb, ne_eqb, nat_cmp, T, List, [], ◌∷◌, ◌++◌, length, map, take, drop, get_or, set, All, refl, sym, ap, ◌∙◌, subst, arith}
use Rattle.std.specs.FinMap.{empty, empty_of_len, entries, entries_sorted, len-entries}
use Rattle.std.specs.Prelude.{IfOk, IsTrue, Result, Ok, Err}
use Rattle.std.specs.FinMap.Entries.{is_sorted, below_all}
use Rattle.std.proofs.Math.Seq.{drop-cons}
use Rattle.std.proofs.lemmas.Bool.{cases_eq}
use Rattle.std.proofs.lemmas.List.{length-take-le, length-set, get_or-take, get_or-drop, get_or-set_same, get_or-set_other, get_or_default, get_or-map, length-map, length-drop, take-append-drop, take_more, take_all}
use Rattle.std.proofs.lemmas.List.Elements.{All-nil, All-cons}
use Rattle.std.proofs.lemmas.List.Kept.{AllPairs-cons}
use Rattle.std.proofs.lemmas.List.Sums.{sum_by-cons, sum_by-append, sum_by_push, sum_by_more, sum_by-set, sum_by_more_le}
use Rattle.probe_core.specs.Places.{RisesBy}
use Rattle.time_table.specs.Counts.{BinCounts, AllCounted, amount_at, count_of}
use Rattle.time_table.proofs.RowCounts.{counts-nil, entries-counts}
use Rattle.time_table.proofs.KeySums.{first_part, second_part, below}
use Rattle.node_arena.specs.Amounts.{amount_under}
use Rattle.node_arena.specs.Slots.{Slot, node, table, IsNode, slot_of, count, counts_of}
use Rattle.shape_test.specs.Wholes.{spot_at}
use Rattle.shape_test.proofs.Core.{one_under, amount-cons}
use Rattle.shape_test.proofs.BinRows.{table_rows}
use Rattle.shape_test.specs.Ends.{ends_count}
use Rattle.shape_test.specs.Parts.{part_slot}
use Rattle.shape_test.specs.declared.parts.Part.{Part}
use Rattle.shape_test.specs.Remainder.{AreOrderly, FitIn, IsRemainder, row_key, slot_rows, first_rows}
use Rattle.shape_test.proofs.WayCounts.{ends_part}

-- ---- what rows count in a bin

-- what one row counts in a bin
abbrev pub part_at : ℕ → ℕ × ℕ → ℕ
part_at bin e = cond (eqb bin e.0) e.1 0

part_here : (bin : ℕ) (e : ℕ × ℕ) → bin ≡ e.0 → part_at bin e ≡ e.1
part_here bin e is = rw (eq-eqb bin e.0 is) refl

part_away : (bin : ℕ) (e : ℕ × ℕ) → (bin ≡ e.0 → ⊥) → part_at bin e ≡ 0
part_away bin e other = rw (ne_eqb bin e.0 other) refl

-- a number where two are equal, in either order
pub where_equal-swapped : (a b n : ℕ) → cond {A = ℕ} (eqb a b) n 0 ≡ cond {A = ℕ} (eqb b a) n 0
where_equal-swapped a b n = grind arith

rows_under : (es : List (ℕ × ℕ)) (bin : ℕ) → amount_under (map (spot_at []) es) [] bin ≡ amount_at bin es
rows_under [] bin = refl
rows_under (e ∷ es) bin =
    let a = amount-cons (spot_at [] e) (map (spot_at []) es) [] bin in
    let s = sum_by-cons (part_at bin) e es in
    let r = rows_under es bin in
    let o : one_under (spot_at [] e) [] bin ≡ part_at bin e = where_equal-swapped e.0 bin e.1 in
    omega (arith, a, s, r, o)

-- the rows of a table count what it does
pub amount-entries : (m : BinCounts) (bin : ℕ) → amount_at bin (entries m) ≡ count_of m bin
amount-entries m bin = sym (table_rows [] [] m bin ∙ rows_under (entries m) bin)

-- rows of other bins count nothing
amount_none : (bin : ℕ) (es : List (ℕ × ℕ)) → ((k : ℕ) (d : ℕ × ℕ) → k < length es → (get_or es k d).0 ≡ bin → ⊥) → amount_at bin es ≡ 0
amount_none bin [] other = refl
amount_none bin (e ∷ es) other =
    let s = sum_by-cons (part_at bin) e es in
    let o = part_away bin e (λ is. other 0 e (omega arith) (sym is)) in
    let r = amount_none bin es (λ k d less is. other (suc k) d (omega (arith, less)) is) in
    omega (arith, s, o, r)

-- each row is counted
amount_least : (es : List (ℕ × ℕ)) (i : ℕ) (d : ℕ × ℕ) → i < length es → (get_or es i d).1 ≤ amount_at (get_or es i d).0 es
amount_least es i d within =
    let e : ℕ × ℕ = get_or es i d in
    let m = sum_by_more_le (part_at e.0) es i d within in
    let h = part_here e.0 e refl in
    omega (arith, m, h)

-- and alone in its bin
amount_one : (es : List (ℕ × ℕ)) (i : ℕ) (d : ℕ × ℕ) → RisesBy row_key es → i < length es → amount_at (get_or es i d).0 es ≡ (get_or es i d).1
amount_one es i d rises within =
    let e : ℕ × ℕ = get_or es i d in
    let around : es ≡ take i es ++ (e ∷ drop (suc i) es) = sym (take-append-drop i es) ∙ ap (λ zs. take i es ++ zs) (drop-cons es i d within) in
    let long : length (take i es) ≡ i = length-take-le i es (omega arith) in
    let before : amount_at e.0 (take i es) ≡ 0 = amount_none e.0 (take i es) (λ k q less is.
    let first : (get_or (take i es) k q).0 ≡ (get_or es k q).0 = ap row_key (get_or-take i es k q (omega (arith, less))) in
    let up : (get_or es k q).0 < (get_or es i q).0 = rises k i q (omega (arith, less)) within in
    let same : (get_or es i q).0 ≡ e.0 = ap row_key (get_or_default es i q d within) in
    omega arith) in
    let after : amount_at e.0 (drop (suc i) es) ≡ 0 = amount_none e.0 (drop (suc i) es) (λ k q less is.
    let more = length-drop (suc i) es in
    let first : (get_or (drop (suc i) es) k q).0 ≡ (get_or es (suc i + k) q).0 = ap row_key (get_or-drop (suc i) es k q) in
    let up : (get_or es i q).0 < (get_or es (suc i + k) q).0 = rises i (suc i + k) q (omega arith) (omega (arith, less, more)) in
    let same : (get_or es i q).0 ≡ e.0 = ap row_key (get_or_default es i q d within) in
    omega arith) in
    let all : amount_at e.0 es ≡ amount_at e.0 (take i es) + amount_at e.0 (e ∷ drop (suc i) es) = ap (amount_at e.0) around ∙ sum_by-append (part_at e.0) (take i es) (e ∷ drop (suc i) es) in
    let one = sum_by-cons (part_at e.0) e (drop (suc i) es) in
    let here = part_here e.0 e refl in
    omega (arith, before, after, all, one, here)

-- ---- rows that are taken off

-- the first rows are taken off, of which the next one has a bin that is none of those passed
pub record IsTaken (old rows left : List (ℕ × ℕ)) (i next : ℕ) : Type 0 where
  pub within : next ≤ length rows
  pub long : length left ≡ length old
  pub bins : (k : ℕ) (d : ℕ × ℕ) → (get_or left k d).0 ≡ (get_or old k d).0
  pub amounts : (bin : ℕ) → amount_at bin old ≡ amount_at bin left + amount_at bin (take next rows)
  pub rest : (k : ℕ) (d : ℕ × ℕ) → i ≤ k → get_or left k d ≡ get_or old k d
  pub apart : (k : ℕ) (d : ℕ × ℕ) → k < i → k < length old → next < length rows → (get_or old k d).0 ≡ (get_or rows next d).0 → ⊥

pub none_taken : (old rows : List (ℕ × ℕ)) → IsTaken old rows old 0 0
none_taken old rows = record {
  within = omega arith;
  long = refl;
  bins = λ k d. refl;
  amounts = λ bin. let z : amount_at bin (take 0 rows) ≡ 0 = refl in omega arith;
  rest = λ k d le. refl;
  apart = λ k d less within some is. absurd (omega (arith, less));
}

-- a bin is passed that is not the next row's
pub passed_by : (old rows left : List (ℕ × ℕ)) (i next : ℕ) (d : ℕ × ℕ) → IsTaken old rows left i next → i < length left → next < length rows → ((get_or left i d).0 ≡ (get_or rows next d).0 → ⊥) → IsTaken old rows left (i + 1) next
passed_by old rows left i next d T inside some other = record {
  within = T.within;
  long = T.long;
  bins = T.bins;
  amounts = T.amounts;
  rest = λ k q le. T.rest k q (omega (arith, le));
  apart = λ k q less within more is. elim (cases_eq k i) [
    | inl here ↦
        let l : (get_or old k q).0 ≡ (get_or left i d).0 = ap (λ n. (get_or old n q).0) here ∙ sym (T.bins i q) ∙ ap row_key (get_or_default left i q d inside) in
        let r : (get_or rows next q).0 ≡ (get_or rows next d).0 = ap row_key (get_or_default rows next q d some) in
        other (sym l ∙ is ∙ r)
    | inr away ↦ T.apart k q (omega (arith, less, away)) within more is
  ];
}

-- the next row is taken off
pub taken_more : (old rows left : List (ℕ × ℕ)) (i next : ℕ) (d : ℕ × ℕ) → RisesBy row_key old → RisesBy row_key rows → IsTaken old rows left i next → i < length left → next < length rows → (get_or left i d).0 ≡ (get_or rows next d).0 → (get_or rows next d).1 ≤ (get_or left i d).1 → IsTaken old rows (set left i ((get_or rows next d).0, (get_or left i d).1 - (get_or rows next d).1)) (i + 1) (next + 1)
taken_more old rows left i next d up up' T inside some same enough =
    let r : ℕ × ℕ = get_or rows next d in
    let e : ℕ × ℕ = get_or left i d in
    let new : ℕ × ℕ = (r.0, e.1 - r.1) in
    record {
      within = omega arith;
      long = length-set left i new ∙ T.long;
      bins = λ k q. elim (cases_eq k i) [
        | inl here ↦ ap (λ n. (get_or (set left i new) n q).0) here ∙ ap row_key (get_or-set_same left i new q inside) ∙ sym same ∙ ap row_key (get_or_default left i d q inside) ∙ T.bins i q ∙ ap (λ n. (get_or old n q).0) (sym here)
        | inr away ↦ ap row_key (get_or-set_other left i k new q away) ∙ T.bins k q
      ];
      amounts = λ bin.
          let s = sum_by-set (part_at bin) left i new d inside in
          let m : amount_at bin (take (next + 1) rows) ≡ amount_at bin (take next rows) + part_at bin r = ap (amount_at bin) (take_more rows next d some) ∙ sum_by_push (part_at bin) (take next rows) r in
          let a = T.amounts bin in
          elim (cases_eq bin r.0) [
            | inl here ↦
                let p = part_here bin r here in
                let q = part_here bin e (here ∙ sym same) in
                let n = part_here bin new here in
                omega (arith, s, m, a, p, q, n, enough)
            | inr away ↦
                let p = part_away bin r away in
                let q = part_away bin e (λ is. away (is ∙ same)) in
                let n = part_away bin new away in
                omega (arith, s, m, a, p, q, n)
          ];
      rest = λ k q le. get_or-set_other left i k new q (λ is. omega (arith, le, is)) ∙ T.rest k q (omega (arith, le));
      apart = λ k q less within more is.
          let l : (get_or old i q).0 ≡ r.0 = sym (T.bins i q) ∙ ap row_key (get_or_default left i q d inside) ∙ same in
          let f : (get_or rows next q).0 ≡ r.0 = ap row_key (get_or_default rows next q d some) in
          let later : (get_or rows next q).0 < (get_or rows (next + 1) q).0 = up' next (next + 1) q (omega arith) more in
          elim (cases_eq k i) [
            | inl here ↦ let h : (get_or old k q).0 ≡ (get_or old i q).0 = ap (λ n. (get_or old n q).0) here in omega (arith, h, l, f, later, is)
            | inr away ↦
                let low : (get_or old k q).0 < (get_or old i q).0 = up k i q (omega (arith, less, away)) (omega (arith, T.long)) in
                omega (arith, low, l, f, later, is)
          ];
    }

-- what is left rises as it did
pub left_rises : (old rows left : List (ℕ × ℕ)) (i next : ℕ) → RisesBy row_key old → IsTaken old rows left i next → RisesBy row_key left
left_rises old rows left i next up T a b d less within =
    let long = T.long in
    let low : (get_or old a d).0 < (get_or old b d).0 = up a b d less (omega arith) in
    let x = T.bins a d in
    let y = T.bins b d in
    omega arith

-- all rows are taken off
pub all_taken : (old rows left : List (ℕ × ℕ)) (i next : ℕ) → IsTaken old rows left i next → length rows ≤ next → IsRemainder old rows left
all_taken old rows left i next T done bin = T.amounts bin ∙ ap (λ zs. amount_at bin left + amount_at bin zs) (take_all next rows done)

-- a row counts more than there is
pub too_many : (old rows left : List (ℕ × ℕ)) (i next : ℕ) (d : ℕ × ℕ) → RisesBy row_key old → IsTaken old rows left i next → i < length left → next < length rows → (get_or left i d).0 ≡ (get_or rows next d).0 → (get_or left i d).1 < (get_or rows next d).1 → FitIn rows old → ⊥
too_many old rows left i next d up T inside some same few fit =
    let long = T.long in
    let was : get_or left i d ≡ get_or old i d = T.rest i d (omega arith) in
    let least = amount_least rows next d some in
    let one = amount_one old i d up (omega arith) in
    let bin : (get_or old i d).0 ≡ (get_or rows next d).0 = ap row_key (sym was) ∙ same in
    let count : (get_or left i d).1 ≡ (get_or old i d).1 = ap (λ (e : ℕ × ℕ). e.1) was in
    let most : amount_at (get_or rows next d).0 rows ≤ amount_at (get_or rows next d).0 old = fit (get_or rows next d).0 in
    let at : amount_at (get_or old i d).0 old ≡ amount_at (get_or rows next d).0 old = ap (λ b. amount_at b old) bin in
    omega (arith, least, one, count, most, at, few)

-- a row has a bin that is not there
pub is_missing : (old rows left : List (ℕ × ℕ)) (i next : ℕ) → IsTaken old rows left i next → length left ≤ i → next < length rows → All (λ row. 0 < row.1) rows → FitIn rows old → ⊥
is_missing old rows left i next T end some counted fit =
    let r : ℕ × ℕ = get_or rows next (0, 0) in
    let long = T.long in
    let none : amount_at r.0 old ≡ 0 = amount_none r.0 old (λ k d less is. T.apart k d (omega (arith, less)) less some (is ∙ ap row_key (get_or_default rows next (0, 0) d some))) in
    let least = amount_least rows next (0, 0) some in
    let most : amount_at r.0 rows ≤ amount_at r.0 old = fit r.0 in
    let count : 0 < r.1 = counted next (0, 0) some in
    omega (arith, none, least, most, count)

-- ---- the rows of tables

below_later : (k : ℕ) (es : List (ℕ × ℕ)) → T (below_all nat_cmp k es) → All (λ e. k < e.0) es
below_later k [] B = All-nil (λ (e : ℕ × ℕ). k < e.0)
below_later k (x ∷ es) B =
    All-cons (λ (e : ℕ × ℕ). k < e.0) x es (below k x.0 (first_part _ _ B)) (below_later k es (second_part _ _ B))

sorted_rises : (es : List (ℕ × ℕ)) → T (is_sorted nat_cmp es) → RisesBy row_key es
sorted_rises [] S = λ i j d less within. absurd (omega (arith, within))
sorted_rises (x ∷ es) S =
    AllPairs-cons (λ (a b : ℕ × ℕ). a.0 < b.0) x es (below_later x.0 es (first_part (below_all nat_cmp x.0 es) _ S)) (sorted_rises es (second_part (below_all nat_cmp x.0 es) _ S))

-- the rows of a table rise, and each counts something
pub entries_orderly : (m : BinCounts) → AllCounted m → AreOrderly (entries m)
entries_orderly m counted = record {
  rises = sorted_rises (entries m) (entries_sorted m);
  counted = λ k d within. subst (λ n. 0 < n) (get_or-map (λ (e : ℕ × ℕ). e.1) (entries m) k d 0 within) (counted k 0 (omega (arith, length-map (entries m) (λ (e : ℕ × ℕ). e.1))));
}

-- a table that isn't empty has a row
pub some_row : (m : BinCounts) → AllCounted m → (m ≡ empty → ⊥) → (b : ℕ) × (0 < count_of m b)
some_row m counted other = pick (entries m) refl
  where
    pick : (es : List (ℕ × ℕ)) → entries m ≡ es → (b : ℕ) × (0 < count_of m b)
    pick [] e = absurd (other (empty_of_len m (len-entries m ∙ ap length e)))
    pick (x ∷ es) e =
        let n = ap length e in
        let within : 0 < length (entries m) = omega (arith, n) in
        let some = (entries_orderly m counted).counted 0 x within in
        let least = amount_least (entries m) 0 x within in
        let all = amount-entries m (get_or (entries m) 0 x).0 in
        ((get_or (entries m) 0 x).0, omega (arith, some, least, all))

pub none_orderly : AreOrderly []
none_orderly = record {
  rises = λ i j d less within. absurd (omega (arith, within));
  counted = All-nil (λ (e : ℕ × ℕ). 0 < e.1);
}

-- ---- the rows of slots

pub table_orderly : (slots : List Slot) (i : ℕ) (m : BinCounts) → m ≡ counts_of (slot_of slots i) → AllCounted m → AreOrderly (slot_rows slots i)
table_orderly slots i m is counted = subst (λ (z : BinCounts). AreOrderly (entries z)) is (entries_orderly m counted)

no_entries : entries {K = ℕ} {X = ℕ} {R = nat_cmp} empty ≡ []
no_entries = ap (λ (m : BinCounts). entries m) (sym counts-nil) ∙ entries-counts [] tt

-- a node has none
pub node_rows : (s : Slot) → IsNode s → entries (counts_of s) ≡ []
node_rows (node children content) is = no_entries
node_rows (table counts) is = absurd cc

pub node_orderly : (slots : List Slot) (i : ℕ) → IsNode (slot_of slots i) → AreOrderly (slot_rows slots i)
node_orderly slots i is = subst AreOrderly (sym (node_rows (slot_of slots i) is)) none_orderly

-- they count what the slot does
pub slot_amount : (slots : List Slot) (i : ℕ) (rows : List (ℕ × ℕ)) (bin : ℕ) → rows ≡ slot_rows slots i → amount_at bin rows ≡ count (slot_of slots i) bin
slot_amount slots i rows bin is = ap (amount_at bin) is ∙ amount-entries (counts_of (slot_of slots i)) bin

pub whole_amount : (slots : List Slot) (whole : List Part) (rows : List (ℕ × ℕ)) (bin : ℕ) → length whole ≤ 1 → rows ≡ first_rows slots whole → amount_at bin rows ≡ ends_count slots whole bin
whole_amount slots [] rows bin one is = ap (amount_at bin) is
whole_amount slots (p ∷ []) rows bin one is =
    let s = sum_by-cons (λ (q : Part). count (slot_of slots (part_slot q)) bin) p [] in
    let a = slot_amount slots (part_slot p) rows bin is in
    omega (arith, s, a)
whole_amount slots (p ∷ q ∷ parts) rows bin one is = absurd (omega (arith, one))

module _ (slots : List Slot) (ends : List Part) (i : ℕ) (d : Part) (old left rows : List (ℕ × ℕ)) where
  -- the rows of the next part fit in what is left, where those of all do
  pub next_fits : i < length ends → ((bin : ℕ) → amount_at bin old ≡ amount_at bin left + ends_count slots (take i ends) bin) → rows ≡ slot_rows slots (part_slot (get_or ends i d)) → ((bin : ℕ) → ends_count slots ends bin ≤ amount_at bin old) → FitIn rows left
  next_fits within sofar is fit bin =
      let part = slot_amount slots (part_slot (get_or ends i d)) rows bin is in
      let most = ends_part slots ends i d bin (ends_count slots (take i ends) bin) (count (slot_of slots (part_slot (get_or ends i d))) bin) within refl refl in
      omega (arith, part, most, sofar bin, fit bin)

  -- once they are taken off, that was left and the parts up to it
  pub next_left : (new : List (ℕ × ℕ)) → i < length ends → ((bin : ℕ) → amount_at bin old ≡ amount_at bin left + ends_count slots (take i ends) bin) → rows ≡ slot_rows slots (part_slot (get_or ends i d)) → IsRemainder left rows new → (bin : ℕ) → amount_at bin old ≡ amount_at bin new + ends_count slots (take (i + 1) ends) bin
  next_left new within sofar is taken bin =
      let part = slot_amount slots (part_slot (get_or ends i d)) rows bin is in
      let more = sum_by_more (λ (p : Part). count (slot_of slots (part_slot p)) bin) ends i d within in
      omega (arith, part, more, sofar bin, taken bin)

-- a row that counts something
pub not_spent : (rows : List (ℕ × ℕ)) (i : ℕ) (d : ℕ × ℕ) → i < length rows → 0 < (get_or rows i d).1 → ((bin : ℕ) → amount_at bin rows ≡ 0) → ⊥
not_spent rows i d within some none =
    let least = amount_least rows i d within in
    let z = none (get_or rows i d).0 in
    omega (arith, least, z, some)

-- a row that counts nothing
pub spent_more : (rows : List (ℕ × ℕ)) (i bin : ℕ) (d : ℕ × ℕ) → i < length rows → (get_or rows i d).1 ≤ 0 → amount_at bin (take i rows) ≡ 0 → amount_at bin (take (i + 1) rows) ≡ 0
spent_more rows i bin d within none sofar =
    let more = sum_by_more (part_at bin) rows i d within in
    let here : part_at bin (get_or rows i d) ≡ 0 = elim (cases_eq bin (get_or rows i d).0) [
      | inl same ↦ let p = part_here bin (get_or rows i d) same in omega (arith, p, none)
      | inr other ↦ part_away bin (get_or rows i d) other
    ] in
    omega (arith, more, here, sofar)

-- a test that decides one thing decides another that is the same
pub decides_same : {E : Type 0} (r : Result Bool E) (P Q : Type 0) → (P → Q) → (Q → P) → IfOk r (λ b. IsTrue b ↔ P) → IfOk r (λ b. IsTrue b ↔ Q)
decides_same (Ok b) P Q f g i = (λ t. f (i.0 t), λ q. i.1 (g q))
decides_same (Err e) P Q f g i = i

-- and tells what follows, and comes where that was
pub decided_told : {E : Type 0} (r : Result Bool E) (P Q : Type 0) → (P → Q) → IfOk r (λ b. IsTrue b ↔ P) → IfOk r (λ b. IsTrue b → Q)
decided_told (Ok b) P Q f i = λ t. f (i.0 t)
decided_told (Err e) P Q f i = i

pub decided_all : {E : Type 0} (r : Result Bool E) (P Q : Type 0) → (Q → P) → IfOk r (λ b. IsTrue b ↔ P) → Q → IfOk r (λ b. IsTrue b)
decided_all (Ok b) P Q f i q = i.1 (f q)
decided_all (Err e) P Q f i q = i
