-- Tables that are read, and that are read again.
use Rattle.std.proofs.Common.{◌≡◌, ℕ, zero, suc, ◌+◌, ◌^◌, ◌<◌, ◌≤◌, Bool, cond, eqb, ltb, List, [], ◌∷◌, ◌++◌, length, Some, None, refl, sym, ap, subst, ◌∙◌, append_assoc, arith, option_and_then}
use Rattle.std.specs.FinMap.{from_sorted, entries, entries_sorted, entries-from_sorted, same_entries_map}
use Rattle.std.specs.Int.{w32, w64, to_be_bytes}
use Rattle.std.specs.List.{flat_map}
use Rattle.std.specs.Ordering.{nat_cmp}
use Rattle.std.proofs.lemmas.Bool.{lt-ltb, le-ltb, ltb-false, eqb-false, ne_eqb}
use Rattle.std.proofs.lemmas.Option.{same_Some}
use Rattle.node_arena.specs.Slots.{Slot, table}
use Rattle.time_table.specs.Counts.{BinCounts}
use Rattle.cube_image.specs.Bytes.{row_bytes, table_bytes, slot_bytes}
use Rattle.cube_image.specs.Rest.{below_number, word_rows}
use Rattle.time_table.specs.Rows.{AreRows}
use Rattle.time_table.proofs.RowLists.{entries_of_rows}
use Rattle.image_parse.specs.Images.{IsImageSlot}
use Rattle.image_parse.specs.Reading.{Front, width_number_at, row_at, table_rows_at, table_at}
use Rattle.image_parse.proofs.Fields.{IsBytes, bind_some, fails_some, Takes, Takes-then, wide32, wide64, number_takes, number_again}

-- a row that was read
record IsRowAt (from : ℕ) (bytes : List ℕ) (x : Front (ℕ × ℕ)) : Type 0 where
  takes : Takes bytes (row_bytes x.0) x.1
  later : from ≤ x.0.0
  bin : x.0.0 < 2 ^ 32
  some : 0 < x.0.1
  count : x.0.1 < 2 ^ 64

row_takes : (from : ℕ) (bytes : List ℕ) (x : Front (ℕ × ℕ)) → IsBytes bytes → row_at from bytes ≡ Some x → IsRowAt from bytes x
unfolding row_at
row_takes from bytes x fits e =
    let a = bind_some (width_number_at w32 bytes) (λ bin. option_and_then (λ count. cond (ltb bin.0 from) None (cond (eqb count.0 0) None (Some ((bin.0, count.0), count.1)))) (width_number_at w64 bin.1)) x e in
    let b = bind_some (width_number_at w64 a.0.1) (λ count. cond (ltb a.0.0 from) None (cond (eqb count.0 0) None (Some ((a.0.0, count.0), count.1)))) x a.2 in
    let g = fails_some (ltb a.0.0 from) (cond (eqb b.0.0 0) None (Some ((a.0.0, b.0.0), b.0.1))) x b.2 in
    let h = fails_some (eqb b.0.0 0) (Some ((a.0.0, b.0.0), b.0.1)) x g.1 in
    let t = number_takes w32 (2 ^ 32) wide32 bytes a.0 fits a.1 in
    let u = number_takes w64 (2 ^ 64) wide64 a.0.1 b.0 t.0.rest_fits b.1 in
    let not : b.0.0 ≡ 0 → ⊥ = eqb-false _ _ h.0 in
    let made : Front (ℕ × ℕ) = ((a.0.0, b.0.0), b.0.1) in
    let found : IsRowAt from bytes made = record {
      takes = Takes-then bytes (to_be_bytes w32 a.0.0) a.0.1 (to_be_bytes w64 b.0.0) b.0.1 t.0 u.0;
      later = ltb-false _ _ g.0;
      bin = t.1;
      some = omega arith;
      count = u.1;
    } in
    subst (IsRowAt from bytes) (same_Some made x h.1) found

row_again : (from : ℕ) (e : ℕ × ℕ) (rest : List ℕ) → from ≤ e.0 → e.0 < 2 ^ 32 → 0 < e.1 → e.1 < 2 ^ 64 → row_at from (row_bytes e ++ rest) ≡ Some (e, rest)
unfolding row_at
row_again from e rest later bin some count =
    let grouped : row_bytes e ++ rest ≡ to_be_bytes w32 e.0 ++ (to_be_bytes w64 e.1 ++ rest) = append_assoc (to_be_bytes w32 e.0) (to_be_bytes w64 e.1) rest in
    ap (row_at from) grouped
    ∙ rw (number_again w32 (2 ^ 32) wide32 e.0 (to_be_bytes w64 e.1 ++ rest) bin, number_again w64 (2 ^ 64) wide64 e.1 rest count, le-ltb e.0 from later, ne_eqb e.1 0 (λ z. omega arith)) refl

-- rows that were read
record AreRowsAt (k from : ℕ) (bytes : List ℕ) (x : Front (List (ℕ × ℕ))) : Type 0 where
  takes : Takes bytes (flat_map row_bytes x.0) x.1
  count : length x.0 ≡ k
  fit : AreRows from x.0

rows_take : (k from : ℕ) (bytes : List ℕ) (x : Front (List (ℕ × ℕ))) → IsBytes bytes → table_rows_at k from bytes ≡ Some x → AreRowsAt k from bytes x
unfolding table_rows_at
rows_take zero from bytes x fits e =
    subst (AreRowsAt 0 from bytes) (same_Some ([], bytes) x e) (record { takes = record { parts = refl; rest_fits = fits }; count = refl; fit = tt })
rows_take (suc k) from bytes x fits e =
    let a = bind_some (row_at from bytes) (λ first. option_and_then (λ others. Some (first.0 ∷ others.0, others.1)) (table_rows_at k (first.0.0 + 1) first.1)) x e in
    let b = bind_some (table_rows_at k (a.0.0.0 + 1) a.0.1) (λ others. Some (a.0.0 ∷ others.0, others.1)) x a.2 in
    let first = row_takes from bytes a.0 fits a.1 in
    let others = rows_take k (a.0.0.0 + 1) a.0.1 b.0 first.takes.rest_fits b.1 in
    let made : Front (List (ℕ × ℕ)) = (a.0.0 ∷ b.0.0, b.0.1) in
    subst (AreRowsAt (suc k) from bytes) (same_Some made x b.2) (record {
      takes = Takes-then bytes (row_bytes a.0.0) a.0.1 (flat_map row_bytes b.0.0) b.0.1 first.takes others.takes;
      count = ap suc others.count;
      fit = (first.later, first.bin, first.some, first.count, others.fit);
    })

pub rows_found : (k : ℕ) (bytes : List ℕ) (es : List (ℕ × ℕ)) (rest : List ℕ) → IsBytes bytes → table_rows_at k 0 bytes ≡ Some (es, rest) → AreRows 0 es
rows_found k bytes es rest fits e = (rows_take k 0 bytes (es, rest) fits e).fit

rows_again : (from : ℕ) (es : List (ℕ × ℕ)) (rest : List ℕ) → AreRows from es → table_rows_at (length es) from (flat_map row_bytes es ++ rest) ≡ Some (es, rest)
unfolding table_rows_at
rows_again from [] rest fit = refl
rows_again from (e ∷ es) rest fit =
    let regrouped : flat_map row_bytes (e ∷ es) ++ rest ≡ row_bytes e ++ (flat_map row_bytes es ++ rest) = append_assoc (row_bytes e) (flat_map row_bytes es) rest in
    ap (table_rows_at (suc (length es)) from) regrouped ∙ rw (row_again from e (flat_map row_bytes es ++ rest) fit.0 fit.1 fit.2 fit.3, rows_again (e.0 + 1) es rest fit.4) refl

-- all of them have bins of 32 bits
rows-all : (from : ℕ) (es : List (ℕ × ℕ)) → AreRows from es → below_number (2 ^ 32) es ≡ es
rows-all from [] fit = refl
rows-all from (e ∷ es) fit = ap (λ (b : Bool). cond b (e ∷ below_number (2 ^ 32) es) (below_number (2 ^ 32) es)) (lt-ltb e.0 (2 ^ 32) fit.1) ∙ ap (λ (t : List (ℕ × ℕ)). e ∷ t) (rows-all (e.0 + 1) es fit.4)

-- so there are at most 2^32 of them
rows-few : (from : ℕ) (es : List (ℕ × ℕ)) → AreRows from es → from ≤ 2 ^ 32 → length es + from ≤ 2 ^ 32
rows-few from [] fit le = omega arith
rows-few from (e ∷ es) fit le =
    let low : from ≤ e.0 = fit.0 in
    let high : e.0 < 2 ^ 32 = fit.1 in
    let r = rows-few (e.0 + 1) es fit.4 (omega arith) in
    omega arith

-- a table that was read, behind the byte of its kind
pub record IsTableAt (bytes : List ℕ) (x : Front Slot) : Type 0 where
  pub takes : Takes (2 ∷ bytes) (slot_bytes x.0) x.1
  pub fit : (n : ℕ) → IsImageSlot n x.0
  pub rows : List (ℕ × ℕ)
  pub is : x.0 ≡ table (from_sorted rows)

pub table_takes : (bytes : List ℕ) (x : Front Slot) → IsBytes bytes → table_at bytes ≡ Some x → IsTableAt bytes x
unfolding table_at
table_takes bytes x fits e =
    let a = bind_some (width_number_at w64 bytes) (λ count. option_and_then (λ rows. Some (table (from_sorted rows.0), rows.1)) (table_rows_at count.0 0 count.1)) x e in
    let b = bind_some (table_rows_at a.0.0 0 a.0.1) (λ rows. Some (table (from_sorted rows.0), rows.1)) x a.2 in
    let t = number_takes w64 (2 ^ 64) wide64 bytes a.0 fits a.1 in
    let u = rows_take a.0.0 0 a.0.1 b.0 t.0.rest_fits b.1 in
    let own = entries_of_rows 0 b.0.0 u.fit in
    let all : word_rows (from_sorted b.0.0) ≡ b.0.0 = ap (below_number (2 ^ 32)) own ∙ rows-all 0 b.0.0 u.fit in
    let first : Takes (2 ∷ bytes) ((2 ∷ []) ++ to_be_bytes w64 (length b.0.0)) a.0.1 = record { parts = ap (λ (t : List ℕ). 2 ∷ t) (t.0.parts ∙ ap (λ (k : ℕ). to_be_bytes w64 k ++ a.0.1) (sym u.count)); rest_fits = t.0.rest_fits } in
    let second = Takes-then (2 ∷ bytes) ((2 ∷ []) ++ to_be_bytes w64 (length b.0.0)) a.0.1 (flat_map row_bytes b.0.0) b.0.1 first u.takes in
    let made : Front Slot = (table (from_sorted b.0.0), b.0.1) in
    subst (IsTableAt bytes) (same_Some made x b.2) (record {
      takes = subst (λ (es : List (ℕ × ℕ)). Takes (2 ∷ bytes) (table_bytes es) b.0.1) (sym all) second;
      fit = λ n. subst (AreRows 0) (sym own) u.fit;
      rows = b.0.0;
      is = refl;
    })

pub table_again : (counts : BinCounts) (rest bytes : List ℕ) → AreRows 0 (entries counts) → 2 ∷ bytes ≡ slot_bytes (table counts) ++ rest → table_at bytes ≡ Some (table counts, rest)
unfolding table_at
table_again counts rest bytes fit text =
    let es = entries counts in
    let few = rows-few 0 es fit (omega arith) in
    let all : word_rows counts ≡ es = rows-all 0 es fit in
    let grouped : ((2 ∷ []) ++ to_be_bytes w64 (length es) ++ flat_map row_bytes es) ++ rest ≡ 2 ∷ (to_be_bytes w64 (length es) ++ (flat_map row_bytes es ++ rest)) = append_assoc ((2 ∷ []) ++ to_be_bytes w64 (length es)) (flat_map row_bytes es) rest in
    let whole : 2 ∷ bytes ≡ 2 ∷ (to_be_bytes w64 (length es) ++ (flat_map row_bytes es ++ rest)) = text ∙ (ap (λ (t : List (ℕ × ℕ)). table_bytes t ++ rest) all ∙ grouped) in
    let same : bytes ≡ to_be_bytes w64 (length es) ++ (flat_map row_bytes es ++ rest) = cc in
    let own : from_sorted es ≡ counts = same_entries_map (from_sorted es) counts (entries-from_sorted nat_cmp es (entries_sorted counts)) in
    ap table_at same
    ∙ rw (number_again w64 (2 ^ 64) wide64 (length es) (flat_map row_bytes es ++ rest) (omega arith), rows_again 0 es rest fit, own) refl
