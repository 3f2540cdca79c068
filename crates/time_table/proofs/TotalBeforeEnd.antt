-- The total of the rows before an end, by a look at one after the other.
use Rattle.std.proofs.Common.{◌≡◌, ℕ, suc, ◌+◌, ◌<◌, ◌≤◌, Bool, true, false, cond, ltb, List, [], ◌∷◌, All, take, drop, refl, ap, ◌∙◌, arith}
use Rattle.std.proofs.lemmas.Bool.{ltb-true, ltb-false}
use Rattle.std.proofs.lemmas.List.Elements.{All-cons}
use Rattle.time_table.specs.declared.row.Row.{Row}
use Rattle.time_table.specs.Counts.{count_before}
use Rattle.time_table.specs.Totals.{Rise, counts, last_total}
use Rattle.time_table.specs.Fews.{below_from}
use Rattle.time_table.proofs.RowCounts.{count_before-counts}
use Rattle.time_table.proofs.SeriesTotals.{late_from}

-- the rows before an end, and the total up to it
record StopsAt (before e : ℕ) (rows : List Row) : Type 0 where
  index : ℕ
  lesser : All (λ (r : Row). r.bin < e) (take index rows)
  others : All (λ (r : Row). e ≤ r.bin) (drop index rows)
  total : below_from before e rows ≡ last_total before (take index rows)

stops_at : (least before e : ℕ) (rows : List Row) → Rise least before rows → StopsAt before e rows
stops_at least before e [] rise = record { index = 0; lesser = λ k d less. absurd (omega arith); others = λ k d less. absurd (omega arith); total = refl }
stops_at least before e (r ∷ rs) rise = go (ltb r.bin e) refl (stops_at (r.bin + 1) r.total e rs rise.2)
  where
    go : (b : Bool) → ltb r.bin e ≡ b → StopsAt r.total e rs → StopsAt before e (r ∷ rs)
    go true is S = record {
      index = suc S.index;
      lesser = All-cons (λ (x : Row). x.bin < e) r (take S.index rs) (ltb-true r.bin e is) S.lesser;
      others = S.others;
      total = ap (λ b. cond b (below_from r.total e rs) before) is ∙ S.total;
    }
    go false is S = record {
      index = 0;
      lesser = λ k d less. absurd (omega arith);
      others = late_from least before 0 e (r ∷ rs) r rise (omega arith) refl (ltb-false r.bin e is);
      total = ap (λ b. cond b (below_from r.total e rs) before) is;
    }

pub below_from-counts : (rows : List Row) (e : ℕ) → Rise 0 0 rows → below_from 0 e rows ≡ count_before (counts rows) e
below_from-counts rows e rise = let S = stops_at 0 0 e rows rise in S.total ∙ count_before-counts rows S.index e rise S.lesser S.others
