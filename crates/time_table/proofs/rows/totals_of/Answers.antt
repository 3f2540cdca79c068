use Rattle.std.proofs.Common.{◌≡◌, ◌+◌, ℕ, ◌<◌, ◌≤◌, List, length, take, get_or, ap, sym, refl, ◌∙◌, arith}
use Rattle.std.proofs.lemmas.List.{get_or_default, length-take-le}
use Rattle.std.proofs.lemmas.List.Sums.{sum_by-take-le}
use Rattle.time_table.specs.Rows.{row_total}
use Rattle.time_table.specs.declared.row.Row.{Row}
use Rattle.time_table.proofs.RowLists.{length-totals, totals_put, row_total-more}
use Rattle.time_table.proofs.rows.totals_of.Goals as goal

pub insert-requires-clause-within : goal.insert-requires-clause-within
insert-requires-clause-within g c =
    let long = ap length c.loop-i.invariant.made ∙ length-totals 0 (take c.loop-i.i c.args.rows.now) ∙ length-take-le c.loop-i.i c.args.rows.now (omega arith) in
    omega (arith, long)

-- the total with the next row's count is one of the rows' totals
with_next : (rows : List (ℕ × ℕ)) (i total : ℕ) → i < length rows → total ≡ row_total (take i rows) → total + (get_or rows i (0, 0)).1 ≤ row_total rows
with_next rows i total within is =
    let more = row_total-more i rows (get_or rows i (0, 0)) within (get_or_default rows i (0, 0) (get_or rows i (0, 0)) within) in
    let all = sum_by-take-le (λ (a : ℕ × ℕ). a.1) rows (i + 1) in
    omega (arith, more, all, is)

pub overflow_add-total : goal.overflow_add-total
overflow_add-total g c = omega (arith, with_next c.args.rows.now c.loop-i.i c.loop-i.total (omega arith) c.loop-i.invariant.total, c.requires.half)

pub insert-requires-clause-small : goal.insert-requires-clause-small
insert-requires-clause-small g c = omega (arith, with_next c.args.rows.now c.loop-i.i c.loop-i.total (omega arith) c.loop-i.invariant.total, c.requires.small)

pub loop-i-preserved : goal.loop-i-preserved
loop-i-preserved g c =
    let rows = c.args.rows.now in
    let e : ℕ × ℕ = get_or rows c.loop-i.i (0, 0) in
    let within : c.loop-i.i < length rows = omega arith in
    let read : e ≡ get_or rows c.loop-i.i e = get_or_default rows c.loop-i.i (0, 0) e within in
    let row : Row = record { bin = e.0; total = c.loop-i.total + e.1 } in record {
      made = totals_put c.loop-i.i rows e c.loop-i.made.items c.insert.new.self.items row within read c.loop-i.invariant.made refl (ap (λ n. n + e.1) c.loop-i.invariant.total) c.in_ok-insert.ensures.inserted;
      total = ap (λ n. n + e.1) c.loop-i.invariant.total ∙ sym (row_total-more c.loop-i.i rows e within read);
      room = omega (arith, c.insert.ensures.takes_at_most_one, c.loop-i.invariant.room);
    }

pub returns-clause-room : goal.returns-clause-room
returns-clause-room g c =
    let long = ap length c.loop-i.invariant.made ∙ length-totals 0 (take c.loop-i.i c.args.rows.now) ∙ length-take-le c.loop-i.i c.args.rows.now (omega arith) in
    omega (arith, long, c.loop-i.invariant.room)
