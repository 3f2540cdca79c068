use Rattle.std.proofs.Common.{◌-◌, Some, sym, ap, ◌∙◌, arith}
use Rattle.time_table.proofs.NextRows.{first_none, first_some, total_above}
use Rattle.time_table.proofs.place.next_in.Goals as goal

pub returns-in_err-row-clause-next : goal.returns-in_err-row-clause-next
returns-in_err-row-clause-next g c =
    let place = c.place_of-place.ensures.place in
    c.from_residual.ensures
    ∙ sym (first_none c.args.from 0 c.place_of-place.result.index c.args.rows.now.items place.lesser (sym c.place_of-place.ensures.first ∙ c.in_err-row.was))

pub overflow_sub-result : goal.overflow_sub-result
overflow_sub-result g c =
    let above = total_above 0 0 c.place_of-place.result.index c.args.rows.now.items c.in_ok-row.row c.requires (sym c.place_of-place.ensures.first ∙ c.in_ok-row.was) in
    omega (arith, above, c.place_of-place.ensures.total)

pub returns-clause-next : goal.returns-clause-next
returns-clause-next g c =
    let place = c.place_of-place.ensures.place in
    ap (λ k. Some (c.in_ok-row.row.bin, c.in_ok-row.row.total - k)) c.place_of-place.ensures.total
    ∙ sym (first_some c.args.from 0 c.place_of-place.result.index c.args.rows.now.items c.in_ok-row.row place.lesser place.others (sym c.place_of-place.ensures.first ∙ c.in_ok-row.was))
