use Rattle.std.proofs.Common.{◌≡◌, ◌+◌, ◌-◌, ◌≤◌, List, All, drop, length, arith, sym, ap, subst, ◌∙◌}
use Rattle.std.specs.List.{insert}
use Rattle.probe_core.specs.Roomy.{Roomy}
use Rattle.time_table.specs.declared.row.Row.{Row}
use Rattle.time_table.specs.Late.{raised_from}
use Rattle.time_table.proofs.LateHeads.{HasRoom, long_put, drop_put, put_late}
use Rattle.time_table.proofs.heads.Heads.put_row.Given.{Over}
use Rattle.time_table.proofs.heads.Heads.put_row.Goals.{After-len-2}
use Rattle.time_table.proofs.heads.Heads.put_row.Goals as goal

-- the new head does not stand too low
one_further : (g : Over) (c : After-len-2 g) → c.len-2.result - (c.len.result - c.max-to.result) ≡ c.max-to.result + 1
one_further g c =
    let within : c.max-to.result ≤ length c.catch_up.new.rows.items = c.catch_up.ensures.late.within in
    let count : length c.put_row.new.rows.items ≡ length c.catch_up.new.rows.items + 1 = ap length c.put_row.ensures.put ∙ long_put c.args.i c.catch_up.new.rows.items c.args.row in
    omega (arith, within, count, c.len.ensures, c.len-2.ensures)

pub invariant_of-self : goal.invariant_of-self
invariant_of-self g c =
    let at = (goal.at.invariant_of-self g c).After-len-2 in
    let within : c.max-to.result ≤ length c.catch_up.new.rows.items = c.catch_up.ensures.late.within in
    let count : length c.put_row.new.rows.items ≡ length c.catch_up.new.rows.items + 1 = ap length c.put_row.ensures.put ∙ long_put c.args.i c.catch_up.new.rows.items c.args.row in
    record {
      within = omega (arith, within, count, one_further g at);
      fits = subst (λ k. All (HasRoom c.self.inside.late) (drop k c.put_row.new.rows.items)) (sym (one_further g at))
          (subst (λ (rows : List Row). All (HasRoom c.self.inside.late) (drop (c.max-to.result + 1) rows)) (sym c.put_row.ensures.put)
          (subst (All (HasRoom c.self.inside.late)) (sym (drop_put c.max-to.result c.args.i c.catch_up.new.rows.items c.args.row (omega (arith, c.max-to.ensures)) within)) c.catch_up.ensures.late.fits));
    }

pub returns-clause-put : goal.returns-clause-put
returns-clause-put g c =
    let at = (goal.at.returns-clause-put g c).After-len-2 in
    ap (λ k. raised_from k c.self.inside.late c.put_row.new.rows.items) (one_further g at)
    ∙ ap (raised_from (c.max-to.result + 1) c.self.inside.late) c.put_row.ensures.put
    ∙ sym (put_late c.max-to.result c.self.inside.late c.args.i c.catch_up.new.rows.items c.args.row (omega (arith, c.max-to.ensures)) c.catch_up.ensures.late.within)
    ∙ ap (λ (rows : List Row). insert rows c.args.i c.args.row) (c.catch_up.ensures.same ∙ ap (λ (seen : Roomy Row). seen.items) c.self.view_is)
