use Rattle.std.proofs.Common.{◌≡◌, ◌<◌, length, get_or, arith, ap, ◌∙◌}
use Rattle.probe_core.specs.Roomy.{Roomy}
use Rattle.time_table.specs.declared.row.Row.{Row}
use Rattle.time_table.specs.Totals.{raised}
use Rattle.time_table.specs.Late.{raised_from}
use Rattle.time_table.proofs.LateHeads.{long, fits_at, at_after}
use Rattle.time_table.proofs.heads.Heads.at.Given.{Over}
use Rattle.time_table.proofs.heads.Heads.at.Goals.{After-at-row}
use Rattle.time_table.proofs.heads.Heads.at.Goals as goal

-- the place is one of the heads
inside : (g : Over) (c : After-at-row g) → c.args.i < length c.self.inside.rows.items
inside g c =
    let same : length (raised_from c.self.inside.from c.self.inside.late c.self.inside.rows.items) ≡ length c.args.self.now.items = ap (λ (seen : Roomy Row). length seen.items) c.self.view_is in
    omega (arith, same, long c.self.inside.from c.self.inside.late c.self.inside.rows.items, c.requires)

pub overflow_add-result : goal.overflow_add-result
overflow_add-result g c =
    let here = inside g (goal.at.overflow_add-result g c).After-at-row in
    let fits = fits_at c.self.inside.late c.self.inside.from c.args.i c.self.inside.rows.items c.at-row.result (omega arith) here c.at-row.ensures.item c.self.invariant.fits in
    omega (arith, fits)

pub returns-clause-item : goal.returns-clause-item
returns-clause-item g c =
    let here = inside g (goal.at.returns-clause-item g c).After-at-row in
    at_after c.self.inside.from c.self.inside.late c.args.i c.self.inside.rows.items c.at-row.result (omega arith) here c.at-row.ensures.item
    ∙ ap (λ (seen : Roomy Row). get_or seen.items c.args.i (raised c.self.inside.late c.at-row.result)) c.self.view_is
