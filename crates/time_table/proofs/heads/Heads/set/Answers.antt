use Rattle.std.proofs.Common.{set, sym, ap, ◌∙◌}
use Rattle.probe_core.specs.Roomy.{Roomy}
use Rattle.time_table.specs.declared.row.Row.{Row}
use Rattle.time_table.specs.Late.{raised_from}
use Rattle.time_table.proofs.LateHeads.{set_late}
use Rattle.time_table.proofs.heads.Heads.set.Goals as goal

pub returns-then-i-self-clause-written : goal.returns-then-i-self-clause-written
returns-then-i-self-clause-written g c =
    ap (raised_from c.self.inside.from c.self.inside.late) c.set.ensures.written
    ∙ sym (set_late c.self.inside.from c.self.inside.late c.args.i c.self.inside.rows.items c.args.row c.if-i-self.true)
    ∙ ap (λ (seen : Roomy Row). set seen.items c.args.i c.args.row) c.self.view_is
