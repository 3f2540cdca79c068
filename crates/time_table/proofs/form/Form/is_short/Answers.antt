use Rattle.std.proofs.Common.{◌≡◌, ◌-◌, ◌*◌, ◌<◌, ◌≤◌, ◌^◌, min, MatchBool, length, ap, sym, subst, ◌∙◌, arith}
use Rattle.time_table.specs.declared.row.Row.{Row}
use Rattle.time_table.specs.declared.form.Form.{Form}
use Rattle.time_table.specs.declared.form.Split.{Split}
use Rattle.time_table.specs.Forms.{rows_of, find_cost}
use Rattle.time_table.specs.Blocks.{flat}
use Rattle.time_table.proofs.TableForms.{rows-few}
use Rattle.time_table.proofs.SeriesTotals.{decided}
use Rattle.time_table.proofs.form.Form.is_short.Goals as goal

pub returns-in-Split : goal.returns-in-Split
returns-in-Split c =
    let whole : length (rows_of c.args.self.now) ≡ length (flat 0 c.deref.result.now.blocks.items) =
    ap (λ (f : Form). length (rows_of f)) c.in-Split.is ∙ ap (λ (s : Split Row). length (flat 0 s.blocks.items)) (sym c.deref.ensures) in
    decided c.are_few.result (length (rows_of c.args.self.now)) (find_cost c.args.self.now) c.args.ends c.saturating_mul-most.result (omega (arith, c.if-ends-eq0.false))
    (c.saturating_mul-most.ensures ∙ ap (λ n. min ((c.args.ends - 1) * n) (2 ^ 64 - 1)) c.find_cost.ensures.cost)
    (rows-few c.args.self.now c.requires)
    (subst (λ n. MatchBool c.are_few.result (n ≤ c.saturating_mul-most.result) (c.saturating_mul-most.result < n)) (sym whole) c.are_few.ensures)

pub returns-in-WideSplit : goal.returns-in-WideSplit
returns-in-WideSplit c =
    let whole : length (rows_of c.args.self.now) ≡ length (flat 0 c.deref-in-WideSplit.result.now.blocks.items) =
    ap (λ (f : Form). length (rows_of f)) c.in-WideSplit.is ∙ ap (λ (s : Split Row). length (flat 0 s.blocks.items)) (sym c.deref-in-WideSplit.ensures) in
    decided c.are_few-in-WideSplit.result (length (rows_of c.args.self.now)) (find_cost c.args.self.now) c.args.ends c.saturating_mul-most.result (omega (arith, c.if-ends-eq0.false))
    (c.saturating_mul-most.ensures ∙ ap (λ n. min ((c.args.ends - 1) * n) (2 ^ 64 - 1)) c.find_cost.ensures.cost)
    (rows-few c.args.self.now c.requires)
    (subst (λ n. MatchBool c.are_few-in-WideSplit.result (n ≤ c.saturating_mul-most.result) (c.saturating_mul-most.result < n)) (sym whole) c.are_few-in-WideSplit.ensures)
