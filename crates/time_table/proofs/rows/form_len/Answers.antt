use Rattle.std.proofs.Common.{◌≡◌, length, ap, sym, ◌∙◌, arith}
use Rattle.time_table.specs.declared.row.Row.{Row}
use Rattle.time_table.specs.declared.form.Form.{Form}
use Rattle.time_table.specs.declared.form.Split.{Split}
use Rattle.time_table.specs.Blocks.{flat}
use Rattle.time_table.specs.Forms.{rows_of}
use Rattle.time_table.proofs.TableForms.{rows-few}
use Rattle.time_table.proofs.rows.form_len.Goals as goal

pub blocks_len-requires : goal.blocks_len-requires
blocks_len-requires c =
    let whole : length (rows_of c.args.form.now) ≡ length (flat 0 c.deref.result.now.blocks.items) =
    ap (λ (f : Form). length (rows_of f)) c.in-Split.is ∙ ap (λ (s : Split Row). length (flat 0 s.blocks.items)) (sym c.deref.ensures) in
    let few = rows-few c.args.form.now c.requires in
    omega arith

pub returns-in-Split-clause-few : goal.returns-in-Split-clause-few
returns-in-Split-clause-few c =
    let whole : length (rows_of c.args.form.now) ≡ length (flat 0 c.deref.result.now.blocks.items) =
    ap (λ (f : Form). length (rows_of f)) c.in-Split.is ∙ ap (λ (s : Split Row). length (flat 0 s.blocks.items)) (sym c.deref.ensures) in
    let few = rows-few c.args.form.now c.requires in
    omega arith

pub blocks_len-requires-in-WideSplit : goal.blocks_len-requires-in-WideSplit
blocks_len-requires-in-WideSplit c =
    let whole : length (rows_of c.args.form.now) ≡ length (flat 0 c.deref-in-WideSplit.result.now.blocks.items) =
    ap (λ (f : Form). length (rows_of f)) c.in-WideSplit.is ∙ ap (λ (s : Split Row). length (flat 0 s.blocks.items)) (sym c.deref-in-WideSplit.ensures) in
    let few = rows-few c.args.form.now c.requires in
    omega arith

pub returns-in-WideSplit-clause-few : goal.returns-in-WideSplit-clause-few
returns-in-WideSplit-clause-few c =
    let whole : length (rows_of c.args.form.now) ≡ length (flat 0 c.deref-in-WideSplit.result.now.blocks.items) =
    ap (λ (f : Form). length (rows_of f)) c.in-WideSplit.is ∙ ap (λ (s : Split Row). length (flat 0 s.blocks.items)) (sym c.deref-in-WideSplit.ensures) in
    let few = rows-few c.args.form.now c.requires in
    omega arith
