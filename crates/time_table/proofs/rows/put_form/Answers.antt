use Rattle.std.proofs.Common.{All, sym, subst}
use Rattle.time_table.specs.declared.row.Row.{Row}
use Rattle.time_table.specs.declared.form.Split.{Split}
use Rattle.time_table.specs.Totals.{Rise}
use Rattle.time_table.specs.Blocks.{Block, IsSplit}
use Rattle.time_table.specs.Forms.{IsForm}
use Rattle.time_table.proofs.RowLists.{blocks_rise}
use Rattle.time_table.proofs.rows.put_form.Goals as goal

pub put_blocks-requires : goal.put_blocks-requires
put_blocks-requires g c =
    let s = c.in-Split.split.value in
    let split : IsSplit _ s.heads.items s.blocks.items = subst IsForm c.in-Split.is c.requires in
    subst (λ (s : Split Row). All (λ (b : Block). Rise 0 0 b.items) s.blocks.items) (sym c.deref.ensures) (blocks_rise 0 0 s.heads.items s.blocks.items split.held)

pub put_blocks-requires-in-WideSplit : goal.put_blocks-requires-in-WideSplit
put_blocks-requires-in-WideSplit g c =
    let s = c.in-WideSplit.split.value in
    let split : IsSplit _ s.heads.items s.blocks.items = subst IsForm c.in-WideSplit.is c.requires in
    subst (λ (s : Split Row). All (λ (b : Block). Rise 0 0 b.items) s.blocks.items) (sym c.deref-in-WideSplit.ensures) (blocks_rise 0 0 s.heads.items s.blocks.items split.held)
