use Rattle.std.proofs.Common.{sym, ◌∙◌}
use Rattle.list_tables.proofs.CellBoxes.{none_outside}
use Rattle.list_tables.proofs.cells.cell_of.Goals as goal

pub returns-then-not-is_inside-clause-row : goal.returns-then-not-is_inside-clause-row
returns-then-not-is_inside-clause-row c =
    let q = c.args.query.now in
    λ i lt. none_outside c.args.schema.now q c.args.spot.now c.is_inside.ensures.bin (sym c.is_inside.ensures.inside ∙ c.if-not-is_inside.true) c.args.cells.now i c.requires.shares (c.requires.rows i lt)
