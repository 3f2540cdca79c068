use Rattle.std.proofs.Common.{eqb, Some, sym, ◌∙◌, ap, subst}
use Rattle.list_tables.specs.Cells.{is_in_bins, Shares}
use Rattle.list_tables.specs.declared.cells.Cells.{Cells}
use Rattle.list_tables.proofs.CellBoxes.{value_here, pair_here, bins_here, tile_here, Finds}
use Rattle.list_tables.proofs.cells.cell_inside.Goals as goal

pub returns-in-Values : goal.returns-in-Values
returns-in-Values c =
    let z = c.args.schema.now in
    let q = c.args.query.now in
    let s = c.args.spot.now in
    let shares = subst (Shares z q) c.in-Values.is c.requires.shares in
    subst (λ (cells : Cells). Finds z q s cells (Some c.value_of.result)) (sym c.in-Values.is)
    (λ i row. value_here z q s c.requires.inside shares.0 c.in-Values.k i shares.1 ∙ ap (λ n. eqb n i) (sym c.value_of.ensures.value))

pub returns-in-Pairs : goal.returns-in-Pairs
returns-in-Pairs c =
    let z = c.args.schema.now in
    let q = c.args.query.now in
    let s = c.args.spot.now in
    let shares = subst (Shares z q) c.in-Pairs.is c.requires.shares in
    subst (λ (cells : Cells). Finds z q s cells c.pair_cell.result) (sym c.in-Pairs.is)
    (λ i row. pair_here z q s c.requires.inside shares.0 c.in-Pairs.first c.in-Pairs.second c.in-Pairs.wide i shares.1 shares.2 ∙ c.pair_cell.ensures i)

pub returns-in-Bins : goal.returns-in-Bins
returns-in-Bins c =
    let z = c.args.schema.now in
    let q = c.args.query.now in
    let s = c.args.spot.now in
    subst (λ (cells : Cells). Finds z q s cells c.bin_cell.result) (sym c.in-Bins.is)
    (λ i row. bins_here z q s c.requires.inside c.in-Bins.from c.in-Bins.wide i ∙ (ap (λ b. is_in_bins c.in-Bins.from c.in-Bins.wide i b) (sym c.from.ensures) ∙ c.bin_cell.ensures i))

pub returns-in-Tiles : goal.returns-in-Tiles
returns-in-Tiles c =
    let z = c.args.schema.now in
    let q = c.args.query.now in
    let s = c.args.spot.now in
    let shares = subst (Shares z q) c.in-Tiles.is c.requires.shares in
    subst (λ (cells : Cells). Finds z q s cells (Some c.place_of.result)) (sym c.in-Tiles.is)
    (λ i row. tile_here z q s c.requires.inside c.in-Tiles.levels i shares.1 row ∙ ap (λ n. eqb n i) (sym c.place_of.ensures))
