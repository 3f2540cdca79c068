use Rattle.std.proofs.Common.{ℕ, ◌+◌, ◌<◌, List, All, arith, sym, subst}
use Rattle.time_table.specs.declared.row.Row.{Row}
use Rattle.probe_core.specs.Places.{IsPlace}
use Rattle.time_table.specs.Totals.{row_bin}
use Rattle.time_table.proofs.MoreRecords.{added_by, fits_with_row, last_total-take-le}
use Rattle.time_table.proofs.change.add_record.Goals as goal

pub raise-requires-clause-fits : goal.raise-requires-clause-fits
raise-requires-clause-fits g c =
    subst (λ (rows : List Row). All (λ r. r.total + c.args.amount < g.T.StoredRow.limit) rows) (sym c.in_ok-make_row.ensures.made)
    (fits_with_row _ c.args.bin c.args.amount c.place_of-place.result.index c.place_of-place.result.below c.args.rows.now.items c.requires.rise c.requires.fits.small c.place_of-place.ensures.total)

pub make_row-requires-clause-small : goal.make_row-requires-clause-small
make_row-requires-clause-small g c =
    let below = last_total-take-le 0 0 c.place_of-place.result.index c.args.rows.now.items c.requires.rise in
    omega (arith, below, c.place_of-place.ensures.total, c.requires.fits.small)

pub returns-clause-added : goal.returns-clause-added
returns-clause-added g c =
    let place = subst (λ (e : ℕ). IsPlace row_bin e c.args.rows.now.items c.place_of-place.result.index) c.from.ensures c.place_of-place.ensures.place in
    added_by c.args.bin c.args.amount c.place_of-place.result.index c.place_of-place.result.below c.args.rows.now.items _ _ place.within place.lesser place.others c.place_of-place.ensures.total c.in_ok-make_row.ensures.made c.raise.ensures.raised
