use Rattle.std.proofs.Common.{arith}
use Rattle.query_syntax.proofs.TableRows.{rows_at}
use Rattle.query_syntax.proofs.ValidParts.{region_above, region_within, hist_known, map_above, series_small}
use Rattle.query_syntax.proofs.tables.rows_of.Goals as goal

pub one_row-requires-clause-region : goal.one_row-requires-clause-region
one_row-requires-clause-region c = region_above c.args.schema.now c.args.query.now c.requires.valid

pub value_rows-requires-clause-region : goal.value_rows-requires-clause-region
value_rows-requires-clause-region c = region_above c.args.schema.now c.args.query.now c.requires.valid

pub value_rows-requires-clause-category : goal.value_rows-requires-clause-category
value_rows-requires-clause-category c = let known = hist_known c.args.schema.now c.args.query.now c.requires.valid c.in-Hist.k c.in-Hist.is in omega (arith, known, c.from.ensures)

pub area_rows-requires-clause-deep : goal.area_rows-requires-clause-deep
area_rows-requires-clause-deep c = map_above c.args.schema.now c.args.query.now c.requires.valid c.in-Map.down c.in-Map.is

pub area_rows-requires-clause-region : goal.area_rows-requires-clause-region
area_rows-requires-clause-region c = region_within c.args.schema.now c.args.query.now c.requires.valid

pub bin_rows-requires-clause-region : goal.bin_rows-requires-clause-region
bin_rows-requires-clause-region c = region_above c.args.schema.now c.args.query.now c.requires.valid

pub bin_rows-requires-clause-from : goal.bin_rows-requires-clause-from
bin_rows-requires-clause-from c = (series_small c.args.schema.now c.args.query.now c.requires.valid c.in-Series.from c.in-Series.wide c.in-Series.rows c.in-Series.is).0

pub bin_rows-requires-clause-wide : goal.bin_rows-requires-clause-wide
bin_rows-requires-clause-wide c = (series_small c.args.schema.now c.args.query.now c.requires.valid c.in-Series.from c.in-Series.wide c.in-Series.rows c.in-Series.is).1

pub bin_rows-requires-clause-count : goal.bin_rows-requires-clause-count
bin_rows-requires-clause-count c = (series_small c.args.schema.now c.args.query.now c.requires.valid c.in-Series.from c.in-Series.wide c.in-Series.rows c.in-Series.is).2

pub returns-in-Count : goal.returns-in-Count
returns-in-Count c = rw (rows_at c.args.schema.now c.args.query.now c.args.points.now _ c.in-Count.is) c.one_row.ensures

pub returns-in-Hist : goal.returns-in-Hist
returns-in-Hist c = rw (rows_at c.args.schema.now c.args.query.now c.args.points.now _ c.in-Hist.is, ← c.from.ensures) c.value_rows.ensures

pub returns-in-Map : goal.returns-in-Map
returns-in-Map c = rw (rows_at c.args.schema.now c.args.query.now c.args.points.now _ c.in-Map.is) c.area_rows.ensures

pub returns-in-Series : goal.returns-in-Series
returns-in-Series c = rw (rows_at c.args.schema.now c.args.query.now c.args.points.now _ c.in-Series.is) c.bin_rows.ensures
