use Rattle.cross_table.proofs.Tops.{best_above}
use Rattle.list_tables.proofs.Verbs.{best_near, cross_known, four_sets, map_near, series_all, series_wide}
use Rattle.query_syntax.proofs.TableRows.{rows_at}
use Rattle.query_syntax.proofs.ValidParts.{region_above, region_within, hist_known, map_above, series_small}
use Rattle.list_tables.proofs.rows.list_rows.Goals as goal

pub count_rows-requires-clause-region : goal.count_rows-requires-clause-region
count_rows-requires-clause-region c = region_above c.args.schema.now c.args.query.now c.requires.valid

pub value_rows-requires-clause-region : goal.value_rows-requires-clause-region
value_rows-requires-clause-region c = region_above c.args.schema.now c.args.query.now c.requires.valid

pub value_rows-requires-clause-sets : goal.value_rows-requires-clause-sets
value_rows-requires-clause-sets c = four_sets c.args.schema.now c.args.query.now c.requires.valid

pub pair_rows-requires-clause-sets : goal.pair_rows-requires-clause-sets
pair_rows-requires-clause-sets c = four_sets c.args.schema.now c.args.query.now c.requires.valid

pub value_rows-requires-clause-category : goal.value_rows-requires-clause-category
value_rows-requires-clause-category c = hist_known c.args.schema.now c.args.query.now c.requires.valid c.in-Hist.k c.in-Hist.is

pub area_rows-requires-clause-deep : goal.area_rows-requires-clause-deep
area_rows-requires-clause-deep c =
    (map_near c.args.schema.now c.args.query.now c.requires.valid c.in-Map.levels c.in-Map.is, map_above c.args.schema.now c.args.query.now c.requires.valid c.in-Map.levels c.in-Map.is)

pub area_rows-requires-clause-region : goal.area_rows-requires-clause-region
area_rows-requires-clause-region c = region_within c.args.schema.now c.args.query.now c.requires.valid

pub bins_rows-requires-clause-region : goal.bins_rows-requires-clause-region
bins_rows-requires-clause-region c = region_above c.args.schema.now c.args.query.now c.requires.valid

pub bins_rows-requires-clause-time : goal.bins_rows-requires-clause-time
bins_rows-requires-clause-time c = series_all c.args.schema.now c.args.query.now c.requires.valid c.in-Series.from c.in-Series.wide c.in-Series.rows c.in-Series.is

pub bins_rows-requires-clause-small : goal.bins_rows-requires-clause-small
bins_rows-requires-clause-small c =
    let small = series_small c.args.schema.now c.args.query.now c.requires.valid c.in-Series.from c.in-Series.wide c.in-Series.rows c.in-Series.is in
    (small.0, series_wide c.args.schema.now c.args.query.now c.requires.valid c.in-Series.from c.in-Series.wide c.in-Series.rows c.in-Series.is, small.1, small.2)

pub pair_rows-requires-clause-region : goal.pair_rows-requires-clause-region
pair_rows-requires-clause-region c = region_above c.args.schema.now c.args.query.now c.requires.valid

pub pair_rows-requires-clause-categories : goal.pair_rows-requires-clause-categories
pair_rows-requires-clause-categories c = cross_known c.args.schema.now c.args.query.now c.requires.valid c.in-Cross.first c.in-Cross.second c.in-Cross.is

pub best_rows-requires-clause-deep : goal.best_rows-requires-clause-deep
best_rows-requires-clause-deep c =
    (best_near c.args.schema.now c.args.query.now c.requires.valid c.in-Best.depth c.in-Best.rows c.in-Best.is, best_above c.args.schema.now c.args.query.now c.in-Best.depth c.in-Best.rows c.requires.valid c.in-Best.is)

pub best_rows-requires-clause-region : goal.best_rows-requires-clause-region
best_rows-requires-clause-region c = region_within c.args.schema.now c.args.query.now c.requires.valid

pub returns-in-Count : goal.returns-in-Count
returns-in-Count c = rw (rows_at c.args.schema.now c.args.query.now c.args.points.now _ c.in-Count.is) c.count_rows.ensures

pub returns-in-Hist : goal.returns-in-Hist
returns-in-Hist c = rw (rows_at c.args.schema.now c.args.query.now c.args.points.now _ c.in-Hist.is) c.value_rows.ensures

pub returns-in-Map : goal.returns-in-Map
returns-in-Map c = rw (rows_at c.args.schema.now c.args.query.now c.args.points.now _ c.in-Map.is) c.area_rows.ensures

pub returns-in-Series : goal.returns-in-Series
returns-in-Series c = rw (rows_at c.args.schema.now c.args.query.now c.args.points.now _ c.in-Series.is) c.bins_rows.ensures

pub returns-in-Window : goal.returns-in-Window
returns-in-Window c = rw (rows_at c.args.schema.now c.args.query.now c.args.points.now _ c.in-Window.is) c.window_rows.ensures

pub returns-in-Cross : goal.returns-in-Cross
returns-in-Cross c = rw (rows_at c.args.schema.now c.args.query.now c.args.points.now _ c.in-Cross.is) c.pair_rows.ensures

pub returns-in-Best : goal.returns-in-Best
returns-in-Best c = rw (rows_at c.args.schema.now c.args.query.now c.args.points.now _ c.in-Best.is) c.best_rows.ensures
