use Rattle.std.proofs.Common.{ℕ, ◌<◌, ◌≤◌, List, All, drop, sym, subst}
use Rattle.time_table.specs.declared.row.Row.{Row}
use Rattle.probe_core.specs.Places.{IsPlace}
use Rattle.time_table.specs.Totals.{row_bin}
use Rattle.time_table.proofs.FewerRecords.{taken_by, place_within, all_above_from, some_from_place}
use Rattle.time_table.proofs.change.take_record.Goals as goal

pub drop_spent-requires-clause-within : goal.drop_spent-requires-clause-within
drop_spent-requires-clause-within g c =
    let place = subst (λ (e : ℕ). IsPlace row_bin e c.args.rows.now.items c.place_of-place.result.index) c.from.ensures c.place_of-place.ensures.place in
    place_within 0 0 c.args.bin c.args.amount c.place_of-place.result.index c.args.rows.now.items place.lesser c.requires.some c.requires.there place.within

pub drop_spent-requires-clause-more : goal.drop_spent-requires-clause-more
drop_spent-requires-clause-more g c =
    subst (λ (n : ℕ). All (λ (r : Row). n < r.total) (drop c.place_of-place.result.index c.args.rows.now.items)) (sym c.place_of-place.ensures.total)
    (all_above_from 0 0 c.place_of-place.result.index c.args.rows.now.items c.requires.rise)

pub lower-requires-clause-some : goal.lower-requires-clause-some
lower-requires-clause-some g c =
    let place = subst (λ (e : ℕ). IsPlace row_bin e c.args.rows.now.items c.place_of-place.result.index) c.from.ensures c.place_of-place.ensures.place in
    subst (λ (rows : List Row). All (λ (r : Row). c.args.amount ≤ r.total) (drop c.place_of-place.result.index rows)) (sym c.drop_spent.ensures.dropped)
    (some_from_place c.args.bin c.args.amount c.place_of-place.result.index c.place_of-place.result.below c.args.rows.now.items c.requires.rise place.within place.lesser place.others c.requires.some c.requires.there c.place_of-place.ensures.total)

pub returns-clause-taken : goal.returns-clause-taken
returns-clause-taken g c =
    let place = subst (λ (e : ℕ). IsPlace row_bin e c.args.rows.now.items c.place_of-place.result.index) c.from.ensures c.place_of-place.ensures.place in
    taken_by c.args.bin c.args.amount c.place_of-place.result.index c.place_of-place.result.below c.args.rows.now.items _ _ place.within place.lesser place.others c.place_of-place.ensures.total c.drop_spent.ensures.dropped c.lower.ensures.lowered
