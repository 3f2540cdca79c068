use Rattle.std.proofs.Common.{◌≡◌, ◌<◌, length, take, All, arith, subst, eqb-true}
use Rattle.time_table.specs.declared.row.Row.{Row}
use Rattle.time_table.specs.Places.{added}
use Rattle.time_table.proofs.MoreRecords.{length-added, length-added_there}
use Rattle.time_table.proofs.place.has_place.Goals as goal

pub returns-then-len-lt63-clause-room : goal.returns-then-len-lt63-clause-room
returns-then-len-lt63-clause-room g c _ n =
    let longer = length-added 0 c.args.bin n c.args.rows.now.items in
    omega (arith, longer.most)

pub returns-then-place-len-clause-room : goal.returns-then-place-len-clause-room
returns-then-place-len-clause-room g c there n =
    let lesser : All (λ (r : Row). r.bin < c.args.bin) (take c.place_of-place.result.index c.args.rows.now.items) =
    subst (λ k. All (λ (r : Row). r.bin < k) (take c.place_of-place.result.index c.args.rows.now.items)) c.from.ensures c.place_of-place.ensures.place.lesser in
    let same : length (added 0 c.args.bin n c.args.rows.now.items) ≡ length c.args.rows.now.items =
    length-added_there 0 c.args.bin n c.place_of-place.result.index c.args.rows.now.items c.at.result lesser (omega arith) c.at.ensures.item (eqb-true c.at.result.bin c.args.bin there) in
    omega (arith, c.requires.few)
