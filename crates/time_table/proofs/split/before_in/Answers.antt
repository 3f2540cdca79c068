use Rattle.std.proofs.Common.{◌≡◌, ◌+◌, ◌<◌, ◌≤◌, ◌^◌, length, take, arith, ◌∙◌}
use Rattle.time_table.specs.Totals.{last_total}
use Rattle.time_table.proofs.MoreRecords.{last_total-take-le}
use Rattle.time_table.proofs.BlockRows.{held_len, Rise-heads, Rise-at, total_at}
use Rattle.time_table.proofs.BlockCounts.{count_before-blocks, count_before-all, steps_in_block}
use Rattle.time_table.proofs.BlockSizes.{sized_at}
use Rattle.time_table.proofs.split.before_in.Goals as goal

pub place_of-place-requires : goal.place_of-place-requires
place_of-place-requires g c = Rise-heads 0 0 c.args.heads.now.items c.args.blocks.now.items c.requires.held

pub returns-then-place-len-clause-sum : goal.returns-then-place-len-clause-sum
returns-then-place-len-clause-sum g c =
    let place = c.place_of-place.ensures.place in
    c.place_of-place.ensures.total ∙ count_before-all c.args.bin_end c.place_of-place.result.index c.args.heads.now.items c.args.blocks.now.items c.requires.held place.lesser (omega arith)

pub index-block-requires : goal.index-block-requires
index-block-requires g c =
    let same : length c.args.heads.now.items ≡ length c.args.blocks.now.items = held_len 0 0 c.args.heads.now.items c.args.blocks.now.items c.requires.held in
    let within : c.place_of-place.result.index ≤ length c.args.heads.now.items = c.place_of-place.ensures.place.within in
    omega arith

pub place_of-further-requires : goal.place_of-further-requires
place_of-further-requires g c =
    let within : c.place_of-place.result.index ≤ length c.args.heads.now.items = c.place_of-place.ensures.place.within in
    Rise-at 0 0 c.place_of-place.result.index c.args.heads.now.items c.args.blocks.now.items c.index-block.result.now c.requires.held (omega arith) c.index-block.ensures

pub overflow_add-result : goal.overflow_add-result
overflow_add-result g c =
    let within : c.place_of-place.result.index ≤ length c.args.heads.now.items = c.place_of-place.ensures.place.within in
    let inside : c.place_of-place.result.index < length c.args.heads.now.items = omega arith in
    let sum : last_total 0 (take c.place_of-place.result.index c.args.heads.now.items) + last_total 0 c.index-block.result.now.items ≤ last_total 0 c.args.heads.now.items =
    total_at 0 0 c.place_of-place.result.index c.args.heads.now.items c.args.blocks.now.items c.index-block.result.now c.requires.held inside c.index-block.ensures in
    let part : last_total 0 (take c.place_of-further.result.index c.index-block.result.now.items) ≤ last_total 0 c.index-block.result.now.items =
    last_total-take-le 0 0 c.place_of-further.result.index c.index-block.result.now.items (Rise-at 0 0 c.place_of-place.result.index c.args.heads.now.items c.args.blocks.now.items c.index-block.result.now c.requires.held inside c.index-block.ensures) in
    let one : c.place_of-place.result.below ≡ last_total 0 (take c.place_of-place.result.index c.args.heads.now.items) = c.place_of-place.ensures.total in
    let two : c.place_of-further.result.below ≡ last_total 0 (take c.place_of-further.result.index c.index-block.result.now.items) = c.place_of-further.ensures.total in
    let fits : last_total 0 c.args.heads.now.items ≤ 2 ^ 63 = c.requires.fits.half in
    omega arith

pub returns-clause-sum : goal.returns-clause-sum
returns-clause-sum g c =
    let place = c.place_of-place.ensures.place in
    let further = c.place_of-further.ensures.place in
    let within : c.place_of-place.result.index ≤ length c.args.heads.now.items = place.within in
    omega (arith, c.place_of-place.ensures.total, c.place_of-further.ensures.total, count_before-blocks c.args.bin_end c.place_of-place.result.index c.place_of-further.result.index c.args.heads.now.items c.args.blocks.now.items c.index-block.result.now c.requires.held place.lesser place.others (omega arith) c.index-block.ensures further.lesser further.others)

pub returns-clause-cost : goal.returns-clause-cost
returns-clause-cost g c =
    let same : length c.args.heads.now.items ≡ length c.args.blocks.now.items = held_len 0 0 c.args.heads.now.items c.args.blocks.now.items c.requires.held in
    let within : c.place_of-place.result.index ≤ length c.args.heads.now.items = c.place_of-place.ensures.place.within in
    let sized = sized_at c.place_of-place.result.index c.args.blocks.now.items c.index-block.result.now c.requires.sized (omega arith) c.index-block.ensures in
    omega (arith, c.place_of-place.ensures.cost, c.place_of-further.ensures.cost, steps_in_block (length c.index-block.result.now.items) sized.most)
