use Rattle.std.proofs.Common.{◌≡◌, ◌+◌, ◌*◌, ◌≤◌, length, arith, sym, ap, ◌∙◌}
use Rattle.probe_core.specs.Bits.{bits}
use Rattle.time_table.specs.Counts.{first_from}
use Rattle.time_table.specs.Totals.{counts_from}
use Rattle.time_table.specs.Blocks.{flat}
use Rattle.time_table.proofs.BlockRows.{held_len, Rise-heads, Rise-at, placed}
use Rattle.time_table.proofs.BlockCounts.{length-flat, steps_in_blocks}
use Rattle.time_table.proofs.BlockSizes.{sized_at}
use Rattle.time_table.proofs.NextRows.{first_in}
use Rattle.time_table.proofs.split.next_row_in.Goals as goal

pub place_of-place-requires : goal.place_of-place-requires
place_of-place-requires g c = Rise-heads 0 0 c.args.heads.now.items c.args.blocks.now.items c.requires.held

pub index-block-requires : goal.index-block-requires
index-block-requires g c =
    let at = placed _ c.args.from c.place_of-place.result.index c.args.heads.now.items c.args.blocks.now.items c.requires.held c.from.ensures c.place_of-place.ensures.place (omega arith) in
    omega arith

pub next_in-requires : goal.next_in-requires
next_in-requires g c =
    let at = placed _ c.args.from c.place_of-place.result.index c.args.heads.now.items c.args.blocks.now.items c.requires.held c.from.ensures c.place_of-place.ensures.place (omega arith) in
    Rise-at 0 0 c.place_of-place.result.index c.args.heads.now.items c.args.blocks.now.items c.index-block.result.now c.requires.held at.inside c.index-block.ensures

pub returns-clause-next : goal.returns-clause-next
returns-clause-next g c =
    let at = placed _ c.args.from c.place_of-place.result.index c.args.heads.now.items c.args.blocks.now.items c.requires.held c.from.ensures c.place_of-place.ensures.place (omega arith) in
    c.next_in.ensures.next
    ∙ ap (λ k. first_from k (counts_from 0 c.index-block.result.now.items)) c.from-2.ensures
    ∙ sym (first_in 0 0 c.args.from c.place_of-place.result.index c.args.heads.now.items c.args.blocks.now.items c.index-block.result.now c.requires.held c.requires.last at.lesser at.others at.inside c.index-block.ensures)

pub returns-clause-cost : goal.returns-clause-cost
returns-clause-cost g c =
    let same : length c.args.heads.now.items ≡ length c.args.blocks.now.items = held_len 0 0 c.args.heads.now.items c.args.blocks.now.items c.requires.held in
    let at = placed _ c.args.from c.place_of-place.result.index c.args.heads.now.items c.args.blocks.now.items c.requires.held c.from.ensures c.place_of-place.ensures.place (omega arith) in
    let many : 32 * length c.args.blocks.now.items ≤ length (flat 0 c.args.blocks.now.items) = length-flat 0 c.args.blocks.now.items c.requires.sized in
    let sized = sized_at c.place_of-place.result.index c.args.blocks.now.items c.index-block.result.now c.requires.sized (omega arith) c.index-block.ensures in
    let one : c.place_of-place.new.steps ≤ c.args.steps.now + bits (length c.args.heads.now.items) = c.place_of-place.ensures.cost in
    let two : c.next_in.new.steps ≤ c.place_of-place.new.steps + bits (length c.index-block.result.now.items) = c.next_in.ensures.cost in
    omega (arith, steps_in_blocks (length c.args.heads.now.items) (length c.index-block.result.now.items) (length (flat 0 c.args.blocks.now.items)) (omega arith) sized.most (omega arith))
