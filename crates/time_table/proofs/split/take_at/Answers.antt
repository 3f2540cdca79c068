use Rattle.std.proofs.Common.{◌≡◌, ◌<◌, ◌≤◌, List, length, set, arith, refl, sym, subst}
use Rattle.time_table.specs.declared.row.Row.{Row}
use Rattle.time_table.specs.Totals.{Rise, counts_from, last_total, lowered}
use Rattle.time_table.specs.Places.{count_at}
use Rattle.time_table.specs.Blocks.{Held, AreLastBut, parts}
use Rattle.time_table.proofs.FewerRecords.{last_total-taken}
use Rattle.time_table.proofs.BlockRows.{Rise-heads, Rise-at, placed, count_in, lower_fits, Held-taken, parts-taken, total-taken_from, set_within}
use Rattle.time_table.proofs.LastBins.{AreLast-changed, length-mapped_from}
use Rattle.time_table.proofs.BlockSizes.{sized_at, SizedBut-set, taken_loose}
use Rattle.time_table.proofs.split.take_at.Goals as goal

pub place_of-place-requires : goal.place_of-place-requires
place_of-place-requires g c = Rise-heads 0 0 c.args.heads.now.items c.args.blocks.now.items c.requires.split.held

pub index_mut-block-requires : goal.index_mut-block-requires
index_mut-block-requires g c =
    let at = placed _ c.args.bin c.place_of-place.result.index c.args.heads.now.items c.args.blocks.now.items c.requires.split.held c.from.ensures c.place_of-place.ensures.place (omega arith) in
    omega arith

pub take_record-requires-clause-rise : goal.take_record-requires-clause-rise
take_record-requires-clause-rise g c =
    let at = placed _ c.args.bin c.place_of-place.result.index c.args.heads.now.items c.args.blocks.now.items c.requires.split.held c.from.ensures c.place_of-place.ensures.place (omega arith) in
    Rise-at 0 0 c.place_of-place.result.index c.args.heads.now.items c.args.blocks.now.items c.index_mut-block.result.now c.requires.split.held at.inside c.index_mut-block.ensures.value

pub take_record-requires-clause-there : goal.take_record-requires-clause-there
take_record-requires-clause-there g c =
    let at = placed _ c.args.bin c.place_of-place.result.index c.args.heads.now.items c.args.blocks.now.items c.requires.split.held c.from.ensures c.place_of-place.ensures.place (omega arith) in
    let count : count_at c.args.bin (parts c.args.blocks.now.items) ≡ count_at c.args.bin (counts_from 0 c.index_mut-block.result.now.items) = count_in 0 0 c.args.bin c.place_of-place.result.index c.args.heads.now.items c.args.blocks.now.items c.index_mut-block.result.now c.requires.split.held at.lesser at.others at.inside c.index_mut-block.ensures.value in
    subst (λ k. c.args.amount ≤ k) count c.requires.there

pub lower-requires-clause-some : goal.lower-requires-clause-some
lower-requires-clause-some g c =
    let at = placed _ c.args.bin c.place_of-place.result.index c.args.heads.now.items c.args.blocks.now.items c.requires.split.held c.from.ensures c.place_of-place.ensures.place (omega arith) in
    let count : count_at c.args.bin (parts c.args.blocks.now.items) ≡ count_at c.args.bin (counts_from 0 c.index_mut-block.result.now.items) = count_in 0 0 c.args.bin c.place_of-place.result.index c.args.heads.now.items c.args.blocks.now.items c.index_mut-block.result.now c.requires.split.held at.lesser at.others at.inside c.index_mut-block.ensures.value in
    let there : c.args.amount ≤ count_at c.args.bin (counts_from 0 c.index_mut-block.result.now.items) = subst (λ k. c.args.amount ≤ k) count c.requires.there in
    let rise : Rise 0 0 c.index_mut-block.result.now.items = Rise-at 0 0 c.place_of-place.result.index c.args.heads.now.items c.args.blocks.now.items c.index_mut-block.result.now c.requires.split.held at.inside c.index_mut-block.ensures.value in
    lower_fits 0 0 c.args.amount c.place_of-place.result.index c.args.heads.now.items c.args.blocks.now.items c.index_mut-block.result.now c.requires.split.held at.inside c.index_mut-block.ensures.value
    (omega (arith, last_total-taken 0 0 c.args.bin c.args.amount c.index_mut-block.result.now.items rise c.requires.some there))

pub returns-clause-within : goal.returns-clause-within
returns-clause-within g c =
    let at = placed _ c.args.bin c.place_of-place.result.index c.args.heads.now.items c.args.blocks.now.items c.requires.split.held c.from.ensures c.place_of-place.ensures.place (omega arith) in
    set_within c.place_of-place.result.index c.args.blocks.now.items c.take_record.new.rows (omega arith)

pub fit_head-requires-clause-held : goal.fit_head-requires-clause-held
fit_head-requires-clause-held g c =
    let at = placed _ c.args.bin c.place_of-place.result.index c.args.heads.now.items c.args.blocks.now.items c.requires.split.held c.from.ensures c.place_of-place.ensures.place (omega arith) in
    let sized = sized_at c.place_of-place.result.index c.args.blocks.now.items c.index_mut-block.result.now c.requires.split.sized (omega arith) c.index_mut-block.ensures.value in
    let count : count_at c.args.bin (parts c.args.blocks.now.items) ≡ count_at c.args.bin (counts_from 0 c.index_mut-block.result.now.items) = count_in 0 0 c.args.bin c.place_of-place.result.index c.args.heads.now.items c.args.blocks.now.items c.index_mut-block.result.now c.requires.split.held at.lesser at.others at.inside c.index_mut-block.ensures.value in
    let there : c.args.amount ≤ count_at c.args.bin (counts_from 0 c.index_mut-block.result.now.items) = subst (λ k. c.args.amount ≤ k) count c.requires.there in
    subst (λ (hs : List Row). Held 0 0 hs (set c.args.blocks.now.items c.place_of-place.result.index c.take_record.new.rows)) (sym c.lower.ensures.lowered)
    (Held-taken 0 0 c.args.bin c.args.amount c.place_of-place.result.index c.args.heads.now.items c.args.blocks.now.items c.index_mut-block.result.now c.take_record.new.rows c.requires.split.held at.lesser at.inside c.index_mut-block.ensures.value c.take_record.ensures.taken c.requires.some there (omega (arith, sized.least)))

pub returns-clause-parts : goal.returns-clause-parts
returns-clause-parts g c =
    let at = placed _ c.args.bin c.place_of-place.result.index c.args.heads.now.items c.args.blocks.now.items c.requires.split.held c.from.ensures c.place_of-place.ensures.place (omega arith) in
    let count : count_at c.args.bin (parts c.args.blocks.now.items) ≡ count_at c.args.bin (counts_from 0 c.index_mut-block.result.now.items) = count_in 0 0 c.args.bin c.place_of-place.result.index c.args.heads.now.items c.args.blocks.now.items c.index_mut-block.result.now c.requires.split.held at.lesser at.others at.inside c.index_mut-block.ensures.value in
    let there : c.args.amount ≤ count_at c.args.bin (counts_from 0 c.index_mut-block.result.now.items) = subst (λ k. c.args.amount ≤ k) count c.requires.there in
    parts-taken 0 0 c.args.bin c.args.amount c.place_of-place.result.index c.args.heads.now.items c.args.blocks.now.items c.index_mut-block.result.now c.take_record.new.rows c.requires.split.held at.lesser at.others at.inside c.index_mut-block.ensures.value c.take_record.ensures.taken c.requires.some there

pub returns-clause-sized : goal.returns-clause-sized
returns-clause-sized g c =
    let at = placed _ c.args.bin c.place_of-place.result.index c.args.heads.now.items c.args.blocks.now.items c.requires.split.held c.from.ensures c.place_of-place.ensures.place (omega arith) in
    let sized = sized_at c.place_of-place.result.index c.args.blocks.now.items c.index_mut-block.result.now c.requires.split.sized (omega arith) c.index_mut-block.ensures.value in
    let count : count_at c.args.bin (parts c.args.blocks.now.items) ≡ count_at c.args.bin (counts_from 0 c.index_mut-block.result.now.items) = count_in 0 0 c.args.bin c.place_of-place.result.index c.args.heads.now.items c.args.blocks.now.items c.index_mut-block.result.now c.requires.split.held at.lesser at.others at.inside c.index_mut-block.ensures.value in
    let there : c.args.amount ≤ count_at c.args.bin (counts_from 0 c.index_mut-block.result.now.items) = subst (λ k. c.args.amount ≤ k) count c.requires.there in
    let rise : Rise 0 0 c.index_mut-block.result.now.items = Rise-at 0 0 c.place_of-place.result.index c.args.heads.now.items c.args.blocks.now.items c.index_mut-block.result.now c.requires.split.held at.inside c.index_mut-block.ensures.value in
    SizedBut-set 63 c.place_of-place.result.index c.args.blocks.now.items c.take_record.new.rows c.requires.split.sized (omega arith) (taken_loose c.args.bin c.args.amount c.index_mut-block.result.now c.take_record.new.rows sized rise c.requires.some there c.take_record.ensures.taken c.take_record.ensures.room)

pub fit_head-requires-clause-last : goal.fit_head-requires-clause-last
fit_head-requires-clause-last g c =
    subst (λ (hs : List Row). AreLastBut c.place_of-place.result.index hs (set c.args.blocks.now.items c.place_of-place.result.index c.take_record.new.rows)) (sym c.lower.ensures.lowered)
    (AreLast-changed (lowered c.args.amount) (λ _. refl) c.place_of-place.result.index c.args.heads.now.items c.args.blocks.now.items c.take_record.new.rows c.requires.split.last)

pub fit_head-requires-clause-within : goal.fit_head-requires-clause-within
fit_head-requires-clause-within g c =
    let at = placed _ c.args.bin c.place_of-place.result.index c.args.heads.now.items c.args.blocks.now.items c.requires.split.held c.from.ensures c.place_of-place.ensures.place (omega arith) in
    subst (λ (hs : List Row). c.place_of-place.result.index < length hs) (sym c.lower.ensures.lowered) (omega (arith, length-mapped_from (lowered c.args.amount) c.place_of-place.result.index c.args.heads.now.items))

pub returns-clause-total : goal.returns-clause-total
returns-clause-total g c =
    let less = subst (λ (hs : List Row). last_total 0 hs ≤ last_total 0 c.args.heads.now.items) (sym c.lower.ensures.lowered) (total-taken_from c.args.amount 0 c.place_of-place.result.index c.args.heads.now.items) in
    omega (arith, less, c.fit_head.ensures.total)
