use Rattle.std.proofs.Common.{◌≡◌, ◌+◌, ◌≤◌, ◌<◌, length, take, refl, sym, ap, ◌∙◌, arith}
use Rattle.std.proofs.lemmas.List.Sums.{sum_by-take-le, sum_by_more}
use Rattle.time_table.specs.Counts.{count_before}
use Rattle.time_table.specs.Totals.{counts, last_total}
use Rattle.time_table.specs.Blocks.{Block, flat}
use Rattle.time_table.proofs.BlockCounts.{count_before-all}
use Rattle.time_table.proofs.BlockRows.{held_len, Rise-heads, Rise-at, total_at}
use Rattle.time_table.proofs.SeriesTotals.{none_told, room_for, all_told, none_left, known_in_block, heads_total, past_heads, blocks_past, past_later, length-flat-sum}
use Rattle.time_table.proofs.series.pass_blocks.Goals as goal

pub place_of-place-requires : goal.place_of-place-requires
place_of-place-requires g c = Rise-heads 0 0 c.args.heads.now.items c.args.blocks.now.items c.requires.split.held

pub loop-q-init : goal.loop-q-init
loop-q-init g c =
    let place = c.place_of-place.ensures.place in
    record {
      room = room_for c.args.from c.args.wide c.args.totals.now c.requires.small;
      wide = refl;
      told = none_told (count_before (counts (flat 0 c.args.blocks.now.items))) c.args.from c.args.wide c.args.totals.now;
      before = c.place_of-place.ensures.total;
      past = λ left inside. place.lesser;
      rest = λ left end e after. sym (c.place_of-place.ensures.total ∙ count_before-all e c.place_of-place.result.index c.args.heads.now.items c.args.blocks.now.items c.requires.split.held (past_later c.args.from e (take c.place_of-place.result.index c.args.heads.now.items) after place.lesser) end);
      cost = omega (arith, c.place_of-place.ensures.cost);
    }

pub pass_rows-before-requires-clause-rise : goal.pass_rows-before-requires-clause-rise
pass_rows-before-requires-clause-rise g c =
    let same = held_len 0 0 c.args.heads.now.items c.args.blocks.now.items c.requires.split.held in
    Rise-at 0 0 c.loop-q.q c.args.heads.now.items c.args.blocks.now.items c.index.result.now c.requires.split.held (omega (arith, same)) c.index.ensures

pub pass_rows-before-requires-clause-fits : goal.pass_rows-before-requires-clause-fits
pass_rows-before-requires-clause-fits g c some =
    let same = held_len 0 0 c.args.heads.now.items c.args.blocks.now.items c.requires.split.held in
    let sum : last_total 0 (take c.loop-q.q c.args.heads.now.items) + last_total 0 c.index.result.now.items ≤ last_total 0 c.args.heads.now.items =
    total_at 0 0 c.loop-q.q c.args.heads.now.items c.args.blocks.now.items c.index.result.now c.requires.split.held (omega (arith, same)) c.index.ensures in
    omega (arith, sum, c.requires.split.fits, c.loop-q.invariant.before)

pub loop-q-preserved : goal.loop-q-preserved
loop-q-preserved g c =
    let inv = c.loop-q.invariant in
    let held = c.requires.split.held in
    let on = c.pass_rows-before.ensures.on in
    let read = c.index.ensures in
    let same = held_len 0 0 c.args.heads.now.items c.args.blocks.now.items held in
    let inside : c.loop-q.q < length c.args.heads.now.items = omega (arith, same) in
    let left : c.loop-q.ends.done < length c.loop-q.totals = omega (arith, inv.room.within, c.if-ends-totals.false) in
    let heads = inv.past left inside in
    let more = sum_by_more (λ (b : Block). length b.items) c.args.blocks.now.items c.loop-q.q c.index.result.now (omega (arith, same)) in
    let here = ap (λ (b : Block). length b.items) read in
    record {
      room = on.room;
      wide = on.wide ∙ inv.wide;
      told = c.pass_rows-before.ensures.tells (count_before (counts (flat 0 c.args.blocks.now.items))) c.args.from inv.told (λ some e after i few place. known_in_block c.loop-q.q i c.loop-q.ends.end e c.loop-q.before c.args.heads.now.items c.args.blocks.now.items c.index.result.now held inside read heads after inv.before few place);
      before = c.pass_rows-before.ensures.total ∙ ap (λ k. k + last_total 0 c.index.result.now.items) inv.before ∙ sym (heads_total c.loop-q.q c.args.heads.now.items c.args.blocks.now.items c.index.result.now held inside read);
      past = λ left' inside'. past_heads c.loop-q.q c.pass_rows-before.new.ends.end c.args.heads.now.items c.args.blocks.now.items c.index.result.now held c.requires.split.last inside' read (past_later c.loop-q.ends.end c.pass_rows-before.new.ends.end (take c.loop-q.q c.args.heads.now.items) on.end heads) (c.pass_rows-before.ensures.past left');
      rest = λ left' end e after.
          blocks_past c.loop-q.q e c.args.heads.now.items c.args.blocks.now.items c.index.result.now held end read (past_later c.loop-q.ends.end e (take c.loop-q.q c.args.heads.now.items) (omega (arith, on.end, after)) heads) (past_later c.pass_rows-before.new.ends.end e c.index.result.now.items after (c.pass_rows-before.ensures.past left'))
          ∙ ap (λ k. k + last_total 0 c.index.result.now.items) (sym inv.before)
          ∙ sym c.pass_rows-before.ensures.total;
      cost = omega (arith, inv.cost, c.pass_rows-before.ensures.cost, more, here);
    }

pub returns-then-ends-totals-clause-sums : goal.returns-then-ends-totals-clause-sums
returns-then-ends-totals-clause-sums g c =
    all_told (count_before (counts (flat 0 c.args.blocks.now.items))) c.args.from c.args.wide (length c.args.totals.now) c.loop-q.ends c.loop-q.totals c.loop-q.invariant.told c.loop-q.invariant.wide c.loop-q.auto.totals (omega (arith, c.if-ends-totals.true, c.loop-q.auto.totals))

pub returns-then-ends-totals-clause-cost : goal.returns-then-ends-totals-clause-cost
returns-then-ends-totals-clause-cost g c =
    let part = sum_by-take-le (λ (b : Block). length b.items) c.args.blocks.now.items c.loop-q.q in
    let long = length-flat-sum 0 c.args.blocks.now.items in
    omega (arith, c.loop-q.invariant.cost, part, long)

pub returns-clause-sums : goal.returns-clause-sums
returns-clause-sums g c =
    let f = count_before (counts (flat 0 c.args.blocks.now.items)) in
    let inv = c.loop-q.invariant in
    let on = c.tell.ensures.on in
    let same = held_len 0 0 c.args.heads.now.items c.args.blocks.now.items c.requires.split.held in
    let within = c.place_of-place.ensures.place.within in
    let end : c.loop-q.q ≡ length c.args.heads.now.items = omega (arith, same, within) in
    let whole = c.tell.ensures.tells f c.args.from inv.told (λ some e after late. inv.rest some end e after) in
    let none = none_left c.tell.new.ends c.tell.new.totals on.room c.tell.ensures.past in
    all_told f c.args.from c.args.wide (length c.args.totals.now) c.tell.new.ends c.tell.new.totals whole (on.wide ∙ inv.wide) (on.count ∙ c.loop-q.auto.totals) (omega (arith, none, on.count, c.loop-q.auto.totals))

pub returns-clause-cost : goal.returns-clause-cost
returns-clause-cost g c =
    let part = sum_by-take-le (λ (b : Block). length b.items) c.args.blocks.now.items c.loop-q.q in
    let long = length-flat-sum 0 c.args.blocks.now.items in
    omega (arith, c.loop-q.invariant.cost, part, long)
