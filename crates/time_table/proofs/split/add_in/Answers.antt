use Rattle.std.proofs.Common.{◌≡◌, ◌+◌, ◌-◌, ◌<◌, List, [], length, get_or, arith, sym, ap, subst, ◌∙◌}
use Rattle.time_table.specs.declared.row.Row.{Row}
use Rattle.time_table.specs.Places.{more}
use Rattle.time_table.specs.Totals.{IsTotal, last_total}
use Rattle.time_table.specs.Blocks.{Block, SizedBut, parts}
use Rattle.time_table.proofs.BlockRows.{Rise-heads, placed}
use Rattle.time_table.proofs.LastBins.{AreLast-in_hand}
use Rattle.time_table.proofs.BlockSizes.{tighten_all, read_length, but_at, fits_given, Held-in_hand, parts-in_hand}
use Rattle.time_table.proofs.split.add_in.Goals as goal

pub place_of-place-requires : goal.place_of-place-requires
place_of-place-requires g c = Rise-heads 0 0 c.args.heads.now.items c.args.blocks.now.items c.requires.split.held

pub index-block-requires : goal.index-block-requires
index-block-requires g c =
    let at = placed _ c.args.bin c.place_of-place.result.index c.args.heads.now.items c.args.blocks.now.items c.requires.split.held c.from.ensures c.place_of-place.ensures.place (omega arith) in
    omega arith

pub add_at-requires-clause-within : goal.add_at-requires-clause-within
add_at-requires-clause-within g c =
    let at = placed _ c.args.bin c.place_of-place.result.index c.args.heads.now.items c.args.blocks.now.items c.requires.split.held c.from.ensures c.place_of-place.ensures.place (omega arith) in
    at.inside

pub add_at-requires-2-clause-within : goal.add_at-requires-2-clause-within
add_at-requires-2-clause-within g c =
    let at = placed _ c.args.bin c.place_of-place.result.index c.args.heads.now.items c.args.blocks.now.items c.requires.split.held c.from.ensures c.place_of-place.ensures.place (omega arith) in
    subst (λ (hs : List Row). c.place_of-place.result.index < length hs) (sym c.reserve-2.ensures.unchanged) at.inside

pub index-requires-2 : goal.index-requires-2
index-requires-2 g c =
    let at = placed _ c.args.bin c.place_of-place.result.index c.args.heads.now.items c.args.blocks.now.items c.requires.split.held c.from.ensures c.place_of-place.ensures.place (omega arith) in
    let kept : length c.reserve_block.new.blocks.items ≡ length c.args.blocks.now.items = ap length c.reserve_block.ensures.unchanged in
    omega arith

pub settle-requires-clause-held : goal.settle-requires-clause-held
settle-requires-clause-held g c =
    let none : c.reserve.new.self.items ≡ [] = c.reserve.ensures.unchanged ∙ c.new-right.ensures in
    record {
      held = Held-in_hand 0 0 c.place_of-place.result.index c.add_at-2.new.heads.items c.add_at-2.new.blocks.items c.reserve.new.self c.add_at-2.ensures.adds.held none;
      last = AreLast-in_hand c.place_of-place.result.index c.add_at-2.new.heads.items c.add_at-2.new.blocks.items c.reserve.new.self none c.add_at-2.ensures.adds.last;
    }

pub returns-clause-added : goal.returns-clause-added
returns-clause-added g c =
    let none : c.reserve.new.self.items ≡ [] = c.reserve.ensures.unchanged ∙ c.new-right.ensures in
    c.settle.ensures.parts
    ∙ parts-in_hand c.place_of-place.result.index c.add_at-2.new.blocks.items c.reserve.new.self none
    ∙ c.add_at-2.ensures.adds.parts
    ∙ ap (λ (bs : List Block). more c.args.bin c.args.amount (parts bs)) c.reserve_block.ensures.unchanged

pub returns-then-len-lt63-clause-split : goal.returns-then-len-lt63-clause-split
returns-then-len-lt63-clause-split g c = record {
  heads_held = c.add_at.ensures.adds.heads_held;
  sized =
      let at = placed _ c.args.bin c.place_of-place.result.index c.args.heads.now.items c.args.blocks.now.items c.requires.split.held c.from.ensures c.place_of-place.ensures.place (omega arith) in
      tighten_all c.place_of-place.result.index c.add_at.new.blocks.items c.add_at.ensures.adds.sized
      (λ (d : Block). let less = read_length c.place_of-place.result.index c.args.blocks.now.items c.index-block.result.now (omega arith) c.index-block.ensures d in
      omega (arith, less, c.add_at.ensures.adds.longer d));
  fits =
      let total : last_total 0 c.add_at.new.heads.items ≡ last_total 0 c.args.heads.now.items + c.args.amount = c.add_at.ensures.adds.total in
      subst (IsTotal _) (sym total) c.requires.fits;
}

pub returns-then-len-lt64-clause-split : goal.returns-then-len-lt64-clause-split
returns-then-len-lt64-clause-split g c = record {
  heads_held = c.add_at-2.ensures.adds.heads_held;
  sized =
      let at = placed _ c.args.bin c.place_of-place.result.index c.args.heads.now.items c.args.blocks.now.items c.requires.split.held c.from.ensures c.place_of-place.ensures.place (omega arith) in
      let kept : length c.reserve_block.new.blocks.items ≡ length c.args.blocks.now.items = ap length c.reserve_block.ensures.unchanged in
      tighten_all c.place_of-place.result.index c.add_at-2.new.blocks.items c.add_at-2.ensures.adds.sized
      (λ (d : Block). let less = read_length c.place_of-place.result.index c.add_at-2.new.blocks.items c.index-2.result.now (omega arith) c.index-2.ensures d in
      omega (arith, less));
  fits =
      let total : last_total 0 c.add_at-2.new.heads.items ≡ last_total 0 c.args.heads.now.items + c.args.amount =
      c.add_at-2.ensures.adds.total ∙ ap (λ (hs : List Row). last_total 0 hs + c.args.amount) c.reserve-2.ensures.unchanged in
      subst (IsTotal _) (sym total) c.requires.fits;
}

pub settle-requires-clause-hand : goal.settle-requires-clause-hand
settle-requires-clause-hand g c = record {
  within =
      let at = placed _ c.args.bin c.place_of-place.result.index c.args.heads.now.items c.args.blocks.now.items c.requires.split.held c.from.ensures c.place_of-place.ensures.place (omega arith) in
      let kept : length c.reserve_block.new.blocks.items ≡ length c.args.blocks.now.items = ap length c.reserve_block.ensures.unchanged in
      omega arith;
  sized =
      let none : c.reserve.new.self.items ≡ [] = c.reserve.ensures.unchanged ∙ c.new-right.ensures in
      subst (λ (rows : List Row). SizedBut (length rows) c.place_of-place.result.index c.add_at-2.new.blocks.items) (sym none) c.add_at-2.ensures.adds.sized;
  most =
      let none : c.reserve.new.self.items ≡ [] = c.reserve.ensures.unchanged ∙ c.new-right.ensures in
      omega (arith, ap length none);
  room = omega (arith, c.in_ok-reserve.ensures.room);
}

pub has_gap_before-requires : goal.has_gap_before-requires
has_gap_before-requires g c =
    let at = placed _ c.args.bin c.place_of-place.result.index c.args.heads.now.items c.args.blocks.now.items c.requires.split.held c.from.ensures c.place_of-place.ensures.place (omega arith) in
    omega arith

pub add_at-requires-then-has_gap_before-clause-within : goal.add_at-requires-then-has_gap_before-clause-within
add_at-requires-then-has_gap_before-clause-within g c =
    let at = placed _ c.args.bin c.place_of-place.result.index c.args.heads.now.items c.args.blocks.now.items c.requires.split.held c.from.ensures c.place_of-place.ensures.place (omega arith) in
    at.inside

pub index-requires : goal.index-requires
index-requires g c =
    let at = placed _ c.args.bin c.place_of-place.result.index c.args.heads.now.items c.args.blocks.now.items c.requires.split.held c.from.ensures c.place_of-place.ensures.place (omega arith) in
    omega (arith, c.add_at-then-has_gap_before.ensures.adds.count)

pub give-requires-clause-within : goal.give-requires-clause-within
give-requires-clause-within g c =
    let at = placed _ c.args.bin c.place_of-place.result.index c.args.heads.now.items c.args.blocks.now.items c.requires.split.held c.from.ensures c.place_of-place.ensures.place (omega arith) in
    omega (arith, c.add_at-then-has_gap_before.ensures.adds.count, c.has_gap_before.ensures.one c.if-has_gap_before.true)

pub give-requires-clause-pair : goal.give-requires-clause-pair
give-requires-clause-pair g c right read =
    let at = placed _ c.args.bin c.place_of-place.result.index c.args.heads.now.items c.args.blocks.now.items c.requires.split.held c.from.ensures c.place_of-place.ensures.place (omega arith) in
    let some : 0 < c.place_of-place.result.index = c.has_gap_before.ensures.one c.if-has_gap_before.true in
    let back : c.place_of-place.result.index ≡ c.place_of-place.result.index - 1 + 1 = omega arith in
    fits_given (c.place_of-place.result.index - 1) c.add_at-then-has_gap_before.new.blocks.items right
    (subst (λ k. SizedBut 0 k c.add_at-then-has_gap_before.new.blocks.items) back c.add_at-then-has_gap_before.ensures.adds.sized)
    (omega (arith, c.add_at-then-has_gap_before.ensures.adds.count)) read
    (λ (b : Block) is. c.has_gap_before.ensures.gap c.if-has_gap_before.true b (c.add_at-then-has_gap_before.ensures.adds.others (c.place_of-place.result.index - 1) b (omega arith) is))

pub give-requires-clause-full : goal.give-requires-clause-full
give-requires-clause-full g c right read =
    let some : 0 < c.place_of-place.result.index = c.has_gap_before.ensures.one c.if-has_gap_before.true in
    let back : c.place_of-place.result.index - 1 + 1 ≡ c.place_of-place.result.index = omega arith in
    let at = placed _ c.args.bin c.place_of-place.result.index c.args.heads.now.items c.args.blocks.now.items c.requires.split.held c.from.ensures c.place_of-place.ensures.place (omega arith) in
    let less = read_length c.place_of-place.result.index c.add_at-then-has_gap_before.new.blocks.items c.index.result.now (omega (arith, c.add_at-then-has_gap_before.ensures.adds.count)) c.index.ensures right in
    let same : length right.items ≡ length (get_or c.add_at-then-has_gap_before.new.blocks.items c.place_of-place.result.index right).items =
    ap (λ (b : Block). length b.items) (read ∙ ap (λ k. get_or c.add_at-then-has_gap_before.new.blocks.items k right) back) in
    omega (arith, less)

pub returns-else-len-eq64-clause-split : goal.returns-else-len-eq64-clause-split
returns-else-len-eq64-clause-split g c = record {
  heads_held = c.add_at-then-has_gap_before.ensures.adds.heads_held;
  sized =
      let at = placed _ c.args.bin c.place_of-place.result.index c.args.heads.now.items c.args.blocks.now.items c.requires.split.held c.from.ensures c.place_of-place.ensures.place (omega arith) in
      let is = but_at 0 c.place_of-place.result.index c.add_at-then-has_gap_before.new.blocks.items c.index.result.now c.add_at-then-has_gap_before.ensures.adds.sized c.index.ensures in
      tighten_all c.place_of-place.result.index c.add_at-then-has_gap_before.new.blocks.items c.add_at-then-has_gap_before.ensures.adds.sized
      (λ (d : Block). let less = read_length c.place_of-place.result.index c.add_at-then-has_gap_before.new.blocks.items c.index.result.now (omega (arith, c.add_at-then-has_gap_before.ensures.adds.count)) c.index.ensures d in
      omega (arith, less, is.most));
  fits =
      let total : last_total 0 c.add_at-then-has_gap_before.new.heads.items ≡ last_total 0 c.args.heads.now.items + c.args.amount = c.add_at-then-has_gap_before.ensures.adds.total in
      subst (IsTotal _) (sym total) c.requires.fits;
}
