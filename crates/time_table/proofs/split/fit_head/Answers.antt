use Rattle.std.proofs.Common.{◌≡◌, ◌+◌, ◌-◌, ◌<◌, List, length, arith, refl, sym, ap, subst, ◌∙◌}
use Rattle.time_table.specs.declared.row.Row.{Row}
use Rattle.time_table.specs.Totals.{last_total}
use Rattle.time_table.specs.Blocks.{IsHeld}
use Rattle.time_table.proofs.BlockRows.{held_len}
use Rattle.time_table.proofs.TwoRowLists.{bin_after_at}
use Rattle.time_table.proofs.LastBins.{AreLast-end, AreLast-fitted, Held-fitted, last_total-fitted, some_at}
use Rattle.time_table.proofs.split.fit_head.Goals as goal

pub returns-then-place-len-clause-held : goal.returns-then-place-len-clause-held
returns-then-place-len-clause-held g c = record {
  held = c.requires.held;
  last = AreLast-end c.args.place c.args.heads.now.items c.args.blocks.now.items (omega arith) c.requires.last;
}

pub index-block-requires : goal.index-block-requires
index-block-requires g c =
    let same : length c.args.heads.now.items ≡ length c.args.blocks.now.items = held_len 0 0 c.args.heads.now.items c.args.blocks.now.items c.requires.held in
    let within : c.args.place < length c.args.heads.now.items = c.requires.within in
    omega arith

pub overflow_add-place : goal.overflow_add-place
overflow_add-place g c =
    let same : length c.args.heads.now.items ≡ length c.args.blocks.now.items = held_len 0 0 c.args.heads.now.items c.args.blocks.now.items c.requires.held in
    let within : c.args.place < length c.args.heads.now.items = c.requires.within in
    omega arith

pub at-last-requires : goal.at-last-requires
at-last-requires g c =
    let some : 0 < length c.index-block.result.now.items = some_at 0 0 c.args.place c.args.heads.now.items c.args.blocks.now.items c.index-block.result.now c.requires.held c.requires.within c.index-block.ensures in
    omega arith

pub overflow_sub-len : goal.overflow_sub-len
overflow_sub-len g c =
    let some : 0 < length c.index-block.result.now.items = some_at 0 0 c.args.place c.args.heads.now.items c.args.blocks.now.items c.index-block.result.now c.requires.held c.requires.within c.index-block.ensures in
    omega arith

pub returns-clause-held : goal.returns-clause-held
returns-clause-held g c =
    let fitted : Row = record { bin = c.at-last.result.bin; total = c.at-head.result.total } in
    let within : c.args.place < length c.args.heads.now.items = c.requires.within in
    let some : 0 < length c.index-block.result.now.items = some_at 0 0 c.args.place c.args.heads.now.items c.args.blocks.now.items c.index-block.result.now c.requires.held within c.index-block.ensures in
    let end : c.len-2.result - 1 + 1 ≡ length c.index-block.result.now.items = omega arith in
    subst (λ (hs : List Row). IsHeld hs c.args.blocks.now.items) (sym c.set.ensures.written)
    (record {
      held = Held-fitted 0 0 c.args.place c.args.heads.now.items c.args.blocks.now.items c.index-block.result.now c.at-head.result fitted c.requires.held (omega arith) c.index-block.ensures c.at-head.ensures.item (λ l. bin_after_at l (c.len-2.result - 1) c.index-block.result.now.items c.at-last.result end c.at-last.ensures.item) refl;
      last = AreLast-fitted c.args.place c.args.heads.now.items c.args.blocks.now.items c.index-block.result.now fitted c.requires.last c.index-block.ensures (sym (bin_after_at 0 (c.len-2.result - 1) c.index-block.result.now.items c.at-last.result end c.at-last.ensures.item));
    })

pub returns-clause-total : goal.returns-clause-total
returns-clause-total g c = ap (last_total 0) c.set.ensures.written ∙ last_total-fitted 0 c.args.place c.args.heads.now.items c.at-head.result _ c.requires.within c.at-head.ensures.item refl
