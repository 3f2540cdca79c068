use Rattle.std.proofs.Common.{◌/◌, refl, sym, arith, ◌∙◌, ap}
use denote.Param.{param}
use Rattle.block_list.proofs.Laid.{last_at, emptied, set_stays, front_stays}
use Rattle.block_list.proofs.block.pop_item.Goals as goal

pub index_mut-block-requires : goal.index_mut-block-requires
index_mut-block-requires g c =
    let p = last_at c.args.blocks.now.items c.args.last c.requires.0 c.requires.1 in
    let b = p.last in
    let n = c.args.blocks.now.ok.0 in
    omega arith

pub read-item-requires : goal.read-item-requires
read-item-requires g c =
    let p = last_at c.args.blocks.now.items c.args.last c.requires.0 c.requires.1 in
    rw c.index_mut-block.ensures.value (p.count c.index_mut-block.result.now)

pub free-requires : goal.free-requires
free-requires g c = (
  (emptied c.args.blocks.now.items c.take_last-emptied.new.self.items c.args.last c.index_mut-block.result.now c.read-item.new.self c.take_last-emptied.result c.read-item.result
      (last_at c.args.blocks.now.items c.args.last c.requires.0 c.requires.1) c.requires.0 c.if-last-eq0.true (sym (ap (λ b. b.items) c.index_mut-block.ensures.value) ∙ c.read-item.ensures.items) c.take_last-emptied.ensures.items).empty,
  refl,
)

pub returns-then-last-eq0-clause-popped : goal.returns-then-last-eq0-clause-popped
returns-then-last-eq0-clause-popped g c =
    (emptied c.args.blocks.now.items c.take_last-emptied.new.self.items c.args.last c.index_mut-block.result.now c.read-item.new.self c.take_last-emptied.result c.read-item.result
    (last_at c.args.blocks.now.items c.args.last c.requires.0 c.requires.1) c.requires.0 c.if-last-eq0.true (sym (ap (λ b. b.items) c.index_mut-block.ensures.value) ∙ c.read-item.ensures.items) c.take_last-emptied.ensures.items).popped

pub returns-then-last-eq0-clause-blocks : goal.returns-then-last-eq0-clause-blocks
returns-then-last-eq0-clause-blocks g c =
    (emptied c.args.blocks.now.items c.take_last-emptied.new.self.items c.args.last c.index_mut-block.result.now c.read-item.new.self c.take_last-emptied.result c.read-item.result
    (last_at c.args.blocks.now.items c.args.last c.requires.0 c.requires.1) c.requires.0 c.if-last-eq0.true (sym (ap (λ b. b.items) c.index_mut-block.ensures.value) ∙ c.read-item.ensures.items) c.take_last-emptied.ensures.items).blocks

pub returns-then-last-eq0-clause-stays : goal.returns-then-last-eq0-clause-stays
returns-then-last-eq0-clause-stays g c =
    let p = last_at c.args.blocks.now.items c.args.last c.requires.0 c.requires.1 in
    front_stays (param 0 g.row.T) c.args.blocks.now.items c.take_last-emptied.new.self.items c.args.last c.index_mut-block.result.now c.read-item.new.self c.take_last-emptied.result
    p c.if-last-eq0.true (c.read-item.ensures.stays.start ∙ ap (λ b. b.ptr) c.index_mut-block.ensures.value) c.take_last-emptied.ensures.items

pub returns-else-last-eq0-clause-popped : goal.returns-else-last-eq0-clause-popped
returns-else-last-eq0-clause-popped g c =
    let p = last_at c.args.blocks.now.items c.args.last c.requires.0 c.requires.1 in
    p.popped c.index_mut-block.result.now c.read-item.new.self c.read-item.result (sym (ap (λ b. b.items) c.index_mut-block.ensures.value) ∙ c.read-item.ensures.items)

pub returns-else-last-eq0-clause-blocks : goal.returns-else-last-eq0-clause-blocks
returns-else-last-eq0-clause-blocks g c =
    let p = last_at c.args.blocks.now.items c.args.last c.requires.0 c.requires.1 in
    p.kept c.index_mut-block.result.now c.read-item.new.self c.read-item.result (sym (ap (λ b. b.items) c.index_mut-block.ensures.value) ∙ c.read-item.ensures.items) c.if-last-eq0.false

pub returns-else-last-eq0-clause-stays : goal.returns-else-last-eq0-clause-stays
returns-else-last-eq0-clause-stays g c =
    set_stays (param 0 g.row.T) c.args.blocks.now.items (c.args.last / 64) c.args.last c.read-item.new.self c.index_mut-block.result.now (c.read-item.ensures.stays.start ∙ ap (λ b. b.ptr) c.index_mut-block.ensures.value)
