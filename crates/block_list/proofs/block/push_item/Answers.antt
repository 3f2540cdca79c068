use Rattle.std.proofs.Common.{◌*◌, ◌/◌, ◌≤◌, ◌++◌, ◌∷◌, [], arith, ◌∙◌, ap, length}
use denote.Param.{param}
use Rattle.block_list.specs.Blocks.{held}
use Rattle.block_list.proofs.Places.{length_within}
use Rattle.block_list.proofs.Laid.{has_room, held-length, new_block, set_stays, more_stays}
use Rattle.block_list.proofs.block.push_item.Goals as goal

pub index_mut-last-requires : goal.index_mut-last-requires
index_mut-last-requires g c =
    let p = has_room c.args.blocks.now.items c.args.len c.args.item c.requires.0 c.requires.1 c.if-len-ne0.true in
    let b = p.block in
    let n = c.args.blocks.now.ok.0 in
    omega arith

pub write-requires : goal.write-requires
write-requires g c =
    let p = has_room c.args.blocks.now.items c.args.len c.args.item c.requires.0 c.requires.1 c.if-len-ne0.true in
    rw c.index_mut-last.ensures.value (p.count c.index_mut-last.result.now)

pub returns-then-len-ne0-clause-pushed : goal.returns-then-len-ne0-clause-pushed
returns-then-len-ne0-clause-pushed g c =
    let p = has_room c.args.blocks.now.items c.args.len c.args.item c.requires.0 c.requires.1 c.if-len-ne0.true in
    p.pushed c.index_mut-last.result.now c.write.new.self (c.write.ensures.items ∙ ap (λ b. b.items ++ c.args.item ∷ []) c.index_mut-last.ensures.value)

pub returns-then-len-ne0-clause-blocks : goal.returns-then-len-ne0-clause-blocks
returns-then-len-ne0-clause-blocks g c =
    let p = has_room c.args.blocks.now.items c.args.len c.args.item c.requires.0 c.requires.1 c.if-len-ne0.true in
    p.kept c.index_mut-last.result.now c.write.new.self (c.write.ensures.items ∙ ap (λ b. b.items ++ c.args.item ∷ []) c.index_mut-last.ensures.value)

pub returns-then-len-ne0-clause-stays : goal.returns-then-len-ne0-clause-stays
returns-then-len-ne0-clause-stays g c =
    set_stays (param 0 g.row.T) c.args.blocks.now.items (c.args.len / 64) c.args.len c.write.new.self c.index_mut-last.result.now (c.write.ensures.stays.start ∙ ap (λ b. b.ptr) c.index_mut-last.ensures.value)

pub returns-in-Ok-clause-blocks : goal.returns-in-Ok-clause-blocks
returns-in-Ok-clause-blocks g c =
    let n = c.args.blocks.now.ok.0 in
    rw c.in-Ok.ensures.items (new_block c.args.blocks.now.items c.in_ok-block.block c.args.len c.args.item c.in_ok-block.ensures.items c.requires.0 c.requires.1 c.if-len-ne0.false (λ x. c.if-len-eq-MOST_BLOCKS.false (c.len.ensures ∙ n ∙ x))).0

pub returns-in-Ok-clause-stays : goal.returns-in-Ok-clause-stays
returns-in-Ok-clause-stays g c =
    let within = length_within (held c.args.blocks.now.items) c.requires.0.0 in
    let fits : c.args.len ≤ length c.args.blocks.now.items * 64 = omega (arith, c.requires.1, held-length c.args.blocks.now.items) in
    rw c.in-Ok.ensures.items (more_stays (param 0 g.row.T) c.args.blocks.now.items c.in_ok-block.block c.args.len fits)
