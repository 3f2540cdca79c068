use Rattle.std.proofs.Common.{◌%◌, refl, sym, ap, ◌∙◌, get_or}
use denote.Param.{param}
use Rattle.block_list.specs.Addresses.{item_address}
use Rattle.block_list.proofs.Laid.{laid_at}
use Rattle.block_list.proofs.block.item_at.Goals as goal

pub bounds-blocks-i : goal.bounds-blocks-i
bounds-blocks-i g c = (laid_at _ _ c.args.i refl c.requires.0 c.requires.1).block

pub item-requires : goal.item-requires
item-requires g c =
    let p = laid_at _ _ c.args.i refl c.requires.0 c.requires.1 in
    rw c.index-blocks-i.is (p.inside c.index-blocks-i.result)

pub returns-clause-item : goal.returns-clause-item
returns-clause-item g c =
    let p = laid_at _ _ c.args.i refl c.requires.0 c.requires.1 in
    c.item.ensures.item ∙ ap (λ b. get_or b.items (c.args.i % 64) c.item.result.now) c.index-blocks-i.is ∙ sym (p.item c.index-blocks-i.result c.item.result.now)

pub returns-clause-address : goal.returns-clause-address
returns-clause-address g c =
    let p = laid_at _ _ c.args.i refl c.requires.0 c.requires.1 in
    c.item.ensures.address ∙ ap (λ q. item_address (param 0 g.row.T) q (c.args.i % 64)) (ap (λ b. b.ptr) c.index-blocks-i.is ∙ sym (p.start c.index-blocks-i.result))
