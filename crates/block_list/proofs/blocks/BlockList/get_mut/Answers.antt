use Rattle.std.proofs.Common.{◌%◌, arith, ◌∙◌, sym, ap, refl, get_or, length, length-set}
use Rattle.block_list.proofs.Laid.{laid_at}
use Rattle.block_list.proofs.blocks.BlockList.get_mut.Goals as goal

pub index_mut-requires : goal.index_mut-requires
index_mut-requires g c =
    let p = laid_at _ _ c.args.i c.self.view_is c.self.invariant.0 c.requires in
    let b = p.block in
    let n = c.self.inside.blocks.ok.0 in
    omega arith

pub item_mut-requires : goal.item_mut-requires
item_mut-requires g c =
    let p = laid_at _ _ c.args.i c.self.view_is c.self.invariant.0 c.requires in
    rw c.index_mut.ensures.value (p.inside c.index_mut.result.now)

pub invariant_of-self-lent : goal.invariant_of-self-lent
invariant_of-self-lent g c w =
    let p = laid_at _ _ c.args.i c.self.view_is c.self.invariant.0 c.requires in (
      rw c.index_mut.ensures.value (p.kept c.index_mut.result.now w),
      c.self.invariant.1 ∙ ap length c.self.view_is ∙ sym (ap length (rw c.index_mut.ensures.value (p.written c.index_mut.result.now w)) ∙ length-set c.args.self.now c.args.i w),
    )

pub returns : goal.returns
returns g c =
    let p = laid_at _ _ c.args.i c.self.view_is c.self.invariant.0 c.requires in (
      (refl, λ w. rw c.index_mut.ensures.value (p.written c.index_mut.result.now w)),
      record {
        writes_back = tt;
        value = c.item_mut.ensures.value ∙ ap (λ b. get_or b.items (c.args.i % 64) c.item_mut.result.now) c.index_mut.ensures.value ∙ sym (p.item c.index_mut.result.now c.item_mut.result.now);
      },
    )
