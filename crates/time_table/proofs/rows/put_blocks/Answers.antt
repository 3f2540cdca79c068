use Rattle.std.proofs.Common.{◌++◌, take, length, ap, refl, sym, ◌∙◌, append_assoc, arith, add-one}
use Rattle.std.proofs.lemmas.List.Sums.{sum_by-take-le, sum_by_more}
use Rattle.time_table.specs.Totals.{counts_from}
use Rattle.time_table.specs.Blocks.{Block, parts}
use Rattle.time_table.proofs.RowLists.{parts-more}
use Rattle.time_table.proofs.SeriesTotals.{length-flat-sum, rows_within}
use Rattle.time_table.proofs.rows.put_blocks.Goals as goal

pub loop-q-preserved : goal.loop-q-preserved
loop-q-preserved g c =
    let bs = c.args.blocks.now.items in
    let more = sum_by_more (λ (b : Block). length b.items) bs c.loop-q.q c.index.result.now (omega arith) in
    let here = ap (λ (b : Block). length b.items) c.index.ensures in record {
      put = c.in_ok-put_block.ensures.put
          ∙ ap (λ zs. zs ++ counts_from 0 c.index.result.now.items) c.loop-q.invariant.put
          ∙ append_assoc c.args.out.now.items (parts (take c.loop-q.q bs)) (counts_from 0 c.index.result.now.items)
          ∙ ap (λ zs. c.args.out.now.items ++ zs) (sym (parts-more c.loop-q.q bs c.index.result.now (omega arith) c.index.ensures) ∙ ap (λ k. parts (take k bs)) (sym (add-one c.loop-q.q)));
      cost = omega (arith, c.loop-q.invariant.cost, c.in_ok-put_block.ensures.cost, more, here);
    }

pub returns-clause-cost : goal.returns-clause-cost
returns-clause-cost g c =
    let part = sum_by-take-le (λ (b : Block). length b.items) c.args.blocks.now.items c.loop-q.q in
    omega (arith, c.loop-q.invariant.cost, part, length-flat-sum 0 c.args.blocks.now.items)

pub returns-in_err-put_block-clause-cost : goal.returns-in_err-put_block-clause-cost
returns-in_err-put_block-clause-cost g c =
    let within = rows_within c.args.blocks.now.items c.args.blocks.now.items c.loop-q.q c.index.result.now refl c.index.ensures (omega arith) in
    omega (arith, c.loop-q.invariant.cost, c.in_err-put_block.ensures.cost, within)
