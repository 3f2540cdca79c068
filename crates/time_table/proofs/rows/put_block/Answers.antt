use Rattle.std.proofs.Common.{◌-◌, ◌++◌, [], ◌∷◌, take, ap, sym, ◌∙◌, append_assoc, arith}
use Rattle.time_table.specs.Totals.{counts_from}
use Rattle.time_table.proofs.RowLists.{total_rises, counts_from-more}
use Rattle.time_table.proofs.SeriesTotals.{total_upto}
use Rattle.time_table.proofs.rows.put_block.Goals as goal

pub overflow_sub-row : goal.overflow_sub-row
overflow_sub-row g c =
    let up = total_rises 0 0 c.loop-i.i c.args.rows.now.items c.at-row.result c.requires (omega arith) c.at-row.ensures.item in
    omega (arith, up, c.loop-i.invariant.below)

pub loop-i-preserved : goal.loop-i-preserved
loop-i-preserved g c =
    let row = c.at-row.result in
    let rows = c.args.rows.now.items in record {
      put = c.in_ok-put_one.ensures
          ∙ ap (λ zs. zs ++ (row.bin, row.total - c.loop-i.below) ∷ []) c.loop-i.invariant.put
          ∙ append_assoc c.args.out.now.items (counts_from 0 (take c.loop-i.i rows)) ((row.bin, row.total - c.loop-i.below) ∷ [])
          ∙ ap (λ k. c.args.out.now.items ++ (counts_from 0 (take c.loop-i.i rows) ++ (row.bin, row.total - k) ∷ [])) c.loop-i.invariant.below
          ∙ ap (λ zs. c.args.out.now.items ++ zs) (sym (counts_from-more 0 c.loop-i.i rows row (omega arith) c.at-row.ensures.item));
      below = total_upto 0 c.loop-i.i rows row (omega arith) c.at-row.ensures.item;
      cost = omega (arith, c.loop-i.invariant.cost, c.at-row.ensures.one_step);
    }
