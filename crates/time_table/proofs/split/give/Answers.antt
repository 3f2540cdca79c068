use Rattle.std.proofs.Common.{suc, ◌≡◌, ◌+◌, ◌-◌, ◌<◌, ◌≤◌, length, get_or, arith, sym, subst}
use Rattle.std.specs.List.{remove}
use Rattle.time_table.specs.declared.row.Row.{Row}
use Rattle.time_table.specs.Totals.{last_total}
use Rattle.time_table.specs.Blocks.{Block}
use Rattle.time_table.proofs.TwoRowLists.{last_total_at, bin_after_at}
use Rattle.time_table.proofs.BlockRows.{held_len, IsParted}
use Rattle.time_table.proofs.GivenRows.{IsPaired, paired, pair_rise, pair_fits, pair_sizes, split_given, total_given, parts_given}
use Rattle.time_table.proofs.split.give.Given.{Over}
use Rattle.time_table.proofs.split.give.Goals.{After-index_mut-left, After-at-head}
use Rattle.time_table.proofs.split.give.Goals as goal

-- the block that gives is the next one
right_at : (g : Over) (c : After-index_mut-left g) → c.replace-right.result ≡ get_or c.args.blocks.now.items (c.args.q + 1) c.replace-right.result
right_at g c = subst (λ (b : Block). b ≡ get_or c.args.blocks.now.items (c.args.q + 1) b) (sym c.replace-right.ensures.value) c.index_mut-full.ensures.value

is_paired : (g : Over) (c : After-index_mut-left g) → IsPaired g.T.StoredRow.limit c.args.q (remove c.args.heads.now.items c.args.q) (remove c.args.blocks.now.items (suc c.args.q)) c.index_mut-left.result.now c.replace-right.result
is_paired g c =
    let right = right_at g c in
    paired _ c.args.q c.args.heads.now.items c.args.blocks.now.items c.replace-right.new.dest c.index_mut-left.result.now c.replace-right.result c.requires.held c.requires.fits c.requires.within right
    (c.requires.pair c.replace-right.result right) (omega (arith, c.requires.full c.replace-right.result right)) c.index_mut-left.ensures.value

-- there are as many heads as blocks
headed : (g : Over) (c : After-index_mut-left g) → suc c.args.q < length c.args.heads.now.items
headed g c = omega (arith, held_len 0 0 c.args.heads.now.items c.args.blocks.now.items c.requires.held.held, c.requires.within)

halves : (g : Over) (c : After-at-head g) → IsPaired g.T.StoredRow.limit c.args.q (remove c.args.heads.now.items c.args.q) (remove c.args.blocks.now.items (suc c.args.q)) c.index_mut-left.result.now c.replace-right.result → suc c.args.q < length c.args.heads.now.items → last_total 0 c.fill.new.left.items + last_total 0 c.fill.new.right.items ≤ c.at-head.result.total
halves g c is within = total_given _ c.args.q c.args.heads.now.items c.args.blocks.now.items c.index_mut-left.result.now c.replace-right.result c.fill.new.left c.fill.new.right c.at-head.result is within c.at-head.ensures.item c.fill.ensures.same

end_total : (g : Over) (c : After-at-head g) → c.at-end.result.total ≡ last_total 0 c.fill.new.right.items
end_total g c = last_total_at 0 (c.len-2.result - 1) c.fill.new.right.items c.at-end.result (omega (arith, c.fill.ensures.some)) c.at-end.ensures.item

pub fill-requires-clause-rise : goal.fill-requires-clause-rise
fill-requires-clause-rise g c = pair_rise _ _ _ _ _ _ (is_paired g (goal.at.fill-requires-clause-rise g c).After-index_mut-left)

pub fill-requires-clause-fits : goal.fill-requires-clause-fits
fill-requires-clause-fits g c = pair_fits _ _ _ _ _ _ (is_paired g (goal.at.fill-requires-clause-fits g c).After-index_mut-left)

pub fill-requires-clause-sizes : goal.fill-requires-clause-sizes
fill-requires-clause-sizes g c = pair_sizes _ _ _ _ _ _ (is_paired g (goal.at.fill-requires-clause-sizes g c).After-index_mut-left)

pub at-head-requires : goal.at-head-requires
at-head-requires g c = omega (arith, headed g (goal.at.at-head-requires g c).After-index_mut-left)

pub overflow_sub-row : goal.overflow_sub-row
overflow_sub-row g c =
    let at = (goal.at.overflow_sub-row g c).After-index_mut-left in
    let on = (goal.at.overflow_sub-row g c).After-at-head in
    omega (arith, halves g on (is_paired g at) (headed g at), end_total g on)

pub set-requires : goal.set-requires
set-requires g c = omega (arith, headed g (goal.at.set-requires g c).After-index_mut-left)

pub returns-clause-split : goal.returns-clause-split
returns-clause-split g c =
    let at = (goal.at.returns-clause-split g c).After-index_mut-left in
    let on = (goal.at.returns-clause-split g c).After-at-head in
    let row : Row = record { bin = c.at-last.result.bin; total = c.at-head.result.total - c.at-end.result.total } in
    let many : 32 ≤ length c.fill.new.left.items = c.fill.ensures.sizes.sized.least in
    let last : c.len.result - 1 + 1 ≡ length c.fill.new.left.items = omega arith in
    let parted : IsParted c.index_mut-left.result.now.items c.replace-right.result.items c.fill.new.left.items c.fill.new.right.items c.at-head.result row = record {
      same = c.fill.ensures.same;
      some_left = omega arith;
      some_right = omega (arith, c.fill.ensures.some);
      bin = λ least. bin_after_at least (c.len.result - 1) c.fill.new.left.items c.at-last.result last c.at-last.ensures.item;
      total = omega (arith, halves g on (is_paired g at) (headed g at), end_total g on);
    } in
    split_given _ c.args.q c.args.heads.now.items c.set.new.self.items c.args.blocks.now.items c.replace-right.new.dest c.index_mut-left.result.now c.replace-right.result c.fill.new.left c.fill.new.right c.at-head.result row
    (is_paired g at) (omega (arith, c.requires.within)) (headed g at) c.at-head.ensures.item parted c.fill.ensures.sizes c.set.ensures.written

pub returns-clause-parts : goal.returns-clause-parts
returns-clause-parts g c =
    let at = (goal.at.returns-clause-parts g c).After-index_mut-left in
    parts_given _ c.args.q _ c.args.blocks.now.items c.replace-right.new.dest c.index_mut-left.result.now c.replace-right.result c.fill.new.left c.fill.new.right
    (is_paired g at) (omega (arith, c.requires.within)) (right_at g at) c.fill.ensures.same
