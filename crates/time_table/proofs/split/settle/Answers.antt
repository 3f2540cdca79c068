use Rattle.std.proofs.Common.{◌≡◌, ◌+◌, ◌-◌, ◌<◌, ◌≤◌, List, get_or, length, take, set, arith, sym, ap, subst, ◌∙◌, add-one}
use Rattle.std.specs.List.{insert}
use Rattle.std.proofs.lemmas.List.{nil_from_length}
use Rattle.time_table.specs.declared.row.Row.{Row}
use Rattle.time_table.specs.Totals.{IsTotal, last_total}
use Rattle.time_table.specs.Blocks.{Block, Held, AreLast, AllSized, one_list, in_hand, parts}
use Rattle.time_table.proofs.BlockRows.{held_len, Rise-at, total_at, Held-all_left, parts-all_left, AllSized-set, Held-parted, parts-parted, AllSized-parted, IsParted, last_total-insert, head_total_at}
use Rattle.time_table.proofs.TwoRowLists.{one_list-nil, last_total_at, last_total-one_list, bin_after_at}
use Rattle.time_table.proofs.LastBins.{AreLast-all_left, AreLast-parted}
use Rattle.time_table.proofs.BlockSizes.{both, in_hand_at, in_hand_long, but_at, at_least}
use Rattle.time_table.proofs.split.settle.Given.{Over}
use Rattle.time_table.proofs.split.settle.Goals.{After-index_mut-left, After-level, After-at-head}
use Rattle.time_table.proofs.split.settle.Goals as goal

-- there are as many heads as blocks
long : (g : Over) (c : After-index_mut-left g) → length c.args.heads.now.items ≡ length c.args.blocks.now.items
long g c = held_len 0 0 c.args.heads.now.items (in_hand c.args.q c.args.right c.args.blocks.now.items) c.requires.held.held ∙ in_hand_long c.args.q c.args.blocks.now.items c.args.right

-- so there is one at the place
headed : (g : Over) (c : After-index_mut-left g) → c.args.q < length c.args.heads.now.items
headed g c = omega (arith, long g c, c.requires.hand.within)

-- the rows at the place are those of the block there and of the one in hand
both_at : (g : Over) (c : After-index_mut-left g) → both c.index_mut-left.result.now c.args.right ≡ get_or (in_hand c.args.q c.args.right c.args.blocks.now.items) c.args.q (both c.index_mut-left.result.now c.args.right)
both_at g c = in_hand_at c.args.q c.args.blocks.now.items c.index_mut-left.result.now c.args.right c.requires.hand.within c.index_mut-left.ensures.value

-- the left block has all their rows where the right one is empty
all_left : (g : Over) (c : After-level g) → length c.level.new.right.items ≡ 0 → c.level.new.left.items ≡ one_list c.index_mut-left.result.now.items c.args.right.items
all_left g c empty = sym (ap (one_list c.level.new.left.items) (nil_from_length c.level.new.right.items empty) ∙ one_list-nil c.level.new.left.items) ∙ c.level.ensures.same

-- the head counts what both blocks count
halves : (g : Over) (c : After-at-head g) → c.args.q < length c.args.heads.now.items → both c.index_mut-left.result.now c.args.right ≡ get_or (in_hand c.args.q c.args.right c.args.blocks.now.items) c.args.q (both c.index_mut-left.result.now c.args.right)
    → last_total 0 c.level.new.left.items + last_total 0 c.level.new.right.items ≤ c.at-head.result.total
halves g c within read =
    let whole : last_total 0 (one_list c.index_mut-left.result.now.items c.args.right.items) ≤ c.at-head.result.total =
    head_total_at 0 0 c.args.q c.args.heads.now.items (in_hand c.args.q c.args.right c.args.blocks.now.items) (both c.index_mut-left.result.now c.args.right) c.at-head.result c.requires.held.held within read c.at-head.ensures.item in
    let same : last_total 0 (one_list c.index_mut-left.result.now.items c.args.right.items) ≡ last_total 0 c.level.new.left.items + last_total 0 c.level.new.right.items = ap (last_total 0) (sym c.level.ensures.same) ∙ last_total-one_list c.level.new.left.items c.level.new.right.items in
    omega arith

-- the last row of the right block tells what that counts
end_total : (g : Over) (c : After-at-head g) → c.at-end.result.total ≡ last_total 0 c.level.new.right.items
end_total g c = last_total_at 0 (c.len-3.result - 1) c.level.new.right.items c.at-end.result (omega arith) c.at-end.ensures.item

pub level-requires-clause-rise : goal.level-requires-clause-rise
level-requires-clause-rise g c =
    let at = (goal.at.level-requires-clause-rise g c).After-index_mut-left in
    Rise-at 0 0 c.args.q c.args.heads.now.items (in_hand c.args.q c.args.right c.args.blocks.now.items) (both c.index_mut-left.result.now c.args.right) c.requires.held.held (headed g at) (both_at g at)

pub level-requires-clause-fits : goal.level-requires-clause-fits
level-requires-clause-fits g c =
    let at = (goal.at.level-requires-clause-fits g c).After-index_mut-left in
    let sum : last_total 0 (take c.args.q c.args.heads.now.items) + last_total 0 (one_list c.index_mut-left.result.now.items c.args.right.items) ≤ last_total 0 c.args.heads.now.items =
    total_at 0 0 c.args.q c.args.heads.now.items (in_hand c.args.q c.args.right c.args.blocks.now.items) (both c.index_mut-left.result.now c.args.right) c.requires.held.held (headed g at) (both_at g at) in
    omega (arith, sum, c.requires.fits.small)

pub level-requires-clause-sizes : goal.level-requires-clause-sizes
level-requires-clause-sizes g c =
    let but = but_at _ c.args.q c.args.blocks.now.items c.index_mut-left.result.now c.requires.hand.sized c.index_mut-left.ensures.value in
    record {
      some = but.least;
      left_most = but.most;
      right_most = omega (arith, c.requires.hand.most);
      most = but.few;
      enough = but.enough;
      room_left = but.room;
      room_right = c.requires.hand.room;
    }

pub returns-then-len-eq0-clause-parts : goal.returns-then-len-eq0-clause-parts
returns-then-len-eq0-clause-parts g c =
    let is = all_left g (goal.at.returns-then-len-eq0-clause-parts g c).After-level (omega arith) in
    parts-all_left c.args.q c.args.blocks.now.items c.index_mut-left.result.now c.level.new.left c.args.right c.requires.hand.within c.index_mut-left.ensures.value is

pub at-head-requires : goal.at-head-requires
at-head-requires g c = headed g (goal.at.at-head-requires g c).After-index_mut-left

pub overflow_sub-row : goal.overflow_sub-row
overflow_sub-row g c =
    let at = (goal.at.overflow_sub-row g c).After-index_mut-left in
    let on = (goal.at.overflow_sub-row g c).After-at-head in
    omega (arith, halves g on (headed g at) (both_at g at), end_total g on)

pub put_row-requires-clause-within : goal.put_row-requires-clause-within
put_row-requires-clause-within g c = omega (arith, headed g (goal.at.put_row-requires-clause-within g c).After-index_mut-left)

pub returns-clause-parts : goal.returns-clause-parts
returns-clause-parts g c =
    ap parts (c.put_block.ensures ∙ ap (λ k. insert (set c.args.blocks.now.items c.args.q c.level.new.left) k c.level.new.right) (add-one c.args.q))
    ∙ parts-parted c.args.q c.args.blocks.now.items c.index_mut-left.result.now c.args.right c.level.new.left c.level.new.right c.requires.hand.within c.index_mut-left.ensures.value c.level.ensures.same

pub returns-clause-total : goal.returns-clause-total
returns-clause-total g c =
    let at = headed g (goal.at.returns-clause-total g c).After-index_mut-left in
    ap (last_total 0) c.put_row.ensures.put ∙ last_total-insert 0 c.args.q c.args.heads.now.items _ (omega (arith, at))

pub returns-then-len-eq0-clause-split : goal.returns-then-len-eq0-clause-split
returns-then-len-eq0-clause-split g c =
    let is = all_left g (goal.at.returns-then-len-eq0-clause-split g c).After-level (omega arith) in
    record {
      heads_held = record {
        held = Held-all_left 0 0 c.args.q c.args.heads.now.items c.args.blocks.now.items c.index_mut-left.result.now c.level.new.left c.args.right c.requires.held.held c.requires.hand.within c.index_mut-left.ensures.value is;
        last = AreLast-all_left c.args.q c.args.heads.now.items c.args.blocks.now.items c.index_mut-left.result.now c.level.new.left c.args.right c.requires.held.last c.index_mut-left.ensures.value is;
      };
      sized = AllSized-set _ c.args.q c.args.blocks.now.items c.level.new.left c.requires.hand.sized c.level.ensures.sizes.sized;
      fits = c.requires.fits;
    }

pub returns-clause-split : goal.returns-clause-split
returns-clause-split g c =
    let at = (goal.at.returns-clause-split g c).After-index_mut-left in
    let on = (goal.at.returns-clause-split g c).After-at-head in
    let within : c.args.q < length c.args.heads.now.items = headed g at in
    let row : Row = record { bin = c.at-last.result.bin; total = c.at-head.result.total - c.at-end.result.total } in
    let many : 32 ≤ length c.level.new.left.items = c.level.ensures.sizes.sized.least in
    let last : c.len-2.result - 1 + 1 ≡ length c.level.new.left.items = omega arith in
    let blocks = sym (c.put_block.ensures ∙ ap (λ k. insert (set c.args.blocks.now.items c.args.q c.level.new.left) k c.level.new.right) (add-one c.args.q)) in
    record {
      heads_held = record {
        held =
            let parted : IsParted c.index_mut-left.result.now.items c.args.right.items c.level.new.left.items c.level.new.right.items c.at-head.result row = record {
              same = c.level.ensures.same;
              some_left = omega arith;
              some_right = omega arith;
              bin = λ least. bin_after_at least (c.len-2.result - 1) c.level.new.left.items c.at-last.result last c.at-last.ensures.item;
              total = omega (arith, halves g on within (both_at g at), end_total g on);
            } in
            subst (λ (hs : List Row). Held 0 0 hs c.put_block.new.blocks.items) (sym c.put_row.ensures.put)
            (subst (λ (bs : List Block). Held 0 0 (insert c.args.heads.now.items c.args.q row) bs) blocks
            (Held-parted 0 0 c.args.q c.args.heads.now.items c.args.blocks.now.items c.index_mut-left.result.now c.args.right c.level.new.left c.level.new.right c.at-head.result row c.requires.held.held c.requires.hand.within c.index_mut-left.ensures.value c.at-head.ensures.item parted));
        last =
            subst (λ (hs : List Row). AreLast hs c.put_block.new.blocks.items) (sym c.put_row.ensures.put)
            (subst (λ (bs : List Block). AreLast (insert c.args.heads.now.items c.args.q row) bs) blocks
            (AreLast-parted c.args.q c.args.heads.now.items c.args.blocks.now.items c.index_mut-left.result.now c.args.right c.level.new.left c.level.new.right row c.requires.held.last within (long g at) c.index_mut-left.ensures.value c.level.ensures.same (omega arith) (sym (bin_after_at 0 (c.len-2.result - 1) c.level.new.left.items c.at-last.result last c.at-last.ensures.item))));
      };
      sized =
          let most : length c.level.new.right.items ≤ 63 = c.level.ensures.sizes.right_most in
          let least : 32 ≤ length c.level.new.right.items = at_least c.level.new.right.items c.level.ensures.sizes.either (omega arith) in
          subst AllSized blocks
          (AllSized-parted _ c.args.q c.args.blocks.now.items c.level.new.left c.level.new.right c.requires.hand.sized c.level.ensures.sizes.sized (record { least = least; most = most; room = c.level.ensures.sizes.right_room }));
      fits =
          let total : last_total 0 c.put_row.new.self.items ≡ last_total 0 c.args.heads.now.items = ap (last_total 0) c.put_row.ensures.put ∙ last_total-insert 0 c.args.q c.args.heads.now.items _ (omega (arith, within)) in
          subst (IsTotal _) (sym total) c.requires.fits;
    }
