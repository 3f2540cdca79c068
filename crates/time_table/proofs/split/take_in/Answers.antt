use Rattle.std.proofs.Common.{suc, ◌≡◌, ◌+◌, ◌<◌, ◌≤◌, List, length, get_or, arith, sym, ap, subst, ◌∙◌, add-one}
use Rattle.std.specs.List.{remove}
use Rattle.time_table.specs.declared.row.Row.{Row}
use Rattle.time_table.specs.Totals.{last_total}
use Rattle.time_table.specs.Blocks.{Block, Held, AreLast, SizedBut, in_hand, parts}
use Rattle.time_table.proofs.BlockRows.{held_len, last_total-remove}
use Rattle.time_table.proofs.LastBins.{AreLast-removed}
use Rattle.time_table.proofs.BlockSizes.{tighten, Held-removed, parts-removed, sized-removed, loose_at}
use Rattle.time_table.proofs.split.take_in.Goals as goal

pub returns-then-len-gt31-clause-sized : goal.returns-then-len-gt31-clause-sized
returns-then-len-gt31-clause-sized g c =
    let is = loose_at c.take_at-place.result c.take_at-place.result c.take_at-place.new.blocks.items c.index-block.result.now c.take_at-place.ensures.sized c.take_at-place.ensures.within c.index-block.ensures in
    tighten 63 c.take_at-place.result c.take_at-place.new.blocks.items c.index-block.result.now c.take_at-place.ensures.sized c.index-block.ensures (omega arith) (omega (arith, is.few))

pub remove-requires : goal.remove-requires
remove-requires g c =
    let same : length c.take_at-place.new.heads.items ≡ length c.take_at-place.new.blocks.items = held_len 0 0 c.take_at-place.new.heads.items c.take_at-place.new.blocks.items c.take_at-place.ensures.held.held in
    omega (arith, c.neighbour-q.ensures.within)

pub settle-requires-clause-held : goal.settle-requires-clause-held
settle-requires-clause-held g c =
    let same : length c.take_at-place.new.heads.items ≡ length c.take_at-place.new.blocks.items = held_len 0 0 c.take_at-place.new.heads.items c.take_at-place.new.blocks.items c.take_at-place.ensures.held.held in
    let within : c.neighbour-q.result + 1 < c.len-count.result = c.neighbour-q.ensures.within in
    let read : c.remove-right.result ≡ get_or c.take_at-place.new.blocks.items (suc c.neighbour-q.result) c.remove-right.result = c.remove-right.ensures.value ∙ ap (λ k. get_or c.take_at-place.new.blocks.items k c.remove-right.result) (add-one c.neighbour-q.result) in
    let items : c.remove-right.new.self.items ≡ remove c.take_at-place.new.blocks.items (suc c.neighbour-q.result) = c.remove-right.ensures.items ∙ ap (remove c.take_at-place.new.blocks.items) (add-one c.neighbour-q.result) in
    record {
      held = subst (λ (bs : List Block). Held 0 0 c.remove.new.self.items (in_hand c.neighbour-q.result c.remove-right.result bs)) (sym items)
          (subst (λ (hs : List Row). Held 0 0 hs (in_hand c.neighbour-q.result c.remove-right.result (remove c.take_at-place.new.blocks.items (suc c.neighbour-q.result)))) (sym c.remove.ensures.removed)
          (Held-removed 0 0 c.neighbour-q.result c.take_at-place.new.heads.items c.take_at-place.new.blocks.items c.remove-right.result c.take_at-place.ensures.held.held (omega arith) read));
      last =
          let is = loose_at c.take_at-place.result (c.neighbour-q.result + 1) c.take_at-place.new.blocks.items c.remove-right.result c.take_at-place.ensures.sized (omega arith) c.remove-right.ensures.value in
          subst (λ (bs : List Block). AreLast c.remove.new.self.items (in_hand c.neighbour-q.result c.remove-right.result bs)) (sym items)
          (subst (λ (hs : List Row). AreLast hs (in_hand c.neighbour-q.result c.remove-right.result (remove c.take_at-place.new.blocks.items (suc c.neighbour-q.result)))) (sym c.remove.ensures.removed)
          (AreLast-removed c.neighbour-q.result c.take_at-place.new.heads.items c.take_at-place.new.blocks.items c.remove-right.result c.take_at-place.ensures.held.last (omega arith) same read (omega (arith, is.least))));
    }

pub settle-requires-clause-fits : goal.settle-requires-clause-fits
settle-requires-clause-fits g c =
    let same : length c.take_at-place.new.heads.items ≡ length c.take_at-place.new.blocks.items = held_len 0 0 c.take_at-place.new.heads.items c.take_at-place.new.blocks.items c.take_at-place.ensures.held.held in
    let within : c.neighbour-q.result + 1 < c.len-count.result = c.neighbour-q.ensures.within in
    let kept : last_total 0 c.remove.new.self.items ≡ last_total 0 c.take_at-place.new.heads.items = ap (last_total 0) c.remove.ensures.removed ∙ last_total-remove 0 c.neighbour-q.result c.take_at-place.new.heads.items (omega arith) in
    let less : last_total 0 c.take_at-place.new.heads.items ≤ last_total 0 c.args.heads.now.items = c.take_at-place.ensures.total in
    record { half = omega (arith, kept, less, c.requires.split.fits.half); small = omega (arith, kept, less, c.requires.split.fits.small) }

pub returns-clause-parts : goal.returns-clause-parts
returns-clause-parts g c =
    let within : c.neighbour-q.result + 1 < c.len-count.result = c.neighbour-q.ensures.within in
    let read : c.remove-right.result ≡ get_or c.take_at-place.new.blocks.items (suc c.neighbour-q.result) c.remove-right.result = c.remove-right.ensures.value ∙ ap (λ k. get_or c.take_at-place.new.blocks.items k c.remove-right.result) (add-one c.neighbour-q.result) in
    let items : c.remove-right.new.self.items ≡ remove c.take_at-place.new.blocks.items (suc c.neighbour-q.result) = c.remove-right.ensures.items ∙ ap (remove c.take_at-place.new.blocks.items) (add-one c.neighbour-q.result) in
    c.settle.ensures.parts
    ∙ ap (λ (bs : List Block). parts (in_hand c.neighbour-q.result c.remove-right.result bs)) items
    ∙ parts-removed c.neighbour-q.result c.take_at-place.new.blocks.items c.remove-right.result (omega arith) read
    ∙ c.take_at-place.ensures.parts

pub returns-clause-total : goal.returns-clause-total
returns-clause-total g c =
    let same : length c.take_at-place.new.heads.items ≡ length c.take_at-place.new.blocks.items = held_len 0 0 c.take_at-place.new.heads.items c.take_at-place.new.blocks.items c.take_at-place.ensures.held.held in
    let within : c.neighbour-q.result + 1 < c.len-count.result = c.neighbour-q.ensures.within in
    let kept : last_total 0 c.remove.new.self.items ≡ last_total 0 c.take_at-place.new.heads.items = ap (last_total 0) c.remove.ensures.removed ∙ last_total-remove 0 c.neighbour-q.result c.take_at-place.new.heads.items (omega arith) in
    let less : last_total 0 c.take_at-place.new.heads.items ≤ last_total 0 c.args.heads.now.items = c.take_at-place.ensures.total in
    omega (arith, c.settle.ensures.total)

pub settle-requires-clause-hand : goal.settle-requires-clause-hand
settle-requires-clause-hand g c = record {
  within =
      let within : c.neighbour-q.result + 1 < c.len-count.result = c.neighbour-q.ensures.within in
      omega (arith, c.remove-right.ensures.len);
  sized =
      let within : c.neighbour-q.result + 1 < c.len-count.result = c.neighbour-q.ensures.within in
      let read : c.remove-right.result ≡ get_or c.take_at-place.new.blocks.items (suc c.neighbour-q.result) c.remove-right.result = c.remove-right.ensures.value ∙ ap (λ k. get_or c.take_at-place.new.blocks.items k c.remove-right.result) (add-one c.neighbour-q.result) in
      let items : c.remove-right.new.self.items ≡ remove c.take_at-place.new.blocks.items (suc c.neighbour-q.result) = c.remove-right.ensures.items ∙ ap (remove c.take_at-place.new.blocks.items) (add-one c.neighbour-q.result) in
      subst (λ (bs : List Block). SizedBut (length c.remove-right.result.items) c.neighbour-q.result bs) (sym items)
      (sized-removed c.take_at-place.result c.neighbour-q.result c.take_at-place.new.blocks.items c.remove-right.result c.take_at-place.ensures.sized c.neighbour-q.ensures.pair (omega arith) read);
  most =
      let within : c.neighbour-q.result + 1 < c.len-count.result = c.neighbour-q.ensures.within in
      let is = loose_at c.take_at-place.result (c.neighbour-q.result + 1) c.take_at-place.new.blocks.items c.remove-right.result c.take_at-place.ensures.sized (omega arith) c.remove-right.ensures.value in
      omega (arith, is.few);
  room =
      let within : c.neighbour-q.result + 1 < c.len-count.result = c.neighbour-q.ensures.within in
      (loose_at c.take_at-place.result (c.neighbour-q.result + 1) c.take_at-place.new.blocks.items c.remove-right.result c.take_at-place.ensures.sized (omega arith) c.remove-right.ensures.value).room;
}
