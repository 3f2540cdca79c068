use Rattle.std.proofs.Common.{List, sym, ap, subst, ◌∙◌, arith}
use Rattle.time_table.specs.declared.row.Row.{Row}
use Rattle.time_table.specs.declared.form.Split.{Split}
use Rattle.time_table.specs.Totals.{last_total}
use Rattle.time_table.specs.Blocks.{IsSplit, parts}
use Rattle.time_table.proofs.BlockCopies.{parts-lists, Held-lists}
use Rattle.time_table.proofs.LastBins.{AreLast-lists}
use Rattle.time_table.proofs.form.copy_split.Goals as goal

pub returns-clause-split : goal.returns-clause-split
returns-clause-split g c =
    let hs = c.args.split.now.heads.items in
    let bs = c.args.split.now.blocks.items in
    let same = c.in_ok-blocks.ensures.0 in
    let split = c.requires.split in
    let copied : IsSplit g.T.StoredRow.limit hs c.in_ok-blocks.blocks.items = record {
      heads_held = record {
        held = Held-lists 0 0 hs bs c.in_ok-blocks.blocks.items same split.held;
        last = AreLast-lists hs bs c.in_ok-blocks.blocks.items same split.last;
      };
      sized = c.in_ok-blocks.ensures.1;
      fits = record { half = split.fits.half; small = omega (arith, split.fits.small, c.requires.kinds) };
    } in
    let done : IsSplit g.T.StoredRow.limit c.in_ok-heads.heads.items c.in_ok-blocks.blocks.items = subst (λ (zs : List Row). IsSplit g.T.StoredRow.limit zs c.in_ok-blocks.blocks.items) (sym c.in_ok-heads.ensures) copied in
    subst (λ (s : Split g.row.T.Denot). IsSplit g.T.StoredRow.limit s.heads.items s.blocks.items) (sym c.in_ok-copy.ensures) done

pub returns-clause-parts : goal.returns-clause-parts
returns-clause-parts g c =
    ap (λ (s : Split g.row.T.Denot). parts s.blocks.items) c.in_ok-copy.ensures
    ∙ parts-lists c.args.split.now.blocks.items c.in_ok-blocks.blocks.items c.in_ok-blocks.ensures.0

pub returns-clause-total : goal.returns-clause-total
returns-clause-total g c = ap (λ (s : Split g.row.T.Denot). last_total 0 s.heads.items) c.in_ok-copy.ensures ∙ ap (last_total 0) c.in_ok-heads.ensures
