use Rattle.std.proofs.Common.{◌≡◌, ◌-◌, List, arith, sym, ap, subst, ◌∙◌}
use Rattle.std.specs.List.{insert}
use Rattle.std.proofs.lemmas.List.{append-nil}
use Rattle.time_table.specs.declared.row.Row.{Row}
use Rattle.time_table.specs.declared.form.Split.{Split}
use Rattle.time_table.specs.Totals.{IsTotal, counts_from, last_total}
use Rattle.time_table.specs.Blocks.{Block, IsSplit, parts}
use Rattle.time_table.proofs.TwoRowLists.{last_total_at}
use Rattle.time_table.proofs.TableForms.{one_block}
use Rattle.time_table.proofs.form.split_from.Goals as goal

pub returns-clause-split : goal.returns-clause-split
returns-clause-split g c =
    let last : c.at-last.result.total ≡ last_total 0 c.args.rows.now.items = last_total_at 0 (c.len.result - 1) c.args.rows.now.items c.at-last.result (omega arith) c.at-last.ensures.item in
    let fits : IsTotal g.T.StoredRow.limit (last_total 0 c.args.rows.now.items) = record { half = c.requires.fits; small = omega (arith, last, c.at-last.ensures.small) } in
    let head : Row = record { bin = 4294967295; total = c.at-last.result.total } in
    subst (λ (s : Split g.row.T.Denot). IsSplit g.T.StoredRow.limit s.heads.items s.blocks.items) (sym c.in_ok-split.ensures)
    (one_block _ c.args.rows.now.items _ c.put_block.new.blocks.items c.in_ok-block.block head c.requires.single (omega arith) fits
    (ap (λ (h : Block). h.items) c.of-heads.ensures ∙ c.put_row.ensures.put ∙ ap (λ (zs : List Row). insert zs 0 head) (c.reserve.ensures.unchanged ∙ c.new-heads.ensures))
    (c.put_block.ensures ∙ ap (λ (zs : List Block). insert zs 0 c.in_ok-block.block) (c.reserve_block.ensures.unchanged ∙ c.new-blocks.ensures.items))
    c.in_ok-block.ensures.same c.in_ok-block.ensures.room (omega arith) last)

pub returns-clause-parts : goal.returns-clause-parts
returns-clause-parts g c =
    ap (λ (s : Split g.row.T.Denot). parts s.blocks.items) c.in_ok-split.ensures
    ∙ ap parts (c.put_block.ensures ∙ ap (λ (zs : List Block). insert zs 0 c.in_ok-block.block) (c.reserve_block.ensures.unchanged ∙ c.new-blocks.ensures.items))
    ∙ append-nil (counts_from 0 c.in_ok-block.block.items)
    ∙ ap (counts_from 0) c.in_ok-block.ensures.same

pub returns-clause-total : goal.returns-clause-total
returns-clause-total g c =
    let head : Row = record { bin = 4294967295; total = c.at-last.result.total } in
    ap (λ (s : Split g.row.T.Denot). last_total 0 s.heads.items) c.in_ok-split.ensures
    ∙ ap (last_total 0) (ap (λ (h : Block). h.items) c.of-heads.ensures ∙ c.put_row.ensures.put ∙ ap (λ (zs : List Row). insert zs 0 head) (c.reserve.ensures.unchanged ∙ c.new-heads.ensures))
    ∙ last_total_at 0 (c.len.result - 1) c.args.rows.now.items c.at-last.result (omega arith) c.at-last.ensures.item
