use Rattle.std.proofs.Common.{◌≡◌, ap, ◌-◌, ◌++◌, ℕ, get_or, sym, subst, ◌∙◌, arith}
use Rattle.std.proofs.lemmas.List.{get_or_default, take-append-drop}
use Rattle.probe_core.specs.Roomy.{Roomy}
use Rattle.time_table.specs.declared.row.Row.{Row}
use Rattle.std.proofs.lemmas.List.Sums.{sum_by-append}
use Rattle.time_table.specs.Rows.{row_total}
use Rattle.time_table.specs.Blocks.{IsSplit, blocks_under}
use Rattle.time_table.proofs.FirstBlocks.{begun_more, begun_whole}
use Rattle.time_table.proofs.blocks_of.split_of.Goals as goal

pub put_part-requires-clause-light : goal.put_part-requires-clause-light
put_part-requires-clause-light g c =
    let front = c.split_at.result.0.now in
    let back = c.split_at.result.1.now in
    let around : c.loop-rest.rest.now ≡ front ++ back = sym (take-append-drop c.min-size.result c.loop-rest.rest.now) ∙ (λ i. sym c.split_at.ensures.front i ++ sym c.split_at.ensures.back i) in
    let weigh = ap row_total around ∙ sum_by-append (λ (e : ℕ × ℕ). e.1) front back in
    record { half = omega (arith, c.loop-rest.invariant.light.half, weigh); small = omega (arith, c.loop-rest.invariant.light.small, weigh) }

pub loop-rest-preserved : goal.loop-rest-preserved
loop-rest-preserved g c =
    let front = c.split_at.result.0.now in
    let k : ℕ = c.min-size.result - 1 in
    let e : ℕ × ℕ = get_or front k (0, 0) in
    begun_more _ c.args.rows.now c.loop-rest.rest.now front c.split_at.result.1.now c.loop-rest.total c.in_ok-total.total k e (blocks_under c.loop-rest.heads c.loop-rest.blocks) (blocks_under c.put_part.new.heads c.put_part.new.blocks) c.loop-rest.invariant
    (sym (take-append-drop c.min-size.result c.loop-rest.rest.now) ∙ (λ i. sym c.split_at.ensures.front i ++ sym c.split_at.ensures.back i)) (omega arith) (get_or_default front k (0, 0) e (omega arith)) (omega (arith, c.split_at.ensures.back_len, c.min-size.ensures)) c.in_ok-total.ensures.total c.in_ok-total.ensures.part

pub returns-clause-split : goal.returns-clause-split
returns-clause-split g c =
    subst (λ (heads : Roomy Row). IsSplit g.T.StoredRow.limit heads.items c.put_part-2.new.blocks.items) (sym c.of-heads.ensures)
    (begun_whole _ c.args.rows.now c.loop-rest.rest.now c.loop-rest.total c.in_ok-put_part.field-0 (blocks_under c.loop-rest.heads c.loop-rest.blocks) (blocks_under c.put_part-2.new.heads c.put_part-2.new.blocks) c.loop-rest.invariant c.in_ok-put_part.ensures.total c.in_ok-put_part.ensures.part).0

pub returns-clause-parts : goal.returns-clause-parts
returns-clause-parts g c = (begun_whole _ c.args.rows.now c.loop-rest.rest.now c.loop-rest.total c.in_ok-put_part.field-0 (blocks_under c.loop-rest.heads c.loop-rest.blocks) (blocks_under c.put_part-2.new.heads c.put_part-2.new.blocks) c.loop-rest.invariant c.in_ok-put_part.ensures.total c.in_ok-put_part.ensures.part).1
