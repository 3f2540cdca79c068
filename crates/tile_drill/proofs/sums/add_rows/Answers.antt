use Rattle.std.proofs.Common.{◌+◌, ◌-◌, ◌<◌, ◌^◌, get_or, length, refl, arith}
use Rattle.std.specs.Coded.{le_prop}
use Rattle.std.proofs.Math.Logic.{∥∥₁_elim}
use Rattle.tile_drill.specs.Series.{row_under}
use Rattle.tile_drill.proofs.SumGains.{under_all, under_more, under_none}
use Rattle.tile_drill.proofs.Rows.{row_apart}
use Rattle.tile_drill.proofs.sums.add_rows.Goals as goal

pub loop-i-init : goal.loop-i-init
loop-i-init g c = record { sums = λ h counts. under_none h (row_under (g.V.CubeView.schema c.args.view.now) c.args.series.now (g.V.CubeView.address c.args.view.now c.args.cursor)) c.args.sums.now }

pub overflow_sub-sums : goal.overflow_sub-sums
overflow_sub-sums g c = ∥∥₁_elim (g.met.V.CubeView.bag c.args.view.now).counted le_prop (λ p.
    let z = g.V.CubeView.schema c.args.view.now in
    let a = g.V.CubeView.address c.args.view.now c.args.cursor in
    let ended = c.requires.room.ended in
    let summed = c.requires.room.summed in
    let e = row_apart z a c.args.series.now p.0 c.before_each.new.totals (length c.args.ends.now) c.loop-i.i (c.before_each.ensures.totals p.0 p.1) (omega (arith, ended, summed, c.loop-i-test.true)) in
    omega (arith, e))

pub overflow_add-sums-in-loop-i : goal.overflow_add-sums-in-loop-i
overflow_add-sums-in-loop-i g c =
    let ends = c.before_each.new.totals in
    let i = c.loop-i.i in
    let small : get_or c.loop-i.sums i 0 + (get_or ends (i + 1) 0 - get_or ends i 0) < 2 ^ 64 = ∥∥₁_elim (g.met.V.CubeView.bag c.args.view.now).counted le_prop (λ p.
    let z = g.V.CubeView.schema c.args.view.now in
    let a = g.V.CubeView.address c.args.view.now c.args.cursor in
    let ended = c.requires.room.ended in
    let summed = c.requires.room.summed in
    let e = row_apart z a c.args.series.now p.0 ends (length c.args.ends.now) i (c.before_each.ensures.totals p.0 p.1) (omega (arith, ended, summed, c.loop-i-test.true)) in
    let so_far = c.loop-i.invariant.sums p.0 p.1 in
    let kept = so_far.same i (omega arith) in
    let fits = c.requires.fits p.0 p.1 i c.loop-i-test.true in
    omega (arith, e, kept, fits)) in
    omega (arith, small)

pub loop-i-preserved : goal.loop-i-preserved
loop-i-preserved g c =
    let z = g.V.CubeView.schema c.args.view.now in
    let a = g.V.CubeView.address c.args.view.now c.args.cursor in
    let ended = c.requires.room.ended in
    let summed = c.requires.room.summed in
    let i = c.loop-i.i in
    record {
      sums = λ h counts.
          let e = row_apart z a c.args.series.now h c.before_each.new.totals (length c.args.ends.now) i (c.before_each.ensures.totals h counts) (omega (arith, ended, summed, c.loop-i-test.true)) in
          under_more h (row_under z c.args.series.now a) c.args.sums.now c.loop-i.sums _ i _ (omega (arith, c.loop-i.auto.sums, c.loop-i-test.true)) refl (omega (arith, e)) (c.loop-i.invariant.sums h counts);
    }

pub returns-clause-sums : goal.returns-clause-sums
returns-clause-sums g c h counts =
    under_all h (row_under (g.V.CubeView.schema c.args.view.now) c.args.series.now (g.V.CubeView.address c.args.view.now c.args.cursor)) c.args.sums.now c.loop-i.sums c.loop-i.i c.loop-i-test.false (c.loop-i.invariant.sums h counts)
