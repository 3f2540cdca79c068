use Rattle.std.proofs.Common.{◌∙◌, arith}
use Rattle.std.proofs.lemmas.List.{length-set}
use Rattle.time_table.proofs.SeriesTotals.{room_more, told_more, stays}
use Rattle.time_table.proofs.series.tell.Goals as goal

pub loop-ends-init : goal.loop-ends-init
loop-ends-init c = record { on = stays c.args.ends.now c.args.totals.now c.requires.room; tells = λ f from T known. T }

pub loop-ends-preserved : goal.loop-ends-preserved
loop-ends-preserved c =
    let on = c.loop-ends.invariant.on in
    record {
      on = record {
        room = room_more c.loop-ends.ends c.loop-ends.totals c.args.total on.room (omega arith);
        wide = on.wide;
        done = omega (arith, on.done);
        end = omega (arith, on.end);
        count = length-set c.loop-ends.totals c.loop-ends.ends.done c.args.total ∙ on.count;
      };
      tells = λ f from T known. told_more f from c.args.total c.loop-ends.ends c.loop-ends.totals (c.loop-ends.invariant.tells f from T known) (omega arith) (known (omega (arith, on.done, on.count)) c.loop-ends.ends.end on.end (omega arith));
    }
