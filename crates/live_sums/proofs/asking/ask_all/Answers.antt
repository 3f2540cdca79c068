use Rattle.std.proofs.Common.{◌∙◌}
use Rattle.std.proofs.lemmas.List.{length-set}
use Rattle.run_files.specs.Outside.{Puts, of_sink}
use Rattle.live_sums.proofs.Along.{rest_more, zip_more}
use Rattle.live_sums.proofs.asking.ask_all.Goals as goal

pub loop-i-preserved : goal.loop-i-preserved
loop-i-preserved g c =
    let i = c.loop-i.i in
    let xs = c.args.asks.now in
    let ys = c.loop-i.asks in
    let x = c.index-asks-i.result in
    let new = c.put.new.self in
    record {
      asked = zip_more (λ ask now. Puts (of_sink g.O.Sink) ask now c.args.line.now) i xs ys x new c.loop-i-test.true c.loop-i.invariant.whole c.loop-i.invariant.rest c.index-asks-i.is c.loop-i.invariant.asked
          (record { held = c.in-Ok.ensures.put; faults = c.in-Ok.ensures.cause.quiet (λ e. cc); name = c.in-Ok.ensures.name });
      rest = rest_more i xs ys new c.loop-i.invariant.rest;
      whole = length-set ys i new ∙ c.loop-i.invariant.whole;
    }
