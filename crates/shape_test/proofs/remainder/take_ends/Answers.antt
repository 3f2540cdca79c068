use Rattle.std.proofs.Common.{◌∙◌}
use Rattle.shape_test.specs.declared.parts.Part.{Part}
use Rattle.shape_test.proofs.RowRemainders.{next_fits, next_left}
use Rattle.shape_test.proofs.remainder.take_ends.Goals as goal

pub returns-then-not-take_off-clause-all : goal.returns-then-not-take_off-clause-all
returns-then-not-take_off-clause-all g c = λ fit.
    let d : Part = record { label = 0; content = record { 0 = 0 } } in
    let yes = c.take_off.ensures.all (next_fits c.args.arena.now c.args.parts.now c.loop-part.part-index d c.args.left.now c.loop-part.left c.as_slice.result.now c.loop-part-test.true c.loop-part.invariant.left (c.as_slice.ensures.value ∙ c.in_ok-read_rows.ensures.rows) fit) in
    let no = c.if-not-take_off.true in
    absurd cc

pub loop-part-preserved : goal.loop-part-preserved
loop-part-preserved g c =
    let d : Part = record { label = 0; content = record { 0 = 0 } } in record {
      rises = c.take_off.ensures.rises;
      left = next_left c.args.arena.now c.args.parts.now c.loop-part.part-index d c.args.left.now c.loop-part.left c.as_slice.result.now c.take_off.new.left c.loop-part-test.true c.loop-part.invariant.left (c.as_slice.ensures.value ∙ c.in_ok-read_rows.ensures.rows) (c.take_off.ensures.left c.if-not-take_off.false);
    }
