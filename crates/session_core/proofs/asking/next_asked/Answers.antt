use Rattle.std.proofs.Common.{arith, ap, Ok, ◌∙◌}
use Rattle.outer_io.specs.Lines.{Bytes}
use Rattle.query_syntax.specs.Meaning.{meaning}
use Rattle.session_core.proofs.asking.next_asked.Goals as goal

pub returns-in-Ok-Line-clause-asked : goal.returns-in-Ok-Line-clause-asked
returns-in-Ok-Line-clause-asked g c =
    let given = c.in-Ok-Line.ensures.line _ _ (ap (λ x. Ok x) c.in-Ok-Line.field-0-is) in (
      Bytes _,
      record {
        passed = given.passed;
        further = (given.given ∙ given.counts, omega (arith, given.small, given.given));
        going = given.goes_on;
      },
      c.parse_into.ensures.meaning ∙ ap (meaning c.args.schema.now) c.as_slice.ensures,
    )
