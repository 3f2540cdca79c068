use Rattle.std.proofs.Common.{ap, Ok}
use Rattle.outer_io.specs.Lines.{Bytes}
use Rattle.feed_reader.proofs.CutterLines.{passes_one}
use Rattle.feed_reader.proofs.feed.next_row.Goals as goal

pub returns-in-Ok-clause-row : goal.returns-in-Ok-clause-row
returns-in-Ok-clause-row g c =
    let given = c.in_ok-line.ensures.line _ _ (ap (λ x. Ok x) c.in-Line.is) in
    (Bytes c.in-Line.line, given, rw c.as_slice.ensures at c.in-Ok.ensures.meaning)

pub returns-in-Line-clause-no_memory : goal.returns-in-Line-clause-no_memory
returns-in-Line-clause-no_memory g c e =
    let given = c.in_ok-line.ensures.line _ _ (ap (λ x. Ok x) c.in-Line.is) in
    passes_one _ _ c.args.schema.now _ _ _ _ given
