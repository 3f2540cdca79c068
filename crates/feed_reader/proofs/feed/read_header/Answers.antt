use Rattle.std.proofs.Common.{ap, Ok}
use Rattle.outer_io.specs.Lines.{Bytes}
use Rattle.feed_reader.proofs.FeedLaws.{leaves_accepted}
use Rattle.feed_reader.proofs.CutterLines.{header_is, passes_one, refused_line}
use Rattle.feed_reader.proofs.feed.read_header.Goals as goal

pub returns-in-Ok-Line-clause-header : goal.returns-in-Ok-Line-clause-header
returns-in-Ok-Line-clause-header g c =
    let given = c.in-Ok-Line.ensures.line _ _ (ap (λ x. Ok x) c.in-Ok-Line.field-0-is) in
    header_is c.args.schema.now _ _ _ _ (λ places head. (Bytes c.in-Ok-Line.line, c.in-Ok-Line.field-0-1, given, head)) c.as_slice.ensures c.header_of.ensures.places

pub returns-in-Ok-Line-clause-accepted : goal.returns-in-Ok-Line-clause-accepted
returns-in-Ok-Line-clause-accepted g c =
    let given = c.in-Ok-Line.ensures.line _ _ (ap (λ x. Ok x) c.in-Ok-Line.field-0-is) in
    header_is c.args.schema.now _ _ _ _ (λ places head start. leaves_accepted _ _ c.args.schema.now _ _ _ places given.passed head start) c.as_slice.ensures c.header_of.ensures.places

pub returns-in-Ok-Line-clause-refused : goal.returns-in-Ok-Line-clause-refused
returns-in-Ok-Line-clause-refused g c fault e =
    let given = c.in-Ok-Line.ensures.line _ _ (ap (λ x. Ok x) c.in-Ok-Line.field-0-is) in
    refused_line _ _ c.args.schema.now _ _ _ _ fault given (rw c.as_slice.ensures at c.header_of.ensures.refused fault e).1

pub returns-in-Ok-Line-clause-no_memory : goal.returns-in-Ok-Line-clause-no_memory
returns-in-Ok-Line-clause-no_memory g c e =
    let given = c.in-Ok-Line.ensures.line _ _ (ap (λ x. Ok x) c.in-Ok-Line.field-0-is) in
    passes_one _ _ c.args.schema.now _ _ _ _ given
