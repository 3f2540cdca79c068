use Rattle.std.proofs.Common.{◌∙◌}
use Rattle.shape_test.specs.declared.home_list.Span.{Span}
use Rattle.shape_test.proofs.Spans.{home_put, spans_more}
use Rattle.shape_test.proofs.home_list.put_home.Goals as goal

pub returns-in_err-add_span-clause-spans : goal.returns-in_err-add_span-clause-spans
returns-in_err-add_span-clause-spans c = rw (c.in_ok-extend_from_slice.ensures.items, c.in_err-add_span.ensures.unchanged) (spans_more c.args.moves.now.items c.args.home.now c.args.spans.now.items c.requires.spans)

pub returns : goal.returns
returns c =
    let moves = c.args.moves.now in
    let s : Span = record { start = c.len-start.result; end = c.len.result } in
    let more = home_put moves.items c.args.home.now c.extend_from_slice.new.self.items c.args.spans.now.items c.add_span.new.spans.items s c.requires.spans c.in_ok-extend_from_slice.ensures.items c.in_ok-add_span.ensures.added (c.len-start.ensures ∙ moves.ok.0) (c.len.ensures ∙ c.extend_from_slice.new.self.ok.0) in
    record { spans = more.fit; put = more.put }
