use Rattle.std.proofs.Common.{◌≡◌, [], ◌∷◌, ◌++◌, get_or, ◌∙◌}
use Rattle.shape_test.specs.Spans.{spanned}
use Rattle.shape_test.specs.declared.home_list.Span.{Span}
use Rattle.shape_test.proofs.Spans.{home_put, spans_more, step_put}
use Rattle.shape_test.proofs.home_list.put_step.Goals as goal

pub returns-in_err-extend_from_within-clause-spans : goal.returns-in_err-extend_from_within-clause-spans
returns-in_err-extend_from_within-clause-spans c = rw (c.in_err-extend_from_within.ensures.items, c.in_ok-push.ensures.items) (spans_more c.args.moves.now.items (c.args.step ∷ []) c.args.spans.now.items c.requires.spans)

pub returns-in_err-add_span-clause-spans : goal.returns-in_err-add_span-clause-spans
returns-in_err-add_span-clause-spans c =
    let home = c.args.step ∷ get_or (spanned c.args.moves.now.items c.args.spans.now.items) c.args.above [] in
    let steps : c.extend_from_within.new.self.items ≡ c.args.moves.now.items ++ home = rw (c.in_ok-extend_from_within.ensures.items, c.in_ok-push.ensures.items) (step_put c.args.moves.now.items c.args.spans.now.items c.args.above c.index-behind.result.now c.requires.spans c.requires.earlier c.index-behind.ensures c.args.step) in
    rw (steps, c.in_err-add_span.ensures.unchanged) (spans_more c.args.moves.now.items home c.args.spans.now.items c.requires.spans)

pub returns : goal.returns
returns c =
    let moves = c.args.moves.now in
    let after = c.extend_from_within.new.self in
    let home = c.args.step ∷ get_or (spanned moves.items c.args.spans.now.items) c.args.above [] in
    let steps : after.items ≡ moves.items ++ home = rw (c.in_ok-extend_from_within.ensures.items, c.in_ok-push.ensures.items) (step_put moves.items c.args.spans.now.items c.args.above c.index-behind.result.now c.requires.spans c.requires.earlier c.index-behind.ensures c.args.step) in
    let s : Span = record { start = c.len-start.result; end = c.len.result } in
    let more = home_put moves.items home after.items c.args.spans.now.items c.add_span.new.spans.items s c.requires.spans steps c.in_ok-add_span.ensures.added (c.len-start.ensures ∙ moves.ok.0) (c.len.ensures ∙ after.ok.0) in
    record { spans = more.fit; put = more.put }
