use Rattle.std.proofs.Common.{◌∙◌, sym}
use Rattle.std.proofs.lemmas.Result.{err_from_is_err_and}
use Rattle.image_parse.proofs.ImageReads.{all_ends, all_other, all_longer, all_some, all_none}
use Rattle.image_parse.proofs.image.take_all.Goals as goal

pub returns-in_err-kept : goal.returns-in_err-kept
returns-in_err-kept c =
    let p = err_from_is_err_and c.from_residual.result c.from_residual.ensures.1 in
    rw (p.1, p.2) (all_ends c.in_err-kept.field-0.0 c.args.slots c.args.size c.args.bytes.now c.in_err-kept.ensures)

pub returns-then-next-slots : goal.returns-then-next-slots
returns-then-next-slots c = all_other c.args.slots c.args.size _ c.args.bytes.now c.in_ok-kept.rest.now c.in_ok-kept.kept c.in_ok-kept.ensures c.if-next-slots.true

pub returns-then-not-is_empty : goal.returns-then-not-is_empty
returns-then-not-is_empty c = all_longer c.args.slots c.args.size _ c.args.bytes.now c.in_ok-kept.rest.now c.in_ok-kept.kept c.in_ok-kept.ensures c.if-next-slots.false (sym c.is_empty.ensures ∙ c.if-not-is_empty.true)

pub returns-in-Some : goal.returns-in-Some
returns-in-Some c = all_some c.args.slots c.args.size _ c.args.bytes.now c.in_ok-kept.rest.now c.in_ok-kept.kept c.in-Some.arena c.in_ok-kept.ensures c.if-next-slots.false (sym c.is_empty.ensures ∙ c.if-not-is_empty.false) c.in-Some.is

pub returns-in-None : goal.returns-in-None
returns-in-None c = all_none c.args.slots c.args.size _ c.args.bytes.now c.in_ok-kept.rest.now c.in_ok-kept.kept c.in_ok-kept.ensures c.if-next-slots.false (sym c.is_empty.ensures ∙ c.if-not-is_empty.false) c.in-None.is
