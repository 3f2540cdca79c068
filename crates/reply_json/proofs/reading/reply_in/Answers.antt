use Rattle.std.proofs.Common.{◌∙◌, sym}
use Rattle.std.proofs.lemmas.Bool.{false≢true}
use Rattle.reply_json.proofs.RepliesRead.{taken, none_taken, none_is_none}
use Rattle.reply_json.proofs.reading.reply_in.Goals as goal

pub returns-in-Err-2-clause-nothing : goal.returns-in-Err-2-clause-nothing
returns-in-Err-2-clause-nothing c = λ _. none_is_none c.args.bytes.now (none_taken c.args.bytes.now (c.in-Err.ensures.err (λ m. false≢true (c.if-is_memory.ensures.1 m))))

pub returns-in-Ok-Some-clause-found : goal.returns-in-Ok-Some-clause-found
returns-in-Ok-Some-clause-found c = taken c.args.bytes.now _ c.in-Ok.ensures.ok.0 c.in-Ok.ensures.ok.1 ∙ sym c.in-Ok-Some.ensures ∙ c.in-Ok-Some.field-0-is

pub returns-in-Ok-None-clause-nothing : goal.returns-in-Ok-None-clause-nothing
returns-in-Ok-None-clause-nothing c =
    λ _. none_is_none c.args.bytes.now (taken c.args.bytes.now _ c.in-Ok.ensures.ok.0 c.in-Ok.ensures.ok.1 ∙ sym c.in-Ok-None.ensures ∙ c.in-Ok-None.field-0-is)
