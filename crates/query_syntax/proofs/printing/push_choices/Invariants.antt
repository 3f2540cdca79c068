use Rattle.std.proofs.Common.{◌≡◌, ◌++◌, take, string_bytes}
use Rattle.query_syntax.specs.Spelling.{spaced, choices_texts}
use Rattle.query_syntax.proofs.printing.push_choices.Given as goal

abbrev pub invariant-loop-k : goal.invariant-loop-k
invariant-loop-k l = string_bytes l.text ≡ string_bytes l.fn.text ++ spaced (choices_texts (take l.k l.schema.categories) l.choices)
