use Rattle.std.proofs.Common.{◌≡◌, ◌++◌, take, string_bytes}
use Rattle.std.specs.List.{join_with_byte}
use Rattle.query_syntax.specs.Words.{bar}
use Rattle.query_syntax.specs.Spelling.{value_texts}
use Rattle.query_syntax.proofs.ValueLists.{lists_none}
use Rattle.query_syntax.proofs.printing.push_values.Given as goal

abbrev pub invariant-loop-v : goal.invariant-loop-v
invariant-loop-v l =
    record {
      bytes : string_bytes l.text ≡ string_bytes l.fn.text ++ join_with_byte bar (value_texts (take l.v l.set) l.values);
      first : l.is_first ≡ lists_none (value_texts (take l.v l.set) l.values);
    }
