use Rattle.std.proofs.Common.{◌≡◌, ◌∙◌, ◌++◌, ◌+◌, List, ℕ, true, false, get_or, take, sym, ap, string_bytes}
use Rattle.std.specs.List.{join_with_byte}
use Rattle.query_syntax.specs.Words.{bar}
use Rattle.query_syntax.specs.Spelling.{value_texts}
use Rattle.query_syntax.proofs.ValueLists.{lists_none, listed_bytes, listed_first, unlisted_is, value_texts-all}
use Rattle.query_syntax.proofs.printing.push_values.Goals as goal
use Rattle.query_syntax.proofs.printing.push_values.Goals.{then-has+in_ok-push_listed, else-has}

pub loop-v-preserved : goal.loop-v-preserved
loop-v-preserved c =
    let values = c.args.values.now in
    let set = c.args.set.now in
    let v = c.loop-v.v in
    elim c.if-has.branch [
      | then-has+in_ok-push_listed w ↦
          let has : get_or set v false ≡ true = sym c.has.ensures ∙ w.if-has.true in
          let value : w.as_str.result.now ≡ get_or values v w.as_str.result.now = rw w.as_str.ensures w.index-values-v.is in
          record {
            bytes = ap string_bytes w.text-is ∙ listed_bytes (string_bytes c.args.text.now) (string_bytes c.loop-v.text) _ c.loop-v.is_first set values v w.as_str.result.now c.loop-v-test.true value has c.loop-v.invariant.bytes c.loop-v.invariant.first w.in_ok-push_listed.ensures;
            first = w.is_first-is ∙ listed_first set values v w.as_str.result.now c.loop-v-test.true value has;
          }
      | else-has w ↦
          let same : value_texts (take (c.loop-v.v + 1) set) values ≡ value_texts (take v set) values = unlisted_is set values v c.loop-v-test.true (sym c.has.ensures ∙ w.if-has.false) in
          record {
            bytes = ap string_bytes w.text-is ∙ c.loop-v.invariant.bytes ∙ ap (λ (t : List (List ℕ)). string_bytes c.args.text.now ++ join_with_byte bar t) (sym same);
            first = w.is_first-is ∙ c.loop-v.invariant.first ∙ ap lists_none (sym same);
          }
    ]

pub returns : goal.returns
returns c =
    c.loop-v.invariant.bytes ∙ ap (λ (t : List (List ℕ)). string_bytes c.args.text.now ++ join_with_byte bar t) (value_texts-all c.args.set.now c.args.values.now c.loop-v.v c.loop-v-test.false)
