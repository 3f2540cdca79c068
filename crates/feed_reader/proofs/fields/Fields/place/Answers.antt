use Rattle.std.proofs.Common.{◌∙◌, sym, [], arith}
use Rattle.cube_view.specs.Limits.{same_text}
use Rattle.std.proofs.lemmas.List.Sums.{position_or_len_is}
use Rattle.feed_reader.proofs.Lists.{position_or_len_all}
use Rattle.feed_reader.proofs.fields.Fields.place.Goals as goal

pub returns-then-is_same_text : goal.returns-then-is_same_text
returns-then-is_same_text c =
    let here = rw c.field.ensures at (sym c.is_same_text.ensures ∙ c.if-is_same_text.true) in
    sym (position_or_len_is (same_text c.args.name.now) c.args.self.now c.loop-place.place [] (omega arith) c.loop-place.invariant (λ _. here))

pub returns : goal.returns
returns c = c.len-count.ensures ∙ sym (position_or_len_all (same_text c.args.name.now) c.args.self.now [] (λ k h. c.loop-place.invariant k (omega arith)))
