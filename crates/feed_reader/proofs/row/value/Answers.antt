use Rattle.std.proofs.Common.{◌≡◌, ◌∙◌, sym, true, get_or, [], arith}
use Rattle.cube_view.specs.Limits.{same_text}
use Rattle.std.proofs.lemmas.List.{get_or_read}
use Rattle.std.proofs.lemmas.List.Folds.{list_any_at}
use Rattle.std.proofs.lemmas.List.Sums.{position_or_len_is}
use Rattle.feed_reader.proofs.Lists.{list_any_fails}
use Rattle.feed_reader.proofs.row.value.Goals as goal

pub returns-then-is_same_text : goal.returns-then-is_same_text
returns-then-is_same_text c =
    let within = rw c.as_slice-text-items.ensures at c.loop-n-test.true in
    let text = get_or_read c.args.category.now.values c.loop-n.n c.text-item.result within (rw c.as_slice-text-items.ensures at c.text-item.is) [] in
    let bytes = c.as_bytes.ensures.value ∙ c.as_str.ensures ∙ text in
    let here : same_text c.args.field.now (get_or c.args.category.now.values c.loop-n.n []) ≡ true = rw bytes at (sym c.is_same_text.ensures ∙ c.if-is_same_text.true) in
    record {
      known = sym (position_or_len_is (same_text c.args.field.now) c.args.category.now.values c.loop-n.n [] (omega arith) c.loop-n.invariant (λ _. here));
      unknown = list_any_at (same_text c.args.field.now) c.args.category.now.values c.loop-n.n [] within here;
    }

pub returns : goal.returns
returns c =
    let all = rw c.as_slice-text-items.ensures at c.loop-n-test.false in
    record { known = tt; unknown = list_any_fails (same_text c.args.field.now) c.args.category.now.values [] (λ k h. c.loop-n.invariant k (omega (arith, all, h))) }
