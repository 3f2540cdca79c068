use Rattle.std.proofs.Common.{sym, subst, arith, List, ℕ, ◌∷◌}
use Rattle.std.proofs.lemmas.Bool.Decides.{nat_tests}
use Rattle.feed_reader.proofs.FieldReads.{Copies, copied_to_comma, copied_to_last, copies_none, copies_on}
use Rattle.feed_reader.specs.Regular.{ReadsToComma, ReadsToLast}
use Rattle.feed_reader.proofs.folded.put_quoted.Goals as goal

pub loop-n-init : goal.loop-n-init
loop-n-init c = subst (λ (text : List ℕ). Copies c.args.bytes.now text c.args.bytes.now) (sym c.requires) (copies_none c.args.bytes.now)

pub returns-then-is_empty : goal.returns-then-is_empty
returns-then-is_empty c =
    subst (ReadsToLast (34 ∷ c.args.bytes.now)) (sym c.in_ok-put.ensures.put)
    (copied_to_last c.args.bytes.now c.loop-n.text.items c.loop-n.left.now c.in-Some.n c.loop-n.invariant c.in-Some.ensures (grind (arith, nat_tests)))

pub returns-in-Some-after_comma : goal.returns-in-Some-after_comma
returns-in-Some-after_comma c =
    let further = c.in-Some-after_comma.further.now in
    subst (λ (text : List ℕ). ReadsToComma (34 ∷ c.args.bytes.now) text further) (sym c.in_ok-put.ensures.put)
    (copied_to_comma c.args.bytes.now c.loop-n.text.items c.loop-n.left.now further c.in-Some.n c.loop-n.invariant c.in-Some.ensures c.in-Some-after_comma.ensures)

pub loop-n-preserved : goal.loop-n-preserved
loop-n-preserved c =
    let doubled = c.in-Some-after_quote.doubled.now in
    let next = copies_on c.args.bytes.now c.loop-n.text.items c.loop-n.left.now doubled c.in-Some.n c.loop-n.invariant c.in-Some.ensures c.in-Some-after_quote.ensures in
    rw (c.in_ok-put_byte.ensures.put, c.in_ok-put.ensures.put) next.1
