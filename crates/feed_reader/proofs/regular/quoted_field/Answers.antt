use Rattle.std.proofs.Common.{◌∙◌, sym, arith}
use Rattle.std.proofs.lemmas.Bool.Decides.{nat_tests}
use Rattle.feed_reader.proofs.FieldReads.{quoted_to_comma, quoted_to_last}
use Rattle.feed_reader.proofs.regular.quoted_field.Goals as goal

pub returns-then-is_empty : goal.returns-then-is_empty
returns-then-is_empty c = quoted_to_last c.args.bytes.now c.in_ok-n.n (sym c.in_ok-n.was ∙ c.first_quote.ensures) (grind (arith, nat_tests))

pub returns : goal.returns
returns c = quoted_to_comma c.args.bytes.now c.in_ok-further.further.now c.in_ok-n.n (sym c.in_ok-n.was ∙ c.first_quote.ensures) c.in_ok-further.ensures
