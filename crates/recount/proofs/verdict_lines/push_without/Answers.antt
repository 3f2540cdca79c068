use Rattle.std.proofs.Common.{[], ◌∷◌, append_assoc, sym}
use Rattle.std.specs.Fmt.{decimal}
use Rattle.std.specs.Prelude.{codes, string_bytes}
use Rattle.recount.proofs.TextPieces.{appended_as}
use Rattle.recount.specs.VerdictLines.{without_line}
use Rattle.recount.proofs.verdict_lines.push_without.Goals as goal

pub returns : goal.returns
unfolding without_line
returns c = appended_as c.write.result (string_bytes c.args.text.now) (string_bytes c.write.new.self) _ (without_line c.args.without) (sym (append_assoc (decimal c.args.without) (codes " without memory") (10 ∷ []))) c.write.ensures.bytes
