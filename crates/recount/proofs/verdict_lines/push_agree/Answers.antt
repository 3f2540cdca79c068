use Rattle.std.proofs.Common.{◌++◌, ◌∙◌, ap, append_assoc, sym}
use Rattle.std.specs.Fmt.{decimal}
use Rattle.std.specs.Prelude.{codes, string_bytes}
use Rattle.recount.proofs.TextPieces.{appended_then}
use Rattle.recount.specs.VerdictLines.{agree_line, without_line}
use Rattle.recount.proofs.verdict_lines.push_agree.Goals as goal

pub returns : goal.returns
unfolding agree_line
returns c =
    let before = string_bytes c.args.text.now in
    let front = (codes "recount: " ++ decimal c.args.replies) ++ codes " replies agree, " in
    appended_then c.push_without.result before (string_bytes c.write.new.self) (string_bytes c.push_without.new.text) front (without_line c.args.without)
    (c.in_ok-write.ensures.bytes ∙ ap (λ b. before ++ b) (sym (append_assoc (codes "recount: ") (decimal c.args.replies) (codes " replies agree, ")))) c.push_without.ensures
