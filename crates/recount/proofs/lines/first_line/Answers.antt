use Rattle.std.proofs.Common.{◌∷◌, ◌++◌, ◌+◌, ◌-◌, ◌≤◌, length, take, drop, sym, ap, ◌∙◌, arith, length-drop}
use Rattle.std.proofs.lemmas.List.{take_all, length-take-le}
use Rattle.texts.specs.LineFeeds.{NoFeed}
use Rattle.texts.proofs.LineFeeds.{first_feed-None, first_feed-Some}
use Rattle.feed_queue.proofs.ByteByByte.{if_none}
use Rattle.recount.proofs.LinesApart.{whole_line}
use Rattle.recount.proofs.lines.first_line.Goals as goal

pub returns-in_err-at-clause-none : goal.returns-in_err-at-clause-none
returns-in_err-at-clause-none c = if_none c.from_residual.result (NoFeed c.args.text.now) (first_feed-None c.args.text.now c.in_err-at.ensures)

pub returns-clause-some : goal.returns-clause-some
returns-clause-some c =
    let text = c.args.text.now in
    let at = c.in_ok-at.at in
    let first = first_feed-Some text at c.in_ok-at.ensures in
    let size = length-drop (at + 1) text in
    let all : length (drop (at + 1) text) ≤ length text - (at + 1) = omega (arith, size) in
    let within : at ≤ length text = let h = first.0 in omega (arith, h) in (
      first.2 ∙ ap (λ l. take at text ++ 10 ∷ l) (sym (take_all (length text - (at + 1)) (drop (at + 1) text) all)),
      whole_line text (take at text) (drop (at + 1) text) at first.2 (sym (length-take-le at text within)),
      first.1,
    )
