use Rattle.std.proofs.Common.{◌≡◌, ap, sym, ◌∙◌, true≢false, Some, rules}
use Rattle.feed_queue.specs.Journal.{valid_entry}
use Rattle.feed_queue.proofs.JournalLines.{not_refused, numbers_are, entry_is, line_of_found}
use Rattle.feed_queue.proofs.reading.read_entry.Goals as goal

pub returns-in_err-numbers-clause-read : goal.returns-in_err-numbers-clause-read
returns-in_err-numbers-clause-read c e is same = not_refused c.args.schema.now c.args.line.now e is same c.in_err-numbers.ensures.refused

pub returns-in_err-entry-clause-read : goal.returns-in_err-entry-clause-read
returns-in_err-entry-clause-read c e is same =
    let slice : c.in_ok-numbers.numbers.items ≡ c.as_slice.result.now = search rules in
    absurd (c.in_err-entry.ensures.none e is (numbers_are c.args.schema.now c.args.line.now _ (c.in_ok-numbers.ensures.read ∙ ap Some slice) e is same))

pub returns-then-is_valid_entry-clause-read : goal.returns-then-is_valid_entry-clause-read
returns-then-is_valid_entry-clause-read c e is same =
    let slice : c.in_ok-numbers.numbers.items ≡ c.as_slice.result.now = search rules in
    ap Some (entry_is c.args.schema.now c.args.line.now _ (c.in_ok-numbers.ensures.read ∙ ap Some slice) _ e c.in_ok-entry.ensures.some is same)

pub returns-then-is_valid_entry-clause-only : goal.returns-then-is_valid_entry-clause-only
returns-then-is_valid_entry-clause-only c =
    let slice : c.in_ok-numbers.numbers.items ≡ c.as_slice.result.now = search rules in
    ((c.in_ok-entry.ensures.fits, search rules), line_of_found c.args.schema.now c.args.line.now _ (c.in_ok-numbers.ensures.read ∙ ap Some slice) _ c.in_ok-entry.ensures.some)

pub returns-else-is_valid_entry-clause-read : goal.returns-else-is_valid_entry-clause-read
returns-else-is_valid_entry-clause-read c e is same =
    let slice : c.in_ok-numbers.numbers.items ≡ c.as_slice.result.now = search rules in
    let found = entry_is c.args.schema.now c.args.line.now _ (c.in_ok-numbers.ensures.read ∙ ap Some slice) _ e c.in_ok-entry.ensures.some is same in
    absurd (true≢false (sym is.1 ∙ ap (valid_entry c.args.schema.now) (sym found) ∙ search rules))
