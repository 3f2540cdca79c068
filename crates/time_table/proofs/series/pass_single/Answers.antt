use Rattle.std.proofs.Common.{ℕ, length, sym, ◌∙◌, arith}
use Rattle.time_table.specs.Counts.{count_before}
use Rattle.time_table.specs.Totals.{counts}
use Rattle.time_table.proofs.SeriesTotals.{none_told, room_for, all_told, none_left, rows_known, rows_past}
use Rattle.time_table.proofs.series.pass_single.Goals as goal

pub pass_rows-whole-requires-clause-room : goal.pass_rows-whole-requires-clause-room
pass_rows-whole-requires-clause-room g c = room_for c.args.from c.args.wide c.args.totals.now c.requires.small

pub returns-clause-sums : goal.returns-clause-sums
returns-clause-sums g c =
    let f = λ (e : ℕ). count_before (counts c.args.rows.now.items) e in
    let on = c.tell.ensures.on in
    let rows = c.pass_rows-whole.ensures.tells f c.args.from (none_told f c.args.from c.args.wide c.args.totals.now) (λ some e after. rows_known e c.args.rows.now.items c.requires.rise) in
    let whole = c.tell.ensures.tells f c.args.from rows (λ some e after late. rows_past c.pass_rows-whole.new.ends.end e c.args.rows.now.items c.requires.rise (c.pass_rows-whole.ensures.past some) after ∙ sym c.pass_rows-whole.ensures.total) in
    all_told f c.args.from c.args.wide (length c.args.totals.now) c.tell.new.ends c.tell.new.totals whole (on.wide ∙ c.pass_rows-whole.ensures.on.wide) (on.count ∙ c.pass_rows-whole.ensures.on.count) (let none = none_left c.tell.new.ends c.tell.new.totals on.room c.tell.ensures.past in omega (arith, none, on.count, c.pass_rows-whole.ensures.on.count))
