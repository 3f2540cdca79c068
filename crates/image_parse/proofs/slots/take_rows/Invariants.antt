use Rattle.std.proofs.Common.{◌≡◌, ◌-◌}
use Rattle.image_parse.specs.Reading.{table_rows_at}
use Rattle.image_parse.proofs.Loops.{with_front}
use Rattle.image_parse.proofs.slots.take_rows.Given as goal

abbrev pub invariant-loop : goal.invariant-loop
invariant-loop l = with_front l.rows.items (table_rows_at (l.count - l.counter) l.from l.rest) ≡ table_rows_at l.count 0 l.bytes
