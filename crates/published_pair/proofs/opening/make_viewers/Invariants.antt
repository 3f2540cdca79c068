use Rattle.std.proofs.Common.{◌≡◌, length, All, None}
use Rattle.left_right.specs.Sides.{view}
use Rattle.published_pair.proofs.opening.make_viewers.Given as goal

abbrev pub invariant-loop : goal.invariant-loop
invariant-loop g l = record {
  shown : l.writer.desk.shown ≡ l.fn.writer.desk.shown;
  log : l.writer.log ≡ l.fn.writer.log;
  behind : l.writer.behind ≡ l.fn.writer.behind;
  named : view l.writer.desk.place ≡ view l.fn.writer.desk.place;
  count : length l.all ≡ l.counter;
  each : All (λ v. (v.schema ≡ l.schema) × (v.shown ≡ l.front) × (v.learned ≡ l.front) × (v.last ≡ None)) l.all;
}
