use Rattle.std.proofs.Common.{◌≡◌}
use Rattle.world_core.specs.PairFact.{IsPrefix}
use Rattle.published_pair.proofs.viewer.Viewer.look.Given as goal

abbrev pub invariant-loop : goal.invariant-loop
invariant-loop g l = record {
  shown : IsPrefix l.fn.self.shown.points l.viewer.shown.points;
  book : l.viewer.shown.book ≡ l.fn.self.shown.book;
  learned : l.viewer.learned ≡ l.fn.self.learned;
  last : l.viewer.last ≡ l.fn.self.last;
  schema : l.viewer.schema ≡ l.fn.self.schema;
}
