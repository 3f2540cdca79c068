use Rattle.std.proofs.Common.{sym}
use Rattle.builder_core.specs.Builder.{MayBeTaken}
use Rattle.builder_core.proofs.work.BuilderWorkOf+Of+V.take_if_queued.Goals as goal

pub take-requires-after_bounds : goal.take-requires-after_bounds
take-requires-after_bounds g c =
    let may : MayBeTaken c.self.inside.builder c.in-Some.item = record {
      end = c.self.inside.draws;
      feeders = sym c.self.invariant.draws.feeders;
      schema = sym c.self.invariant.draws.schema;
      drawn = sym c.self.invariant.draws.taken;
      told = c.in-Some.ensures.next;
    } in
    λ κs within. may
