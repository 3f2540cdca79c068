use Rattle.std.proofs.Common.{◌∷◌, [], ◌++◌, ◌∙◌}
use Rattle.std.proofs.Math.Logic.{∥∥₁_map}
use Rattle.std.proofs.lemmas.List.Elements.{All-nil, All-cons, All-append}
use Rattle.cube_callers.specs.Records.{IsFew}
use Rattle.cube_callers.proofs.tests.cube_of_records.Goals as goal

pub loop-preserved : goal.loop-preserved
loop-preserved g c = record {
  schema = c.in_ok-insert.ensures.schema ∙ c.loop.invariant.schema;
  bins = ∥∥₁_map c.loop.invariant.bins (λ B. record {
    points = B.points ++ c.record_of-record.result ∷ [];
    counts = c.in_ok-insert.ensures.counted B.points B.counts;
    few = All-append (IsFew c.args.spread) B.points (c.record_of-record.result ∷ []) B.few (All-cons (IsFew c.args.spread) c.record_of-record.result [] c.record_of-record.ensures (All-nil (IsFew c.args.spread)));
  });
}
