use Rattle.std.proofs.Common.{rules}
use Rattle.std.proofs.Math.Dec.{ltb}
use Rattle.std.proofs.lemmas.Bool.{ltb-true, ltb-false}
use Rattle.std.proofs.lemmas.List.Sorted.{IsPartitionedBy-ltb, IsPartitionPoint-from_clause}
use Rattle.flat_view.specs.Paths.{point_number}
use Rattle.flat_view.proofs.ranges.count_under.Goals as goal

pub returns-clause-point : goal.returns-clause-point
returns-clause-point c =
    let n = c.args.number in
    let points = c.args.points.now in
    let at = IsPartitionPoint-from_clause (λ p. ltb (point_number p) n) points _ c.partition_point.ensures.partitioned (IsPartitionedBy-ltb point_number points n c.requires) (λ a r q k. search rules) in
    (λ k d low high. ltb-true _ _ (at.0 k d low high), λ k d low high. ltb-false _ _ (at.1 k d low high))
