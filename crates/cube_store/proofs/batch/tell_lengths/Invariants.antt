use Rattle.std.proofs.Common.{◌≡◌, All, length, take}
use Rattle.cube_view.specs.Points.{spot_of}
use Rattle.cube_store.proofs.batch.tell_lengths.Given as goal

-- those that were told have four values
abbrev pub invariant-loop-point : goal.invariant-loop-point
invariant-loop-point l = All (λ p. length (spot_of p).values ≡ 4) (take l.point-index l.points)
