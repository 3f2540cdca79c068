use Rattle.std.proofs.Common.{◌-◌, length}
use Rattle.time_table.specs.Series.{GoOn, Tells, KnowsBin}
use Rattle.time_table.proofs.series.tell.Given as goal

abbrev pub invariant-loop-ends : goal.invariant-loop-ends
invariant-loop-ends l = record {
  on : GoOn l.initial.ends l.ends l.initial.totals l.totals;
  tells : Tells (KnowsBin l.bin l.total) l.initial.ends l.ends l.initial.totals l.totals;
}

abbrev pub decreases-loop-ends : goal.decreases-loop-ends
decreases-loop-ends l = length l.totals - l.ends.done
