use Rattle.std.proofs.Common.{◌≡◌, take}
use Rattle.shape_test.specs.Parts.{HaveRising, parts_under}
use Rattle.shape_test.proofs.parts.parts_under.Given as goal

abbrev pub invariant-loop-part : goal.invariant-loop-part
invariant-loop-part g l = record {
  added : l.below.items ≡ parts_under l.arena (take l.part-index l.parts);
  rising : HaveRising l.arena (take l.part-index l.parts);
}
