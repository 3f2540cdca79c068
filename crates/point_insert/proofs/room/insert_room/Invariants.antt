use Rattle.std.proofs.Common.{◌≡◌, ◌+◌, ◌^◌, length}
use Rattle.point_insert.proofs.room.insert_room.Given as goal

abbrev pub invariant-loop : goal.invariant-loop
invariant-loop l = record {
  doubled : l.below + 2 ≡ 2 ^ (l.counter + 1);
  end : l.end ≡ length l.schema.categories;
}
