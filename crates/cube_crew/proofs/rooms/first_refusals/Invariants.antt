use Rattle.std.proofs.Common.{◌≡◌, [], All, vec_len}
use Rattle.cube_crew.proofs.rooms.first_refusals.Given as goal

abbrev pub invariant-loop : goal.invariant-loop
invariant-loop l = record {
  count : vec_len l.firsts ≡ l.counter;
  none : All (λ f. f ≡ []) l.firsts.items;
}
