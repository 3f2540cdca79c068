use Rattle.std.proofs.Common.{IsTrue, arith, rules}
use Rattle.std.proofs.lemmas.List.Sorted.{All-permutation, IsNonDecreasingBy-from_sort_by_key}
use Rattle.cube_view.specs.Validity.{sound}
use Rattle.flat_view.specs.Paths.{point_number}
use Rattle.flat_view.proofs.view.FlatView.new.Goals as goal

pub invariant_of-result : goal.invariant_of-result
invariant_of-result c = record {
  sound = All-permutation (λ p. IsTrue (sound c.args.schema p)) _ _ c.sort_unstable_by_key.ensures.permutation c.requires.sound;
  few = omega (arith, c.sort_unstable_by_key.ensures.len, c.requires.few);
  ordered = IsNonDecreasingBy-from_sort_by_key point_number _ c.sort_unstable_by_key.ensures.sorted (λ a r q k. search rules);
}
