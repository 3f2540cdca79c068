use Rattle.std.proofs.Common.{rules}
use Rattle.std.proofs.lemmas.List.Sorted.{IsNonDecreasingBy-from_sort_by_key}
use Rattle.cube_view.specs.Points.{spot_of}
use Rattle.cube_store.proofs.batch.in_order.Goals as goal

pub returns-clause-order : goal.returns-clause-order
returns-clause-order c = IsNonDecreasingBy-from_sort_by_key (λ p. (spot_of p).bin) _ c.in_ok-sort_by_key.ensures.sorted (λ a r q k. search rules)
