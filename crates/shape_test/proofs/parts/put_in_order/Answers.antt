use Rattle.std.proofs.Common.{rules}
use Rattle.std.proofs.lemmas.List.Sorted.{IsNonDecreasingBy-from_sort_by_key}
use Rattle.shape_test.specs.Parts.{part_label}
use Rattle.shape_test.proofs.parts.put_in_order.Goals as goal

pub returns-clause-ordered : goal.returns-clause-ordered
returns-clause-ordered c = IsNonDecreasingBy-from_sort_by_key part_label _ c.sort_unstable_by_key.ensures.sorted (λ a r q k. search rules)
