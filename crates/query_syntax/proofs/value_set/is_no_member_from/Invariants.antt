use Rattle.std.proofs.Common.{◌≡◌, drop}
use Rattle.std.specs.List.{list_any}
use Rattle.query_syntax.specs.SetBits.{members_in_words}
use Rattle.query_syntax.proofs.value_set.is_no_member_from.Given as goal

abbrev pub invariant-loop-value : goal.invariant-loop-value
invariant-loop-value l = list_any (λ b. b) (drop l.count (members_in_words l.bits)) ≡ list_any (λ b. b) (drop l.value (members_in_words l.bits))
