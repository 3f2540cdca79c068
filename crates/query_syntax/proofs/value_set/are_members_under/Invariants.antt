use Rattle.std.proofs.Common.{◌≡◌, take, true}
use Rattle.std.specs.List.{list_all}
use Rattle.query_syntax.specs.SetBits.{members_in_words}
use Rattle.query_syntax.proofs.value_set.are_members_under.Given as goal

abbrev pub invariant-loop-value : goal.invariant-loop-value
invariant-loop-value l = list_all (λ b. b) (take l.value (members_in_words l.bits)) ≡ true
