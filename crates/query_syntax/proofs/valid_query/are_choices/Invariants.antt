use Rattle.std.proofs.Common.{◌≡◌, drop}
use Rattle.query_syntax.specs.Queries.{are_choices}
use Rattle.query_syntax.proofs.valid_query.are_choices.Given as goal

abbrev pub invariant-loop-k : goal.invariant-loop-k
invariant-loop-k l = are_choices l.schema.categories l.sets ≡ are_choices (drop l.k l.schema.categories) (drop l.k l.sets)
