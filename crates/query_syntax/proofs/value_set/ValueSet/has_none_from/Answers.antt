use Rattle.std.proofs.Common.{length, sym, ◌∙◌, ap}
use Rattle.std.specs.Prelude.{Bool, List}
use Rattle.query_syntax.proofs.SetBits.{length_four}
use Rattle.query_syntax.proofs.value_set.ValueSet.has_none_from.Goals as goal

pub returns-clause-size : goal.returns-clause-size
returns-clause-size c = ap (λ (set : List Bool). length set) (sym c.self.view_is) ∙ length_four c.self.inside.bits c.self.invariant.four
