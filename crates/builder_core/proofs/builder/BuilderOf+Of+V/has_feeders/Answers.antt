use Rattle.std.proofs.Common.{◌≤◌, subst}
use Rattle.builder_core.specs.Builder.{BuilderState}
use Rattle.builder_core.proofs.builder.BuilderOf+Of+V.has_feeders.Goals as goal

pub returns : goal.returns
returns g c = subst (λ (b : BuilderState). 1 ≤ b.feeders) c.self.view_is c.self.invariant.feeders.0
