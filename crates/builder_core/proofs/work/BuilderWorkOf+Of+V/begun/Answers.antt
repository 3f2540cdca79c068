use Rattle.std.proofs.Common.{◌≤◌, sym, subst}
use Rattle.builder_core.specs.Built.{HasBuilt, IsBuilding}
use Rattle.builder_core.specs.Work.{BuilderWorkState}
use Rattle.builder_core.proofs.RunParts.{built-none}
use Rattle.builder_core.proofs.WorkRuns.{has_run-none}
use Rattle.builder_core.proofs.work.BuilderWorkOf+Of+V.begun.Goals as goal

pub returns-clause-building : goal.returns-clause-building
returns-clause-building g c = subst (λ w. IsBuilding w c.args.self.now) (sym c.of.ensures) (has_run-none c.args.self.now c.requires)

pub returns-clause-built : goal.returns-clause-built
returns-clause-built g c =
    subst (λ w. HasBuilt w c.args.self.now) (sym c.of.ensures)
    (built-none c.args.self.now c.requires (subst (λ (w : BuilderWorkState). 1 ≤ w.builder.feeders) c.self.view_is c.has_feeders.ensures))
