-- What a viewer is shown once it has learned the ended list.
use Rattle.std.proofs.Common.{◌≡◌, List, Option, Some, None, IfSome, ◌∙◌}
use Rattle.cube_view.specs.Points.{Point}
use Rattle.logbook.specs.Pages.{Book}
use Rattle.world_core.specs.PairFact.{IsPrefix}
use Rattle.published_pair.specs.Rules.{Known}
use Rattle.published_pair.specs.Pair.{Fresh}
use Rattle.published_pair.proofs.Prefixes.{prefix_both}

-- no less than the ended list, and a prefix of it, is the ended list
pub shows_all : (o : Option Known) (b d : Book) (shown learned : List Point) → b ≡ d → IfSome o (λ w. (w.book ≡ b) × (learned ≡ w.points)) → IfSome o (λ w. IsPrefix shown w.points) → IsPrefix learned shown
    → IfSome o (λ w. (w.book ≡ d) × (shown ≡ w.points) × (learned ≡ w.points))
shows_all None b d shown learned same within covers begins = tt
shows_all (Some w) b d shown learned same within covers begins =
    let whole : IsPrefix w.points shown = rw (← within.1) begins in
    (within.0 ∙ same, prefix_both shown w.points covers whole, within.1)

-- two lists that are prefixes of the ended list, where there is one
pub both_covered : (o : Option Known) (shown learned : List Point) → IfSome o (λ w. IsPrefix shown w.points) → IfSome o (λ w. IsPrefix learned w.points) → IfSome o (λ w. Fresh shown learned w.points)
both_covered None shown learned p q = tt
both_covered (Some w) shown learned p q = (p, q)
