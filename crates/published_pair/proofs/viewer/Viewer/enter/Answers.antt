use Rattle.std.proofs.Common.{◌≡◌, rules, refl, Some}
use Rattle.world_core.proofs.Prefixes.{IsPrefix-itself}
use Rattle.published_pair.specs.Pair.{names}
use Rattle.published_pair.proofs.LastLists.{shows_all}
use Rattle.published_pair.proofs.PairRule as turning
use Rattle.published_pair.proofs.viewer.Viewer.enter.Goals as goal

pub enter_as-requires : goal.enter_as-requires
enter_as-requires g c x views kept at =
    let t = turning.turns x.history.items x.history.items x.front x.front _ _ refl refl (IsPrefix-itself x.history.items) kept.told views _ _ kept at in
    (Some (names x.front.book (g.V.CubeView.schema x.view) x.history.items), t.0, t.1)

pub invariant_of-result-then-goes_on-clause-within : goal.invariant_of-result-then-goes_on-clause-within
invariant_of-result-then-goes_on-clause-within g c =
    let same : c.args.self.shown.book ≡ c.again-shown.result.book = search rules in
    shows_all c.args.self.last _ _ c.again-shown.result.points c.args.self.learned.points same c.args.self.within c.cover.ensures c.if-goes_on.ensures
