use Rattle.std.proofs.Common.{List, sym, ap, ◌∙◌, Some, subst, drop, fold}
use Rattle.cube_view.specs.Points.{Point}
use Rattle.world_core.specs.PairFact.{IsPrefix}
use Rattle.published_pair.specs.Pair.{absorbed, names}
use Rattle.published_pair.proofs.PairRule as turning
use Rattle.published_pair.proofs.publisher.show.Goals as goal

pub publish_as-after-requires : goal.publish_as-after-requires
publish_as-after-requires g c next is views kept at =
    let x = c.args.writer.desk.shown.value in
    let s = is ∙ ap (λ t. fold absorbed t (drop c.args.writer.behind c.args.writer.log.items)) c.requires.shown ∙ c.requires.pends in
    let book = ap (λ t. t.front.book) s ∙ c.requires.book ∙ sym (ap (λ t. t.front.book) c.requires.shown) in
    let schema = ap (λ t. t.schema) s ∙ sym (ap (λ t. t.schema) c.requires.shown) in
    let told = ap (λ t. t.points) s ∙ sym (ap (λ t. t.front.points) s) in
    let here : IsPrefix x.history.items c.args.noted.now.points = subst (λ (h : List Point). IsPrefix h c.args.noted.now.points) (sym (ap (λ t. t.points) c.requires.shown)) c.requires.within in
    let on : IsPrefix x.history.items next.history.items = subst (λ (h : List Point). IsPrefix x.history.items h) (sym (ap (λ t. t.points) s)) here in
    let t = turning.turns x.history.items next.history.items x.front next.front _ _ book schema on told views _ _ kept at in
    (Some (names next.front.book (g.V.CubeView.schema next.view) next.history.items), t.0, t.1)
