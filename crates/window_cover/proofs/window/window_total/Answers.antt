use Rattle.std.proofs.Common.{◌∙◌, ap, sym}
use Rattle.query_syntax.specs.Windows.{window_total}
use Rattle.query_syntax.specs.declared.query.Verb.{Verb}
use Rattle.window_cover.proofs.QuadrantShares.{comes_to_whole, no_window, rect_range, window_is, window_paid}
use Rattle.window_cover.specs.Windows.{rect_of_verb}
use Rattle.window_cover.proofs.window.window_total.Goals as goal

pub returns-then-seen-eq0-clause-total : goal.returns-then-seen-eq0-clause-total
returns-then-seen-eq0-clause-total g c h counts = no_window c.args.query.now (rect_of_verb c.args.query.now.verb) h c.seen.result (c.seen.ensures ∙ counts.number) c.if-seen-eq0.true

pub total_inside-requires-clause-walk : goal.total_inside-requires-clause-walk
total_inside-requires-clause-walk g c κs within = comes_to_whole _ _ (g.V.CubeView.schema c.args.view.now) c.args.query.now _ c.requires.valid c.top.ensures.place

pub returns-clause-total : goal.returns-clause-total
returns-clause-total g c h counts =
    let z = g.V.CubeView.schema c.args.view.now in
    let q = c.args.query.now in
    let r = c.in-Window.rect in
    c.total_inside.ensures.total h counts
    ∙ (window_is z q r h (rect_range z q r c.requires.valid c.in-Window.is) ∙ sym (ap (λ (v : Verb). window_total q (rect_of_verb v) h) c.in-Window.is))

pub returns-clause-cost : goal.returns-clause-cost
returns-clause-cost g c h counts =
    window_paid (g.V.CubeView.costs c.args.view.now) (g.V.CubeView.schema c.args.view.now) h c.args.query.now c.in-Window.rect c.seen.result c.args.steps.now c.total_inside.new.steps c.in-Window.is (c.seen.ensures ∙ counts.number) c.if-seen-eq0.false (c.total_inside.ensures.cost h counts)
