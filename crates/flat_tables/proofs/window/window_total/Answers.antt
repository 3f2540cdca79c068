use Rattle.std.proofs.Common.{◌∙◌, ap, sym}
use Rattle.flat_view.specs.Kept.{flat_points, flat_schema}
use Rattle.query_syntax.specs.Windows.{window_total}
use Rattle.query_syntax.specs.declared.query.Verb.{Verb}
use Rattle.window_cover.proofs.QuadrantShares.{rect_range, window_is}
use Rattle.window_cover.specs.Windows.{rect_of_verb}
use Rattle.flat_tables.proofs.window.window_total.Goals as goal

pub returns : goal.returns
returns g c =
    let z = flat_schema c.args.view.now in
    let h = flat_points c.args.view.now in
    let q = c.args.query.now in
    let r = c.in-Window.rect in
    c.total_inside.ensures
    ∙ (window_is z q r h (rect_range z q r c.requires.valid c.in-Window.is) ∙ sym (ap (λ (v : Verb). window_total q (rect_of_verb v) h) c.in-Window.is))
