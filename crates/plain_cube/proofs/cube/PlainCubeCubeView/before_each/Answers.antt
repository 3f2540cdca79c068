use Rattle.std.proofs.Common.{ℕ, length, ◌∙◌}
use Rattle.cube_view.specs.Bag.{amount}
use Rattle.cube_view.specs.Places.{is_before}
use Rattle.cube_view.proofs.Ends.{totals-alike}
use Rattle.plain_cube.proofs.ListScans.{same_count}
use Rattle.plain_cube.proofs.cube.PlainCubeCubeView.before_each.Goals as goal

pub returns-clause-totals : goal.returns-clause-totals
returns-clause-totals g c h counts =
    let points = c.args.self.now.points.items in
    let each = λ (e : ℕ). same_count points c.as_slice.result.now h c.as_slice.ensures.value counts (is_before c.args.self.now.schema c.args.cursor e) in
    c.count_before_each.ensures.totals
    ∙ totals-alike c.args.self.now.schema c.args.cursor h (λ e. amount (is_before c.args.self.now.schema c.args.cursor e) c.as_slice.result.now) each c.args.from c.args.wide (length c.args.totals.now)
