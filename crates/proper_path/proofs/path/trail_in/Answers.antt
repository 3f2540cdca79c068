use Rattle.std.proofs.Common.{◌<◌, ◌+◌, [], ◌∷◌, ◌++◌, length, refl, sym, ap, ◌∙◌, subst, subst₂, arith}
use Rattle.cube_view.specs.Places.{deepest, time_dim}
use Rattle.cube_view.specs.Points.{spot_of}
use Rattle.cube_view.specs.Walks.{down}
use Rattle.cube_view.specs.Paths.{path_of}
use Rattle.proper_path.specs.Paths.{point_path}
use Rattle.proper_path.specs.Rooted.{MakesTrail, places_of}
use Rattle.proper_path.proofs.Labels.{length-path_of, get_or-path_of, path_at-point_path}
use Rattle.proper_path.proofs.StepCalls.{places-push}
use Rattle.proper_path.proofs.TrailSteps.{makes_start, makes_more, can_step, made_trail}
use Rattle.proper_path.proofs.path.trail_in.Goals as goal

pub loop-above-init : goal.loop-above-init
loop-above-init g c =
    let z = c.args.schema.now in
    let p = point_path z c.args.point.now in
    let path = path_at-point_path z c.args.point.now c.args.dim c.requires.dim.0 (omega (arith, c.requires.dim.1)) in
    let stack = ap places_of (c.in_ok-add.ensures.added ∙ ap (λ s. s ++ c.args.root ∷ []) c.requires.empty) in
    record {
      made = subst₂ (λ x y. MakesTrail (time_dim z) p c.args.work.now.slots c.args.work.now.slots c.args.dim c.args.root.0 c.args.root.0 0 x y) (sym path) (sym stack)
          (makes_start (time_dim z) p c.args.work.now.slots c.args.dim c.args.root.0 (λ e. omega (arith, e, c.requires.dim.1)));
      changes = record { start = refl; room = refl; made = omega arith };
      levels = c.levels-above-end.ensures;
    }

pub step_down-requires-clause-in_range : goal.step_down-requires-clause-in_range
step_down-requires-clause-in_range g c = (can_step _ _ _ _ _ _ _ _ _ _ (down 0) c.requires.root c.loop-above.invariant.made).in_range

pub step_down-requires-clause-is_node : goal.step_down-requires-clause-is_node
step_down-requires-clause-is_node g c = (can_step _ _ _ _ _ _ _ _ _ _ (down 0) c.requires.root c.loop-above.invariant.made).is_node

pub step_down-requires-clause-inside : goal.step_down-requires-clause-inside
step_down-requires-clause-inside g c = (can_step _ _ _ _ _ _ _ _ _ _ (down _) c.requires.root c.loop-above.invariant.made).inside

pub loop-above-preserved : goal.loop-above-preserved
loop-above-preserved g c =
    let z = c.args.schema.now in
    let s = spot_of c.args.point.now in
    let i = c.loop-above.invariant in
    let test = c.loop-above-test.true in
    let less : c.loop-above.above < deepest z c.args.dim = omega (arith, test, i.levels) in
    let long : c.loop-above.above < length (path_of z s c.args.dim) = omega (arith, less, length-path_of z s c.args.dim) in
    let stack = ap places_of c.in_ok-add-2.ensures.added ∙ places-push c.loop-above.stack c.in_ok-at.at in
    record {
      made = subst (λ y. MakesTrail (time_dim z) (point_path z c.args.point.now) c.args.work.now.slots c.step_down.new.work.slots c.args.dim c.args.root.0 c.in_ok-at.at.0 (c.loop-above.above + 1) (path_of z s c.args.dim) y) (sym stack)
          (makes_more _ _ _ _ _ _ _ _ _ _ _ _ _ i.made long (c.label-next.ensures ∙ get_or-path_of z s c.args.dim c.loop-above.above less) c.in_ok-at.ensures.stepped);
      changes = let d = c.in_ok-at.ensures.changes in record { start = d.start ∙ i.changes.start; room = d.room ∙ i.changes.room; made = omega (arith, d.made, i.changes.made) };
      levels = i.levels;
    }

pub returns-clause-trail : goal.returns-clause-trail
returns-clause-trail g c =
    let z = c.args.schema.now in
    let s = spot_of c.args.point.now in
    let i = c.loop-above.invariant in
    let past = c.loop-above-test.false in
    let within = c.loop-above.auto.above-end in
    made_trail _ _ _ _ _ _ _ _ _ _ i.made (path_at-point_path z c.args.point.now c.args.dim c.requires.dim.0 (omega (arith, c.requires.dim.1))) (omega (arith, past, within, i.levels, length-path_of z s c.args.dim))
