use Rattle.std.proofs.Common.{Bool, ◌≡◌, true, ◌↔◌, ℕ, ◌-◌, ◌<◌, List, sym, subst, arith}
use Rattle.std.proofs.lemmas.Result.{IfOk-weaker}
use Rattle.cube_view.specs.Places.{deepest, time_dim}
use Rattle.shape_test.specs.Agreeing.{IsOver, MergesFrom, MergesOver}
use Rattle.shape_test.proofs.CategoryWays.{before_end, later_levels}
use Rattle.shape_test.proofs.merging.node_merges.Goals as goal

pub returns : goal.returns
returns g c =
    let less : c.args.place.level < deepest c.args.schema.now c.args.place.dim = (let d = c.deepest.ensures.deepest in let l = c.if-place-deepest.false in omega (arith, d, l)) in
    let before : c.args.place.dim < time_dim c.args.schema.now = before_end c.args.schema.now c.args.place less c.requires.placed in
    let some = c.requires.placed.dim.0 in
    let t = c.time_dim.ensures.time in
    let levels = later_levels c.args.schema.now c.args.place (c.time_dim.result - c.args.place.dim - 1) some (omega (arith, before, t)) in
    IfOk-weaker c.contents_merge.result (λ (r : Bool). (r ≡ true) ↔ MergesOver c.args.arena.now c.args.id.0 (c.time_dim.result - c.args.place.dim - 1)) (λ (r : Bool). (r ≡ true) ↔ MergesFrom c.args.schema.now c.args.arena.now c.args.id.0 c.args.place) (λ r p. (λ y above way o. p.0 y way (subst (λ (ls : List ℕ). IsOver ls way) levels o), λ M. p.1 (λ way o. M less way (subst (λ (ls : List ℕ). IsOver ls way) (sym levels) o)))) c.contents_merge.ensures
