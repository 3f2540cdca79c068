use Rattle.std.proofs.Common.{ℕ, refl, arith}
use Rattle.cube_view.specs.Walks.{down}
use Rattle.node_arena.specs.declared.link.Link.{Link}
use Rattle.shape_test.specs.Homes.{walks_of}
use Rattle.shape_test.specs.Links.{LinkFits}
use Rattle.shape_test.proofs.ChildPlaces.{at_start, behind_child}
use Rattle.shape_test.proofs.Childwise.{one_more, no_more}
use Rattle.shape_test.proofs.links.children_fit.Goals as goal

pub loop-label-preserved : goal.loop-label-preserved
loop-label-preserved c = record {
  so_far = behind_child c.loop-label.invariant.so_far c.in-Some.ensures.child c.in-Some.ensures.place c.from-from.ensures;
  fit = λ m k lt e. one_more c.args.arena.now c.args.id.0 c.loop-label.from (λ (n : ℕ) (l : Link). LinkFits (walks_of c.args.homes.now) c.args.id.0 (down n) l) c.loop-label.invariant.fit c.in-Some.label c.in-Some.link c.in-Some.ensures.child (c.link_fits.ensures.0 c.if-not-link_fits.false) m k (let f = c.from-from.ensures in omega (arith, f, lt)) e;
}

pub returns : goal.returns
returns c = (λ y. no_more c.args.arena.now c.args.id.0 c.loop-label.from (λ (n : ℕ) (l : Link). LinkFits (walks_of c.args.homes.now) c.args.id.0 (down n) l) c.loop-label.invariant.fit c.in_default.ensures.child, λ y. refl)

pub loop-label-init : goal.loop-label-init
loop-label-init c = record {
  so_far = at_start c.args.arena.now c.args.id.0;
  fit = λ m k lt e. absurd (omega (arith, lt));
}
