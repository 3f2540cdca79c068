use Rattle.std.proofs.Common.{refl, sym, ◌∙◌}
use Rattle.cube_view.specs.Walks.{down}
use Rattle.shape_test.specs.Homes.{walks_of}
use Rattle.shape_test.proofs.Childwise.{with_content, without_content}
use Rattle.shape_test.proofs.links.links_fit.Goals as goal

pub returns-then-not-children_fit : goal.returns-then-not-children_fit
returns-then-not-children_fit g c = (λ y. absurd cc, λ F. let e = c.children_fit.ensures.1 (λ n l x. F (down n) l x) in let f = c.if-not-children_fit.true in absurd cc)

pub returns-in-Some : goal.returns-in-Some
returns-in-Some g c = with_content c.args.arena.now (walks_of c.args.homes.now) c.args.id.0 c.in-Some.link c.link_fits.result (c.children_fit.ensures.0 c.if-not-children_fit.false) (sym c.content.ensures.link ∙ c.in-Some.is) c.link_fits.ensures

pub returns-in-None : goal.returns-in-None
returns-in-None g c = (λ y. without_content c.args.arena.now (walks_of c.args.homes.now) c.args.id.0 (c.children_fit.ensures.0 c.if-not-children_fit.false) (sym c.content.ensures.link ∙ c.in-None.is), λ F. refl)
