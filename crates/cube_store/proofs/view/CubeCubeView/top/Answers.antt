use Rattle.std.proofs.Common.{ap, sym, subst, Some}
use Rattle.cube_view.specs.Places.{top_address}
use Rattle.cube_view.specs.declared.address.Address.{Address}
use Rattle.cube_store.specs.Reading.{StandsAt}
use Rattle.cube_store.proofs.PointLists.{root_of_points}
use Rattle.cube_store.proofs.AddressSteps.{walked-top}
use Rattle.cube_store.proofs.view.CubeCubeView.top.Goals as goal

pub returns-clause-stands : goal.returns-clause-stands
returns-clause-stands c =
    let at_top : StandsAt c.args.self.now.schema c.args.self.now.arena c.args.self.now.root.0 top_address =
    record {
      walked = walked-top c.args.self.now.schema;
      reached = ap Some (sym (root_of_points _ _ _ _ c.args.self.now.counted));
    } in
    subst (λ (a : Address). StandsAt c.args.self.now.schema c.args.self.now.arena c.args.self.now.root.0 a) (sym c.top.ensures) at_top
