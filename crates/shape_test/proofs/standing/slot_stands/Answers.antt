use Rattle.std.proofs.Common.{sym}
use Rattle.shape_test.specs.Homes.{walks_of}
use Rattle.shape_test.proofs.MoveHomes.{stands_by_links}
use Rattle.shape_test.proofs.standing.slot_stands.Goals as goal

pub returns : goal.returns
returns g c = stands_by_links c.args.schema.now c.args.arena.now (walks_of c.args.homes.now) c.args.id.0 c.args.place c.links_fit.result (sym c.requires.place) (c.suits_place.ensures.0 c.if-not-suits_place.false) c.links_fit.ensures
