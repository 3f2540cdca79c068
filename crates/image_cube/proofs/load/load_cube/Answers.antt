use Rattle.std.proofs.Common.{ℕ, sym, subst}
use Rattle.cube_store.specs.Counted.{HasPoints}
use Rattle.image_cube.proofs.CubeOfSlots.{has_points}
use Rattle.image_cube.proofs.CubeOfImage.{cube-of-image}
use Rattle.image_cube.proofs.load.load_cube.Goals as goal

pub of_slots-requires-clause-counted : goal.of_slots-requires-clause-counted
of_slots-requires-clause-counted c =
    subst (λ (r : ℕ). HasPoints c.args.schema c.in-Ok.arena r c.in-Ok.size) (sym c.in-Ok.ensures.0)
    (has_points c.size_laws.ensures.points c.args.schema c.in-Ok.arena c.in-Ok.size c.in-Ok.ensures.1.fits)

pub returns-in-Ok : goal.returns-in-Ok
returns-in-Ok c =
    cube-of-image c.image_parse_laws.ensures.one c.args.schema c.args.bytes c.in-Ok.arena c.in-Ok.root c.in-Ok.size c.in-Ok.ensures.1 c.in-Ok.ensures.0 c.of_slots.result c.of_slots.ensures.schema c.of_slots.ensures.slots
