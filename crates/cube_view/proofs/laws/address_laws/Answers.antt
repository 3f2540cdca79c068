use Rattle.cube_view.proofs.AddressSpots.{steps_tell_spots}
use Rattle.cube_view.proofs.laws.address_laws.Goals as goal

pub returns : goal.returns
returns c = steps_tell_spots
