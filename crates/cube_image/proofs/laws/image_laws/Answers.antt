use Rattle.cube_image.proofs.CubeSlots.{can_write, cube_in_order}
use Rattle.cube_image.proofs.TargetNumbers.{numbered}
use Rattle.cube_image.proofs.OneOrder.{one_image}
use Rattle.cube_image.proofs.OwnImage.{own_image}
use Rattle.cube_image.proofs.laws.image_laws.Goals as goal

pub returns-clause-writable : goal.returns-clause-writable
returns-clause-writable c = λ schema slots root size has. can_write schema slots root size has

pub returns-clause-one : goal.returns-clause-one
returns-clause-one c = λ slots homes rising size bytes again a b. one_image slots homes rising size bytes again a b

pub returns-clause-numbers : goal.returns-clause-numbers
returns-clause-numbers c = λ slots homes rising places ordered. numbered slots homes rising places ordered

pub returns-clause-own : goal.returns-clause-own
returns-clause-own c = λ slots readable numbers size. own_image slots readable numbers size

pub returns-clause-whole : goal.returns-clause-whole
returns-clause-whole c = λ schema slots root size has rising places ordered. cube_in_order schema slots root size has rising places ordered
