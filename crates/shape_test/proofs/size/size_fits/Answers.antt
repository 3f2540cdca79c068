use Rattle.shape_test.specs.Fits.{slots_bag}
use Rattle.shape_test.specs.Homes.{walks_of}
use Rattle.shape_test.proofs.size.size_fits.Goals as goal

pub returns : goal.returns
returns g c = c.is_size.ensures (slots_bag c.args.schema.now c.args.arena.now (walks_of c.args.homes.now)) c.bag_size.ensures
