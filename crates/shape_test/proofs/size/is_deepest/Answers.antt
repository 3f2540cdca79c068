use Rattle.shape_test.specs.Homes.{walk_of}
use Rattle.shape_test.proofs.Whole.{at_place, past_levels}
use Rattle.shape_test.proofs.size.is_deepest.Goals as goal

pub returns-in-Some : goal.returns-in-Some
returns-in-Some c = at_place c.args.schema.now (walk_of c.args.home.now) c.in-Some.place c.deepest.result c.in-Some.ensures.told c.deepest.ensures.deepest

pub returns-in-None : goal.returns-in-None
returns-in-None c = past_levels c.args.schema.now (walk_of c.args.home.now) c.in-None.ensures.told c.requires
