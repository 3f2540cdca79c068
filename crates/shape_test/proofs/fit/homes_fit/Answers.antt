use Rattle.std.proofs.lemmas.Option.{MatchOption-at_none}
use Rattle.shape_test.specs.Homes.{walks_of}
use Rattle.shape_test.proofs.FitSlots.{unplaced}
use Rattle.shape_test.proofs.fit.homes_fit.Goals as goal

pub places_of-requires : goal.places_of-requires
places_of-requires g c = record { owners = c.requires.owners; homes = c.requires.homes.owned }

pub returns : goal.returns
returns g c = (λ y. absurd cc, λ F. absurd (unplaced c.args.schema.now c.args.arena.now c.requires.testable.counted c.requires.testable.rising (walks_of c.args.found.homes) c.args.size c.requires.homes.owned (MatchOption-at_none _ _ c.in-None.is c.in_ok-places.ensures) F))
