use Rattle.std.proofs.Common.{sym, subst}
use Rattle.shape_test.specs.Owners.{HasOwners}
use Rattle.shape_test.proofs.places.places_of.Goals as goal

pub places_by-requires : goal.places_by-requires
places_by-requires c = record {
  owners = subst (HasOwners c.args.arena.now) (sym c.as_slice.ensures.value) c.requires.owners;
  homes = c.requires.homes;
}
