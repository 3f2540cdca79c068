use Rattle.std.proofs.Common.{◌≡◌, Some, ◌∙◌, arith, rules}
use Rattle.shape_test.specs.Homes.{walks_of}
use Rattle.shape_test.specs.Owners.{owner_at}
use Rattle.shape_test.proofs.MoveHomes.{next_owned}
use Rattle.shape_test.proofs.places.place_after.Goals as goal

pub next_place-requires : goal.next_place-requires
next_place-requires c =
    let at : owner_at c.args.owners.now c.args.slot ≡ Some c.in-Some.owner = search rules in
    (next_owned c.args.schema.now c.args.arena.now c.args.owners.now (walks_of c.args.homes.now) c.requires.owners c.requires.homes c.args.places.now c.requires.places c.args.slot c.in-Some.owner c.get-2.result.now at (omega arith) c.get-2.ensures).0

pub returns : goal.returns
returns c =
    let at : owner_at c.args.owners.now c.args.slot ≡ Some c.in-Some.owner = search rules in
    c.next_place.ensures ∙ (next_owned c.args.schema.now c.args.arena.now c.args.owners.now (walks_of c.args.homes.now) c.requires.owners c.requires.homes c.args.places.now c.requires.places c.args.slot c.in-Some.owner c.get-2.result.now at (omega arith) c.get-2.ensures).1
