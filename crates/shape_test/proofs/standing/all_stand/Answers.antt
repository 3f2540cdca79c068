use Rattle.std.proofs.Common.{arith}
use Rattle.std.proofs.lemmas.List.{length-map}
use Rattle.shape_test.specs.Homes.{walk_of, walks_of}
use Rattle.shape_test.proofs.MoveHomes.{kept_place}
use Rattle.shape_test.proofs.standing.all_stand.Goals as goal

pub slot_stands-requires-clause-place : goal.slot_stands-requires-clause-place
slot_stands-requires-clause-place g c = kept_place c.args.schema.now (walks_of c.args.homes.now) c.args.places.now c.loop-i.i c.get-place.result.now c.requires.places (let h = length-map c.args.homes.now walk_of in let s = c.requires.homes in omega (arith, h, s)) c.get-place.ensures
