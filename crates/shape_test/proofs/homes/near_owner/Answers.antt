use Rattle.std.proofs.Common.{◌≡◌, ◌<◌, [], length, get_or, Some, ap, arith, rules}
use Rattle.std.proofs.lemmas.List.{get_or_read}
use Rattle.shape_test.specs.Owners.{owner_at}
use Rattle.shape_test.proofs.homes.near_owner.Goals as goal

pub overflow_cast-by : goal.overflow_cast-by
overflow_cast-by c =
    let at : owner_at c.args.owners.now c.args.slot ≡ Some c.in-Some.owner = search rules in
    let w = c.requires.within c.args.slot c.in-Some.owner at in
    let s = c.ranges.slot.fits in
    omega arith

pub returns : goal.returns
returns c =
    let at : owner_at c.args.owners.now c.args.slot ≡ Some c.in-Some.owner = search rules in
    let by : c.in-Some.owner.by.0 < length c.args.homes.now = omega arith in
    let above : c.get.result.now ≡ get_or c.args.homes.now c.in-Some.owner.by.0 [] = get_or_read c.args.homes.now c.in-Some.owner.by.0 c.get.result.now by c.get.ensures [] in
    let len = ap length above in
    record { noted = at; first = by; room = omega (arith, len) }
