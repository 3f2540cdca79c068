use Rattle.std.proofs.Common.{ℕ, List, get_or, ap, arith}
use Rattle.cube_image.proofs.OrderFronts.{front-all, front-below, front-few}
use Rattle.cube_image.proofs.order.places_of.Goals as goal

pub returns-then-i-len-clause-within : goal.returns-then-i-len-clause-within
returns-then-i-len-clause-within g c =
    λ k d lt. front-below c.args.arena.now c.loop-i.places c.loop-i.i k d c.requires.homes c.requires.readable.rising c.loop-i.invariant lt

pub make_place-requires : goal.make_place-requires
make_place-requires g c = λ k d lt. front-below c.args.arena.now c.loop-i.places c.loop-i.i k d c.requires.homes c.requires.readable.rising c.loop-i.invariant lt

pub put_owned-requires : goal.put_owned-requires
put_owned-requires g c =
    let place = c.get-place.result.now in
    let below = front-below c.args.arena.now c.loop-i.places c.loop-i.i c.loop-i.i place c.requires.homes c.requires.readable.rising c.loop-i.invariant (omega arith) in
    let same = ap (λ (places : List ℕ). get_or places c.loop-i.i place) c.make_place.ensures in
    omega (arith, below, same, c.get-place.ensures)

pub returns-clause-order : goal.returns-clause-order
returns-clause-order g c =
    let few = front-few c.args.arena.now c.loop-i.places c.loop-i.i c.requires.homes c.requires.readable.rising c.loop-i.invariant in
    front-all c.args.arena.now c.loop-i.places c.loop-i.i c.loop-i.invariant (omega (arith, few))

pub returns-clause-within : goal.returns-clause-within
returns-clause-within g c =
    λ k d lt. front-below c.args.arena.now c.loop-i.places c.loop-i.i k d c.requires.homes c.requires.readable.rising c.loop-i.invariant lt
