use Rattle.shape_test.proofs.HomesOfOwners.{homes_more}
use Rattle.std.proofs.lemmas.Bool.{MatchBool-at_true}
use Rattle.shape_test.proofs.homes.homes_back.Goals as goal

pub loop-slot-preserved : goal.loop-slot-preserved
loop-slot-preserved c =
    let more = homes_more c.args.owners.now c.args.most c.loop-slot.slot c.loop-slot.homes c.add_home.new.homes c.loop-slot.invariant.size c.loop-slot.invariant.each (MatchBool-at_true _ _ c.if-not-branch.false c.in_ok-add_home.ensures) in
    record { size = more.0; each = more.1 }
