use Rattle.std.proofs.Common.{◌≡◌, List, length, Some, length-append, ap, sym, subst, arith, rules}
use Rattle.shape_test.specs.Owners.{LeadsBack, owner_at}
use Rattle.shape_test.specs.declared.home.Move.{Move}
use Rattle.shape_test.proofs.HomesOfOwners.{back_more}
use Rattle.shape_test.proofs.homes.home_back.Goals as goal

pub loop-last-preserved : goal.loop-last-preserved
loop-last-preserved c =
    let at : owner_at c.args.owners.now c.loop-last.last ≡ Some c.in-Some.owner = search rules in
    let added = c.in_ok-add.ensures.added in
    let n = ap length added in
    record {
      within = c.requires.within c.loop-last.last c.in-Some.owner at;
      back = subst (λ (h : List Move). LeadsBack c.args.owners.now c.args.slot h c.in-Some.owner.by.0) (sym added) (back_more c.args.owners.now c.args.slot c.loop-last.home c.loop-last.last c.in-Some.owner.by.0 c.in-Some.owner.step c.loop-last.invariant.back at);
      short = omega (arith, n, length-append {A = Move});
    }
