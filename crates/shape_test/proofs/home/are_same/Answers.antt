use Rattle.std.proofs.Common.{refl}
use Rattle.std.proofs.lemmas.List.{same_lists}
use Rattle.std.proofs.Common.{arith}
use Rattle.shape_test.proofs.home.are_same.Goals as goal

pub returns : goal.returns
returns c = (λ y. same_lists c.args.a.now c.args.b.now c.requires (λ k d l. c.loop-i.invariant k d (let t = c.loop-i-test.false in omega (arith, l, t))), λ e. refl)
