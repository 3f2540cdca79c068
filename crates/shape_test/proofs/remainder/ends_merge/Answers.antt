use Rattle.std.proofs.Common.{◌∙◌, arith}
use Rattle.shape_test.proofs.RowRemainders.{whole_amount}
use Rattle.shape_test.proofs.remainder.ends_merge.Goals as goal

pub returns-then-not-branch : goal.returns-then-not-branch
returns-then-not-branch g c = (
  λ no. absurd cc,
  λ all.
      let yes = c.in_ok-take_ends.ensures.all (λ bin. let a = whole_amount c.args.arena.now c.args.whole.now c.as_mut_slice-left.result.now bin c.requires.one (c.as_mut_slice-left.ensures.value ∙ c.in_ok-read_whole.ensures.rows) in let s = all bin in omega (arith, a, s)) in
      let no = c.if-not-branch.true in
      absurd cc,
)

pub returns : goal.returns
returns g c = (
  λ y bin.
      let a = whole_amount c.args.arena.now c.args.whole.now c.as_mut_slice-left.result.now bin c.requires.one (c.as_mut_slice-left.ensures.value ∙ c.in_ok-read_whole.ensures.rows) in
      let t = c.in_ok-take_ends.ensures.left c.if-not-branch.false bin in
      let none = c.are_spent.ensures.0 y bin in
      omega (arith, a, t, none),
  λ all. c.are_spent.ensures.1 (λ bin.
      let a = whole_amount c.args.arena.now c.args.whole.now c.as_mut_slice-left.result.now bin c.requires.one (c.as_mut_slice-left.ensures.value ∙ c.in_ok-read_whole.ensures.rows) in
      let t = c.in_ok-take_ends.ensures.left c.if-not-branch.false bin in
      let s = all bin in
      omega (arith, a, t, s)),
)
