use Rattle.std.proofs.Common.{◌<◌, length, get_or, arith}
use Rattle.shape_test.specs.declared.parts.Part.{Part}
use Rattle.shape_test.proofs.PartLists.{label_from, next_told, same_label}
use Rattle.shape_test.proofs.parts.next_label.Goals as goal
use Rattle.shape_test.proofs.parts.next_label.Goals.{then-at-below-2-via-then-at-below-2, then-at-below-2-via-else-at-below-2+then-own-i}

pub returns-then-i-own : goal.returns-then-i-own
returns-then-i-own c =
    let z : Part = record { label = 0; content = record { 0 = 0 } } in
    let there : c.args.at < length c.args.below.now = let n = c.if-at-below.false in omega (arith, n) in
    next_told c.args.from c.args.i c.args.at (get_or c.args.below.now c.args.at z).label c.args.own.now c.args.below.now c.requires.ordered.0 c.requires.ordered.1 c.requires.come (label_from c.args.below.now c.args.from c.args.at z c.requires.come.below_place there) (λ d less. let n = c.if-i-own.true in absurd (omega (arith, n, less))) (λ d less. let s = same_label c.args.below.now c.args.at z d less in omega (arith, s))

pub returns-then-at-below-2 : goal.returns-then-at-below-2
returns-then-at-below-2 c =
    let z : Part = record { label = 0; content = record { 0 = 0 } } in
    let there : c.args.i < length c.args.own.now = let n = c.if-i-own.false in omega (arith, n) in
    next_told c.args.from c.args.i c.args.at (get_or c.args.own.now c.args.i z).label c.args.own.now c.args.below.now c.requires.ordered.0 c.requires.ordered.1 c.requires.come (label_from c.args.own.now c.args.from c.args.i z c.requires.come.own_place there) (λ d less. let s = same_label c.args.own.now c.args.i z d less in omega (arith, s)) (λ d less. elim c.then-at-below-2.branch [
      | then-at-below-2-via-then-at-below-2 w ↦ let n = w.if-at-below-2.true in absurd (omega (arith, n, less))
      | then-at-below-2-via-else-at-below-2+then-own-i w ↦ let s = same_label c.args.below.now c.args.at z d less in let n = w.if-own-i.true in omega (arith, s, n)
    ])

pub returns : goal.returns
returns c =
    let z : Part = record { label = 0; content = record { 0 = 0 } } in
    let there : c.args.at < length c.args.below.now = let n = c.if-at-below-2.false in omega (arith, n) in
    let n = c.if-own-i.false in
    next_told c.args.from c.args.i c.args.at (get_or c.args.below.now c.args.at z).label c.args.own.now c.args.below.now c.requires.ordered.0 c.requires.ordered.1 c.requires.come (label_from c.args.below.now c.args.from c.args.at z c.requires.come.below_place there) (λ d less. let s = same_label c.args.own.now c.args.i z d less in omega (arith, s, n)) (λ d less. let s = same_label c.args.below.now c.args.at z d less in omega (arith, s))
