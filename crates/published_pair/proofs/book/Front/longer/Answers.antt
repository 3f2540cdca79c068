use Rattle.std.proofs.Common.{◌≤◌, ap, subst, arith, length, List}
use mathlib.Core.List.{IsPrefix as IsFront}
use Rattle.published_pair.specs.Notes.{noted_points}
use Rattle.published_pair.specs.declared.note.Note.{Note}
use Rattle.published_pair.proofs.Prefixes.{prefix_of, prefix_shorter}
use Rattle.published_pair.proofs.Histories.{points_prefix}
use Rattle.published_pair.proofs.book.Front.longer.Goals as goal

pub returns-then-self-other-clause-this : goal.returns-then-self-other-clause-this
returns-then-self-other-clause-this c =
    let both = c.learn.new.self.log in
    let this : IsFront c.self.inside.seen.log both = subst (λ (l : List Note). IsFront l both) (ap (λ s. s.log) c.again-both.ensures) c.learn.ensures.2 in
    let less : length (noted_points c.self.inside.seen.log) ≤ length (noted_points c.other.inside.seen.log) = omega (arith, c.self.invariant.0, c.other.invariant.0) in
    let p = points_prefix c.self.inside.seen.log both (prefix_of _ _ this) in
    let q = points_prefix c.other.inside.seen.log both (prefix_of _ _ c.learn.ensures.3) in
    rw (← c.self.view_is, ← c.other.view_is) (prefix_shorter _ _ _ p q less)

pub returns-else-self-other-clause-that : goal.returns-else-self-other-clause-that
returns-else-self-other-clause-that c =
    let both = c.learn.new.self.log in
    let this : IsFront c.self.inside.seen.log both = subst (λ (l : List Note). IsFront l both) (ap (λ s. s.log) c.again-both.ensures) c.learn.ensures.2 in
    let less : length (noted_points c.other.inside.seen.log) ≤ length (noted_points c.self.inside.seen.log) = omega (arith, c.self.invariant.0, c.other.invariant.0) in
    let p = points_prefix c.self.inside.seen.log both (prefix_of _ _ this) in
    let q = points_prefix c.other.inside.seen.log both (prefix_of _ _ c.learn.ensures.3) in
    rw (← c.self.view_is, ← c.other.view_is) (prefix_shorter _ _ _ q p less)
