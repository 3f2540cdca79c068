use Rattle.std.proofs.Common.{◌≡◌, ◌<◌, Bool, true, false, List, length, ap, subst, arith, refl, MatchBool}
use lib.Dec.{leb}
use Rattle.std.proofs.lemmas.Bool.{leb-true, leb-false}
use Rattle.cube_view.specs.Points.{Point}
use mathlib.Core.List.{IsPrefix as IsFront}
use Rattle.world_core.specs.PairFact.{IsPrefix}
use Rattle.published_pair.specs.declared.note.Note.{Note}
use Rattle.published_pair.proofs.Prefixes.{prefix_of, prefix_shorter}
use Rattle.published_pair.proofs.Histories.{points_prefix}
use Rattle.published_pair.proofs.book.Front.goes_on.Goals as goal

by_length : (xs ys both : List Point) (m n : _) → m ≡ length xs → n ≡ length ys → IsPrefix xs both → IsPrefix ys both → (b : Bool) → leb m n ≡ b
    → MatchBool b (IsPrefix xs ys) (length ys < length xs)
by_length xs ys both m n i j p q true e = prefix_shorter xs ys both p q (let le = leb-true m n e in omega (arith, le))
by_length xs ys both m n i j p q false e = let lt = leb-false m n e in omega (arith, lt)

pub returns : goal.returns
returns c =
    let both = c.learn.new.self.log in
    let this : IsFront c.self.inside.seen.log both = subst (λ (l : List Note). IsFront l both) (ap (λ s. s.log) c.again-both.ensures) c.learn.ensures.2 in
    let p = points_prefix c.older.inside.seen.log both (prefix_of _ _ c.learn.ensures.3) in
    let q = points_prefix c.self.inside.seen.log both (prefix_of _ _ this) in
    rw (← c.self.view_is, ← c.older.view_is) (by_length _ _ _ c.older.inside.count c.self.inside.count c.older.invariant.0 c.self.invariant.0 p q _ refl)
