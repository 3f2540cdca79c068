use Rattle.std.proofs.Common.{ap, subst, List}
use mathlib.Core.List.{IsPrefix as IsFront}
use Rattle.world_core.specs.PairFact.{IsPrefix}
use Rattle.published_pair.specs.Notes.{batches_of}
use Rattle.published_pair.specs.declared.note.Note.{Note}
use Rattle.published_pair.proofs.Prefixes.{prefix_of}
use Rattle.published_pair.proofs.Histories.{covered, points_whole}
use Rattle.published_pair.proofs.book.Whole.covers.Goals as goal

pub returns : goal.returns
returns c =
    let log = c.self.inside.seen.log in
    let both = c.learn.new.self.log in
    let this : IsFront log both = subst (λ (l : List Note). IsFront l both) (ap (λ s. s.log) c.again-both.ensures) c.learn.ensures.2 in
    let p = covered (batches_of log) c.front.inside.seen.log both (prefix_of _ _ c.learn.ensures.3) (subst (λ (l : List Note). IsPrefix l both) c.self.invariant.1 (prefix_of _ _ this)) c.learn.ensures.4.1.ends in
    rw (← c.self.view_is, ← c.front.view_is) (points_whole log c.front.inside.seen.log c.self.invariant.1 p)
