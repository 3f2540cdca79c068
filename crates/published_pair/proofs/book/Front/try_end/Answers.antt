use Rattle.std.proofs.Common.{◌≡◌, length, sym, ◌∙◌, ap, ◌++◌, ◌∷◌, []}
use Rattle.published_pair.specs.Rules.{known}
use Rattle.published_pair.specs.declared.note.Note.TheVariants.{Ended}
use Rattle.published_pair.proofs.Histories.{end_added}
use Rattle.published_pair.proofs.book.Front.try_end.Goals as goal

pub invariant_of-result : goal.invariant_of-result
invariant_of-result c =
    let is : c.in-Some.seen.log ≡ c.self.inside.seen.log ++ Ended ∷ [] = c.in-Some.ensures.log ∙ (λ i. (c.again-seen.ensures i).log ++ c.plain-offer.ensures.1 i ∷ []) in
    let t = end_added _ _ c.self.invariant.2 is in
    (c.self.invariant.0 ∙ ap length (sym t.1), t.0)

pub returns : goal.returns
returns c =
    let is : c.in-Some.seen.log ≡ c.self.inside.seen.log ++ Ended ∷ [] = c.in-Some.ensures.log ∙ (λ i. (c.again-seen.ensures i).log ++ c.plain-offer.ensures.1 i ∷ []) in
    let points = (end_added _ _ c.self.invariant.2 is).1 in
    let book = c.in-Some.ensures.book ∙ ap (λ s. s.book) c.again-seen.ensures in
    (λ i. known (book i) (points i)) ∙ c.self.view_is
