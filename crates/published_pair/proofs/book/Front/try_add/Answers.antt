use Rattle.std.proofs.Common.{◌≡◌, length, ◌∙◌, ap, arith, ◌++◌, ◌∷◌, [], length-append}
use Rattle.published_pair.specs.Notes.{noted_points}
use Rattle.published_pair.specs.Rules.{known}
use Rattle.published_pair.specs.declared.note.Note.TheVariants.{Published}
use Rattle.published_pair.proofs.Histories.{batch_added}
use Rattle.published_pair.proofs.book.Front.try_add.Goals as goal

pub invariant_of-result : goal.invariant_of-result
invariant_of-result c =
    let v = c.self.inside.seen.log in
    let b = c.args.batch.now.items in
    let is : c.in-Some.seen.log ≡ v ++ Published b ∷ [] = c.in-Some.ensures.log ∙ (λ i. (c.again-seen.ensures i).log ++ c.plain-offer.ensures.1 i ∷ []) in
    let t = batch_added _ _ b c.self.invariant.2 is in
    let points = ap length t.1 in
    let joined = length-append (noted_points v) b in
    let notes = ap length is in
    let one = length-append v (Published b ∷ []) in
    (omega (arith, points, joined, c.self.invariant.0, c.requires.size.0), omega (arith, notes, one, c.self.invariant.1), t.0, omega (arith, c.self.invariant.3, c.requires.size.1))

pub returns : goal.returns
returns c =
    let b = c.args.batch.now.items in
    let is : c.in-Some.seen.log ≡ c.self.inside.seen.log ++ Published b ∷ [] = c.in-Some.ensures.log ∙ (λ i. (c.again-seen.ensures i).log ++ c.plain-offer.ensures.1 i ∷ []) in
    let points = (batch_added _ _ b c.self.invariant.2 is).1 in
    let book = c.in-Some.ensures.book ∙ ap (λ s. s.book) c.again-seen.ensures in
    (λ i. known (book i) (points i)) ∙ ap (λ k. known k.book (k.points ++ b)) c.self.view_is
