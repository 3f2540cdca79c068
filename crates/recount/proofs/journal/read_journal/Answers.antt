use Rattle.std.proofs.Common.{List, [], ◌∷◌, refl, sym, subst}
use Rattle.cube_view.specs.Points.{Point}
use Rattle.recount.proofs.JournalEntries.{SoFar, zero_at, so_far_none, so_far_push}
use Rattle.recount.proofs.journal.read_journal.Goals as goal

pub lines-init : goal.lines-init
lines-init c =
    let zeros = 0 ∷ 0 ∷ 0 ∷ 0 ∷ 0 ∷ 0 ∷ 0 ∷ 0 ∷ [] in
    subst (λ (l : List Point). SoFar c.args.schema.now c.args.feeders c.args.journal.now l zeros c.args.journal.now) (sym c.new-points.ensures.items)
    (so_far_none c.args.schema.now c.args.feeders c.args.journal.now zeros (zero_at zeros (refl, (refl, (refl, (refl, (refl, (refl, (refl, (refl, tt))))))))))

pub lines-preserved : goal.lines-preserved
lines-preserved c =
    let s = c.lines.invariant in
    let next = c.in-Some.ensures.some in
    subst (λ (l : List Point). SoFar c.args.schema.now c.args.feeders c.args.journal.now l c.take_number.new.counts c.in-Some.next.rest.now) (sym c.in_ok-push.ensures.items)
    (so_far_push c.args.schema.now c.args.feeders c.args.journal.now c.lines.points.items c.lines.counts c.take_number.new.counts c.lines.rest.now c.in-Some.next.rest.now c.in-Some.next.entry s next.0 next.1
    (c.if-not-take_number.ensures s.before s.counted))
