use Rattle.std.proofs.Common.{◌≡◌, get_or, ap, ◌∙◌, arith}
use Rattle.std.proofs.lemmas.List.{get_or_default}
use Rattle.shape_test.specs.Parts.{part_label}
use Rattle.shape_test.specs.declared.parts.Part.{Part}
use Rattle.shape_test.proofs.PartLists.{place_past}
use Rattle.shape_test.proofs.parts.end_of_label.Goals as goal

pub returns-else-parts-end-clause-place : goal.returns-else-parts-end-clause-place
returns-else-parts-end-clause-place c =
    let I = c.loop-end.invariant in
    place_past c.args.parts.now c.args.label c.args.at c.loop-end.end c.requires.ordered c.requires.place I.behind I.within I.same (λ d less e.
    let z : Part = record { label = 0; content = record { 0 = 0 } } in
    let n = c.if-parts-end.false in
    let s : (get_or c.args.parts.now c.loop-end.end z).label ≡ (get_or c.args.parts.now c.loop-end.end d).label = ap part_label (get_or_default c.args.parts.now c.loop-end.end z d less) in
    absurd (n (s ∙ e)))

pub returns-after-loop-end-clause-place : goal.returns-after-loop-end-clause-place
returns-after-loop-end-clause-place c =
    let I = c.loop-end.invariant in
    place_past c.args.parts.now c.args.label c.args.at c.loop-end.end c.requires.ordered c.requires.place I.behind I.within I.same (λ d less e. let t = c.loop-end-test.false in absurd (omega (arith, t, less)))
