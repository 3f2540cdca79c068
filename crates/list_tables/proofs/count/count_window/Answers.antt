-- A point adds its weight where it is in the window, and nothing elsewhere.
use Rattle.std.proofs.Common.{◌≡◌, ◌+◌, ◌∙◌, ◌&&◌, Bool, false, ap, sym, arith}
use Rattle.std.specs.Cmp.Derive.{both_true}
use Rattle.std.proofs.lemmas.Bool.{and_right}
use Rattle.cube_view.proofs.Amounts.{amount-nil, amount-gain, amount-skip, amount-take, amount-within}
use Rattle.query_syntax.specs.Windows.{is_in_window}
use Rattle.list_tables.proofs.count.count_window.Goals.{then-has_place+then-is_asked, else-has_place, else-has_place-via-then-has_place+else-is_asked, else-has_place-via-else-has_place}
use Rattle.list_tables.proofs.count.count_window.Goals as goal

-- two tests of which the first fails
first_fails : (a b : Bool) → a ≡ false → (a && b) ≡ false
first_fails a b e = ap (λ t. t && b) e

pub loop-point-init : goal.loop-point-init
loop-point-init c = sym (amount-nil _)

pub overflow_add-sum : goal.overflow_add-sum
overflow_add-sum c =
    let q = is_in_window c.args.query.now c.args.rect.now in
    let h = c.args.points.now in
    let i = c.loop-point.point-index in
    let gain = amount-gain q h i _ c.loop-point-test.true (both_true (sym c.has_place.ensures ∙ c.if-has_place.true) (sym c.is_asked.ensures ∙ c.if-is_asked.true)) in
    let up = amount-take q h (i + 1) in
    let most = amount-within q h in
    omega (arith, gain, up, most, c.requires, c.loop-point.invariant, c.from-sum.ensures)

pub loop-point-preserved : goal.loop-point-preserved
loop-point-preserved c =
    let q = is_in_window c.args.query.now c.args.rect.now in
    let h = c.args.points.now in
    let i = c.loop-point.point-index in
    elim c.if-has_place.branch [
      | then-has_place+then-is_asked w ↦
          (let gain = amount-gain q h i _ c.loop-point-test.true (both_true (sym c.has_place.ensures ∙ w.if-has_place.true) (sym w.is_asked.ensures ∙ w.if-is_asked.true)) in
          omega (arith, gain, c.loop-point.invariant, w.from-sum.ensures, w.sum-is))
      | else-has_place w ↦ elim w.else-has_place.branch [
        | else-has_place-via-then-has_place+else-is_asked v ↦
            (let skip = amount-skip q h i _ c.loop-point-test.true (and_right _ _ (sym v.is_asked.ensures ∙ v.if-is_asked.false)) in
            omega (arith, skip, c.loop-point.invariant, w.sum-is))
        | else-has_place-via-else-has_place v ↦
            (let skip = amount-skip q h i _ c.loop-point-test.true (first_fails _ _ (sym c.has_place.ensures ∙ v.if-has_place.false)) in
            omega (arith, skip, c.loop-point.invariant, w.sum-is))
      ]
    ]
