use Rattle.std.proofs.Common.{◌≡◌, ℕ, cond, false, get_or, length, ◌+◌, ◌-◌, ◌<◌, ◌^◌, ◌∙◌, sym, ap, subst, arith}
use Rattle.std.specs.Coded.{le_prop}
use Rattle.std.proofs.Math.Logic.{∥∥₁_elim}
use Rattle.std.proofs.lemmas.Bool.{cond-true}
use Rattle.cube_view.proofs.Amounts.{none-anywhere}
use Rattle.cube_view.proofs.PointWeights.{IsBag-small}
use Rattle.cube_view.specs.Places.{next_dim}
use Rattle.cube_view.specs.declared.address.Address.{Address}
use Rattle.cube_view.specs.declared.schema.Schema.{Schema}
use Rattle.query_syntax.specs.Items.{HasNoneFrom}
use Rattle.query_walk.specs.Costs.{choices_from, rest_cost, choice_value_cost}
use Rattle.query_walk.proofs.CategoryCosts.{next_choice, no_choices, value_is}
use Rattle.query_walk.proofs.Sums.{sum_over-within, sum_upto-more}
use Rattle.query_walk.proofs.Sets as sets
use Rattle.query_walk.proofs.Valid.{asks_for, below_four, choices_next}
use Rattle.query_walk.proofs.categories.+walk.Goals.{total_in_set-then-has, total_in_set-else-has}
use Rattle.query_walk.proofs.categories.+walk.Goals as goal

pub total_at_value-returns-in_default-clause-total : goal.total_at_value-returns-in_default-clause-total
total_at_value-returns-in_default-clause-total g t c h counts =
    let z = g.V.CubeView.schema c.args.view.now in
    sets.none_at z c.args.query.now (g.V.CubeView.address c.args.view.now c.args.cursor) c.args.k h c.args.value (below_four z c.args.k c.requires.walk.category) c.requires.walk.here (c.in_default.ensures.found h counts)

pub total_at_value-total_from-requires-clause-choices : goal.total_at_value-total_from-requires-clause-choices
total_at_value-total_from-requires-clause-choices g t c κs within =
    let z = g.V.CubeView.schema c.args.view.now in
    choices_next z c.args.query.now c.args.k c.requires.walk.choices c.requires.walk.category

pub total_at_value-returns-in-None-clause-total : goal.total_at_value-returns-in-None-clause-total
total_at_value-returns-in-None-clause-total g t c h counts = none-anywhere _ h (c.in-None.ensures.found h counts)

pub total_from-returns-then-k-len-clause-total : goal.total_from-returns-then-k-len-clause-total
total_from-returns-then-k-len-clause-total g t c h counts =
    let count = ap (λ (y : Schema). length y.categories) c.schema.ensures in
    c.total_in_span.ensures.total h counts ∙ sets.time_left (g.V.CubeView.schema c.args.view.now) c.args.query.now (g.V.CubeView.address c.args.view.now c.args.cursor) c.args.k h c.requires.choices (c.if-k-len.true ∙ (c.len.ensures ∙ count))

pub total_from-total_from-requires-clause-choices : goal.total_from-total_from-requires-clause-choices
total_from-total_from-requires-clause-choices g t c κs within =
    let z = g.V.CubeView.schema c.args.view.now in
    let all = asks_for z c.args.query.now c.args.k _ c.schema.ensures c.len.ensures c.if-k-len.false c.requires.choices c.in-All.is in
    choices_next z c.args.query.now c.args.k c.requires.choices all.category

pub total_from-returns-in-Some-clause-total : goal.total_from-returns-in-Some-clause-total
total_from-returns-in-Some-clause-total g t c h counts =
    let z = g.V.CubeView.schema c.args.view.now in
    let all = asks_for z c.args.query.now c.args.k _ c.schema.ensures c.len.ensures c.if-k-len.false c.requires.choices c.in-All.is in
    c.total_from.ensures.total h counts ∙ sets.any_value z c.args.query.now (g.V.CubeView.address c.args.view.now c.args.cursor) c.args.k h _ c.in-Some.ensures.place.1 all

pub total_from-returns-in-Some-clause-cost : goal.total_from-returns-in-Some-clause-cost
total_from-returns-in-Some-clause-cost g t c h counts =
    let z = g.V.CubeView.schema c.args.view.now in
    let costs = g.V.CubeView.costs c.args.view.now in
    let all = asks_for z c.args.query.now c.args.k _ c.schema.ensures c.len.ensures c.if-k-len.false c.requires.choices c.in-All.is in
    let e = ap (λ cs. rest_cost costs z h cs (g.V.CubeView.address c.args.view.now c.args.cursor)) (next_choice z c.args.query.now c.args.k all) in
    let next = ap (λ (a : Address). rest_cost costs z h (choices_from z c.args.query.now (c.args.k + 1)) a) c.in-Some.ensures.place.1 in
    let rest = c.total_from.ensures.cost h counts in
    omega (arith, e, next, c.in-Some.ensures.cost, rest)

pub total_from-returns-in-None-clause-total : goal.total_from-returns-in-None-clause-total
total_from-returns-in-None-clause-total g t c h counts = none-anywhere _ h (c.in-None.ensures.found h counts)

pub total_from-returns-in-None-clause-cost : goal.total_from-returns-in-None-clause-cost
total_from-returns-in-None-clause-cost g t c h counts =
    let z = g.V.CubeView.schema c.args.view.now in
    let costs = g.V.CubeView.costs c.args.view.now in
    let all = asks_for z c.args.query.now c.args.k _ c.schema.ensures c.len.ensures c.if-k-len.false c.requires.choices c.in-All.is in
    let e = ap (λ cs. rest_cost costs z h cs (g.V.CubeView.address c.args.view.now c.args.cursor)) (next_choice z c.args.query.now c.args.k all) in
    omega (arith, e, c.in-None.ensures.cost)

pub total_from-returns-in-Only-clause-total : goal.total_from-returns-in-Only-clause-total
total_from-returns-in-Only-clause-total g t c h counts =
    let z = g.V.CubeView.schema c.args.view.now in
    let only = asks_for z c.args.query.now c.args.k _ c.schema.ensures c.len.ensures c.if-k-len.false c.requires.choices c.in-Only.is in
    c.total_in_set.ensures.total h counts ∙ sets.set_left z c.args.query.now (g.V.CubeView.address c.args.view.now c.args.cursor) c.args.k h _ only

pub total_from-returns-in-Only-clause-cost : goal.total_from-returns-in-Only-clause-cost
total_from-returns-in-Only-clause-cost g t c h counts =
    let z = g.V.CubeView.schema c.args.view.now in
    let costs = g.V.CubeView.costs c.args.view.now in
    let only = asks_for z c.args.query.now c.args.k _ c.schema.ensures c.len.ensures c.if-k-len.false c.requires.choices c.in-Only.is in
    let e = ap (λ cs. rest_cost costs z h cs (g.V.CubeView.address c.args.view.now c.args.cursor)) (next_choice z c.args.query.now c.args.k only) in
    let rest = c.total_in_set.ensures.cost h counts in
    omega (arith, e, rest)

pub total_from-returns-then-k-len-clause-cost : goal.total_from-returns-then-k-len-clause-cost
total_from-returns-then-k-len-clause-cost g t c h counts =
    let z = g.V.CubeView.schema c.args.view.now in
    let count = ap (λ (y : Schema). length y.categories) c.schema.ensures in
    let e = ap (λ cs. rest_cost (g.V.CubeView.costs c.args.view.now) z h cs (g.V.CubeView.address c.args.view.now c.args.cursor)) (no_choices z c.args.query.now c.args.k (c.if-k-len.true ∙ (c.len.ensures ∙ count))) in
    omega (arith, e, c.total_in_span.ensures.cost)

pub total_at_value-returns-in-Some-across-clause-cost : goal.total_at_value-returns-in-Some-across-clause-cost
total_at_value-returns-in-Some-across-clause-cost g t c h counts =
    let z = g.V.CubeView.schema c.args.view.now in
    let costs = g.V.CubeView.costs c.args.view.now in
    let cs = choices_from z c.args.query.now (c.args.k + 1) in
    let a = g.V.CubeView.address c.args.view.now c.args.cursor in
    let e = value_is costs z h cs a c.args.k c.args.value (below_four z c.args.k c.requires.walk.category) c.requires.walk.here (c.in-Some.ensures.found h counts) in
    let next = ap (λ (b : Address). rest_cost costs z h cs b) (c.in-Some-across.ensures.place.1 ∙ ap next_dim c.in-Some.ensures.place.1) in
    let rest = c.total_from.ensures.cost h counts in
    omega (arith, e, next, c.in-Some.ensures.cost, c.in-Some-across.ensures.cost, rest)

pub total_at_value-returns-in-None-clause-cost : goal.total_at_value-returns-in-None-clause-cost
total_at_value-returns-in-None-clause-cost g t c h counts =
    let z = g.V.CubeView.schema c.args.view.now in
    let e = value_is (g.V.CubeView.costs c.args.view.now) z h (choices_from z c.args.query.now (c.args.k + 1)) (g.V.CubeView.address c.args.view.now c.args.cursor) c.args.k c.args.value (below_four z c.args.k c.requires.walk.category) c.requires.walk.here (c.in-Some.ensures.found h counts) in
    omega (arith, e, c.in-Some.ensures.cost, c.in-None.ensures.cost)

pub total_in_set-loop-value-init : goal.total_in_set-loop-value-init
total_in_set-loop-value-init g t c = record { total = λ h counts. sets.below_none (g.V.CubeView.schema c.args.view.now) c.args.query.now (g.V.CubeView.address c.args.view.now c.args.cursor) c.args.k h c.args.set.now; cost = λ h counts. omega arith }

pub total_in_set-overflow_add-sum : goal.total_in_set-overflow_add-sum
total_in_set-overflow_add-sum g t c =
    let small : c.loop-value.sum + c.total_at_value-at_value.result < 2 ^ 64 = ∥∥₁_elim (g.met.V.CubeView.bag c.args.view.now).counted le_prop (λ p.
    let z = g.V.CubeView.schema c.args.view.now in
    let a = g.V.CubeView.address c.args.view.now c.args.cursor in
    let lt = below_four z c.args.k c.requires.walk.category in
    let e = sets.below_yes z c.args.query.now a c.args.k p.0 c.args.set.now c.loop-value.value lt c.requires.walk.here (sym c.has.ensures ∙ c.if-has.true) in
    let b = c.loop-value.invariant.total p.0 p.1 in
    let d = c.total_at_value-at_value.ensures.total p.0 p.1 in
    sets.sum_fits (sets.is_left_below z c.args.query.now a c.args.k c.args.set.now (c.loop-value.value + 1)) p.0 c.loop-value.sum c.total_at_value-at_value.result (omega (arith, e, b, d)) (IsBag-small _ _ (g.met.V.CubeView.bag c.args.view.now) p.0 p.1)) in
    omega (arith, small)

pub total_in_set-loop-value-preserved : goal.total_in_set-loop-value-preserved
total_in_set-loop-value-preserved g t c =
    let z = g.V.CubeView.schema c.args.view.now in
    let a = g.V.CubeView.address c.args.view.now c.args.cursor in
    let lt = below_four z c.args.k c.requires.walk.category in
    let cs = choices_from z c.args.query.now (c.args.k + 1) in
    record {
      total = λ h counts.
          let b = c.loop-value.invariant.total h counts in
          elim c.if-has.branch [
            | total_in_set-then-has w ↦ (let e = sets.below_yes z c.args.query.now a c.args.k h c.args.set.now c.loop-value.value lt c.requires.walk.here (sym c.has.ensures ∙ w.if-has.true) in let d = w.total_at_value-at_value.ensures.total h counts in omega (arith, e, b, d, w.sum-is))
            | total_in_set-else-has w ↦ (let e = sets.below_no z c.args.query.now a c.args.k h c.args.set.now c.loop-value.value (sym c.has.ensures ∙ w.if-has.false) in omega (arith, e, b, w.sum-is))
          ];
      cost = λ h counts.
          let cost = choice_value_cost (g.V.CubeView.costs c.args.view.now) z h cs a in
          let m = sum_upto-more (λ (v : ℕ). cond (get_or c.args.set.now v false) (cost v) 0) c.loop-value.value in
          let so_far = c.loop-value.invariant.cost h counts in
          elim c.if-has.branch [
            | total_in_set-then-has w ↦ (let k = cond-true (get_or c.args.set.now c.loop-value.value false) (cost c.loop-value.value) 0 (sym c.has.ensures ∙ w.if-has.true) in let step = w.total_at_value-at_value.ensures.cost h counts in omega (arith, m, k, so_far, step, w.steps-is))
            | total_in_set-else-has w ↦ omega (arith, m, so_far, w.steps-is)
          ];
    }

pub total_in_set-returns-clause-total : goal.total_in_set-returns-clause-total
total_in_set-returns-clause-total g t c h counts =
    let end : c.end-value-end.result ≡ c.loop-value.value = omega (arith, c.end-value-end.ensures.within) in
    c.loop-value.invariant.total h counts ∙ sets.below_all (g.V.CubeView.schema c.args.view.now) c.args.query.now (g.V.CubeView.address c.args.view.now c.args.cursor) c.args.k h c.args.set.now c.loop-value.value (subst (HasNoneFrom c.args.set.now) end c.end-value-end.ensures.none)

pub total_in_set-returns-clause-cost : goal.total_in_set-returns-clause-cost
total_in_set-returns-clause-cost g t c h counts =
    let z = g.V.CubeView.schema c.args.view.now in
    let cost = choice_value_cost (g.V.CubeView.costs c.args.view.now) z h (choices_from z c.args.query.now (c.args.k + 1)) (g.V.CubeView.address c.args.view.now c.args.cursor) in
    let wide = c.requires.wide in
    let within = sum_over-within c.args.set.now cost c.loop-value.value (omega (arith, wide, c.end-value-end.ensures.within)) in
    let so_far = c.loop-value.invariant.cost h counts in
    omega (arith, within, so_far)
