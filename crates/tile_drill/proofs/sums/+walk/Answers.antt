use Rattle.std.proofs.Common.{◌≡◌, ℕ, cond, false, List, get_or, length, ◌+◌, ◌-◌, ◌∙◌, sym, ap, subst, arith}
use Rattle.std.proofs.lemmas.Bool.{cond-true}
use Rattle.cube_view.proofs.Amounts.{none-anywhere}
use Rattle.cube_view.specs.Places.{longer, next_dim}
use Rattle.cube_view.specs.declared.address.Address.{Address}
use Rattle.cube_view.specs.declared.schema.Schema.{Schema}
use Rattle.query_syntax.specs.Items.{HasNoneFrom}
use Rattle.query_syntax.specs.Parts.{with_span}
use Rattle.query_syntax.specs.declared.query.Choice.TheVariants.{All}
use Rattle.query_walk.specs.Costs.{choices_from, value_walk_cost, walk_cost}
use Rattle.query_walk.proofs.CategoryCosts.{next_choice, no_choices, set_within, value_walk_is}
use Rattle.query_walk.proofs.Sets.{none_at}
use Rattle.query_walk.proofs.Sums.{sum_upto-more}
use Rattle.query_walk.proofs.Valid.{asks_for, asks_there, below_four, choices_next}
use Rattle.tile_drill.specs.Costs.{ends_cost}
use Rattle.tile_drill.specs.Series.{row_at_value, row_left, row_span, GainsEach}
use Rattle.tile_drill.proofs.SumGains.{fits_after, fits_same, gains_more, gains_nothing, gains_same}
use Rattle.tile_drill.proofs.Rows.{any_row, row_all, row_below, row_no, row_none, row_within, row_yes, same_row, time_row}
use Rattle.tile_drill.proofs.sums.+walk.Goals.{add_in_set-then-has, add_in_set-else-has}
use Rattle.tile_drill.proofs.sums.+walk.Goals as goal

-- Where the categories end

pub add_from-add_rows-requires-clause-fits : goal.add_from-add_rows-requires-clause-fits
add_from-add_rows-requires-clause-fits g t c κs within h counts =
    let z = g.V.CubeView.schema c.args.view.now in
    let a = g.V.CubeView.address c.args.view.now c.args.cursor in
    let count = ap (λ (y : Schema). length y.categories) c.schema.ensures in
    fits_same (time_row z c.args.series.now h a c.args.k c.requires.choices (c.if-k-len.true ∙ (c.len.ensures ∙ count))) c.args.sums.now (c.requires.fits h counts)

pub add_from-returns-then-k-len-clause-sums : goal.add_from-returns-then-k-len-clause-sums
add_from-returns-then-k-len-clause-sums g t c h counts =
    let z = g.V.CubeView.schema c.args.view.now in
    let a = g.V.CubeView.address c.args.view.now c.args.cursor in
    let count = ap (λ (y : Schema). length y.categories) c.schema.ensures in
    gains_same (time_row z c.args.series.now h a c.args.k c.requires.choices (c.if-k-len.true ∙ (c.len.ensures ∙ count))) (c.add_rows.ensures.sums h counts)

pub add_from-returns-then-k-len-clause-cost : goal.add_from-returns-then-k-len-clause-cost
add_from-returns-then-k-len-clause-cost g t c h counts =
    let z = g.V.CubeView.schema c.args.view.now in
    let costs = g.V.CubeView.costs c.args.view.now in
    let s = c.args.series.now in
    let count = ap (λ (y : Schema). length y.categories) c.schema.ensures in
    let e = ap (λ cs. walk_cost costs z h (ends_cost costs (s.rows + 1)) cs (g.V.CubeView.address c.args.view.now c.args.cursor)) (no_choices z s.query c.args.k (c.if-k-len.true ∙ (c.len.ensures ∙ count))) in
    omega (arith, e, c.add_rows.ensures.cost)

-- All values of a category

pub add_from-add_from-requires-clause-choices : goal.add_from-add_from-requires-clause-choices
add_from-add_from-requires-clause-choices g t c κs within =
    let z = g.V.CubeView.schema c.args.view.now in
    let s = c.args.series.now in
    let all = asks_for z s.query c.args.k _ c.schema.ensures c.len.ensures c.if-k-len.false c.requires.choices c.in-All.is in
    choices_next z s.query c.args.k c.requires.choices all.category

pub add_from-add_from-requires-clause-fits : goal.add_from-add_from-requires-clause-fits
add_from-add_from-requires-clause-fits g t c κs within h counts =
    let z = g.V.CubeView.schema c.args.view.now in
    let s = c.args.series.now in
    let all = asks_for z s.query c.args.k _ c.schema.ensures c.len.ensures c.if-k-len.false c.requires.choices c.in-All.is in
    fits_same (any_row z s h (g.V.CubeView.address c.args.view.now c.args.cursor) c.args.k c.in-Some.ensures.place.1 all) c.args.sums.now (c.requires.fits h counts)

pub add_from-returns-in-Some-clause-sums : goal.add_from-returns-in-Some-clause-sums
add_from-returns-in-Some-clause-sums g t c h counts =
    let z = g.V.CubeView.schema c.args.view.now in
    let s = c.args.series.now in
    let all = asks_for z s.query c.args.k _ c.schema.ensures c.len.ensures c.if-k-len.false c.requires.choices c.in-All.is in
    gains_same (any_row z s h (g.V.CubeView.address c.args.view.now c.args.cursor) c.args.k c.in-Some.ensures.place.1 all) (c.add_from.ensures.sums h counts)

pub add_from-returns-in-Some-clause-cost : goal.add_from-returns-in-Some-clause-cost
add_from-returns-in-Some-clause-cost g t c h counts =
    let z = g.V.CubeView.schema c.args.view.now in
    let costs = g.V.CubeView.costs c.args.view.now in
    let s = c.args.series.now in
    let end = ends_cost costs (s.rows + 1) in
    let all = asks_for z s.query c.args.k _ c.schema.ensures c.len.ensures c.if-k-len.false c.requires.choices c.in-All.is in
    let e = ap (λ cs. walk_cost costs z h end cs (g.V.CubeView.address c.args.view.now c.args.cursor)) (next_choice z s.query c.args.k all) in
    let next = ap (λ (b : Address). walk_cost costs z h end (choices_from z s.query (c.args.k + 1)) b) c.in-Some.ensures.place.1 in
    let rest = c.add_from.ensures.cost h counts in
    omega (arith, e, next, c.in-Some.ensures.cost, rest)

pub add_from-returns-in-None-clause-sums : goal.add_from-returns-in-None-clause-sums
add_from-returns-in-None-clause-sums g t c h counts =
    gains_nothing h (row_left (g.V.CubeView.schema c.args.view.now) c.args.series.now (g.V.CubeView.address c.args.view.now c.args.cursor) c.args.k) (λ i. none-anywhere _ h (c.in-None.ensures.found h counts)) c.args.sums.now

pub add_from-returns-in-None-clause-cost : goal.add_from-returns-in-None-clause-cost
add_from-returns-in-None-clause-cost g t c h counts =
    let z = g.V.CubeView.schema c.args.view.now in
    let costs = g.V.CubeView.costs c.args.view.now in
    let s = c.args.series.now in
    let all = asks_for z s.query c.args.k _ c.schema.ensures c.len.ensures c.if-k-len.false c.requires.choices c.in-All.is in
    let e = ap (λ cs. walk_cost costs z h (ends_cost costs (s.rows + 1)) cs (g.V.CubeView.address c.args.view.now c.args.cursor)) (next_choice z s.query c.args.k all) in
    omega (arith, e, c.in-None.ensures.cost)

pub add_from-add_in_set-requires-clause-set : goal.add_from-add_in_set-requires-clause-set
add_from-add_in_set-requires-clause-set g t c κs within =
    let z = g.V.CubeView.schema c.args.view.now in
    let s = c.args.series.now in
    (asks_for z s.query c.args.k _ c.schema.ensures c.len.ensures c.if-k-len.false c.requires.choices c.in-Only.is).choice

-- Each value of a set

pub add_in_set-loop-value-init : goal.add_in_set-loop-value-init
add_in_set-loop-value-init g t c = record {
  sums = λ h counts.
      let z = g.V.CubeView.schema c.args.view.now in
      let s = c.args.series.now in
      let a = g.V.CubeView.address c.args.view.now c.args.cursor in
      gains_nothing h (row_below z s a c.args.k c.args.set.now 0) (row_none z s h a c.args.k c.args.set.now c.requires.walk c.requires.set) c.args.sums.now;
  cost = λ h counts. omega arith;
}

pub add_in_set-add_at_value-requires-clause-room : goal.add_in_set-add_at_value-requires-clause-room
add_in_set-add_at_value-requires-clause-room g t c κs within = record {
  ended = let e = c.requires.room.ended in omega (arith, e, c.loop-value.auto.ends);
  summed = let e = c.requires.room.summed in omega (arith, e, c.loop-value.auto.sums);
  small = c.requires.room.small;
}

pub add_in_set-add_at_value-requires-clause-fits : goal.add_in_set-add_at_value-requires-clause-fits
add_in_set-add_at_value-requires-clause-fits g t c κs within h counts =
    let z = g.V.CubeView.schema c.args.view.now in
    let a = g.V.CubeView.address c.args.view.now c.args.cursor in
    let s = c.args.series.now in
    let k = c.args.k in
    let v = c.loop-value.value in
    fits_after h (row_below z s a k c.args.set.now v) (row_at_value z s a k v) (row_left z s a k) c.args.sums.now c.loop-value.sums (c.loop-value.invariant.sums h counts)
    (row_within z s h a k c.args.set.now c.requires.walk c.requires.set v (sym c.has.ensures ∙ c.if-has.true)) (c.requires.fits h counts)

pub add_in_set-loop-value-preserved : goal.add_in_set-loop-value-preserved
add_in_set-loop-value-preserved g t c =
    let z = g.V.CubeView.schema c.args.view.now in
    let costs = g.V.CubeView.costs c.args.view.now in
    let a = g.V.CubeView.address c.args.view.now c.args.cursor in
    let s = c.args.series.now in
    let k = c.args.k in
    let v = c.loop-value.value in
    record {
      sums = λ h counts.
          let so_far = c.loop-value.invariant.sums h counts in
          elim c.if-has.branch [
            | add_in_set-then-has w ↦ subst (λ (now : List ℕ). GainsEach (row_below z s a k c.args.set.now (v + 1)) c.args.sums.now now h) (sym w.sums-is)
                (gains_more h (row_below z s a k c.args.set.now v) (row_at_value z s a k v) (row_below z s a k c.args.set.now (v + 1)) c.args.sums.now c.loop-value.sums so_far
                (row_yes z s h a k c.args.set.now c.requires.walk c.requires.set v (sym c.has.ensures ∙ w.if-has.true)) _ (w.add_at_value.ensures.sums h counts))
            | add_in_set-else-has w ↦ subst (λ (now : List ℕ). GainsEach (row_below z s a k c.args.set.now (v + 1)) c.args.sums.now now h) (sym w.sums-is)
                (gains_same (row_no z s h a k c.args.set.now c.requires.walk c.requires.set v (sym c.has.ensures ∙ w.if-has.false)) so_far)
          ];
      cost = λ h counts.
          let cost = value_walk_cost costs z h (ends_cost costs (s.rows + 1)) (choices_from z s.query (k + 1)) a in
          let m = sum_upto-more (λ (u : ℕ). cond (get_or c.args.set.now u false) (cost u) 0) v in
          let so_far = c.loop-value.invariant.cost h counts in
          elim c.if-has.branch [
            | add_in_set-then-has w ↦ (let e = cond-true (get_or c.args.set.now v false) (cost v) 0 (sym c.has.ensures ∙ w.if-has.true) in let step = w.add_at_value.ensures.cost h counts in omega (arith, m, e, so_far, step, w.steps-is))
            | add_in_set-else-has w ↦ omega (arith, m, so_far, w.steps-is)
          ];
    }

pub add_in_set-returns-clause-sums : goal.add_in_set-returns-clause-sums
add_in_set-returns-clause-sums g t c h counts =
    let z = g.V.CubeView.schema c.args.view.now in
    let a = g.V.CubeView.address c.args.view.now c.args.cursor in
    let s = c.args.series.now in
    let end : c.end-value-end.result ≡ c.loop-value.value = omega (arith, c.end-value-end.ensures.within) in
    gains_same (row_all z s h a c.args.k c.args.set.now c.requires.walk c.requires.set c.loop-value.value (subst (HasNoneFrom c.args.set.now) end c.end-value-end.ensures.none)) (c.loop-value.invariant.sums h counts)

pub add_in_set-returns-clause-cost : goal.add_in_set-returns-clause-cost
add_in_set-returns-clause-cost g t c h counts =
    let z = g.V.CubeView.schema c.args.view.now in
    let costs = g.V.CubeView.costs c.args.view.now in
    let s = c.args.series.now in
    let wide = c.requires.wide in
    let only = asks_there z s.query c.args.k c.requires.walk c.requires.set in
    let within = set_within costs z h (ends_cost costs (s.rows + 1)) s.query (g.V.CubeView.address c.args.view.now c.args.cursor) c.args.k c.args.set.now c.loop-value.value only (omega (arith, wide, c.end-value-end.ensures.within)) in
    let so_far = c.loop-value.invariant.cost h counts in
    omega (arith, within, so_far)

-- One value

pub add_at_value-returns-in_default-clause-sums : goal.add_at_value-returns-in_default-clause-sums
add_at_value-returns-in_default-clause-sums g t c h counts =
    let z = g.V.CubeView.schema c.args.view.now in
    let a = g.V.CubeView.address c.args.view.now c.args.cursor in
    let s = c.args.series.now in
    gains_nothing h (row_at_value z s a c.args.k c.args.value) (λ i. none_at z (with_span s.query (row_span s i)) a c.args.k h c.args.value (below_four z c.args.k c.requires.walk.category) c.requires.walk.here (c.in_default.ensures.found h counts)) c.args.sums.now

pub add_at_value-add_from-requires-clause-choices : goal.add_at_value-add_from-requires-clause-choices
add_at_value-add_from-requires-clause-choices g t c κs within = choices_next (g.V.CubeView.schema c.args.view.now) c.args.series.now.query c.args.k c.requires.walk.choices c.requires.walk.category

pub add_at_value-add_from-requires-clause-fits : goal.add_at_value-add_from-requires-clause-fits
add_at_value-add_from-requires-clause-fits g t c κs within h counts =
    let z = g.V.CubeView.schema c.args.view.now in
    let deeper = longer (g.V.CubeView.address c.args.view.now c.args.cursor) c.args.value in
    fits_same (same_row z c.args.series.now h (next_dim deeper) (c.args.k + 1) (c.in-Some-across.ensures.place.1 ∙ ap next_dim c.in-Some.ensures.place.1)) c.args.sums.now (c.requires.fits h counts)

pub add_at_value-returns-in-Some-across-clause-sums : goal.add_at_value-returns-in-Some-across-clause-sums
add_at_value-returns-in-Some-across-clause-sums g t c h counts =
    let z = g.V.CubeView.schema c.args.view.now in
    let deeper = longer (g.V.CubeView.address c.args.view.now c.args.cursor) c.args.value in
    gains_same (same_row z c.args.series.now h (next_dim deeper) (c.args.k + 1) (c.in-Some-across.ensures.place.1 ∙ ap next_dim c.in-Some.ensures.place.1)) (c.add_from.ensures.sums h counts)

pub add_at_value-returns-in-Some-across-clause-cost : goal.add_at_value-returns-in-Some-across-clause-cost
add_at_value-returns-in-Some-across-clause-cost g t c h counts =
    let z = g.V.CubeView.schema c.args.view.now in
    let costs = g.V.CubeView.costs c.args.view.now in
    let s = c.args.series.now in
    let end = ends_cost costs (s.rows + 1) in
    let cs = choices_from z s.query (c.args.k + 1) in
    let a = g.V.CubeView.address c.args.view.now c.args.cursor in
    let e = value_walk_is costs z h end cs a c.args.k c.args.value (below_four z c.args.k c.requires.walk.category) c.requires.walk.here (c.in-Some.ensures.found h counts) in
    let next = ap (λ (b : Address). walk_cost costs z h end cs b) (c.in-Some-across.ensures.place.1 ∙ ap next_dim c.in-Some.ensures.place.1) in
    let rest = c.add_from.ensures.cost h counts in
    omega (arith, e, next, c.in-Some.ensures.cost, c.in-Some-across.ensures.cost, rest)

pub add_at_value-returns-in-None-clause-sums : goal.add_at_value-returns-in-None-clause-sums
add_at_value-returns-in-None-clause-sums g t c h counts =
    gains_nothing h (row_at_value (g.V.CubeView.schema c.args.view.now) c.args.series.now (g.V.CubeView.address c.args.view.now c.args.cursor) c.args.k c.args.value) (λ i. none-anywhere _ h (c.in-None.ensures.found h counts)) c.args.sums.now

pub add_at_value-returns-in-None-clause-cost : goal.add_at_value-returns-in-None-clause-cost
add_at_value-returns-in-None-clause-cost g t c h counts =
    let z = g.V.CubeView.schema c.args.view.now in
    let costs = g.V.CubeView.costs c.args.view.now in
    let s = c.args.series.now in
    let e = value_walk_is costs z h (ends_cost costs (s.rows + 1)) (choices_from z s.query (c.args.k + 1)) (g.V.CubeView.address c.args.view.now c.args.cursor) c.args.k c.args.value (below_four z c.args.k c.requires.walk.category) c.requires.walk.here (c.in-Some.ensures.found h counts) in
    omega (arith, e, c.in-Some.ensures.cost, c.in-None.ensures.cost)
