-- What the rows of a table cost, one after the other.
use Rattle.std.proofs.Common.{◌≡◌, ℕ, ◌+◌, ◌<◌, ◌≤◌, Bool, true, ltb, List, length, ◌∙◌, ap, arith}
use Rattle.std.proofs.lemmas.Bool.{lt-ltb}
use Rattle.cube_view.specs.Bag.{amount, anywhere}
use Rattle.cube_view.specs.Costs.{ViewCosts, cost_if, is_found}
use Rattle.cube_view.specs.Places.{next_dim, region_address}
use Rattle.cube_view.specs.Points.{Point}
use Rattle.cube_view.specs.declared.schema.Schema.{Schema}
use Rattle.query_syntax.specs.Items.{values_at}
use Rattle.query_syntax.specs.Parts.{with_one_value}
use Rattle.query_syntax.specs.declared.query.Query.{Query}
use Rattle.query_walk.specs.Costs.{choices_from, from_region_cost, region_cost, sum_upto, walk_cost}
use Rattle.query_walk.proofs.Sums.{sum_upto-more, sum_upto-rises}
use Rattle.tile_drill.specs.Costs.{bins_cost, ends_cost, values_cost}

-- What the values of a category cost

module _ (costs : ViewCosts) (z : Schema) (h : List Point) (q : Query) (k : ℕ) where
  -- the walk from the region on with value v alone
  abbrev pub value_cost : ℕ → ℕ
  value_cost v = from_region_cost costs z h (with_one_value q k v)

  -- one value more
  pub value_paid : (p v start old new : ℕ) → p ≡ k → old ≤ start + sum_upto value_cost v → new ≤ old + from_region_cost costs z h (with_one_value q p v) → new ≤ start + sum_upto value_cost (v + 1)
  value_paid p v start old new at so_far step =
      let m = sum_upto-more value_cost v in
      let e = ap (λ (j : ℕ). from_region_cost costs z h (with_one_value q j v)) at in
      omega (arith, m, e, so_far, step)

  -- no more than all values, after the walk to the region
  pub values_paid : (values : List (List ℕ)) (v start mid new : ℕ) → values ≡ values_at z.categories k → v ≤ length values → mid ≤ start + region_cost costs z h q → new ≤ mid + sum_upto value_cost v → new ≤ start + values_cost costs z h q k
  values_paid values v start mid new same le space so_far =
      let count = ap length same in
      let r = sum_upto-rises value_cost v (length (values_at z.categories k)) (omega (arith, le, count)) in
      omega (arith, r, space, so_far)

-- What a series costs

module _ (costs : ViewCosts) (z : Schema) (h : List Point) (q : Query) (rows : ℕ) where
  abbrev series_way : Bool → Bool → ℕ
  series_way found any = region_cost costs z h q + cost_if found (1 + cost_if any (walk_cost costs z h (ends_cost costs (rows + 1)) (choices_from z q 0) (next_dim (region_address q.region))))

  module _ (found : is_found z h q.region ≡ true) where
    -- a walk that ends at the step across from the region
    pub series_found : region_cost costs z h q + 1 ≤ bins_cost costs z h q rows
    series_found = let e = ap (λ (b : Bool). series_way b (ltb 0 (amount anywhere h))) found in omega (arith, e)

    -- a walk to its ends
    pub series_across : 0 < amount anywhere h → region_cost costs z h q + (1 + walk_cost costs z h (ends_cost costs (rows + 1)) (choices_from z q 0) (next_dim (region_address q.region))) ≤ bins_cost costs z h q rows
    series_across any =
        let e = ap (λ (b : Bool). series_way b (ltb 0 (amount anywhere h))) found ∙ ap (λ (b : Bool). series_way true b) (lt-ltb 0 (amount anywhere h) any) in
        omega (arith, e)
