-- What the tiles of a map cost, quadrant by quadrant.
use Rattle.std.proofs.Common.{◌≡◌, ℕ, suc, ◌+◌, ◌*◌, ◌<◌, ◌≤◌, Bool, true, ltb, List, length, sym, ◌∙◌, ap, subst, arith}
use Rattle.std.proofs.Math.Nat.{add-mul, mul-le-mul_right}
use Rattle.std.proofs.lemmas.Bool.{lt-ltb}
use Rattle.cube_view.proofs.StepCosts.{cost_if-true, has_spot-quadrant}
use Rattle.cube_view.specs.Bag.{amount}
use Rattle.cube_view.specs.Costs.{ViewCosts, is_found, cost_if}
use Rattle.cube_view.specs.Places.{is_below, longer_tile, region_address}
use Rattle.cube_view.specs.Points.{Point}
use Rattle.cube_view.specs.declared.address.Address.{Address}
use Rattle.cube_view.specs.declared.address.Tile.{Tile}
use Rattle.cube_view.specs.declared.schema.Schema.{Schema}
use Rattle.query_syntax.specs.declared.query.Query.{Query}
use Rattle.query_walk.specs.Costs.{sum_upto, areas_cost, map_cost, quadrant_cost, region_cost}
use Rattle.query_walk.proofs.Sums.{sum_upto-more, sum_upto-rises}

module _ (costs : ViewCosts) (z : Schema) (h : List Point) (q : Query) (n : ℕ) (t : Tile) where
  abbrev each : ℕ → ℕ
  each l = quadrant_cost costs z h q n t l

  -- what the quadrants with labels under l cost, with the downs to them
  abbrev paid : ℕ → ℕ
  paid l = l * costs.down_cost (region_address t) + sum_upto each l

  paid_more : (l : ℕ) → paid (l + 1) ≡ paid l + (costs.down_cost (region_address t) + each l)
  paid_more l =
      let m = sum_upto-more each l in
      let a = add-mul l 1 (costs.down_cost (region_address t)) in
      omega (arith, m, a)

  quadrant_with_point : (l : ℕ) (a : Address) (below : Tile) → t.z < z.depth → a ≡ region_address t → below ≡ longer_tile 1 t l → 0 < amount (is_below z a l) h → areas_cost costs z h q n below ≡ each l
  quadrant_with_point l a below deep at is some =
      let has = has_spot-quadrant z t l h deep (subst (λ (b : Address). 0 < amount (is_below z b l) h) at some) in
      ap (areas_cost costs z h q n) is ∙ sym (ap (λ b. cost_if b (areas_cost costs z h q n (longer_tile 1 t l))) has)

  -- a quadrant that was gone through
  pub paid_through : (l : ℕ) (a : Address) (below : Tile) (start old mid new : ℕ) → t.z < z.depth → a ≡ region_address t → below ≡ longer_tile 1 t l → 0 < amount (is_below z a l) h → old ≤ start + paid l → mid ≤ old + costs.down_cost a → new ≤ mid + areas_cost costs z h q n below → new ≤ start + paid (l + 1)
  paid_through l a below start old mid new deep at is some before_it step inner =
      let e = quadrant_with_point l a below deep at is some in
      let d = ap costs.down_cost at in
      let m = paid_more l in
      omega (arith, before_it, step, inner, e, d, m)

  -- a quadrant that was passed over
  pub paid_past : (l : ℕ) (a : Address) (start old mid : ℕ) → a ≡ region_address t → old ≤ start + paid l → mid ≤ old + costs.down_cost a → mid ≤ start + paid (l + 1)
  paid_past l a start old mid at before_it step =
      let d = ap costs.down_cost at in
      let m = paid_more l in
      omega (arith, before_it, step, d, m)

  -- no more than all four quadrants
  pub paid_in_all : (levels l start new : ℕ) → levels ≡ suc n → l < 4 → new ≤ start + paid (l + 1) → new ≤ start + areas_cost costs z h q levels t
  paid_in_all levels l start new is lt so_far =
      let e = ap (λ (k : ℕ). areas_cost costs z h q k t) is in
      let more : l + 1 ≤ 4 = omega (arith, lt) in
      let s = sum_upto-rises each (l + 1) 4 more in
      let d = mul-le-mul_right (costs.down_cost (region_address t)) more in
      omega (arith, so_far, e, s, d)

  -- all four quadrants
  pub paid_whole : (levels l start new : ℕ) → levels ≡ suc n → 4 ≤ l → l ≤ 4 → new ≤ start + paid l → new ≤ start + areas_cost costs z h q levels t
  paid_whole levels l start new is low high so_far =
      let e = ap (λ (k : ℕ). areas_cost costs z h q k t) is in
      let four : l ≡ 4 = omega (arith, low, high) in
      let f = ap paid four in
      omega (arith, so_far, e, f)

-- a map of some points
module _ (costs : ViewCosts) (z : Schema) (h : List Point) (q : Query) (levels seen : ℕ) (count : seen ≡ length h) (some : seen ≡ 0 → ⊥) where
  abbrev way : Bool → ℕ
  way found = region_cost costs z h q + cost_if found (areas_cost costs z h q levels q.region)

  some_points : map_cost costs z h q levels ≡ way (is_found z h q.region)
  some_points = cost_if-true (ltb 0 (length h)) (way (is_found z h q.region)) (lt-ltb 0 (length h) (let e = count in let ne = some in omega (arith, e, ne)))

  -- the walk to the region alone
  pub map_way : region_cost costs z h q ≤ map_cost costs z h q levels
  map_way = let e = some_points in omega (arith, e)

  -- and the tiles from there, where the region is found
  pub map_found : is_found z h q.region ≡ true → map_cost costs z h q levels ≡ region_cost costs z h q + areas_cost costs z h q levels q.region
  map_found found = some_points ∙ ap way found
