-- Steps of a count of the points of a box.
use Rattle.std.proofs.Common.{◌≡◌, ℕ, ◌+◌, ◌<◌, ◌≤◌, Bool, true, false, List, [], length, map, take, drop, get_or, sym, ◌∙◌, arith}
use Rattle.cube_view.specs.Bag.{amount, anywhere}
use Rattle.cube_view.proofs.Amounts.{amount-nil, amount-gain, amount-skip, amount-take, amount-within}
use Rattle.cube_view.specs.declared.spot.Point.{Point}
use Rattle.cube_view.specs.Points.{spot_of, weight_of_point}
use Rattle.cube_view.specs.declared.schema.Schema.{Schema}
use Rattle.query_syntax.specs.Boxes.{Box, chosen, are_in_sets, inside, total}
use Rattle.query_syntax.specs.declared.query.Choice.{Choice}

-- the values from place k on are in the sets from there on
abbrev pub chosen_from : List Choice → List ℕ → ℕ → Bool
chosen_from choices values k = are_in_sets (map chosen (drop k choices)) (drop k values)

module _ (schema : Schema) (b : Box) where
  -- no point, no total
  pub total_nothing : 0 ≡ total schema b []
  unfolding total
  total_nothing = sym (amount-nil (inside schema b))

  module _ (h : List Point) (i : ℕ) (d : Point) (n : ℕ) (lt : i < length h) (so_far : n ≡ total schema b (take i h)) where
    -- one point inside the box
    pub total_more : inside schema b (spot_of (get_or h i d)) ≡ true → n + weight_of_point (get_or h i d) ≡ total schema b (take (i + 1) h)
    unfolding total
    total_more is = let g = amount-gain (inside schema b) h i d lt is in omega (arith, g, so_far)

    -- one point outside
    pub total_same : inside schema b (spot_of (get_or h i d)) ≡ false → n ≡ total schema b (take (i + 1) h)
    unfolding total
    total_same is = so_far ∙ sym (amount-skip (inside schema b) h i d lt is)

    -- the total of some points is no more than all of them weigh
    pub total_light : inside schema b (spot_of (get_or h i d)) ≡ true → n + weight_of_point (get_or h i d) ≤ amount anywhere h
    unfolding total
    total_light is =
        let more = total_more is in
        let part = amount-take (inside schema b) h (i + 1) in
        let all = amount-within (inside schema b) h in
        omega (arith, more, part, all)
