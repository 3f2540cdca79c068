-- The way down to a tile, down by down.
use Rattle.std.proofs.Common.{◌≡◌, ℕ, ◌+◌, ◌<◌, ◌≤◌, true, List, sym, ◌∙◌, ap, subst, arith}
use Rattle.cube_view.proofs.Amounts.{none-less}
use Rattle.cube_view.proofs.StepCosts.{has_spot-tile_at, is_found-spot, cost_if-true, space_cost-more, space_cost-within}
use Rattle.cube_view.proofs.TileWays.{longer-tile_label, is_below-tile_label}
use Rattle.cube_view.specs.Bag.{amount}
use Rattle.cube_view.specs.Costs.{ViewCosts, is_found, down_in_space, space_cost}
use Rattle.cube_view.specs.Places.{is_under, is_below, longer, tile_label, tile_at, region_address}
use Rattle.cube_view.specs.Points.{Point}
use Rattle.cube_view.specs.declared.address.Address.{Address}
use Rattle.cube_view.specs.declared.address.Tile.{Tile}
use Rattle.cube_view.specs.declared.schema.Schema.{Schema}

module _ (z : Schema) (t : Tile) (i : ℕ) (a : Address) (label : ℕ) (at : a ≡ region_address (tile_at t i)) (is : label ≡ tile_label t (i + 1)) (lt : i < t.z) where
  -- where a down of the walk finds nothing, the tile has nothing
  pub none_here : (h : List Point) → t.z ≤ z.depth → amount (is_below z a label) h ≡ 0 → amount (is_under z (region_address t)) h ≡ 0
  none_here h deep none =
      let here : amount (is_below z (region_address (tile_at t i)) (tile_label t (i + 1))) h ≡ 0 = subst (λ (b : Address). amount (is_below z b (tile_label t (i + 1))) h ≡ 0) at (subst (λ (l : ℕ). amount (is_below z a l) h ≡ 0) is none) in
      none-less (is_under z (region_address t)) (is_below z (region_address (tile_at t i)) (tile_label t (i + 1))) (λ s. is_below-tile_label z t i s lt deep) h here

  -- where it finds something, the tile of the next level is found
  pub found_next : (h : List Point) → t.z ≤ z.depth → 0 < amount (is_below z a label) h → is_found z h (tile_at t (i + 1)) ≡ true
  found_next h deep some =
      let here : 0 < amount (is_below z (region_address (tile_at t i)) (tile_label t (i + 1))) h = subst (λ (b : Address). 0 < amount (is_below z b (tile_label t (i + 1))) h) at (subst (λ (l : ℕ). 0 < amount (is_below z a l) h) is some) in
      is_found-spot z h (tile_at t (i + 1)) (has_spot-tile_at z t i h lt deep here)

  -- a down leads to the tile of the next level
  pub next_place : (b : Address) → b ≡ longer a label → b ≡ region_address (tile_at t (i + 1))
  next_place b e = e ∙ (ap (λ (l : ℕ). longer a l) is ∙ (ap (λ (x : Address). longer x (tile_label t (i + 1))) at ∙ longer-tile_label t i lt))

module _ (costs : ViewCosts) (z : Schema) (h : List Point) (t : Tile) (i : ℕ) (a : Address) (at : a ≡ region_address (tile_at t i)) (found : is_found z h (tile_at t i) ≡ true) where
  down_is : costs.down_cost a ≡ down_in_space costs z h t i
  down_is = ap costs.down_cost at ∙ sym (cost_if-true (is_found z h (tile_at t i)) (costs.down_cost (region_address (tile_at t i))) found)

  -- the down from a found tile is paid
  pub paid_further : (start old new : ℕ) → old ≤ start + space_cost costs z h t i → new ≤ old + costs.down_cost a → new ≤ start + space_cost costs z h t (i + 1)
  paid_further start old new so_far step = let d = down_is in let m = space_cost-more costs z h t i in omega (arith, so_far, step, d, m)

  -- and within the whole way's cost
  pub paid_at_end : (start old new : ℕ) → i < t.z → old ≤ start + space_cost costs z h t i → new ≤ old + costs.down_cost a → new ≤ start + space_cost costs z h t t.z
  paid_at_end start old new lt so_far step = let d = down_is in let w = space_cost-within costs z h t i t.z lt in omega (arith, so_far, step, d, w)
