-- Laws of the costs of a walk.
use Rattle.std.proofs.Common.{◌≡◌, ℕ, zero, suc, ◌+◌, ◌-◌, ◌<◌, ◌≤◌, Bool, true, false, List, sym, ap, ◌∙◌, arith, add-one, add-zero, add-suc}
use Rattle.std.proofs.lemmas.Bool.{lt-ltb, or_right}
use Rattle.cube_view.specs.Bag.{amount}
use Rattle.cube_view.specs.Costs.{ViewCosts, has_spot, is_found, cost_if, down_in_space, space_cost}
use Rattle.cube_view.specs.Places.{is_below, is_under, longer_tile, tile_at, tile_label, region_address}
use Rattle.cube_view.specs.Points.{Point}
use Rattle.cube_view.specs.declared.address.Address.{Address}
use Rattle.cube_view.specs.declared.address.Tile.{Tile}
use Rattle.cube_view.specs.declared.schema.Schema.{Schema}
use Rattle.cube_view.proofs.Amounts.{amount-less}
use Rattle.cube_view.proofs.TileWays.{longer-tile_label, is_under-quadrant}

-- a cost whose test holds counts
pub cost_if-true : (b : Bool) (n : ℕ) → b ≡ true → cost_if b n ≡ n
cost_if-true b n e = ap (λ t. cost_if t n) e

-- and one whose test doesn't hold is nothing
pub cost_if-false : (b : Bool) (n : ℕ) → b ≡ false → cost_if b n ≡ 0
cost_if-false b n e = ap (λ t. cost_if t n) e

module _ (costs : ViewCosts) (z : Schema) (h : List Point) (t : Tile) where
  -- one level more
  pub space_cost-more : (i : ℕ) → space_cost costs z h t (i + 1) ≡ space_cost costs z h t i + down_in_space costs z h t i
  space_cost-more i = ap (space_cost costs z h t) (add-one i)

  -- more levels cost no less
  pub space_cost-rises : (i n : ℕ) → space_cost costs z h t i ≤ space_cost costs z h t (i + n)
  space_cost-rises i zero = let e = ap (space_cost costs z h t) (add-zero i) in omega (arith, e)
  space_cost-rises i (suc n) =
      let e : space_cost costs z h t (i + suc n) ≡ space_cost costs z h t (i + n) + down_in_space costs z h t (i + n) = ap (space_cost costs z h t) (add-suc i n) in
      let r = space_cost-rises i n in
      omega (arith, e, r)

  -- the downs to a level, with the one from there, are within the downs to the tile
  pub space_cost-within : (i n : ℕ) → i < n → space_cost costs z h t i + down_in_space costs z h t i ≤ space_cost costs z h t n
  space_cost-within i n lt =
      let all : i + 1 + (n - (i + 1)) ≡ n = omega arith in
      let r = space_cost-rises (i + 1) (n - (i + 1)) in
      let e = ap (space_cost costs z h t) all in
      let m = space_cost-more i in
      omega (arith, r, e, m)

-- where a spot goes on by a label, the quadrant has a spot
pub has_spot-quadrant : (z : Schema) (t : Tile) (l : ℕ) (h : List Point) → t.z < z.depth → 0 < amount (is_below z (region_address t) l) h → has_spot z h (region_address (longer_tile 1 t l)) ≡ true
has_spot-quadrant z t l h deep some =
    let le = amount-less (is_below z (region_address t) l) (is_under z (region_address (longer_tile 1 t l))) (λ s. is_under-quadrant z t l s deep) h in
    lt-ltb 0 _ (omega (arith, some, le))

-- where a spot goes on by the label of the next level, the way's tile of that level has a spot
pub has_spot-tile_at : (z : Schema) (t : Tile) (i : ℕ) (h : List Point) → i < t.z → t.z ≤ z.depth → 0 < amount (is_below z (region_address (tile_at t i)) (tile_label t (i + 1))) h → has_spot z h (region_address (tile_at t (i + 1))) ≡ true
has_spot-tile_at z t i h lt deep some =
    sym (ap (λ (a : Address). has_spot z h a) (longer-tile_label t i lt))
    ∙ has_spot-quadrant z (tile_at t i) (tile_label t (i + 1)) h (omega (arith, lt, deep)) some

-- a tile that has a spot is come to
pub is_found-spot : (z : Schema) (h : List Point) (t : Tile) → has_spot z h (region_address t) ≡ true → is_found z h t ≡ true
is_found-spot z h t e = or_right _ _ e
