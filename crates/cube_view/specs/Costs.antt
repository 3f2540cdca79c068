-- How many steps a walk to an address takes at most, by the costs that a view gives its addresses and by the list
-- that the view counts: a walk that finds nothing ends there.
use Rattle.std.specs.Prelude.{ℕ, zero, suc, ◌+◌, ◌*◌, Bool, ◌||◌, ◌==◌, nat_lt, if◌then◌else◌, List, [], ◌∷◌, length, take, Option, Some, None}
use Rattle.cube_view.specs.Bag.{amount, anywhere}
use Rattle.cube_view.specs.Places.{is_under, longer, next_dim, tile_at, region_address}
use Rattle.cube_view.specs.Points.{Point}
use Rattle.cube_view.specs.declared.address.Address.{Address}
use Rattle.cube_view.specs.declared.address.Tile.{Tile}
use Rattle.cube_view.specs.declared.schema.Schema.{Schema}

-- at most how many steps the calls of a view take at an address
pub record ViewCosts : Type 0 where
  -- `down` and `next_label`
  pub down_cost : Address → ℕ
  -- `before`
  pub before_cost : Address → ℕ
  -- `before_each`, for so many ends
  pub before_each_cost : Address → ℕ → ℕ

-- the list has a spot under the address
abbrev pub has_spot : Schema → List Point → Address → Bool
has_spot schema h address = nat_lt 0 (amount (is_under schema address) h)

-- a walk comes to all of space always, and to another tile if the list has a spot in it
abbrev pub is_found : Schema → List Point → Tile → Bool
is_found schema h t = (t.z == 0) || has_spot schema h (region_address t)

-- a cost that counts only where the test holds
abbrev pub cost_if : Bool → ℕ → ℕ
cost_if test cost = if test then cost else 0

module _ (costs : ViewCosts) (schema : Schema) (h : List Point) where
  -- on the way to a tile, the down from the tile of a level
  abbrev pub down_in_space : Tile → ℕ → ℕ
  down_in_space t level = cost_if (is_found schema h (tile_at t level)) (costs.down_cost (region_address (tile_at t level)))

  -- the downs from all of space to a level of the way to a tile
  abbrev pub space_cost : Tile → ℕ → ℕ
  space_cost t zero = 0
  space_cost t (suc level) = space_cost t level + down_in_space t level

  -- The rest of a walk from level 0 of a category on, where these values are asked for, or of time: a down for a
  -- value, if it is found a step across, and at the end two running totals
  abbrev pub categories_cost : List (Option ℕ) → Address → ℕ
  categories_cost [] a = 2 * costs.before_cost a
  categories_cost (None ∷ values) a = 1 + categories_cost values (next_dim a)
  categories_cost (Some v ∷ values) a = costs.down_cost a + cost_if (has_spot schema h (longer a v)) (1 + categories_cost values (next_dim (longer a v)))

  -- the rest of a walk that has come to a tile: the step across, and what follows if the list weighs anything
  abbrev pub after_space_cost : List (Option ℕ) → Tile → ℕ
  after_space_cost values t = 1 + cost_if (nat_lt 0 (amount anywhere h)) (categories_cost values (next_dim (region_address t)))

  -- the walk to an address of time, from all of space on
  abbrev pub address_cost : Address → ℕ
  address_cost a = space_cost a.tile a.tile.z + cost_if (is_found schema h a.tile) (after_space_cost (take (length schema.categories) a.values) a.tile)
