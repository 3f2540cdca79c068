-- In what order the best tiles stand, and which they are.
use Rattle.std.specs.Prelude.{◌≡◌, ◌⊎◌, ℕ, zero, suc, ◌+◌, ◌*◌, ◌/◌, ◌%◌, ◌<◌, ◌≤◌, List, [], ◌∷◌, length}
use Rattle.std.specs.List.{AllByRecursion}
use Rattle.cube_view.specs.Points.{Point}
use Rattle.cube_view.specs.declared.address.Tile.{Tile}
use Rattle.cube_view.specs.declared.schema.Schema.{Schema}
use Rattle.query_syntax.specs.TileOrder.{tiles_below}
use Rattle.query_syntax.specs.TopTiles.{area_total, top_tiles}
use Rattle.query_syntax.specs.declared.query.Query.{Query}

-- The place of a tile in path order among those of its level, from 0: the labels of the way to it as digits of base 4
abbrev pub place_in_order : ℕ → ℕ → ℕ → ℕ
place_in_order zero x y = 0
place_in_order (suc z) x y = 4 * place_in_order z (x / 2) (y / 2) + (2 * (y % 2) + x % 2)

-- the place of the tile
abbrev pub path_place : Tile → ℕ
path_place t = place_in_order t.z t.x t.y

-- the tile is one of the list
abbrev pub IsOneOf : Tile → List Tile → Type 0
IsOneOf u [] = ⊥
IsOneOf u (t ∷ ts) = (u ≡ t) ⊎ IsOneOf u ts

module _ (schema : Schema) (q : Query) (h : List Point) where
  -- the first tile has more than the second, or as much and stands earlier in path order
  abbrev pub IsAhead : Tile → Tile → Type 0
  IsAhead t u = (area_total schema q h u < area_total schema q h t) ⊎ ((area_total schema q h t ≡ area_total schema q h u) × (path_place t < path_place u))

  -- each tile of the list is ahead of all after it, so none stands in it twice
  abbrev pub IsRanking : List Tile → Type 0
  IsRanking [] = Unit {0}
  IsRanking (t ∷ ts) = AllByRecursion (IsAhead t) ts × IsRanking ts

  -- What makes tiles the best ones of those so many levels below the region
  pub record AreTop (levels rows : ℕ) (tiles : List Tile) : Type 0 where
    -- there are at most so many
    pub few : length tiles ≤ rows
    -- they are in order
    pub ranked : IsRanking tiles
    -- each has something
    pub some : AllByRecursion (λ t. 0 < area_total schema q h t) tiles
    -- each is one of the level in the region
    pub level : AllByRecursion (λ t. IsOneOf t (tiles_below levels q.region)) tiles
    -- another of these that has something is behind all of them, and then there are so many
    pub others : (u : Tile) → IsOneOf u (tiles_below levels q.region) → 0 < area_total schema q h u → IsOneOf u tiles ⊎ ((length tiles ≡ rows) × AllByRecursion (λ t. IsAhead t u) tiles)

-- the best tiles are such
abbrev pub TopOrder : Type 0
TopOrder = (schema : Schema) (q : Query) (h : List Point) (levels rows : ℕ) → AreTop schema q h levels rows (top_tiles schema q h levels rows)
