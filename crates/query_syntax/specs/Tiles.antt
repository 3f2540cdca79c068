-- Tiles: which there are, and how a word writes one.
use Rattle.std.specs.Prelude.{ℕ, ◌^◌, Bool, ◌&&◌, nat_le, nat_lt, if◌then◌else◌, List, [], ◌∷◌, Option, Some, None, option_and_then}
use Rattle.cube_view.specs.declared.address.Tile.{Tile}
use Rattle.texts.specs.Decimals.{decimal_value}
use Rattle.query_syntax.specs.Words.{cut_pieces, slash}

-- of a level down to the depth, and within the columns and rows of its level
abbrev pub is_tile : ℕ → Tile → Bool
is_tile depth t = nat_le t.z depth && nat_lt t.x (2 ^ t.z) && nat_lt t.y (2 ^ t.z)

-- the tile of these numbers, if there is one
abbrev pub tile_if_fits : ℕ → Tile → Option Tile
tile_if_fits depth t = if is_tile depth t then Some t else None

-- the tile that three decimals write
abbrev pub tile_of_pieces : ℕ → List (List ℕ) → Option Tile
tile_of_pieces depth [] = None
tile_of_pieces depth (z ∷ []) = None
tile_of_pieces depth (z ∷ x ∷ []) = None
tile_of_pieces depth (z ∷ x ∷ y ∷ []) =
    option_and_then (λ z. option_and_then (λ x. option_and_then (λ y. tile_if_fits depth (record { z = z; x = x; y = y })) (decimal_value y)) (decimal_value x)) (decimal_value z)
tile_of_pieces depth (z ∷ x ∷ y ∷ more ∷ rest) = None

-- the tile that a word writes: level, column and row, with slashes between
unfoldable pub tile_value : ℕ → List ℕ → Option Tile
tile_value depth word = tile_of_pieces depth (cut_pieces slash word)
