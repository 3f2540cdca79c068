-- What a query counts: the points of a box.
use Rattle.std.specs.Prelude.{ℕ, Bool, true, false, ◌&&◌, nat_le, nat_lt, List, [], ◌∷◌, map, slice_index_or}
use Rattle.cube_view.specs.Bag.{amount}
use Rattle.cube_view.specs.Places.{in_tile}
use Rattle.cube_view.specs.declared.spot.Point.{Point}
use Rattle.cube_view.specs.declared.schema.Schema.{Schema}
use Rattle.cube_view.specs.declared.spot.Spot.{Spot}
use Rattle.cube_view.specs.declared.address.Tile.{Tile}
use Rattle.query_syntax.specs.declared.query.Choice.{Choice}
use Rattle.query_syntax.specs.declared.query.Choice.TheVariants.{All, Only}
use Rattle.query_syntax.specs.declared.query.Query.{Query}

-- A tile, a test of the values of each category, and the bins from the first number on under the second
pub record Box : Type 0 where
  pub tile : Tile
  pub sets : List (ℕ → Bool)
  pub from : ℕ
  pub to : ℕ

-- the values that a choice has
abbrev pub chosen : Choice → ℕ → Bool
chosen All v = true
chosen (Only set) v = slice_index_or set v false

-- the box of a query
abbrev pub box : Query → Box
box q = record { tile = q.region; sets = map chosen q.sets; from = q.time.from; to = q.time.to }

-- each value is in its set, and one that is not there counts as 0
abbrev pub are_in_sets : List (ℕ → Bool) → List ℕ → Bool
are_in_sets [] values = true
are_in_sets (set ∷ sets) [] = set 0 && are_in_sets sets []
are_in_sets (set ∷ sets) (v ∷ values) = set v && are_in_sets sets values

-- the spot is inside the box
unfoldable pub inside : Schema → Box → Spot → Bool
inside schema b s = in_tile schema.depth b.tile s && are_in_sets b.sets s.values && nat_le b.from s.bin && nat_lt s.bin b.to

-- how much of the list of points is inside the box
unfoldable pub total : Schema → Box → List Point → ℕ
total schema b h = amount (inside schema b) h
