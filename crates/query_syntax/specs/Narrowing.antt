-- Boxes narrowed by one part.
use Rattle.std.specs.Prelude.{ℕ, Bool, true, ◌&&◌, ◌==◌, slice_set, slice_index_or}
use Rattle.cube_view.specs.declared.address.Tile.{Tile}
use Rattle.query_syntax.specs.Boxes.{Box}

-- each value
abbrev pub any_value : ℕ → Bool
any_value v = true

-- the box, with its set of category k met with the one value v
abbrev pub with_value : Box → ℕ → ℕ → Box
with_value b k v = record b { sets = slice_set b.sets k (λ w. slice_index_or b.sets k any_value w && (w == v)) }

-- the box, with that tile as its tile
abbrev pub with_tile : Box → Tile → Box
with_tile b t = record b { tile = t }

-- the box, with the bins from the first number to before the second
abbrev pub with_bins : Box → ℕ → ℕ → Box
with_bins b from to = record b { from = from; to = to }
