-- The order in which a group visits addresses: at a node first its content, then its labels from the least up.
use Rattle.std.specs.Prelude.{◌≡◌, ℕ, ◌<◌, ◌⊎◌, List, ◌∷◌}
use Rattle.cube_view.specs.Walks.{down, Walk, HasSpot}
use Rattle.node_arena.specs.Amounts.{Weighted, spots_in}
use Rattle.proper_path.specs.Order.{IsAbove, IsBefore}

-- b is visited before a: where their walks part b goes across and a down, or both go down and b by the lesser label
pub data IsEarlier (b a : Walk) : Type 0 where
  crosses : IsBefore a b → IsEarlier b a
  lesser : (parting : Walk) (k l : ℕ) → k < l → IsAbove (down k ∷ parting) b → IsAbove (down l ∷ parting) a → IsEarlier b a

-- the addresses of the group whose visit has ended when that of a begins
abbrev pub EndedBefore : List Weighted → Walk → Walk → Type 0
EndedBefore g a b = HasSpot (spots_in g) b × IsEarlier b a

-- and those when it has ended
abbrev pub EndedAfter : List Weighted → Walk → Walk → Type 0
EndedAfter g a b = HasSpot (spots_in g) b × (IsEarlier b a ⊎ IsAbove a b)

-- the visits that have begun and not ended when that of a begins
abbrev pub IsOpenAbove : Walk → Walk → Type 0
IsOpenAbove a b = IsAbove b a × (b ≡ a → ⊥)
