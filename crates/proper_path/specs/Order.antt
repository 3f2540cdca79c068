-- The order of visits.
use Rattle.std.specs.Prelude.{ℕ, List, ◌∷◌, map, length}
use Rattle.cube_view.specs.Walks.{Step, down, across, Walk, SpotPath}

-- a stands on the way to b
pub data IsAbove : Walk → Walk → Type 0 where
  itself : {a : Walk} → IsAbove a a
  further : {e : Step} {a b : Walk} → IsAbove a b → IsAbove a (e ∷ b)

-- b comes before a in the order of visits: where their walks part, b goes down and a across
pub record IsBefore (b a : Walk) : Type 0 where
  pub parting : Walk
  pub label : ℕ
  pub goes_down : IsAbove (down label ∷ parting) b
  pub goes_across : IsAbove (across ∷ parting) a

-- how many labels a spot has in each dimension
abbrev pub shape_of : SpotPath → List ℕ
shape_of q = map length q.paths
