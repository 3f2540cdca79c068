-- The stack of a trail.
use Rattle.std.specs.Prelude.{◌≡◌, ℕ, suc, ◌+◌, ◌<◌, false, List, ◌∷◌, length, get_or, Some}
use Rattle.cube_view.specs.Walks.{down, Under}
use Rattle.node_arena.specs.Slots.{proper, link_of, slot_of, is_table}
use Rattle.proper_path.specs.Making.{State, home}
use Rattle.node_arena.specs.Amounts.{Weighted}

-- y is x's child on p's path, by a proper link
pub record IsTrailLink (a : State) (p : Weighted) (x y : ℕ) : Type 0 where
  pub label : ℕ
  pub lies : Under p.spot (down label ∷ home a x)
  pub is : link_of a.slots x (down label) ≡ Some (proper y)

-- the stack lies on proper links along p's labels, the root at place 0
pub record IsOnTrail (a : State) (p : Weighted) (root : ℕ) (stack : List ℕ) : Type 0 where
  pub first : get_or stack 0 0 ≡ root
  pub inside : (n : ℕ) → n < length stack → get_or stack n 0 < length a.slots
  pub nodes : (n : ℕ) → n < length stack → is_table (slot_of a.slots (get_or stack n 0)) ≡ false
  pub deep : (n : ℕ) → n < length stack → length (home a (get_or stack n 0)) ≡ length (home a root) + n
  pub links : (n : ℕ) → suc n < length stack → IsTrailLink a p (get_or stack n 0) (get_or stack (suc n) 0)
