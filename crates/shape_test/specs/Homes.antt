-- Homes as they are kept: the steps to a slot, the last one first.
use Rattle.std.specs.Prelude.{Bool, true, false, List, map}
use Rattle.cube_view.specs.Walks.{Step, down, across, Walk}
use Rattle.shape_test.specs.declared.home.Move.{Move}
use Rattle.shape_test.specs.declared.home.Move.TheVariants.{Down, Across}

-- the step that is kept
abbrev pub step_of : Move → Step
step_of (Down l) = down l
step_of Across = across

-- the address that kept steps lead to
abbrev pub walk_of : List Move → Walk
walk_of moves = map step_of moves

-- the addresses of all slots
abbrev pub walks_of : List (List Move) → List Walk
walks_of homes = map walk_of homes

-- the step leads to a content
abbrev pub is_across : Move → Bool
is_across (Down l) = false
is_across Across = true
