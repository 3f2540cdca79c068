-- What holds over a view: of each list of points that it counts.
use Rattle.std.specs.Prelude.{ℕ, ◌+◌, ◌≤◌, List}
use Rattle.cube_view.specs.Bag.{EachCounted}
use Rattle.cube_view.specs.Costs.{ViewCosts}
use Rattle.cube_view.specs.Points.{Point}
use Rattle.cube_view.specs.declared.schema.Schema.{Schema}
use Rattle.cube_view.specs.declared.view.CubeView as CubeView

-- over a view, by the ghost members of its trait
module _ {V C : Type 0} (members : CubeView.Ghosts V C) (view : V) where
  -- each list of points that the view counts is such
  abbrev pub EachListOf : (List Point → Type 0) → Type 0
  EachListOf P = EachCounted (members.weight_at view) (members.seen view) P

  -- From `before` on the steps rose to `after`, by no more than this cost. The cost is given by what the view's calls
  -- take, its schema and any list of points that it counts
  abbrev pub TakesUpTo : ℕ → ℕ → (ViewCosts → Schema → List Point → ℕ) → Type 0
  TakesUpTo before after cost = EachListOf (λ h. after ≤ before + cost (members.costs view) (members.schema view) h)
