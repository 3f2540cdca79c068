-- A view as the answers to a script depend on it.
use Rattle.std.specs.Prelude.{List}
use Rattle.cube_view.specs.Bag.{Counts}
use Rattle.cube_view.specs.Points.{Point}
use Rattle.cube_view.specs.declared.schema.Schema.{Schema}
use Rattle.cube_view.specs.declared.stat.Stat.{Stat}
use Rattle.cube_view.specs.declared.view.CubeView as CubeView

-- What is seen of a view
pub record ViewSeen : Type 1 where
  pub schema : Schema
  -- which numbers its structure may have
  pub is_stat : Stat → Type 0
  -- which lists of points it counts
  pub counts : List Point → Type 0

-- what is seen of a view with these meanings
abbrev pub seen_view : Schema → (Stat → Type 0) → (List Point → Type 0) → ViewSeen
seen_view schema is_stat counts = record { schema = schema; is_stat = is_stat; counts = counts }

-- a view as the members of its trait see it
abbrev pub of_view : {V C : Type 0} → CubeView.Ghosts V C → V → ViewSeen
of_view view v = seen_view (view.schema v) view.is_stat (Counts (view.weight_at v) (view.seen v))
