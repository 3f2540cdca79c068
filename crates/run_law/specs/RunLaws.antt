-- Laws of whole runs, as statements.
use Rattle.std.specs.Prelude.{◌≡◌, ℕ, List, length}
use Rattle.cube_view.specs.Points.{Point}
use Rattle.cube_view.specs.declared.schema.Schema.{Schema}
use Rattle.world_core.specs.Machine.{first_world, after_events, world_of}
use Rattle.world_core.specs.declared.world.World.{World}
use Rattle.run_law.specs.Standing.{GoOnFrom, StandsWith}
use Rattle.run_law.specs.Steps.{IsRunStep, AreRunSteps, event_of, events_of}
use Rattle.run_law.specs.Views.{RunView, IsOpened}
use Rattle.run_law.specs.declared.step.Step.{Step}

-- where all is opened, the machine's first world stands there
abbrev pub OpeningStands : Type 0
OpeningStands = (schema : Schema) (feeders sessions : ℕ) (run : RunView) (lists : List (List Point))
    → IsOpened schema feeders sessions run → length lists ≡ feeders → StandsWith lists run (first_world lists sessions)

-- a step leads from a world that stands where the run does to one that does, by the step's event or by none: it is
-- possible, and none is skipped
abbrev pub StepIsItsEvent : Type 0
StepIsItsEvent = (schema : Schema) (room : ℕ) (a b : RunView) (s : Step) (lists : List (List Point)) (n : ℕ) (w : World)
    → StandsWith lists a w → IsRunStep schema room a s b → GoOnFrom b lists → StandsWith lists b (after_events schema room n w (event_of s))

-- the world that the events of a run's steps make of what its feeders send stands where the run does; its queue has the
-- lane's room
abbrev pub RunIsOfTheMachine : Type 0
RunIsOfTheMachine = (schema : Schema) (feeders sessions : ℕ) (a b : RunView) (steps : List Step) (lists : List (List Point))
    → IsOpened schema feeders sessions a → AreRunSteps schema a.draws.room a steps b → GoOnFrom b lists
    → StandsWith lists b (world_of schema lists a.draws.room sessions (events_of steps))
