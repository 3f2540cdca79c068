-- Opened scripts as sessions.
use Rattle.std.specs.Prelude.{ℕ, ◌≤◌, List, [], ◌∷◌, vec_capacity}
use Rattle.live_session.specs.State.{SessionState, new_session}
use Rattle.outer_io.specs.Cutting.{Cutter}
use Rattle.outer_io.specs.declared.sink.Sink as Sink
use Rattle.outer_io.specs.declared.source.Source as Source
use Rattle.plan_run.specs.declared.rooms.Rooms.{Rooms}

-- the sessions that have had no turn over scripts and sinks, as far as both lists go
abbrev pub sessions_of : {I O : Type 0} → List (Cutter I) → List O → List (SessionState I O)
sessions_of [] sinks = []
sessions_of (script ∷ scripts) [] = []
sessions_of (script ∷ scripts) (sink ∷ sinks) = new_session script sink ∷ sessions_of scripts sinks

-- there is room for so many asks and finals
abbrev pub HasSeatsFor : {I O : Type 0} {source : Source.Ghosts I} {sink : Sink.Ghosts O} → Rooms I O source sink → ℕ → ℕ → Type 0
HasSeatsFor rooms asks finals = (asks ≤ vec_capacity rooms.asks) × (finals ≤ vec_capacity rooms.finals)
