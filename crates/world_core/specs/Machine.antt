-- The loading machine: what each event does to a world.
use Rattle.std.specs.Prelude.{ℕ, ◌+◌, ◌-◌, nat_le, nat_lt, Bool, true, ◌&&◌, if◌then◌else◌, List, [], ◌∷◌, ◌++◌, length, take, drop, replicate, slice_set}
use Rattle.cube_view.specs.Points.{Point}
use Rattle.cube_view.specs.declared.schema.Schema.{Schema}
use Rattle.query_syntax.specs.Queries.{is_valid_query}
use Rattle.query_syntax.specs.Tables.{is_drill, table}
use Rattle.query_syntax.specs.declared.query.Query.{Query}
use Rattle.world_core.specs.Interleaving.{numbered, entries_of, entry_points, list_of}
use Rattle.world_core.specs.declared.entry.Entry.{Entry}
use Rattle.world_core.specs.declared.event.Event.{Event}
use Rattle.world_core.specs.declared.event.Event.TheVariants.{Push, Pop, Publish, Tell, Look}
use Rattle.world_core.specs.declared.world.Shot.{Shot}
use Rattle.world_core.specs.declared.world.World.{World}

-- at the start each rest is its feed, and all else is empty or 0
abbrev pub first_world : List (List Point) → ℕ → World
first_world feeds sessions = record { rest = feeds; queue = []; pending = []; journal = []; seen = replicate sessions 0; told = replicate sessions 0; shots = []; skipped = [] }

-- all entries that were pushed, those that were pushed last being queued
abbrev pub pushed : World → List Entry
pushed w = w.journal ++ w.pending ++ w.queue

-- the next entry of a feeder, numbered by how many it has pushed, if it has a rest
abbrev pub next_entry : World → ℕ → List Entry
next_entry w f = numbered f (length (entries_of f (pushed w))) (take 1 (list_of w.rest f))

-- what a look of that session and query over the entries gives
abbrev pub shot_of : Schema → ℕ → Query → List Entry → Shot
shot_of schema s q entries = record { session = s; table = table schema q (entry_points entries) }

-- the feeder is known, and has not pushed all of its feed
abbrev pub has_rest : World → ℕ → Bool
has_rest w f = nat_le 1 f && nat_le f (length w.rest) && nat_lt 0 (length (list_of w.rest f))

-- the feeder's next entry goes from its rest to the queue's back
abbrev pub after_push : World → ℕ → World
after_push w f = record w { rest = slice_set w.rest (f - 1) (drop 1 (list_of w.rest f)); queue = w.queue ++ next_entry w f }

-- the queue's front goes to the end of what is pending
abbrev pub after_pop : World → World
after_pop w = record w { queue = drop 1 w.queue; pending = w.pending ++ take 1 w.queue }

-- all that is pending goes to the end of the journal
abbrev pub after_publish : World → World
after_publish w = record w { pending = []; journal = w.journal ++ w.pending }

-- the session is told how long the journal is
abbrev pub after_tell : World → ℕ → World
after_tell w s = record w { told = slice_set w.told s (length w.journal) }

-- the session sees the journal, and a shot of it is added
abbrev pub after_look : Schema → World → ℕ → Query → World
after_look schema w s q = record w { seen = slice_set w.seen s (length w.journal); shots = w.shots ++ shot_of schema s q w.journal ∷ [] }

-- the number of the event is noted
abbrev pub after_skip : World → ℕ → World
after_skip w n = record w { skipped = w.skipped ++ n ∷ [] }

-- the world after an event that is possible
abbrev pub happens : Schema → World → Event → World
happens schema w (Push f) = after_push w f
happens schema w Pop = after_pop w
happens schema w Publish = after_publish w
happens schema w (Tell s) = after_tell w s
happens schema w (Look s q) = after_look schema w s q

module _ (schema : Schema) (room : ℕ) where
  -- whether the event is possible
  abbrev pub is_possible : World → Event → Bool
  is_possible w (Push f) = has_rest w f && nat_lt (length w.queue) room
  is_possible w Pop = nat_lt 0 (length w.queue)
  is_possible w Publish = true
  is_possible w (Tell s) = nat_lt s (length w.told)
  is_possible w (Look s q) = nat_lt s (length w.seen) && is_valid_query schema q && is_drill q.verb

  -- the world after event n, which is noted where it isn't possible and then changes nothing else
  abbrev pub after_event : ℕ → World → Event → World
  after_event n w e = if is_possible w e then happens schema w e else after_skip w n

  -- the world after the events, the first of which has number n
  abbrev pub after_events : ℕ → World → List Event → World
  after_events n w [] = w
  after_events n w (e ∷ events) = after_events (n + 1) (after_event n w e) events

-- the world that the events make of these feeds and so many sessions, where the queue has so much room
abbrev pub world_of : Schema → List (List Point) → ℕ → ℕ → List Event → World
world_of schema feeds room sessions events = after_events schema room 0 (first_world feeds sessions) events
