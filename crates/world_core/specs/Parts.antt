-- The world that the parts of a running machine make up.
use Rattle.std.specs.Prelude.{List, map}
use Rattle.std.specs.declared.alloc.Global.{Global}
use Rattle.std.specs.declared.collections.VecDeque.{VecDeque}
use Rattle.cube_view.specs.Points.{Point}
use Rattle.world_core.specs.declared.machine.Machine.{Machine}
use Rattle.world_core.specs.declared.world.World.{World}

-- the points of each of these, in order
abbrev pub deque_lists : List (VecDeque Point Global) → List (List Point)
deque_lists deques = map (λ (d : VecDeque Point Global). d.items) deques

-- the world that a machine is at
abbrev pub world_now : Machine → World
world_now m = record {
  rest = deque_lists m.rest.items;
  queue = m.queue.items;
  pending = m.pending.items;
  journal = m.journal.items;
  seen = m.seen.items;
  told = m.told.items;
  shots = m.shots;
  skipped = m.skipped;
}
