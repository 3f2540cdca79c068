-- What holds between what feeders sent, what was drawn and what is queued.
use Rattle.std.specs.Prelude.{ℕ, List, ◌++◌}
use Rattle.cube_view.specs.Points.{Point}
use Rattle.world_core.specs.declared.entry.Entry.{Entry}
use Rattle.world_core.specs.Interleaving.{IsInterleaving}

-- what each of so many feeders sent is what was drawn and then what is queued
abbrev pub lane_fact : ℕ → (ℕ → List Point) → List Entry → List Entry → Type 0
lane_fact feeders sent drawn queue = IsInterleaving feeders sent (drawn ++ queue)
