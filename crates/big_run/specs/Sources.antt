-- A source of two kinds, and a sink that keeps what is put, as contracts see them.
use Rattle.std.specs.Prelude.{ℕ, List, Option, Some}
use Rattle.live_session.specs.State.{SessionEnds}
use Rattle.outer_io.specs.Memory.{StillOutput}
use Rattle.big_run.specs.declared.source.RunSource.{RunSource}
use Rattle.big_run.specs.declared.source.RunSource.TheVariants.{Made, Held}

-- the bytes that it has left, which it tells
abbrev pub left_in : RunSource → Option (List ℕ)
left_in (Made bytes) = Some bytes
left_in (Held input) = Some input.left

-- no read of it fails
abbrev pub no_faults : RunSource → ℕ
no_faults source = 0

-- the bytes that the sink holds, which it tells
abbrev pub still_held : StillOutput → Option (List ℕ)
still_held sink = Some sink.held

-- no put of it fails but for want of memory
abbrev pub still_faults : StillOutput → ℕ
still_faults sink = 0

-- its name
abbrev pub still_name : StillOutput → List ℕ
still_name sink = sink.name

-- these as what contracts see of a session's ends
abbrev pub still_ends : SessionEnds RunSource StillOutput
still_ends = record { left = left_in; faults = no_faults; held = still_held; put_faults = still_faults; name = still_name }
