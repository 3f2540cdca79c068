-- A session as contracts see it.
use Rattle.std.specs.Prelude.{ℕ, Bool, false, List, [], Option}
use Rattle.outer_io.specs.Cutting.{Cutter}
use Rattle.outer_io.specs.declared.sink.Sink as Sink
use Rattle.outer_io.specs.declared.source.Source as Source

-- a session over a script of the source I, which puts into the sink O
pub record SessionState (I O : Type 0) : Type 0 where
  -- its script
  pub source : Cutter I
  -- where its replies go
  pub sink : O
  -- the numbers of points seen that its replies printed, in order
  pub seens : List ℕ
  -- how many replies it put
  pub replies : ℕ
  -- one of them was the line for want of memory, or a turn found none
  pub lacked : Bool
  -- it is at its end
  pub ended : Bool

-- a session that has answered nothing
abbrev pub new_session : {I O : Type 0} → Cutter I → O → SessionState I O
new_session source sink = record { source = source; sink = sink; seens = []; replies = 0; lacked = false; ended = false }

-- what contracts see of a session's script and of the sink of its replies
pub record SessionEnds (I O : Type 0) : Type 0 where
  -- the bytes that are left of a script, where it tells them
  pub left : I → Option (List ℕ)
  -- how many of its reads failed
  pub faults : I → ℕ
  -- the bytes that a sink holds, where it tells them
  pub held : O → Option (List ℕ)
  -- how many of its puts failed
  pub put_faults : O → ℕ
  -- and its name
  pub name : O → List ℕ

-- the same of a source and a sink
abbrev pub ends_of : {I O : Type 0} → Source.Ghosts I → Sink.Ghosts O → SessionEnds I O
ends_of source sink = record { left = source.left; faults = source.faults; held = sink.held; put_faults = sink.faults; name = sink.name }
