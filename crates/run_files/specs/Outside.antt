-- The place, the sources and the sinks of a run as contracts see them.
use Rattle.std.specs.Prelude.{◌≡◌, ◌⊎◌, ℕ, List, Option, option_map}
use Rattle.outer_io.specs.Bytes.{Gains, GainsPart}
use Rattle.outer_io.specs.Faults.{Rose}
use Rattle.outer_io.specs.Files.{Files, file_or_empty}
use Rattle.outer_io.specs.declared.place.Place as Place
use Rattle.outer_io.specs.declared.sink.Sink as Sink
use Rattle.outer_io.specs.declared.source.Source as Source

-- what contracts see of a place
pub record PlaceSeen (P : Type 0) : Type 0 where
  -- the bytes of its files by name, where it tells them
  pub files : P → Option Files
  -- how many of its reads and of its writes failed
  pub read_faults : P → ℕ
  pub write_faults : P → ℕ
  -- the names that it was asked to open and to create, in order
  pub opened : P → List (List ℕ)
  pub created : P → List (List ℕ)

-- the bytes of the file of that name, where the files are told; none where there is no such file
abbrev pub file_of : Option Files → List ℕ → Option (List ℕ)
file_of files name = option_map (λ told. file_or_empty told name) files

-- what contracts see of a source
pub record SourceSeen (I : Type 0) : Type 0 where
  -- the bytes that it has left, where it tells them
  pub left : I → Option (List ℕ)
  -- how many of its reads failed
  pub faults : I → ℕ

-- what contracts see of a sink
pub record SinkSeen (O : Type 0) : Type 0 where
  -- the bytes that it holds, where it tells them
  pub held : O → Option (List ℕ)
  -- how many of its puts failed
  pub faults : O → ℕ
  pub name : O → List ℕ

-- a place as the members of its trait see it
abbrev pub of_place : {P I O : Type 0} → Place.Ghosts P I O → PlaceSeen P
of_place place = record { files = place.files; read_faults = place.read_faults; write_faults = place.write_faults; opened = place.opened; created = place.created }

-- and so a source
abbrev pub of_source : {I : Type 0} → Source.Ghosts I → SourceSeen I
of_source source = record { left = source.left; faults = source.faults }

-- and so a sink
abbrev pub of_sink : {O : Type 0} → Sink.Ghosts O → SinkSeen O
of_sink sink = record { held = sink.held; faults = sink.faults; name = sink.name }

-- what contracts see of a place, of the sources that it opens and of the sinks that it creates: the parts of a run
pub record PartsSeen (P I O : Type 0) : Type 0 where
  pub place : PlaceSeen P
  pub source : SourceSeen I
  pub sink : SinkSeen O

-- these three
abbrev pub parts_seen : {P I O : Type 0} → PlaceSeen P → SourceSeen I → SinkSeen O → PartsSeen P I O
parts_seen place source sink = record { place = place; source = source; sink = sink }

-- the same as the members of their traits see them
abbrev pub of_parts : {P I O : Type 0} → Place.Ghosts P I O → Source.Ghosts I → Sink.Ghosts O → PartsSeen P I O
of_parts place source sink = parts_seen (of_place place) (of_source source) (of_sink sink)

-- a place and a sink at one moment
pub record Outside (P O : Type 0) : Type 0 where
  pub place : P
  pub out : O

-- these two
abbrev pub at : {P O : Type 0} → P → O → Outside P O
at place out = record { place = place; out = out }

module _ {O : Type 0} (s : SinkSeen O) (before after : O) where
  -- nothing was put into the sink, and no put failed
  pub record Silent : Type 0 where
    pub held : s.held after ≡ s.held before
    pub faults : s.faults after ≡ s.faults before
    pub name : s.name after ≡ s.name before

  -- the bytes were put into the sink
  pub record Puts (bytes : List ℕ) : Type 0 where
    pub held : Gains (s.held before) (s.held after) bytes
    pub faults : s.faults after ≡ s.faults before
    pub name : s.name after ≡ s.name before

  -- a put of the bytes failed, of which a part from the front was put
  pub record FailsToPut (bytes : List ℕ) : Type 0 where
    pub held : GainsPart (s.held before) (s.held after) bytes
    pub faults : Rose (s.faults before) (s.faults after)
    pub name : s.name after ≡ s.name before

  -- the bytes were put, or a part of them where the put failed
  abbrev pub PutsOrFails : List ℕ → Type 0
  PutsOrFails bytes = Puts bytes ⊎ FailsToPut bytes
