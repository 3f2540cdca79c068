-- Laws of the loading machine, as statements.
use Rattle.std.specs.Prelude.{◌≡◌, ℕ, true, false, List}
use Rattle.cube_view.specs.Points.{Point}
use Rattle.cube_view.specs.declared.schema.Schema.{Schema}
use Rattle.world_core.specs.Machine.{is_possible, world_of}
use Rattle.world_core.specs.Worlds.{KeepsOrder, LooksAreFresh}
use Rattle.world_core.specs.declared.event.Event.{Event}
use Rattle.world_core.specs.declared.event.Event.TheVariants.{Push, Publish}
use Rattle.world_core.specs.declared.world.World.{World}

-- every world keeps the order of its feeds
abbrev pub EveryWorldKeepsOrder : Type 0
EveryWorldKeepsOrder = (schema : Schema) (feeds : List (List Point)) (room sessions : ℕ) (events : List Event) → KeepsOrder feeds sessions (world_of schema feeds room sessions events)

-- every look is fresh, whatever the events
abbrev pub EveryLookIsFresh : Type 0
EveryLookIsFresh = (schema : Schema) (feeds : List (List Point)) (room sessions : ℕ) (events : List Event) → LooksAreFresh schema feeds room sessions events (world_of schema feeds room sessions events)

-- a publication is possible in every world
abbrev pub PublishIsAlwaysPossible : Type 0
PublishIsAlwaysPossible = (schema : Schema) (room : ℕ) (w : World) → is_possible schema room w Publish ≡ true

-- no push is possible where the queue has no room
abbrev pub NoPushWithoutRoom : Type 0
NoPushWithoutRoom = (schema : Schema) (w : World) (f : ℕ) → is_possible schema 0 w (Push f) ≡ false
