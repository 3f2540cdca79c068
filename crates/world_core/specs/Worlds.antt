-- What holds of the worlds of the machine, and of their looks.
use Rattle.std.specs.Prelude.{◌≡◌, ℕ, ◌-◌, ◌≤◌, true, List, [], ◌∷◌, ◌++◌, All, length, map, take, Some, slice_get, slice_index_or}
use Rattle.cube_view.specs.Points.{Point}
use Rattle.cube_view.specs.declared.schema.Schema.{Schema}
use Rattle.query_syntax.specs.declared.query.Query.{Query}
use Rattle.world_core.specs.Interleaving.{list_of}
use Rattle.world_core.specs.LaneFact.{lane_fact}
use Rattle.world_core.specs.Machine.{shot_of, is_possible, world_of}
use Rattle.world_core.specs.PairFact.{pair_fact}
use Rattle.world_core.specs.declared.entry.Entry.{Entry}
use Rattle.world_core.specs.declared.event.Event.{Event}
use Rattle.world_core.specs.declared.event.Event.TheVariants.{Tell, Look}
use Rattle.world_core.specs.declared.world.Shot.{Shot}
use Rattle.world_core.specs.declared.world.World.{World}

-- what the feed of feeder f pushed: all of it but the rest
abbrev pub pushed_of : List (List Point) → World → ℕ → List Point
pushed_of feeds w f = take (length (list_of feeds f) - length (list_of w.rest f)) (list_of feeds f)

-- the first so many published entries, for each of these numbers
abbrev pub firsts_of : World → List ℕ → List (List Entry)
firsts_of w ns = map (λ n. take n w.journal) ns

-- What holds of every world of these feeds
pub record KeepsOrder (feeds : List (List Point)) (sessions : ℕ) (w : World) : Type 0 where
  -- what was pushed was drawn, and is then published or pending, or is queued
  pub lane : lane_fact (length feeds) (pushed_of feeds w) (w.journal ++ w.pending) w.queue
  -- each feed is what it pushed and then its rest
  pub rest : (f : ℕ) → 1 ≤ f → f ≤ length feeds → list_of feeds f ≡ pushed_of feeds w f ++ list_of w.rest f
  -- there is a rest for each feed, and a number for each session
  pub sizes : (length w.rest ≡ length feeds) × (length w.seen ≡ sessions) × (length w.told ≡ sessions)
  -- no session saw more than is published
  pub seen : All (λ n. n ≤ length w.journal) w.seen
  -- no session was told of more than is published
  pub told : All (λ n. n ≤ length w.journal) w.told
  -- what the sessions saw and were told of are prefixes of what is published
  pub pair : pair_fact w.journal (firsts_of w (w.seen ++ w.told))

-- What holds of a look of session s with the query q, where `world` tells which world a list of events makes: of the
-- events before the look, and of the last world of all
pub record IsFreshLook (schema : Schema) (world : List Event → World) (before : List Event) (last : World) (s : ℕ) (q : Query) : Type 0 where
  -- its shot is the table of its query over the entries of the last journal that were published by then
  pub shot : slice_get last.shots (length (world before).shots) ≡ Some (shot_of schema s q (take (length (world before).journal) last.journal))
  -- the last journal has so many
  pub within : length (world before).journal ≤ length last.journal
  -- no shot before showed more of them
  pub seen : All (λ (shot : Shot). shot.table.seen ≤ length (world before).journal) (world before).shots
  -- its session was told of no more of them by any event before
  pub told : (earlier later : List Event) → before ≡ earlier ++ Tell s ∷ later → slice_index_or (world (earlier ++ Tell s ∷ [])).told s 0 ≤ length (world before).journal

-- each look among the events that is possible is fresh, whatever came before it and comes after it
abbrev pub LooksAreFresh : Schema → List (List Point) → ℕ → ℕ → List Event → World → Type 0
LooksAreFresh schema feeds room sessions events last =
    (before after : List Event) (s : ℕ) (q : Query) → events ≡ before ++ Look s q ∷ after
    → is_possible schema room (world_of schema feeds room sessions before) (Look s q) ≡ true
    → IsFreshLook schema (world_of schema feeds room sessions) before last s q
