-- Laws of a pair's steps, as statements: which event of the loading machine each is.
use Rattle.std.specs.Prelude.{◌≡◌, ℕ, ◌<◌, List, [], ◌∷◌, ◌++◌, length, slice_index_or, Option, Some, None, IfSome}
use Rattle.cube_view.specs.Points.{Point}
use Rattle.cube_view.specs.declared.schema.Schema.{Schema}
use Rattle.query_syntax.specs.Tables.{table}
use Rattle.query_syntax.specs.declared.query.Query.{Query}
use Rattle.world_core.specs.Interleaving.{entry_points}
use Rattle.world_core.specs.Machine.{happens}
use Rattle.world_core.specs.PairFact.{pair_fact}
use Rattle.world_core.specs.declared.event.Event.TheVariants.{Look}
use Rattle.world_core.specs.declared.world.World.{World}
use Rattle.published_pair.specs.Pair.{KeepsPair, Sees}
use Rattle.published_pair.specs.Rules.{Known}
use Rattle.published_pair.specs.declared.names.Names.{Names}

-- the lists that the ends of a pair saw last
abbrev pub lists_seen : List (Option Names) → List (List Point)
lists_seen [] = []
lists_seen (None ∷ views) = lists_seen views
lists_seen (Some n ∷ views) = n.seen ∷ lists_seen views

-- each list that an end of the pair saw last is a prefix of the list that the shown copy counts
abbrev pub RuleIsPairFact : Type 0
RuleIsPairFact = (h : List Point) (f : Known) (z : Schema) (views : List (Option Names)) → KeepsPair h f z views → pair_fact h (lists_seen views)

-- What a viewer knows after a look at the copy that is shown is what the machine says of session s after its look with
-- query q
pub record IsMachineLook (schema : Schema) (w : World) (s : ℕ) (q : Query) (n : Names) : Type 0 where
  -- it saw what is published, which stays
  pub list : n.seen ≡ entry_points (happens schema w (Look s q)).journal
  -- the session has seen so many
  pub seen : slice_index_or (happens schema w (Look s q)).seen s 0 ≡ length n.seen
  -- the shot that is added is the table of what it saw
  pub shot : (happens schema w (Look s q)).shots ≡ w.shots ++ record { session = s; table = table schema q n.seen } ∷ []

-- a look is the machine's: where the shown copy counts what is journaled
abbrev pub LookingIsLook : Type 0
LookingIsLook = (schema : Schema) (w : World) (s : ℕ) (q : Query) (before after : Option Names) (h : List Point) (f : Known) (z : Schema) → Sees before h f z after → h ≡ entry_points w.journal → s < length w.seen
    → IfSome after (IsMachineLook schema w s q)
