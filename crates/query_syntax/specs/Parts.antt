-- Queries that differ from another in one part.
use Rattle.std.specs.Prelude.{ℕ, true, false, replicate, slice_set}
use Rattle.cube_view.specs.declared.address.Tile.{Tile}
use Rattle.query_syntax.specs.declared.query.Choice.TheVariants.{Only}
use Rattle.query_syntax.specs.declared.query.Query.{Query}
use Rattle.query_syntax.specs.declared.query.Span.{Span}

-- the query, with that tile as its region
abbrev pub with_region : Query → Tile → Query
with_region q t = record q { region = t }

-- the query, with that span
abbrev pub with_span : Query → Span → Query
with_span q span = record q { time = span }

-- the query, with this value alone in its set of category k
abbrev pub with_one_value : Query → ℕ → ℕ → Query
with_one_value q k v = record q { sets = slice_set q.sets k (Only (slice_set (replicate 256 false) v true)) }
