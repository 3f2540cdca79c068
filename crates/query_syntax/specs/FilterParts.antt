-- What filters said, by parts of a query: where there was none of a kind, the part is the one with which everything
-- counts.
use Rattle.std.specs.Prelude.{◌≡◌, Bool, true, false, List, [], ◌∷◌, length, map, unwrap_or, Option, Some, None}
use Rattle.cube_view.specs.declared.address.Tile.{Tile}
use Rattle.query_syntax.specs.Filters.{Filters}
use Rattle.query_syntax.specs.Queries.{whole_space, all_bins}
use Rattle.query_syntax.specs.declared.query.Choice.{Choice}
use Rattle.query_syntax.specs.declared.query.Choice.TheVariants.{All}
use Rattle.query_syntax.specs.declared.query.Span.{Span}

-- the part, where there was a filter of the kind
abbrev pub said_if : {A : Type 0} → Bool → A → Option A
said_if true part = Some part
said_if false part = None

-- the same of each category
abbrev pub sets_said : List Bool → List Choice → List (Option Choice)
sets_said [] sets = []
sets_said (said ∷ more) [] = []
sets_said (said ∷ more) (set ∷ sets) = said_if said set ∷ sets_said more sets

-- what filters said by these parts, of which there was a filter or not
abbrev pub said_by : Tile → List Choice → Span → Bool → List Bool → Bool → Filters
said_by region sets time has_region has_sets has_time = record { region = said_if has_region region; sets = sets_said has_sets sets; time = said_if has_time time }

-- the parts are those of the query that the filters ask for
pub record ArePartsOf (region : Tile) (sets : List Choice) (time : Span) (has_region : Bool) (has_sets : List Bool) (has_time : Bool) : Type 0 where
  pub tile : unwrap_or (said_if has_region region) whole_space ≡ region
  pub choices : map (λ set. unwrap_or set All) (sets_said has_sets sets) ≡ sets
  pub span : unwrap_or (said_if has_time time) all_bins ≡ time
  pub four : length sets ≡ 4
  pub flags : length has_sets ≡ 4
