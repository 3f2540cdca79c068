-- Laws of interleavings, as statements.
use Rattle.std.specs.Prelude.{◌≡◌, ℕ, ◌≤◌, Bool, List, ◌++◌, length}
use Rattle.cube_view.specs.Bag.{amount}
use Rattle.cube_view.specs.Points.{Point}
use Rattle.cube_view.specs.declared.schema.Schema.{Schema}
use Rattle.cube_view.specs.declared.spot.Spot.{Spot}
use Rattle.query_syntax.specs.Tables.{table}
use Rattle.query_syntax.specs.declared.query.Query.{Query}
use Rattle.world_core.specs.Interleaving.{entry_points, IsInterleaving, sum_of_feeders, lists_joined}
use Rattle.world_core.specs.PairFact.{IsPrefix}
use Rattle.world_core.specs.declared.entry.Entry.{Entry}

-- a prefix of an interleaving is an interleaving of prefixes
abbrev pub PrefixesInterleave : Type 0
PrefixesInterleave = (feeders : ℕ) (lists : ℕ → List Point) (front more : List Entry) → IsInterleaving feeders lists (front ++ more)
    → (fronts : ℕ → List Point) × IsInterleaving feeders fronts front × ((f : ℕ) → 1 ≤ f → f ≤ feeders → IsPrefix (fronts f) (lists f))

-- the entries are as many as the lists' points together
abbrev pub CountsInterleave : Type 0
CountsInterleave = (feeders : ℕ) (lists : ℕ → List Point) (entries : List Entry) → IsInterleaving feeders lists entries → length entries ≡ sum_of_feeders feeders (λ f. length (lists f))

-- the entries determine the lists
abbrev pub ListsAreDetermined : Type 0
ListsAreDetermined = (feeders : ℕ) (lists others : ℕ → List Point) (entries : List Entry) → IsInterleaving feeders lists entries → IsInterleaving feeders others entries
    → (f : ℕ) → 1 ≤ f → f ≤ feeders → lists f ≡ others f

-- the amount of the entries' points at the spots that pass a test is the sum of the lists' amounts
abbrev pub AmountsInterleave : Type 0
AmountsInterleave = (feeders : ℕ) (lists : ℕ → List Point) (entries : List Entry) → IsInterleaving feeders lists entries
    → (test : Spot → Bool) → amount test (entry_points entries) ≡ sum_of_feeders feeders (λ f. amount test (lists f))

-- a table over the entries' points is the table over the lists one after the other
abbrev pub TablesInterleave : Type 0
TablesInterleave = (feeders : ℕ) (lists : ℕ → List Point) (entries : List Entry) → IsInterleaving feeders lists entries
    → (schema : Schema) (q : Query) → table schema q (entry_points entries) ≡ table schema q (lists_joined feeders lists)
