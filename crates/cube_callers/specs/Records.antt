-- The records that the tests count, and the count that they ask.
use Rattle.std.specs.Prelude.{ℕ, ◌^◌, ◌<◌, true, false, All, List, [], ◌∷◌, slice_index, slice_set, replicate}
use Rattle.cube_view.specs.Bag.{Counts}
use Rattle.cube_view.specs.Points.{Point, spot_of}
use Rattle.cube_view.specs.declared.spot.Spot.{Spot}
use Rattle.query_syntax.specs.declared.query.Choice.TheVariants.{All as Every, Only}
use Rattle.query_syntax.specs.declared.query.Query.{Query}
use Rattle.query_syntax.specs.declared.query.Verb.TheVariants.{Count}

-- the count of the records of value a, in all of space and all bins
abbrev pub count_of_a : Query
count_of_a = record { verb = Count; region = record { z = 0; x = 0; y = 0 }; sets = Only (slice_set (replicate 256 false) 0 true) ∷ Every ∷ Every ∷ Every ∷ []; time = record { from = 0; to = 2 ^ 32 } }

-- the record's bin is under the number, and its value is one of two
abbrev pub IsFew : ℕ → Point → Type 0
IsFew n p = ((spot_of p).bin < n) × (slice_index (spot_of p).values 0 < 2)

-- The bag counts some list of such records alone.
pub record HasBinsUnder (n : ℕ) (weight_at : Spot → ℕ) (seen : ℕ) : Type 0 where
  pub points : List Point
  pub counts : Counts weight_at seen points
  pub few : All (IsFew n) points
