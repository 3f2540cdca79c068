-- What the points are that the bytes of a feed give.
use Rattle.std.specs.Prelude.{◌≡◌, ℕ, ◌^◌, ◌<◌, ◌≤◌, min, List, All, length, IsTrue}
use Rattle.cube_view.specs.Points.{Point, spot_of}
use Rattle.cube_view.specs.Validity.{valid}
use Rattle.cube_view.specs.declared.schema.Schema.{Schema}
use Rattle.outer_io.specs.Lines.{input_limit}
use Rattle.feed_reader.specs.Feeds.{accepted}

-- What each of them keeps
pub record IsAccepted (schema : Schema) (p : Point) : Type 0 where
  -- it is one of the schema
  pub of_schema : IsTrue (valid schema p)
  -- its bin has 32 bits
  pub bin : (spot_of p).bin < 2 ^ 32
  -- it has four values
  pub values : length (spot_of p).values ≡ 4
  -- and each of them is a byte
  pub bytes : All (λ v. v < 256) (spot_of p).values

-- each point that a feed gives does, whatever its bytes are
abbrev pub AcceptsSound : Type 0
AcceptsSound = (schema : Schema) (bytes : List ℕ) → All (IsAccepted schema) (accepted schema bytes)

-- a feed gives no more points than it has bytes, and no more than 2^30
abbrev pub AcceptsWithin : Type 0
AcceptsWithin = (schema : Schema) (bytes : List ℕ) → length (accepted schema bytes) ≤ min (length bytes) input_limit
