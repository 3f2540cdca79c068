-- The fields of a line, wherever they stand.
use Rattle.std.specs.Prelude.{ℕ, List}
use Rattle.csv.specs.Records.{fields_of}
use Rattle.feed_reader.specs.declared.held.Held.{Held}
use Rattle.feed_reader.specs.declared.held.Held.TheVariants as held

-- the bytes of each field
abbrev pub texts_of : Held → List (List ℕ)
texts_of (held.Parts parts) = parts
texts_of (held.Record row) = fields_of row
