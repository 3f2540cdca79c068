-- The one record of a line, as `csv` reads it: fields between commas, with quotes (RFC 4180).
use Rattle.std.specs.Prelude.{◌≡◌, ℕ, Bool, true, false, if◌then◌else◌, List, [], ◌∷◌, Option, Some, None}
use Rattle.csv.specs.Reading.{Ready, default_config, is_bom, is_flexible, reader_config, reader_state, reader_trim, records, source_of, strip_bom}
use Rattle.csv.specs.declared.parser.State.TheVariants as st
use Rattle.csv.specs.declared.reader.Reader.{Reader}
use Rattle.csv.specs.declared.reader.Trim.TheVariants as trim

-- the bytes begin with a byte order mark, U+FEFF in UTF-8
abbrev pub begins_with_mark : List ℕ → Bool
begins_with_mark [] = false
begins_with_mark (a ∷ []) = false
begins_with_mark (a ∷ b ∷ []) = false
begins_with_mark (a ∷ b ∷ c ∷ bytes) = is_bom a b c

-- the item of a list of one item
abbrev pub only : {A : Type 0} → List A → Option A
only [] = None
only (x ∷ []) = Some x
only (x ∷ y ∷ xs) = None

-- the fields of a line that has no mark at its start and from which `csv` gives one record
abbrev pub record_of : List ℕ → Option (List (List ℕ))
record_of line = if begins_with_mark line then None else only (records default_config line)

-- a reader that has the whole line to read, as `csv` reads by default, without trimming or a header row, records of any
-- lengths
pub record IsReaderOf {R : Type 0} (remaining : R → Option (List ℕ)) (reader : Reader R) (line : List ℕ) : Type 0 where
  pub config : reader_config reader ≡ default_config
  pub state : reader_state reader ≡ st.StartRecord
  pub source : source_of remaining reader ≡ Some (strip_bom line)
  pub flexible : is_flexible reader ≡ true
  pub untrimmed : reader_trim reader ≡ trim.None
  pub ready : Ready reader
