-- Fields that are bare or stand whole in quotes, as `csv`'s definition `next_record` reads them.
use Rattle.std.specs.Prelude.{◌≡◌, ◌<◌, ◌==◌, ◌||◌, not, Bool, false, ℕ, List, [], ◌∷◌, ◌++◌, length, Some}
use Rattle.csv.specs.Machine.{ends_with, next_record}
use Rattle.csv.specs.Reading.{default_config}
use Rattle.csv.specs.Records.{Row, fields_of, partial_of}
use Rattle.csv.specs.declared.parser.State.TheVariants as st
use Rattle.csv.specs.declared.parser.Terminator.TheVariants as term
use Rattle.feed_reader.specs.declared.regular.After.{After}
use Rattle.feed_reader.specs.declared.regular.After.TheVariants as after
use Rattle.feed_reader.specs.declared.regular.Front.{Front}

-- a byte that no bare field of a regular line holds: a comma, a quote, or one that ends the record, a carriage return
-- or a line feed
abbrev pub stops_field : ℕ → Bool
stops_field b = (b == 44) || ((b == 34) || ends_with term.CRLF b)

-- the bytes begin with one that begins a record
abbrev pub begins_record : List ℕ → Bool
begins_record [] = false
begins_record (b ∷ bytes) = not (ends_with term.CRLF b)

-- from a field's start `csv` reads this field over the bytes up to a comma, and is at the start of a field before the
-- rest
abbrev pub ReadsToComma : List ℕ → List ℕ → List ℕ → Type 0
ReadsToComma bytes field rest = (length rest < length bytes)
    × ((fields : List (List ℕ)) → next_record default_config st.StartField fields [] bytes ≡ next_record default_config st.StartField (fields ++ field ∷ []) [] rest)

-- it reads this field over all of the bytes, which end the record
abbrev pub ReadsToLast : List ℕ → List ℕ → Type 0
ReadsToLast bytes field = (fields : List (List ℕ)) → next_record default_config st.StartField fields [] bytes ≡ Some (fields ++ field ∷ [], st.StartRecord, [])

-- it reads this field, and this comes after it
abbrev pub ReadsField : List ℕ → List ℕ → After → Type 0
ReadsField bytes field (after.Field rest) = ReadsToComma bytes field rest.now
ReadsField bytes field after.End = ReadsToLast bytes field

-- the field at the front of the bytes, and what comes after it
abbrev pub IsFront : List ℕ → Front → Type 0
IsFront bytes front = ReadsField bytes front.text.now front.after

-- A record took the field at the front of the bytes, and this comes after it
pub record TakesFront (bytes : List ℕ) (old new : Row) (next : After) : Type 0 where
  pub field : List ℕ
  pub reads : ReadsField bytes field next
  pub taken : fields_of new ≡ fields_of old ++ field ∷ []
  pub ended : partial_of new ≡ []
