-- The journal: a line for each entry.
use Rattle.std.specs.Prelude.{◌≡◌, ℕ, ◌^◌, ◌<◌, Bool, ◌&&◌, nat_le, List, [], ◌∷◌, ◌++◌, All, length, map, take, Option, Some, None, IsTrue}
use Rattle.std.specs.Fmt.{decimal}
use Rattle.std.specs.List.{flat_map, join_with_byte}
use Rattle.cube_view.specs.Points.{Point, spot_of, weight_of_point}
use Rattle.cube_view.specs.Validity.{valid}
use Rattle.cube_view.specs.declared.schema.Schema.{Schema}
use Rattle.world_core.specs.PairFact.{IsPrefix}
use Rattle.world_core.specs.declared.entry.Entry.{Entry}

-- numbers as decimals, with one space between two
abbrev pub number_text : List ℕ → List ℕ
number_text numbers = join_with_byte 32 (map decimal numbers)

-- the point's weight, where the schema has a weight column
abbrev pub told_weight : Option (List ℕ) → Point → List ℕ
told_weight None p = []
told_weight (Some column) p = weight_of_point p ∷ []

-- the numbers of an entry: feeder, number, x, y, the value of each category, the bin, and the weight where it is told
abbrev pub entry_numbers : Schema → Entry → List ℕ
entry_numbers schema e =
    let s = spot_of e.point in
    e.feeder ∷ e.number ∷ s.x ∷ s.y ∷ (take (length schema.categories) s.values ++ (s.bin ∷ told_weight schema.weight e.point))

-- the line of an entry, without its line feed
unfoldable pub entry_text : Schema → Entry → List ℕ
entry_text schema e = number_text (entry_numbers schema e)

-- the line of an entry in the journal
abbrev pub entry_line : Schema → Entry → List ℕ
entry_line schema e = entry_text schema e ++ (10 ∷ [])

-- the journal of the entries
abbrev pub journal_text : Schema → List Entry → List ℕ
journal_text schema entries = flat_map (entry_line schema) entries

-- the entry is one of the schema: of feeder 1 to 8, with a valid point
abbrev pub valid_entry : Schema → Entry → Bool
valid_entry schema e = nat_le 1 e.feeder && nat_le e.feeder 8 && valid schema e.point

-- What the types of an entry keep
pub record EntryFits (e : Entry) : Type 0 where
  -- its number has 32 bits
  pub number : e.number < 2 ^ 32
  -- its bin too
  pub bin : (spot_of e.point).bin < 2 ^ 32
  -- it has four values
  pub values : length (spot_of e.point).values ≡ 4
  -- and each of them is a byte
  pub bytes : All (λ v. v < 256) (spot_of e.point).values

-- the entry is one of the schema, and one of its type
abbrev pub IsEntryOf : Schema → Entry → Type 0
IsEntryOf schema e = EntryFits e × IsTrue (valid_entry schema e)

-- no entry's line is a prefix of another's
abbrev pub LinesArePrefixFree : Type 0
LinesArePrefixFree = (schema : Schema) (a b : Entry) → IsEntryOf schema a → IsEntryOf schema b → IsPrefix (entry_line schema a) (entry_line schema b) → a ≡ b

-- a text is the journal of one list at most
abbrev pub JournalsAreOfOne : Type 0
JournalsAreOfOne = (schema : Schema) (a b : List Entry) → All (IsEntryOf schema) a → All (IsEntryOf schema) b → journal_text schema a ≡ journal_text schema b → a ≡ b
