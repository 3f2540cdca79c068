-- Numbers read off a line, byte by byte, and the entry that has them.
use Rattle.std.specs.Prelude.{◌≡◌, ℕ, zero, suc, ◌+◌, ◌-◌, ◌*◌, ◌^◌, nat_lt, ◌==◌, if◌then◌else◌, List, [], ◌∷◌, ◌++◌, length, take, drop, slice_index_or, Option, Some, None}
use Rattle.std.specs.Char.{is_ascii_digit}
use Rattle.std.specs.Fmt.{decimal}
use Rattle.cube_view.specs.declared.schema.Schema.{Schema}
use Rattle.cube_view.specs.declared.spot.Spot.{Spot}
use Rattle.world_core.specs.declared.entry.Entry.{Entry}

-- the number that a further digit makes of the one before it, if there is one: no zero is before a digit, and it has 32
-- bits
abbrev pub longer_number : Option ℕ → ℕ → Option ℕ
longer_number None digit = Some digit
longer_number (Some zero) digit = None
longer_number (Some (suc n)) digit = if nat_lt (10 * suc n + digit) (2 ^ 32) then Some (10 * suc n + digit) else None

-- the same for a byte, which is a digit or none
abbrev pub after_digit : Option ℕ → ℕ → Option ℕ
after_digit number byte = if is_ascii_digit byte then longer_number number (byte - 48) else None

-- how far a line was read: the numbers that a space ended, and the one that follows; or none, where it is no line of
-- numbers
abbrev pub ReadSoFar : Type 0
ReadSoFar = Option (List ℕ × Option ℕ)

-- a space ends the number before it
abbrev pub ended_by_space : List ℕ → Option ℕ → ReadSoFar
ended_by_space numbers None = None
ended_by_space numbers (Some n) = Some (numbers ++ n ∷ [], None)

-- a digit goes on the number before it
abbrev pub with_number : List ℕ → Option ℕ → ReadSoFar
with_number numbers None = None
with_number numbers (Some n) = Some (numbers, Some n)

-- how far the line was read after a byte more
abbrev pub after_byte : List ℕ → Option ℕ → ℕ → ReadSoFar
after_byte numbers number byte = if byte == 32 then ended_by_space numbers number else with_number numbers (after_digit number byte)

-- how far it was read after these bytes more
abbrev pub read_on : ReadSoFar → List ℕ → ReadSoFar
read_on so_far [] = so_far
read_on None (byte ∷ bytes) = None
read_on (Some (numbers, number)) (byte ∷ bytes) = read_on (after_byte numbers number byte) bytes

-- the numbers of a line that was read so far, if it ends with one
abbrev pub numbers_read : ReadSoFar → Option (List ℕ)
numbers_read None = None
numbers_read (Some (numbers, None)) = None
numbers_read (Some (numbers, Some n)) = Some (numbers ++ n ∷ [])

-- the numbers of a line, if it is one of numbers
abbrev pub line_numbers : List ℕ → Option (List ℕ)
line_numbers line = numbers_read (read_on (Some ([], None)) line)

-- the number in that place, or 0 past the last
abbrev pub listed_number : List ℕ → ℕ → ℕ
listed_number numbers i = slice_index_or numbers i 0

-- four numbers, of which those past the last are 0
abbrev pub four_of : List ℕ → List ℕ
four_of values = listed_number values 0 ∷ listed_number values 1 ∷ listed_number values 2 ∷ listed_number values 3 ∷ []

-- the weight among an entry's numbers, or 1 where the schema has no weight column
abbrev pub weight_or_one : Option (List ℕ) → ℕ → ℕ
weight_or_one None n = 1
weight_or_one (Some column) n = n

-- how many numbers the weight has
abbrev pub weight_count : Option (List ℕ) → ℕ
weight_count None = 0
weight_count (Some column) = 1

-- the entry that has these numbers
abbrev pub entry_of_numbers : Schema → List ℕ → Entry
entry_of_numbers schema numbers =
    let k = length schema.categories in
    let spot : Spot = record { x = listed_number numbers 2; y = listed_number numbers 3; values = four_of (take k (drop 4 numbers)); bin = listed_number numbers (4 + k) } in
    record { feeder = listed_number numbers 0; number = listed_number numbers 1; point = record { spot = spot; weight = weight_or_one schema.weight (listed_number numbers (5 + k)) } }

-- there are as many numbers as the schema asks for, and the entry has them
abbrev pub HasNumbersOf : Schema → List ℕ → Entry → Type 0
HasNumbersOf schema numbers e = (length numbers ≡ 5 + length schema.categories + weight_count schema.weight) × (e ≡ entry_of_numbers schema numbers)

-- a number after another, with a space before it
abbrev pub spaced_number : ℕ → List ℕ
spaced_number n = 32 ∷ decimal n
