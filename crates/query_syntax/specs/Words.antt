-- The words of a line and the pieces of a word: bytes cut at each mark that isn't in quotes.
--
-- Quotes open and close in turn. What lies between a quote and the next one is in quotes, and where the
-- last one isn't closed, all that comes after it.
use Rattle.std.specs.Prelude.{ℕ, Bool, true, false, not, ◌&&◌, ◌==◌, if◌then◌else◌, List, [], ◌∷◌, filter, Option, Some, None}
use Rattle.texts.specs.LineFeeds.{onto_first}

abbrev pub quote : ℕ
quote = 34

abbrev pub space : ℕ
space = 32

abbrev pub bar : ℕ
bar = 124

abbrev pub slash : ℕ
slash = 47

-- whether what follows the byte is in quotes
abbrev pub quoted_after : Bool → ℕ → Bool
quoted_after quoted b = if b == quote then not quoted else quoted

-- the byte is a mark that cuts
abbrev pub cuts : ℕ → Bool → ℕ → Bool
cuts mark quoted b = (b == mark) && not quoted

-- the pieces between the marks that aren't in quotes, where the first byte is in quotes or not
abbrev pub pieces_from : ℕ → Bool → List ℕ → List (List ℕ)
pieces_from mark quoted [] = [] ∷ []
pieces_from mark quoted (b ∷ bytes) = if cuts mark quoted b then [] ∷ pieces_from mark false bytes else onto_first b (pieces_from mark (quoted_after quoted b) bytes)

-- the pieces between the marks that aren't in quotes
unfoldable pub cut_pieces : ℕ → List ℕ → List (List ℕ)
cut_pieces mark bytes = pieces_from mark false bytes

-- the text has a byte
abbrev pub is_some_text : List ℕ → Bool
is_some_text [] = false
is_some_text (b ∷ bytes) = true

-- the words of a line: the pieces between spaces that aren't empty
unfoldable pub words : List ℕ → List (List ℕ)
words line = filter is_some_text (cut_pieces space line)

-- the pieces of what comes after a mark, where there is one
abbrev pub pieces_after : ℕ → Option (List ℕ) → List (List ℕ)
pieces_after mark None = []
pieces_after mark (Some bytes) = cut_pieces mark bytes
