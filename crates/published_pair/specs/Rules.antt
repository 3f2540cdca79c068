-- The rule of the book of a pair, and what its steps tell.
use Rattle.std.specs.Prelude.{ℕ, ◌≡◌, ◌==◌, true, List, [], ◌∷◌, ◌++◌, length, MatchBool}
use Rattle.logbook.specs.Pages.{Cell, Step, View, Book, Named}
use Rattle.cube_view.specs.Points.{Point}
use Rattle.published_pair.specs.declared.note.Note.{Note}
use Rattle.published_pair.specs.Notes.{EndsOnce}

-- What holds of a book and its history
pub record IsKept (cells : List Cell) (log : List Note) : Type 0 where
  -- the first word is the length of the history; the second of a book's two words stays 0
  pub words : cells ≡ (length log, true) ∷ (0, true) ∷ []
  -- nothing follows an end
  pub ends : EndsOnce log

-- the first word of a book
abbrev pub first_word_of : Book → Named
first_word_of b = record { tracked = true; key = 0; book = b }

-- the note was added to all that had been seen; or the history was longer, and was seen
abbrev pub AddsNote : Step Note → View Note ℕ → ℕ → View Note ℕ → Type 0
AddsNote s v found w = MatchBool (found == s.old) (w.0 ≡ v.0 ++ s.ask ∷ []) (length w.0 ≡ found)

-- A published list: which book's history it is of, and its points
pub record Known : Type 0 where
  pub book : Book
  pub points : List Point

-- the published list of that book and those points
abbrev pub known : Book → List Point → Known
known b h = record { book = b; points = h }
