-- What a cutter over a feed goes through as its header and its rows are read.
use Rattle.std.specs.Prelude.{◌≡◌, ℕ, ◌≤◌, List, [], ◌∷◌, map, length, Option, Ok, Err, IsSomeAnd}
use Rattle.cube_view.specs.declared.schema.Schema.{Schema}
use Rattle.outer_io.specs.Cuts.{GivesLine}
use Rattle.outer_io.specs.Cutting.{Cutter, lines_left, rest_of}
use Rattle.outer_io.specs.Lines.{Line}
use Rattle.outer_io.specs.Progress.{IsGoing, Passes}
use Rattle.outer_io.specs.Told.{Told}
use Rattle.feed_reader.specs.Feeds.{accepted, feed_head, head_of_lines, points_in}
use Rattle.feed_reader.specs.Rows.{row_of_line}
use Rattle.feed_reader.specs.declared.header.HeadFault.{HeadFault}
use Rattle.feed_reader.specs.declared.row.Row.{Row}

-- the cutter gave nothing yet
abbrev pub IsAtStart : {S : Type 0} → Cutter S → Type 0
IsAtStart c = (c.taken ≡ 0) × (c.given ≡ 0)

module _ {S : Type 0} (left : S → Option (List ℕ)) (faults : S → ℕ) (schema : Schema) where
  -- the cutter gave a line, which is a header with these places, and goes on
  abbrev pub ReadsHeader : Cutter S → Cutter S → List ℕ → Type 0
  ReadsHeader before after places = (line : Line) × (number : ℕ) × GivesLine left faults before after line number × (head_of_lines schema (line ∷ []) ≡ Ok places)

  -- the cutter gave a line, of which these are the row, under a header with these places, and the number, and goes on
  abbrev pub ReadsRow : List ℕ → Cutter S → Cutter S → Row × ℕ → Type 0
  ReadsRow places before after found = (line : Line) × GivesLine left faults before after line found.1 × (found.0 ≡ row_of_line schema places line)

-- the cutter went on over one line at most, and goes on
abbrev pub PassesOneAtMost : {S : Type 0} → (S → Option (List ℕ)) → (S → ℕ) → Cutter S → Cutter S → Type 0
PassesOneAtMost left faults before after = IsGoing after × (lines : List Line) × Passes left faults before after lines × (length lines ≤ 1)

-- the next line of the cutter is no header, for this fault, where the source tells it
abbrev pub IsHeadRefused : {S : Type 0} → (S → Option (List ℕ)) → Schema → Cutter S → HeadFault → Type 0
IsHeadRefused left schema before fault = Told (lines_left left before) (λ all. head_of_lines schema all ≡ Err fault)

-- the header of a feed has these places, and its accepted records are the points among the rows of the lines that are
-- left
abbrev pub AcceptsRows : Schema → List ℕ → List ℕ → List Line → Type 0
AcceptsRows schema places feed rest = (feed_head schema feed ≡ Ok places) × (accepted schema feed ≡ points_in (map (row_of_line schema places) rest))

-- so it is of the feed that the first cutter has and the lines that the second has left, where the source tells them
abbrev pub LeavesAccepted : {S : Type 0} → (S → Option (List ℕ)) → Schema → List ℕ → Cutter S → Cutter S → Type 0
LeavesAccepted left schema places before after = Told (rest_of left before) (λ feed. IsSomeAnd (lines_left left after) (AcceptsRows schema places feed))
